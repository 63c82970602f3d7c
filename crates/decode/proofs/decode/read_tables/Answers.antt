use Rattle.std.proofs.Common.{◌≡◌, ℕ, List, refl, ap, ◌∙◌, ap₂}
use Rattle.std.proofs.lemmas.Result.{IfOk-weaker}
use Rattle.bundle.specs.declared.refusal.Fault.TheVariants as fault
use Rattle.model.specs.declared.net.Net.{Net}
use Rattle.model.specs.Core.{is_flop, tally}
use Rattle.decode.specs.Decode.{Parts, starts_of, all_nets, pilots_of}
use Rattle.decode.specs.Holds.{parts_in}
use Rattle.decode.proofs.PilotFacts.{pilots_named}
use Rattle.decode.specs.Words.{word_count}
use Rattle.decode.specs.Pilots.{pilot_read}
use Rattle.decode.proofs.Refusing.{counted_yes}
use Rattle.decode.proofs.Whole.{wires_asked, past_stand, starts_decide}
use Rattle.decode.proofs.decode.read_tables.Goals as goal

pub read_starts-requires-clause-named : goal.read_starts-requires-clause-named
read_starts-requires-clause-named c =
    let ns : List Net = c.as_slice-nets.result.now in
    let bs : List ℕ = c.args.bodies.pilots.now in
    let read = counted_yes 2 17 (pilot_read ns bs) fault.Pilots (word_count bs) c.in_ok-read_pilots.ensures.refusal in
    pilots_named ns bs fault.Pilots read.2 c.as_slice.result.now (c.as_slice.ensures.items ∙ c.in_ok-read_pilots.ensures.items)

pub returns : goal.returns
returns c =
    let p : Parts = parts_in c.args.header c.args.bodies in
    let b = c.in_ok-bits.bits in
    let bits = wires_asked p b.rom b.ram c.in_ok-bits.ensures.bits.0 c.in_ok-bits.ensures.bits.1 in
    let ns : List Net = c.as_slice-nets.result.now in
    let nets : ns ≡ all_nets p = c.as_slice-nets.ensures.items ∙ c.in_ok-read_nets.ensures.items in
    let pilots : c.as_slice.result.now ≡ pilots_of ns p.pilots = c.as_slice.ensures.items ∙ c.in_ok-read_pilots.ensures.items in
    record {
      refusal =
          c.read_starts.ensures.refusal
          ∙ starts_decide p ns c.as_slice.result.now nets pilots c.in_ok-ask_figures.ensures c.in_ok-read_nets.ensures.refusal c.in_ok-bits.ensures.refusal (c.in_ok-read_wires.ensures.refusal ∙ bits) c.in_ok-read_pilots.ensures.refusal;
      tables = IfOk-weaker c.read_starts.result _ _
          (λ u starts. record {
            clock = refl;
            window = refl;
            rom_energy = refl;
            ram_energy = refl;
            write_energy = refl;
            nets = c.in_ok-read_nets.ensures.items;
            rom = c.in_ok-bits.ensures.items.0;
            ram = c.in_ok-bits.ensures.items.1;
            rom_wires = c.in_ok-bits.ensures.bits.0;
            ram_wires = c.in_ok-bits.ensures.bits.1;
            wires = c.in_ok-read_wires.ensures.items;
            pilots = c.in_ok-read_pilots.ensures.items ∙ ap (λ (ns : List Net). pilots_of ns p.pilots) nets;
            flop_number = c.count_flops-tables.ensures ∙ ap (tally is_flop) nets;
            starts =
                starts
                ∙ ap₂ (λ (ns : List Net) (ps : List ℕ). starts_of ns ps p.starts) nets (past_stand p ns c.as_slice.result.now nets pilots);
          })
          c.read_starts.ensures.items;
    }
