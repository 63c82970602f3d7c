-- One state follows another in bits. Assumes nothing.
use Rattle.std.proofs.Common.{◌≡◌, ℕ, ◌+◌, ◌-◌, ◌*◌, ◌/◌, ◌%◌, ◌<◌, ◌≤◌, true, false, List, map, length, sym, refl, ap, ◌∙◌, ap₂, ⊎_elim, arith, length-append}
use Rattle.std.specs.List.{range_with_len}
use Rattle.std.proofs.lemmas.List.FromFn.{get_or-map-range_with_len, length-map-range_with_len}
use Rattle.std.proofs.lemmas.List.{get_or_append_left, get_or-append_right, get_or_past}
use Rattle.std.proofs.lemmas.Bool.{cases_lt}
use Rattle.levels.specs.Bits.{bit_kind}
use Rattle.levels.specs.declared.Bit.{Bit}
use Rattle.levels.specs.declared.Bit.TheVariants.{Zero}
use Rattle.model.specs.declared.net.Net.{Net}
use Rattle.model.specs.Core.{Core, no_net, driver_at, places, is_gate, nets_sound, memories_sound}
use Rattle.model.specs.Cycle.{edged, stored, edge, cycled}
use Rattle.model.specs.Settle.{Settles}
use Rattle.model.specs.Tag.{bit, ram_place, tag_edged, tag_stored, Follows, OneStateFollows}
use Rattle.model.proofs.Settle.{gates_settle}
use Rattle.model.proofs.Tag.{gate_is, edged_is, stored_is}

module _ (d : Core) (ok : memories_sound d ≡ true) (s : List Bit) (given : ℕ → Bit) where
  abbrev of_nets : List Bit
  of_nets = map (λ i. edged bit_kind d s given i (driver_at d i)) (range_with_len 0 (length d.nets))

  abbrev of_ram : List Bit
  of_ram = map (λ q. stored bit_kind d s (q / 16) (q % 16)) (range_with_len 0 (16 * length d.ram))

  nets_length : length of_nets ≡ length d.nets
  nets_length = length-map-range_with_len (λ i. edged bit_kind d s given i (driver_at d i)) 0 (length d.nets)

  ram_length : length of_ram ≡ 16 * length d.ram
  ram_length = length-map-range_with_len (λ q. stored bit_kind d s (q / 16) (q % 16)) 0 (16 * length d.ram)

  edge_length : length (edge bit_kind d s given) ≡ places d
  edge_length = omega (arith, length-append of_nets of_ram, nets_length, ram_length)

  edge_net : (i : ℕ) → i < length d.nets → bit (edge bit_kind d s given) i ≡ tag_edged d s given i (driver_at d i)
  edge_net i low =
      get_or_append_left of_nets of_ram Zero i (omega (arith, nets_length))
      ∙ get_or-map-range_with_len (λ i. edged bit_kind d s given i (driver_at d i)) 0 (length d.nets) i i Zero low (omega arith)
      ∙ edged_is d ok s given i (driver_at d i)

  edge_ram : (i word b : ℕ) → i ≡ ram_place d word b → word < length d.ram → b < 16 → bit (edge bit_kind d s given) i ≡ tag_stored d s word b
  edge_ram i word b at low small =
      let q : ℕ = i - length d.nets in
      let is : q ≡ 16 * word + b = omega arith in
      let w : q / 16 ≡ word = omega arith in
      let r : q % 16 ≡ b = omega arith in
      get_or-append_right of_nets of_ram (length d.nets) i Zero nets_length (omega arith)
      ∙ get_or-map-range_with_len (λ q. stored bit_kind d s (q / 16) (q % 16)) 0 (16 * length d.ram) q q Zero (omega arith) (omega arith)
      ∙ ap₂ (stored bit_kind d s) w r
      ∙ stored_is d ok s word b low

  module _ (sound : nets_sound d ≡ true) where
    settles : Settles bit_kind d (edge bit_kind d s given)
    settles = gates_settle bit_kind d sound (edge bit_kind d s given) (omega (arith, edge_length))

    cycle_follows : Follows d s given (cycled bit_kind d s given)
    cycle_follows = record {
      as_long = settles.agrees.as_long ∙ edge_length;
      gates = λ i g is. settles.agrees.gates i g is ∙ gate_is (cycled bit_kind d s given) g;
      others = λ i low plain. settles.agrees.others i plain ∙ edge_net i low;
      words = λ word b low small.
          settles.agrees.others (ram_place d word b) (past_plain (ram_place d word b) (omega arith)) ∙ edge_ram (ram_place d word b) word b refl low small;
    }
      where
        past_plain : (i : ℕ) → length d.nets ≤ i → is_gate (driver_at d i) ≡ false
        past_plain i past = ap (λ (n : Net). is_gate n.driver) (get_or_past d.nets i no_net past)

    only_cycle : (t : List Bit) → Follows d s given t → t ≡ cycled bit_kind d s given
    only_cycle t h = settles.alone t record {
      as_long = h.as_long ∙ sym edge_length;
      gates = λ i g is. h.gates i g is ∙ sym (gate_is t g);
      others = λ i plain.
          ⊎_elim (λ low. h.others i low plain ∙ sym (edge_net i low))
          (λ past. ⊎_elim (in_ram i past)
          (λ beyond. get_or_past t i Zero (omega (arith, h.as_long)) ∙ sym (get_or_past (edge bit_kind d s given) i Zero (omega (arith, edge_length))))
          (cases_lt i (places d)))
          (cases_lt i (length d.nets));
    }
      where
        in_ram : (i : ℕ) → length d.nets ≤ i → i < places d → bit t i ≡ bit (edge bit_kind d s given) i
        in_ram i past low =
            let word : ℕ = (i - length d.nets) / 16 in
            let b : ℕ = (i - length d.nets) % 16 in
            let is : i ≡ ram_place d word b = omega arith in
            ap (bit t) is ∙ h.words word b (omega arith) (omega arith) ∙ sym (edge_ram i word b is (omega arith) (omega arith))

pub one_state_follows : OneStateFollows
one_state_follows d sound ok s given = (cycle_follows d ok s given sound, only_cycle d ok s given sound)
