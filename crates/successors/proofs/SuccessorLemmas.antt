-- How many successors a state has, and which is that of a choice. Assumes nothing.
use Rattle.std.proofs.Common.{◌≡◌, ℕ, ◌*◌, ◌%◌, ◌^◌, ◌<◌, ◌≤◌, true, List, length, get_or, sym, ap, ◌∙◌, ap₂, arith, pow_mono}
use Rattle.std.proofs.lemmas.Nat.{one_shl}
use Rattle.levels.specs.Kinds.{Kind}
use Rattle.model.specs.Core.{Core, sound, places}
use Rattle.model.specs.Cycle.{edge, settled}
use Rattle.model.proofs.Sound.{sound_parts}
use Rattle.engine.proofs.Keying.{pilot_wired}
use Rattle.record.specs.Record.{keyed, unknowns, choice_key, unknown_inputs, successor_keys, after_key}
use Rattle.record.proofs.Keys.{length_keys, getD_keys}
use Rattle.successors.specs.Lent.{Within}

-- the pilots of a sound core are few, and places of its states
pub pilots_few : (d : Core) → sound d ≡ true → (ps : List ℕ) → ps ≡ d.pilots → length ps ≤ 16
pilots_few d e ps same = omega (arith, (sound_parts d e).few_pilots, ap length same)

pub pilots_within : {V : Type 0} (d : Core) → sound d ≡ true → (ps : List ℕ) → ps ≡ d.pilots → (s : List V) → length s ≡ places d → Within ps s
pilots_within d e ps same s full i h = omega (arith, (pilot_wired d e ps same i h).0)

module _ {V : Type 0} (k : Kind V) where
  -- how many there are, from the pilots that may be either bit after the edge
  pub successor_count : (d : Core) (ps : List ℕ) (s next : List V) (n : ℕ) → ps ≡ d.pilots → next ≡ edge k d s (unknown_inputs k d) →
      n ≡ unknowns k ps next → n ≤ 16 → ((1 * 2 ^ n) % 4294967296 ≡ length (successor_keys k d s)) × ((1 * 2 ^ n) % 4294967296 ≤ 65536)
  successor_count d ps s next n same after count few =
      let whole : (1 * 2 ^ n) % 4294967296 ≡ 2 ^ n = one_shl n 32 (omega arith) in
      let all : 2 ^ n ≤ 65536 = pow_mono {j = 16} few in (
        whole ∙ (ap (λ (m : ℕ). 2 ^ m) (count ∙ ap₂ (unknowns k) same after) ∙ sym (length_keys k d.pilots (edge k d s (unknown_inputs k d)))),
        omega arith,
      )

  -- a slot that the pilots are set in and that settles, whose pilots are those of the core
  pub slot_settled : (d : Core) (ps : List ℕ) (key : ℕ) (next copied keyed_slot slot : List V) → ps ≡ d.pilots → copied ≡ next →
      keyed_slot ≡ keyed k ps key copied → slot ≡ settled k d keyed_slot → slot ≡ settled k d (keyed k d.pilots key next)
  slot_settled d ps key next copied keyed_slot slot same copy set settles =
      settles ∙ ap (settled k d) (set ∙ ap₂ (λ (qs : List ℕ) (t : List V). keyed k qs key t) same copy)

  -- the successor of a choice is one of them
  pub successor_among : (d : Core) (s next slot : List V) (choice key : ℕ) → key ≡ choice_key k d.pilots next choice →
      slot ≡ settled k d (keyed k d.pilots key next) → next ≡ edge k d s (unknown_inputs k d) → choice < length (successor_keys k d s) →
      (key ≡ get_or (successor_keys k d s) choice 0) × (slot ≡ after_key k d s key)
  successor_among d s next slot choice key chosen settles after below =
      let e : List V = edge k d s (unknown_inputs k d) in (
        chosen ∙ (ap (λ (t : List V). choice_key k d.pilots t choice) after
            ∙ sym (getD_keys k d.pilots e choice 0 (omega (arith, length_keys k d.pilots e)))),
        settles ∙ ap (λ (t : List V). settled k d (keyed k d.pilots key t)) after,
      )
