-- What is asked of the room for a step. Assumes nothing.
use Rattle.std.proofs.Common.{◌≡◌, ℕ, ◌+◌, ◌-◌, ◌*◌, ◌/◌, ◌≤◌, min, None, div-mul-le_self, arith}
use Rattle.std.proofs.lemmas.Nat.{mul-le}
use Rattle.std.proofs.lemmas.Bool.{leb-true}
use Rattle.bundle.specs.declared.refusal.Fault.TheVariants as fault
use Rattle.bundle.proofs.WholeFacts.{answered}
use Rattle.explore.specs.declared.plan.Plan.{Plan}
use Rattle.explore.specs.declared.exploration.Exploration.{Exploration}
use Rattle.explore.specs.Memory.{point_room, open_room, entry_room}
use Rattle.explore.specs.Steps.{entries_after}
use Rattle.explore.specs.Moves.{asked}

within_room : (a most long n : ℕ) → a ≤ min most (long / n) → (a ≤ most) × (a * n ≤ long)
within_room a most long n h =
    let few : a ≤ most = omega arith in
    let fits : a ≤ long / n = omega arith in
    (few, omega (arith, mul-le a n (long / n) n fits (omega arith), div-mul-le_self long n))

pub record Room (x : Exploration) (plan : Plan) (count : ℕ) : Type 0 where
  pub few_entries : entries_after plan x.entry_count ≤ 256
  pub entries_inside : entries_after plan x.entry_count * x.places ≤ x.kept_length
  pub few_points : x.point_count + count ≤ 65535
  pub points_inside : x.point_count + count ≤ x.point_length
  pub few_open : x.open_count - 1 + count ≤ 64
  pub open_inside : (x.open_count - 1 + count) * x.places ≤ x.open_length

pub room_of : (x : Exploration) (plan : Plan) (p count : ℕ) → asked x plan p count ≡ None → Room x plan count
room_of x plan p count none =
    let e = answered _ fault.NoEntry p _ none in
    let h = answered _ fault.NoPoint p _ e.1 in
    let o = answered _ fault.NoSlot p _ h.1 in
    let entries = within_room (entries_after plan x.entry_count) 256 x.kept_length x.places (leb-true (entries_after plan x.entry_count) (entry_room x) e.0) in
    let points = leb-true (x.point_count + count) (point_room x) h.0 in
    let slots = within_room (x.open_count - 1 + count) 64 x.open_length x.places (leb-true (x.open_count - 1 + count) (open_room x) o.0) in
    record {
      few_entries = entries.0;
      entries_inside = entries.1;
      few_points = omega arith;
      points_inside = omega arith;
      few_open = slots.0;
      open_inside = slots.1;
    }
