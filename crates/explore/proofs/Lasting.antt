-- The last open point, and what its plan makes of it. Assumes nothing.
use Rattle.std.proofs.Common.{◌≡◌, ℕ, ◌-◌, ◌<◌, List, ◌∷◌, get_or, Ok, Result, sym, refl, ap, ◌∙◌, subst}
use Rattle.std.proofs.lemmas.List.{get_or-take}
use Rattle.bundle.specs.declared.refusal.Refusal.{Refusal}
use Rattle.levels.specs.declared.Tri.{Tri}
use Rattle.model.specs.Core.{Core}
use Rattle.record.specs.declared.point.Fate.TheVariants as fate
use Rattle.record.specs.declared.point.Point.{Point}
use Rattle.record.specs.Record.{Record, nowhere, marked_as, Meaning, walk}
use Rattle.explore.specs.declared.plan.Plan.{Plan}
use Rattle.explore.specs.declared.plan.Plan.TheVariants as plan
use Rattle.explore.specs.declared.exploration.Exploration.{Exploration}
use Rattle.explore.specs.Memory.{Memory, view, stretch}
use Rattle.explore.specs.Plans.{Planned, treatment_of, planned_entries}
use Rattle.explore.specs.Moves.{Popped, others, Steps, TakesLast}
use Rattle.explore.proofs.Views.{waiting_last}
use Rattle.explore.proofs.Moving.{closed_view, closed_holds}

module _ (d : Core) (m : Meaning Tri) (before after : Memory) (p key : ℕ) (s s' : List Tri) (q : Plan) (some : 0 < before.exploration.open_count) where
  -- its number and state are those of the last slot
  pub last_takes : (answer : Result Unit Refusal) → p ≡ get_or before.exploration.numbers (before.exploration.open_count - 1) 0 →
      p < before.exploration.point_count → key ≡ (get_or before.lent.points p nowhere).key →
      s ≡ stretch before.exploration.places before.lent.opened (before.exploration.open_count - 1) →
      Planned d m before.exploration before.lent.kept key s q s' →
      Steps d p (treatment_of d q key p s' (view before).entries) before after answer → TakesLast d m before after answer
  last_takes answer number used known state planned steps =
      let x : Exploration = before.exploration in
      let last = waiting_last x.places x.numbers before.lent.opened x.open_count some in
      record {
        point = p;
        state = s;
        treatment = treatment_of d q key p s' (view before).entries;
        is_last = last
            ∙ (ap (λ (n : ℕ). record { number = n; state = stretch x.places before.lent.opened (x.open_count - 1) } ∷ others before) (sym number)
            ∙ ap (λ (t : List Tri). record { number = p; state = t } ∷ others before) (sym state));
        treats = planned.treats (view before) p refl
            (ap (λ (y : Point). y.key) (get_or-take x.point_count before.lent.points p nowhere used) ∙ sym known);
        steps = steps;
      }

  -- ---- by the plan

  pub halted_steps : (u : Unit {0}) → q ≡ plan.Halt → p < before.exploration.point_count → after.lent.points ≡ marked_as fate.Halted p before.lent.points →
      after.lent.opened ≡ before.lent.opened → after.lent.kept ≡ before.lent.kept → Popped before.exploration after.exploration →
      Steps d p (treatment_of d q key p s' (view before).entries) before after (Ok u)
  halted_steps u is used points opened kept popped =
      subst (λ (r : Plan). Steps d p (treatment_of d r key p s' (view before).entries) before after (Ok u)) (sym is)
      (refl, closed_view before after p fate.Halted used points opened kept popped, closed_holds before after p fate.Halted used points opened kept popped)

  pub cut_steps : (u : Unit {0}) (t : ℕ) → q ≡ plan.Cut t → p < before.exploration.point_count → after.lent.points ≡ marked_as (fate.Cut t) p before.lent.points →
      after.lent.opened ≡ before.lent.opened → after.lent.kept ≡ before.lent.kept → Popped before.exploration after.exploration →
      Steps d p (treatment_of d q key p s' (view before).entries) before after (Ok u)
  cut_steps u t is used points opened kept popped =
      subst (λ (r : Plan). Steps d p (treatment_of d r key p s' (view before).entries) before after (Ok u)) (sym is)
      (refl, closed_view before after p (fate.Cut t) used points opened kept popped, closed_holds before after p (fate.Cut t) used points opened kept popped)

-- any other plan walks
pub walks_on : (d : Core) (q : Plan) (key p : ℕ) (s : List Tri) (r : Record Tri) → (q ≡ plan.Halt → ⊥) → ((t : ℕ) → q ≡ plan.Cut t → ⊥) →
    walk s (planned_entries d q key p s r.entries) ≡ treatment_of d q key p s r.entries
walks_on d plan.Halt key p s r not_halt not_cut = absurd (not_halt refl)
walks_on d (plan.Cut t) key p s r not_halt not_cut = absurd (not_cut t refl)
walks_on d plan.Pass key p s r not_halt not_cut = refl
walks_on d plan.Add key p s r not_halt not_cut = refl
walks_on d (plan.Replace i count) key p s r not_halt not_cut = refl
