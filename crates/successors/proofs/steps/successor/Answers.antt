use Rattle.std.proofs.Common.{◌≡◌, ℕ, List, ap, ◌∙◌}
use Rattle.design.specs.Views.{core}
use Rattle.record.specs.Record.{choice_key}
use Rattle.engine.proofs.Asked.{asked_same}
use Rattle.successors.proofs.SuccessorLemmas.{pilots_few, pilots_within, slot_settled, successor_among}
use Rattle.successors.proofs.steps.successor.Goals as goal

pub choice_key-key-requires : goal.choice_key-key-requires
choice_key-key-requires g c =
    let d = core c.args.design.now in
    let sound = c.args.design.now.sound in
    record {
      within = pilots_within d sound _ c.pilots-pilots.ensures c.args.next.now (asked_same _ _ _ c.in_ok-ask-2.ensures ∙ c.places-places.ensures);
      few = pilots_few d sound _ c.pilots-pilots.ensures;
    }

pub set_pilots-requires : goal.set_pilots-requires
set_pilots-requires g c =
    pilots_within (core c.args.design.now) c.args.design.now.sound _ c.pilots-pilots.ensures c.copy_from_slice.new.self
    (c.copy_from_slice.ensures.len ∙ asked_same _ _ _ c.in_ok-ask-3.ensures ∙ c.places-places.ensures)

pub returns : goal.returns
returns g c =
    let k = g.V.Level.kind in
    let d = core c.args.design.now in
    let next = c.args.next.now in
    let key = c.choice_key-key.result in
    let chosen : key ≡ choice_key k d.pilots next c.args.choice =
    c.choice_key-key.ensures ∙ ap (λ (ps : List ℕ). choice_key k ps next c.args.choice) c.pilots-pilots.ensures in
    let settles = slot_settled k d c.pilots-pilots.result.now key next c.copy_from_slice.new.self c.set_pilots.new.state
    c.settle.new.state c.pilots-pilots.ensures c.copy_from_slice.ensures.after c.set_pilots.ensures
    c.in_ok-settle.ensures.1 in
    record {
      cases = (
        record {
          state_whole = asked_same _ _ _ c.in_ok-ask.ensures ∙ c.places-places.ensures;
          next_whole = asked_same _ _ _ c.in_ok-ask-2.ensures ∙ c.places-places.ensures;
          slot_whole = asked_same _ _ _ c.in_ok-ask-3.ensures ∙ c.places-places.ensures;
        },
        chosen,
        settles,
        c.in_ok-energy.ensures.2,
      );
      among = successor_among k d c.args.state.now next c.settle.new.state c.args.choice key chosen settles;
    }
