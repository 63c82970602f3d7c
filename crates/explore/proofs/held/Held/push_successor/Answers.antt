use Rattle.std.proofs.Common.{◌+◌, ◌-◌, ◌*◌, sym, refl, ◌∙◌, arith, rules}
use Rattle.design.specs.Views.{core}
use Rattle.explore.proofs.Views.{times_more}
use Rattle.explore.proofs.Successive.{pushed_one}
use Rattle.explore.proofs.held.Held.push_successor.Goals as goal

pub returns : goal.returns
returns c =
    let h = c.args.self.now in
    let x = h.exploration.now in
    let d = core h.design.now in
    let current = c.args.edge.now.current.now in
    let a = x.open_count * x.places in
    let made = c.in-Ok.ensures in
    let among = made.among c.requires.edge.edged (omega (arith, c.requires.edge.counted, c.requires.among)) in
    record {
      adds = c.add_open.ensures.adds;
      pushed =
          pushed_one d current c.args.from c.args.choice c.in-Ok.key c.in-Ok.charge x.places c.successor.new.slot
          h.points.now h.opened.now x.numbers c.add_open.new.self.numbers x.point_count x.open_count a (a + x.places - a)
          c.add_open.ensures.number among.0 among.1 made.cases.3 (omega (arith, h.points_fit, c.requires.room.points_inside)) c.add_open.ensures.slot refl (omega arith)
          (c.successor.auto.slot ∙ (made.cases.0.slot_whole ∙ sym h.places_fit)) (omega (arith, times_more x.open_count x.places, c.requires.room.open_inside, h.opened_fit));
      kept = search rules;
      same = search rules;
    }
