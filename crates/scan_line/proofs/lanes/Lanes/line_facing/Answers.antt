use Rattle.std.proofs.{Common.arith, lemmas.Int.ints}
use Rattle.pair_rules.specs.Bound.{no_item}
use Rattle.scan_line.proofs.Reach.{near_and_before, faces_in_group}
use Rattle.scan_line.proofs.lanes.Lanes.line_facing.Goals as goal

pub returns : goal.returns
returns c =
    let told = c.line_to.ensures in
    record {
      in_range = told.in_range;
      in_order = told.in_order;
      all = λ i i_lt faces.
          let w = near_and_before c.args.axis c.args.tech.now c.args.coords.now c.args.items.now i c.args.j
          (c.requires.boxes i no_item i_lt) faces in
          let near = w.0 in
          let widest = c.widest.ensures in
          told.all i i_lt
          (faces_in_group c.args.axis c.args.tech.now c.args.coords.now c.args.items.now i c.args.j faces) w.1
          (omega (arith, ints, near, widest.value, widest.bounds));
    }
