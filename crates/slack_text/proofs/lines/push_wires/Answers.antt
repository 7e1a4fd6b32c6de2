use Rattle.std.proofs.Common.{List, length, ap, arith}
use Rattle.cell_model.specs.declared.cell.Wire.{Wire}
use Rattle.pitch_join.specs.Names.{cross_name}
use Rattle.slack_text.proofs.Adding.{piece_lines_added, pieces_counted, pieces_within}
use Rattle.slack_text.proofs.lines.push_wires.Goals as goal

pub push_crossing-requires-clause-in_least : goal.push_crossing-requires-clause-in_least
push_crossing-requires-clause-in_least c =
    let count = ap (λ (ws : List Wire). length ws) c.as_slice-k-end.ensures in
    let next = c.loop-k.invariant.next in
    let room = c.requires.in_least in
    let within = pieces_within (cross_name c.args.axis c.args.cell.now) c.loop-k.k (length c.args.cell.now.wires)
    (omega arith) in
    omega arith

pub push_crossing-requires-clause-in_most : goal.push_crossing-requires-clause-in_most
push_crossing-requires-clause-in_most c =
    let count = ap (λ (ws : List Wire). length ws) c.as_slice-k-end.ensures in
    let next = c.loop-k.invariant.next in
    let room = c.requires.in_most in
    let within = pieces_within (cross_name c.args.axis c.args.cell.now) c.loop-k.k (length c.args.cell.now.wires)
    (omega arith) in
    omega arith

pub loop-k-preserved : goal.loop-k-preserved
loop-k-preserved c =
    let f = cross_name c.args.axis c.args.cell.now in
    let was = c.loop-k.invariant in
    record {
      lines = piece_lines_added f c.loop-k.k c.args.first c.loop-k.v c.args.least.now c.args.most.now
          c.args.text.now.items c.loop-k.text.items c.push_crossing.new.text.items was.next was.lines
          c.in_ok-v.ensures.line;
      next = pieces_counted f c.loop-k.k c.args.first c.loop-k.v c.in_ok-v.v was.next c.in_ok-v.ensures.next;
    }
