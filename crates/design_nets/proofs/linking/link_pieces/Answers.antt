use Rattle.std.proofs.{Common.{get_or, arith}, lemmas.Option.slice_get-get_or}
use Rattle.design_nets.specs.declared.owners.OwnNet.{OwnNet}
use Rattle.design_nets.proofs.{Linked.{piece_linked, pieces_linked}, NetNumbers.number_small}
use Rattle.design_nets.proofs.linking.link_pieces.Goals as goal

pub overflow_add-firsts : goal.overflow_add-firsts
overflow_add-firsts c =
    let none : OwnNet = record { instance = 0; net = 0 } in
    let small = number_small c.args.nets.now c.args.instances.now c.args.firsts.now
    (get_or c.args.owners.now c.loop-i.i none) c.requires.firsts
    (c.requires.owners c.loop-i.i none c.loop-i-test.true) in
    omega (arith, small)

pub loop-i-preserved : goal.loop-i-preserved
loop-i-preserved c =
    piece_linked c.args.firsts.now c.args.owners.now c.loop-i.i _ c.args.links.now.items c.loop-i.links.items
    c.push.new.self.items (slice_get-get_or c.args.owners.now c.loop-i.i _ c.loop-i-test.true) c.loop-i.invariant
    c.in_ok-push.ensures.items

pub returns : goal.returns
returns c = pieces_linked c.args.firsts.now c.args.owners.now c.loop-i.i c.args.links.now.items c.loop-i.links.items
    (omega arith) c.loop-i.invariant
