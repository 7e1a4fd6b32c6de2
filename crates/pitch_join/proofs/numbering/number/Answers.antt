use Rattle.std.proofs.Common.{arith}
use Rattle.pitch_join.proofs.Bases.{base_next, base_within, system_small, bases_push, own_read}
use Rattle.pitch_join.proofs.numbering.number.Goals as goal

pub overflow_add-next : goal.overflow_add-next
overflow_add-next c =
    let masters = c.args.masters.now in
    let own = own_read c.args.axis masters c.loop-master.master-index _ _ c.master-item.is c.loop-master-test.true
    c.own_variables-next.ensures in
    let next = c.loop-master.invariant.0 in
    let within = base_within c.args.axis masters c.loop-master.master-index c.loop-master-test.true in
    let small = system_small c.args.axis c.args.tech.now masters c.requires.each c.requires.few_masters in
    omega arith

pub loop-master-preserved : goal.loop-master-preserved
loop-master-preserved c =
    let own = own_read c.args.axis c.args.masters.now c.loop-master.master-index _ _ c.master-item.is
    c.loop-master-test.true c.own_variables-next.ensures in
    let next = c.loop-master.invariant.0 in
    let after = base_next c.args.axis c.args.masters.now c.loop-master.master-index c.loop-master-test.true in (
      omega arith,
      bases_push c.args.axis c.args.masters.now c.loop-master.master-index c.loop-master.next _ _
          c.loop-master.invariant.1 next c.in_ok-push.ensures.items,
    )
