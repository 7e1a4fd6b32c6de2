use Rattle.std.proofs.Common.{ℕ, List, sym, subst, length, arith, ◌+◌}
use Rattle.design_nets.specs.{Firsts.AreFirsts, Joining.nets_in}
use Rattle.design_nets.proofs.{Lists.{together_longer, firsts_more}, NetNumbers.{next_number, count_read}}
use Rattle.design_nets.proofs.linking.first_nets.Goals as goal

pub overflow_add-next : goal.overflow_add-next
overflow_add-next c =
    let nets = c.args.nets.now in
    let instances = c.args.instances.now in
    let s = c.loop-instance.instance-index in
    let lt = c.loop-instance-test.true in
    let next = next_number nets instances c.args.first s c.loop-instance.next _ c.loop-instance.invariant.next
    (count_read nets instances s c.index-nets-instance.result c.requires.among lt) in
    let longer = together_longer (nets_in nets instances) (s + 1) (length instances) (omega (arith, lt)) in
    let few = c.requires.few in
    omega (arith, next, longer, few)

pub loop-instance-preserved : goal.loop-instance-preserved
loop-instance-preserved c =
    let nets = c.args.nets.now in
    let instances = c.args.instances.now in
    let s = c.loop-instance.instance-index in
    let lt = c.loop-instance-test.true in
    let next = next_number nets instances c.args.first s c.loop-instance.next _ c.loop-instance.invariant.next
    (count_read nets instances s c.index-nets-instance.result c.requires.among lt) in
    let P : List ℕ → Type 0 = λ firsts. AreFirsts (nets_in nets instances) (s + 1) c.args.first firsts in
    record {
      next = next;
      firsts = subst P (sym {A = List ℕ} c.in_ok-push-2.ensures.items)
          (firsts_more (nets_in nets instances) s c.args.first _ c.loop-instance.firsts.items
          c.loop-instance.invariant.firsts next);
    }
