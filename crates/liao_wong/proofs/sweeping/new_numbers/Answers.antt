use Rattle.std.proofs.{Common.{◌-◌, arith}, lemmas.List.get_or_read}
use Rattle.liao_wong.{specs.Sweeping.keeps_of, proofs.Sweeps.number_low}
use Rattle.liao_wong.proofs.sweeping.new_numbers.Goals as goal

pub overflow_add-before : goal.overflow_add-before
overflow_add-before c =
    let n = c.loop-n.n in
    let from = c.loop-n.auto.n in
    let lt = c.loop-n-test.true in
    let one_each = c.loop-n.invariant.one_each in
    let read = get_or_read c.loop-n.numbers.items (n - 1) c.index-before.result.now
    (omega (arith, from, lt, one_each)) c.index-before.ensures 0 in
    let is = c.loop-n.invariant.are (n - 1) (omega (arith, from)) (omega (arith, from, lt)) in
    omega (arith, read, is, number_low (keeps_of c.args.keeps.now) (n - 1), from, lt)
