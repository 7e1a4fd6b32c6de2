use Rattle.std.proofs.{Common.arith, lemmas.Int.{ints, clamps}}
use Rattle.extents.proofs.extent.longer.Goals as goal

pub returns-clause-value : goal.returns-clause-value
returns-clause-value c =
    let r = c.requires in
    let m = c.min.ensures.value in
    let n = c.min-2.ensures.value in
    omega (arith, ints, clamps, r.length, r.short, r.more, r.most, m, n)

pub returns-clause-positive : goal.returns-clause-positive
returns-clause-positive c =
    let r = c.requires in
    let m = c.min.ensures.value in
    let n = c.min-2.ensures.value in
    omega (arith, ints, clamps, r.length, r.short, r.more, r.most, m, n)

pub returns-clause-short : goal.returns-clause-short
returns-clause-short c =
    let r = c.requires in
    let m = c.min.ensures.value in
    let n = c.min-2.ensures.value in
    omega (arith, ints, clamps, r.length, r.short, r.more, r.most, m, n)
