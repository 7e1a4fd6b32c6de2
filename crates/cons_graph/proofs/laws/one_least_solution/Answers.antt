use Rattle.std.proofs.{Common.{◌≤ℤ◌, arith}, lemmas.Int.ints}
use Rattle.cons_graph.proofs.laws.one_least_solution.Goals as goal

pub returns : goal.returns
returns c = λ x y a b v lt.
    let low : x v ≤ℤ y v = a.below y b.solves v lt in
    let high : y v ≤ℤ x v = b.below x a.solves v lt in
    omega (arith, ints)
