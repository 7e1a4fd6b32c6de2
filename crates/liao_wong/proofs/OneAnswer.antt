-- What rounds answer over a graph and an order is one.
use Rattle.std.proofs.{Common.{◌≡◌, ℕ, ◌<◌, ℤ, pos, ◌≤ℤ◌, List, sym, ◌∙◌, arith}, lemmas.{Int.ints, List.ext_get_or}}
use Rattle.cons_graph.specs.{Constraints.{Constraints, IsConstraintGraph}, Solutions.{IsLeastSolution, value_of}}
use Rattle.round_log.specs.{Logs.raises_in, Orders.NamesEachOnce}
use Rattle.round_log.proofs.{Alike.same_walk, OfRounds.{whole_log, logs_alike}}
use Rattle.liao_wong.{specs.Answers.{HasOneAnswer, WholeLogTells}, proofs.OneOrder.has_one_cycle}

one_value : (g : Constraints) (x y : ℕ → ℤ) (v : ℕ) → v < g.vars → IsLeastSolution g.vars g.edges x
    → IsLeastSolution g.vars g.edges y → x v ≡ y v
one_value g x y v lt a b =
    let low : x v ≤ℤ y v = a.below y b.solves v lt in
    let high : y v ≤ℤ x v = b.below x a.solves v lt in
    omega (arith, ints)

pub has_one_answer : (g : Constraints) (order : List ℕ) → HasOneAnswer g order
has_one_answer g order = record {
  ends = λ x x' rounds rounds' log log' a b. (
      let logs = logs_alike g order rounds rounds' log log' a.of_rounds b.of_rounds in
      record {
        values = ext_get_or (pos 0) x x' (a.one_each ∙ sym b.one_each)
            (λ v lt. one_value g (value_of x) (value_of x') v (let n = a.one_each in omega (arith, n, lt)) a.least
            b.least);
        same_rounds = logs.same_rounds;
        told = logs.alike;
        walks = λ v. same_walk (raises_in log) (raises_in log') v logs.alike;
      });
  stops = has_one_cycle g.edges order;
}

pub whole_log_tells : (g : Constraints) (order : List ℕ) → IsConstraintGraph g → NamesEachOnce g.vars order
    → WholeLogTells g order
whole_log_tells g order s o rounds log h e = whole_log g order rounds log s o h e
