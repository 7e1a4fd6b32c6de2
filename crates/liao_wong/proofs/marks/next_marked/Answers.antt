use Rattle.std.proofs.{Common.{ℕ, ◌≤◌, Bool, List, inl, inr, length, arith}, lemmas.Bool.cases_lt}
use Rattle.liao_wong.specs.Marked.{AreUnmarked, IsNextMark}
use Rattle.liao_wong.proofs.marks.next_marked.Goals as goal

-- the next mark from a place after which none is
further : (flags : List Bool) (start at end bound n : ℕ) → AreUnmarked flags start at → IsNextMark flags at end n
    → start ≤ at → end ≤ bound → IsNextMark flags start bound n
further flags start at end bound n none next le within =
    let a = next.from_start in
    let b = next.below_end in
    record {
      from_start = omega (arith, a);
      below_end = omega (arith, b);
      marked = next.marked;
      least = λ m low high. elim (cases_lt m at) [ inl lt ↦ none m low lt | inr ge ↦ next.least m ge high ];
    }

pub returns-in-Some-clause-next : goal.returns-in-Some-clause-next
returns-in-Some-clause-next c =
    further c.args.flags.now c.args.start c.loop-at.at _ (length c.args.flags.now) c.in-Some.n
    c.loop-at.invariant.so_far c.in-Some.ensures (omega arith) (omega arith)
