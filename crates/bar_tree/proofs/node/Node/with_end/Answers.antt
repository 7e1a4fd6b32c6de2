use Rattle.std.proofs.{Common.{arith, inl, inr}, lemmas.Int.{ints, clamps}}
use Rattle.bar_tree.proofs.node.Node.with_end.Goals as goal

pub returns-then-key-self-2-clause-others : goal.returns-then-key-self-2-clause-others
returns-then-key-self-2-clause-others c = λ b e. elim e [
  | inl r ↦ inl (omega (arith, ints))
  | inr k ↦ elim k [ inl f ↦ inr (inl (f.0, omega (arith, ints))) | inr s ↦ inr (inr (s.0, omega (arith, ints))) ]
]

pub returns-then-end-self-clause-ordered : goal.returns-then-end-self-clause-ordered
returns-then-end-self-clause-ordered c =
    record { first = omega (arith, ints, clamps); second = omega (arith, ints, clamps) }

pub returns-then-end-self-clause-others : goal.returns-then-end-self-clause-others
returns-then-end-self-clause-others c = λ b e. elim e [
  | inl r ↦ inl (omega (arith, ints))
  | inr k ↦ elim k [ inl f ↦ inr (inl (f.0, omega (arith, ints))) | inr s ↦ inr (inr (s.0, omega (arith, ints))) ]
]
