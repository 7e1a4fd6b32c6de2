use Rattle.std.proofs.{Common.{◌≡◌, ℤ, List, sym, ap, ◌∙◌, w64, arith}, lemmas.Int.{ints, to_z-of_z}}
use Rattle.std.specs.Prelude.{int_lt}
use Rattle.lam_geom.specs.{Gaps.{gap_between, gap_of}, declared.boxes.{Axis.Axis, Span.Span}}
use Rattle.sym_items.specs.{declared.items.End.End, Sides.gap_on_y, Values.value_at}
use Rattle.pair_rules.{specs.Candidates.sides_at, proofs.candidates.is_near_across.Goals.{in-X, in-Y}}
use Rattle.pair_rules.proofs.candidates.is_near_across.Goals as goal

-- the gap of two spans with their ends in a list, which was read twice
gap_at : (u v : Span) (p q r s : End) (us vs xs : List ℤ) → us ≡ xs → vs ≡ xs
    → (u.lo ≡ value_at p us) × (u.hi ≡ value_at q us) → (v.lo ≡ value_at r vs) × (v.hi ≡ value_at s vs)
    → gap_of u v ≡ gap_between (value_at p xs) (value_at q xs) (value_at r xs) (value_at s xs)
gap_at u v p q r s us vs xs e f h k = cc (h.0, h.1, k.0, k.1)

same_test : (x y gap s : ℤ) → y ≡ s → x ≡ gap → int_lt x y ≡ int_lt gap s
same_test x y gap s e f = cc

pub returns : goal.returns
returns c =
    let a = c.args.a.now in let b = c.args.b.now in let coords = c.args.coords.now in
    same_test _ _ _ c.args.spacing (to_z-of_z w64 c.args.spacing (omega (arith, ints, c.ranges.spacing)))
    (elim c.match-axis.branch [
      | in-X w ↦ w.gap-is ∙ (to_z-of_z w64 w.gap-gap.result (omega (arith, ints, w.gap-gap.type_inv))
          ∙ (w.gap-gap.ensures
          ∙ (gap_at w.span.result w.span-in-X.result a.yl a.yh b.yl b.yh _ _ coords.y w.as_slice.ensures
          w.as_slice-in-X.ensures w.span.ensures.ends w.span-in-X.ensures.ends
          ∙ sym (ap (λ (axis : Axis). gap_on_y (sides_at axis coords a) (sides_at axis coords b)) w.in-X.is))))
      | in-Y w ↦ w.gap-is ∙ (to_z-of_z w64 w.gap-gap-in-Y.result (omega (arith, ints, w.gap-gap-in-Y.type_inv))
          ∙ (w.gap-gap-in-Y.ensures
          ∙ (gap_at w.span-in-Y.result w.span-in-Y-2.result a.xl a.xh b.xl b.xh _ _ coords.x w.as_slice-in-Y.ensures
          w.as_slice-in-Y-2.ensures w.span-in-Y.ensures.ends w.span-in-Y-2.ensures.ends
          ∙ sym (ap (λ (axis : Axis). gap_on_y (sides_at axis coords a) (sides_at axis coords b)) w.in-Y.is))))
    ])
