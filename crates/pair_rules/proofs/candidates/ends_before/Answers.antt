use Rattle.std.proofs.Common.{◌≡◌, ◌^◌, ℤ, pos, ◌+ℤ◌, ◌≤ℤ◌, Bool, sym, ap, ◌∙◌, to_z, of_z, w64, arith}
use Rattle.std.{proofs.lemmas.Int.ints, specs.Prelude.int_le}
use Rattle.lam_geom.specs.{Places.IsPlace, declared.boxes.Axis.Axis}
use Rattle.sym_items.specs.Values.{value_at}
use Rattle.pair_rules.specs.Candidates.{sides_at}
use Rattle.pair_rules.proofs.candidates.ends_before.Goals as goal

-- the test of two ends at places that are known
test_at : (high low s right left : ℤ) (r : Bool) → IsPlace right → IsPlace left → pos 0 ≤ℤ s → s ≤ℤ pos (2 ^ 30)
    → high ≡ right → low ≡ left
    → r ≡ int_le (to_z w64 (of_z w64 (to_z w64 (of_z w64 high) +ℤ to_z w64 (of_z w64 s)))) (to_z w64 (of_z w64 low))
    → r ≡ int_le (right +ℤ s) left
test_at high low s right left r h k least most e f is =
    let sum : to_z w64 (of_z w64 (to_z w64 (of_z w64 high) +ℤ to_z w64 (of_z w64 s))) ≡ right +ℤ s =
    omega (arith, ints, h, least, most, e) in
    let same : to_z w64 (of_z w64 low) ≡ left = omega (arith, ints, k, f) in
    cc

pub returns-in-X : goal.returns-in-X
returns-in-X c =
    let a = c.args.a.now in let b = c.args.b.now in let coords = c.args.coords.now in
    test_at _ _ c.args.spacing (value_at a.xh coords.x) (value_at b.xl coords.x) _
    c.requires.first.x.high_placed.placed c.requires.second.x.low_placed.placed
    c.requires.not_negative c.requires.within_limit (c.at.ensures ∙ ap (value_at a.xh) c.as_slice.ensures)
    (c.at-in-X.ensures ∙ ap (value_at b.xl) c.as_slice-in-X.ensures) c.is_at_most.ensures
    ∙ sym (ap
    (λ (axis : Axis). int_le ((sides_at axis coords a).right +ℤ c.args.spacing) (sides_at axis coords b).left)
    c.in-X.is)

pub returns-in-Y : goal.returns-in-Y
returns-in-Y c =
    let a = c.args.a.now in let b = c.args.b.now in let coords = c.args.coords.now in
    test_at _ _ c.args.spacing (value_at a.yh coords.y) (value_at b.yl coords.y) _
    c.requires.first.y.high_placed.placed c.requires.second.y.low_placed.placed
    c.requires.not_negative c.requires.within_limit (c.at-in-Y.ensures ∙ ap (value_at a.yh) c.as_slice-in-Y.ensures)
    (c.at-in-Y-2.ensures ∙ ap (value_at b.yl) c.as_slice-in-Y-2.ensures) c.is_at_most-in-Y.ensures
    ∙ sym (ap
    (λ (axis : Axis). int_le ((sides_at axis coords a).right +ℤ c.args.spacing) (sides_at axis coords b).left)
    c.in-Y.is)
