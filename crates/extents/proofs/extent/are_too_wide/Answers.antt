use Rattle.std.proofs.{Common.{◌≡◌, ◌∙◌, ℕ, ℤ, pos, map, length, ap, arith, to_z, of_z, w64}, lemmas.Int.ints}
use Rattle.std.{proofs.lemmas.{Int.to_z-of_z, List.length-map}, specs.{Prelude.{◌+ℤ◌, ◌-ℤ◌}, Int.int_min}}
use Rattle.lam_geom.specs.declared.boxes.Axis.TheVariants.{X}
use Rattle.sym_items.specs.Layouts.{size_in}
use Rattle.plan_model.specs.{Rows.rows_of, Instances.{left_of_grid, whole_width}}
use Rattle.extents.proofs.Sums.{capped_past}
use Rattle.extents.proofs.extent.are_too_wide.Goals as goal

pub returns : goal.returns
returns c =
    let same : to_z w64 (of_z w64 c.args.widest) ≡ c.args.widest = to_z-of_z w64 c.args.widest c.ranges.widest in
    let grids = map rows_of c.args.grids.now in
    let width : ℕ → ℤ = size_in X c.args.layouts.now in
    let e = ap (λ z. left_of_grid width z grids (length c.args.grids.now)) same in
    let m : to_z w64 (of_z w64 c.args.most) ≡ c.args.most = to_z-of_z w64 c.args.most c.ranges.most in
    let w = c.spaced_width.ensures in
    let past = c.first_past-past.ensures in
    let all : whole_width width c.args.widest grids ≡ left_of_grid width c.args.widest grids (length c.args.grids.now)
    -ℤ c.args.widest =
    ap (λ (n : ℕ). left_of_grid width c.args.widest grids n -ℤ c.args.widest) (length-map c.args.grids.now rows_of) in
    let p : to_z w64 (of_z w64 c.first_past-past.result) ≡ c.first_past-past.result = let t =
    c.first_past-past.type_inv in omega (arith, ints, t) in
    let s : to_z w64 (of_z w64 c.spaced_width.result) ≡ c.spaced_width.result = let t =
    c.spaced_width.type_inv in omega (arith, ints, t) in
    capped_past (left_of_grid width c.args.widest grids (length c.args.grids.now))
    (whole_width width c.args.widest grids) (to_z w64 (of_z w64 c.spaced_width.result))
    (to_z w64 (of_z w64 c.first_past-past.result)) c.args.most c.args.widest
    (s ∙ (w ∙ ap (λ z. int_min z (to_z w64 (of_z w64 c.first_past-past.result))) e))
    (p ∙ (past
    ∙ (ap (λ z. (z +ℤ to_z w64 (of_z w64 c.args.widest)) +ℤ pos 1) m
    ∙ ap (λ z. (c.args.most +ℤ z) +ℤ pos 1) same))) all
