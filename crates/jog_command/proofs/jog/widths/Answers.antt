use Rattle.std.proofs.Common.{◌≡◌, ℕ, ℤ, List, [], ◌∷◌, ◌++◌, map, sym, ap, ◌∙◌, arith, to_z, of_z, w64}
use Rattle.std.proofs.{Math.Nat.zero-add, lemmas.{Int.ints, List.FromFn.map-range_with_len_more}}
use Rattle.std.specs.List.{range_with_len}
use Rattle.lam_geom.specs.declared.boxes.Axis.TheVariants.{X}
use Rattle.sym_items.specs.Layouts.{size_in}
use Rattle.jog_command.proofs.jog.widths.Goals as goal

pub loop-m-preserved : goal.loop-m-preserved
loop-m-preserved c =
    let size : ℕ → ℤ = size_in X c.args.layouts.now in
    let m = c.loop-m.m in
    let whole : to_z w64 (of_z w64 c.width.result) ≡ c.width.result = let t =
    c.width.type_inv in omega (arith, ints, t) in
    ◌∙◌ {A = List ℤ} c.in_ok-push.ensures.items
    (ap (λ (zs : List ℤ). zs ++ to_z w64 (of_z w64 c.width.result) ∷ []) c.loop-m.invariant
    ∙ (ap (λ (z : ℤ). map size (range_with_len 0 m) ++ z ∷ []) (whole ∙ c.width.ensures)
    ∙ sym (map-range_with_len_more size 0 m m (zero-add m))))
