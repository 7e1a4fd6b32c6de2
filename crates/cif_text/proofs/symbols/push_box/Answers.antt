use Rattle.std.proofs.Common.{pos, ◌≡◌, ◌+ℤ◌, ◌-ℤ◌, ◌*ℤ◌, ◌++◌, ap, ◌∙◌, arith, to_z, of_z, w64}
use Rattle.std.{proofs.lemmas.Int.ints, specs.{Prelude.codes, Fmt.signed_decimal}}
use Rattle.cif_text.proofs.Added.{five_added}
use Rattle.cif_text.proofs.symbols.push_box.Goals as goal

pub returns : goal.returns
returns c =
    let area = c.args.mask.now.area in
    let text = c.args.out.now.items in
    let x = c.requires.0 in
    let y = c.requires.1 in
    let width : to_z w64 (of_z w64 c.twice_extent.result) ≡ pos 2 *ℤ (area.x.hi -ℤ area.x.lo) =
    omega (arith, ints, c.twice_extent.ensures, x.0.0, x.0.1, x.1.0, x.1.1) in
    let height : to_z w64 (of_z w64 c.twice_extent-2.result) ≡ pos 2 *ℤ (area.y.hi -ℤ area.y.lo) =
    omega (arith, ints, c.twice_extent-2.ensures, y.0.0, y.0.1, y.1.0, y.1.1) in
    let across : to_z w64 (of_z w64 c.twice_centre.result) ≡ area.x.lo +ℤ area.x.hi =
    omega (arith, ints, c.twice_centre.ensures, x.0.0, x.0.1, x.1.0, x.1.1) in
    let up : to_z w64 (of_z w64 c.twice_centre-2.result) ≡ area.y.lo +ℤ area.y.hi =
    omega (arith, ints, c.twice_centre-2.ensures, y.0.0, y.0.1, y.1.0, y.1.1) in
    five_added text (codes "B " ++ signed_decimal (pos 2 *ℤ (area.x.hi -ℤ area.x.lo)))
    (codes " " ++ signed_decimal (pos 2 *ℤ (area.y.hi -ℤ area.y.lo)))
    (codes " " ++ signed_decimal (area.x.lo +ℤ area.x.hi)) (codes " " ++ signed_decimal (area.y.lo +ℤ area.y.hi))
    (codes ";\n") c.push_number.new.out.items c.push_number-2.new.out.items c.push_number-3.new.out.items
    c.push_number-4.new.out.items c.extend_from_slice.new.self.items
    (c.in_ok-push_number.ensures ∙ ap (λ n. text ++ (codes "B " ++ signed_decimal n)) width)
    (c.in_ok-push_number-2.ensures
    ∙ ap (λ n. c.push_number.new.out.items ++ (codes " " ++ signed_decimal n)) height)
    (c.in_ok-push_number-3.ensures
    ∙ ap (λ n. c.push_number-2.new.out.items ++ (codes " " ++ signed_decimal n)) across)
    (c.in_ok-push_number-4.ensures
    ∙ ap (λ n. c.push_number-3.new.out.items ++ (codes " " ++ signed_decimal n)) up)
    c.in_ok-extend_from_slice.ensures.items
