use Rattle.std.proofs.Common.{pos, ◌≡◌, ℤ, ◌+◌, ◌+ℤ◌, ◌*ℤ◌, ◌≤ℤ◌, ◌^◌, ◌++◌, ap, ◌∙◌, arith, to_z, of_z, w64}
use Rattle.std.proofs.lemmas.Int.{ints, fits_signed_mul, to_z-of_z}
use Rattle.std.specs.{Prelude.codes, Fmt.signed_decimal}
use Rattle.mask_out.specs.Pictures.{IsWithin}
use Rattle.cif_text.proofs.Added.{four_added}
use Rattle.cif_text.proofs.calls.push_call.Goals as goal

-- a place in hundredths of a micron fits into a machine's number
place_held : (place unit held : ℤ) → IsWithin (2 ^ 41) place → pos 0 ≤ℤ unit → unit ≤ℤ pos 4096
    → held ≡ to_z w64 (of_z w64 place) *ℤ to_z w64 (of_z w64 unit) → to_z w64 (of_z w64 held) ≡ place *ℤ unit
place_held place unit held within low high is =
    let fits = fits_signed_mul w64 place unit (2 ^ 41) 4096 (omega (arith, ints, within.0, within.1))
    (omega (arith, ints, low, high)) (omega arith) in
    let one : to_z w64 (of_z w64 place) ≡ place = omega (arith, ints, within.0, within.1) in
    let other : to_z w64 (of_z w64 unit) ≡ unit = omega (arith, ints, low, high) in
    ap (λ n. to_z w64 (of_z w64 n)) (is ∙ ap (λ n. n *ℤ to_z w64 (of_z w64 unit)) one ∙ ap (λ n. place *ℤ n) other)
    ∙ to_z-of_z w64 (place *ℤ unit) fits

pub returns : goal.returns
returns c =
    let call = c.args.call in
    let unit = c.args.unit in
    let text = c.args.out.now.items in
    let number : to_z w64 (of_z w64 (to_z w64 (of_z w64 c.from.result) +ℤ pos 1)) ≡ pos (call.symbol + 1) =
    omega (arith, ints, c.from.ensures) in
    let x = place_held call.x unit c.in_hundredths.result c.requires.near.x c.requires.low c.requires.high
    c.in_hundredths.ensures in
    let y = place_held call.y unit c.in_hundredths-2.result c.requires.near.y c.requires.low c.requires.high
    c.in_hundredths-2.ensures in
    four_added text (codes "C " ++ signed_decimal (pos (call.symbol + 1)))
    (codes " T " ++ signed_decimal (call.x *ℤ unit)) (codes " " ++ signed_decimal (call.y *ℤ unit)) (codes ";\n")
    c.push_number.new.out.items c.push_number-2.new.out.items c.push_number-3.new.out.items
    c.extend_from_slice.new.self.items
    (c.in_ok-push_number.ensures ∙ ap (λ n. text ++ (codes "C " ++ signed_decimal n)) number)
    (c.in_ok-push_number-2.ensures
    ∙ ap (λ n. c.push_number.new.out.items ++ (codes " T " ++ signed_decimal n)) x)
    (c.in_ok-push_number-3.ensures
    ∙ ap (λ n. c.push_number-2.new.out.items ++ (codes " " ++ signed_decimal n)) y)
    c.in_ok-extend_from_slice.ensures.items
