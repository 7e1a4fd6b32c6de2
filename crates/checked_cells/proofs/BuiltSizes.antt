-- Sizes that were accepted are sizes.
use Rattle.std.proofs.Common.{◌≡◌, ℕ, ◌%◌, ◌<◌, ◌≤◌, ℤ, pos, true, Option, Some, None, Ok, eqb, leb, ap, subst, arith}
use Rattle.std.{proofs.lemmas.{Bool.Decides.nat_tests, Int.ints}, specs.Prelude.{IsTrue, ◌&&◌, ◌≤ℤ◌, int_le, nat_lt}}
use Rattle.rule_table.specs.{Bounds.IsSize, Technology.width_of, declared.{technology.Tech.Tech, classes.Layer.Layer}}
use Rattle.rule_table.specs.declared.classes.Layer.TheVariants.{Diffusion, Poly}
use Rattle.rule_table.proofs.{Sound.sound, Widths.size_of_width}
use Rattle.stick_text.specs.declared.fault.StickKind.TheVariants.{BadSize, NarrowWire}
use Rattle.checked_cells.specs.Checks.{is_even_size, is_channel, sized}
use Rattle.checked_cells.proofs.Accepted.{both, two_demanded, le_from_test}

-- an even number that is not 0 is a size
even_size : (n : ℕ) → 0 < n → n % 2 ≡ 0 → n ≤ 4096 → IsSize (pos n)
even_size n positive is_even small =
    record { low = omega (arith, ints); high = omega (arith, ints); even = ap pos (omega arith) }

-- what is no less than a size is not 0
least_size : (z : ℤ) (n : ℕ) → IsSize z → z ≤ℤ pos n → 0 < n
least_size z n size le = omega (arith, ints, size.low)

-- an even number that is not too large
even_from_test : (n : ℕ) → IsTrue (is_even_size n) → (n % 2 ≡ 0) × (n ≤ 4096)
even_from_test n h =
    let parts = both (eqb (n % 2) 0) (leb n 4096) h in
    let first : eqb (n % 2) 0 ≡ true = parts.0 in
    let second : leb n 4096 ≡ true = parts.1 in
    (grind (arith, nat_tests, first), grind (arith, nat_tests, second))

-- a layer's width is a size
pub size_of_layer : (tech : Tech) (layer : Layer) → IsSize (width_of tech layer)
size_of_layer tech layer = size_of_width tech.numbers (sound tech.numbers tech.sound) layer

-- a width that was given or left out
pub size_of_sized : (tech : Tech) (layer : Layer) (width : Option ℕ) (size : ℤ) → sized tech layer width ≡ Ok size
    → IsSize size × (width_of tech layer ≤ℤ size)
unfolding sized
size_of_sized tech layer None size e =
    let same : width_of tech layer ≡ size = cc in
    subst (λ (z : ℤ). IsSize z × (width_of tech layer ≤ℤ z)) same (size_of_layer tech layer, omega (arith, ints))
size_of_sized tech layer (Some width) size e =
    let met : IsTrue (is_even_size width && nat_lt 0 width) × IsTrue (int_le (width_of tech layer) (pos width))
    × (Ok (pos width) ≡ Ok size) =
    two_demanded (is_even_size width && nat_lt 0 width) (int_le (width_of tech layer) (pos width)) BadSize NarrowWire
    (Ok (pos width)) size e in
    let same : pos width ≡ size = cc (met.2) in
    let even : (width % 2 ≡ 0) × (width ≤ 4096) =
    even_from_test width (both (is_even_size width) (nat_lt 0 width) met.0).0 in
    let wide : width_of tech layer ≤ℤ pos width = le_from_test (width_of tech layer) (pos width) met.1 in
    subst (λ (z : ℤ). IsSize z × (width_of tech layer ≤ℤ z)) same
    (even_size width (least_size (width_of tech layer) width (size_of_layer tech layer) wide) even.0 even.1, wide)

-- the sizes of a transistor
pub sizes_of_channel : (tech : Tech) (w l : ℕ) → IsTrue (is_channel tech w l)
    → IsSize (pos w) × IsSize (pos l) × (width_of tech Diffusion ≤ℤ pos w) × (width_of tech Poly ≤ℤ pos l)
sizes_of_channel tech w l h =
    let parts : IsTrue (is_even_size w && is_even_size l)
    × IsTrue (int_le (width_of tech Diffusion) (pos w) && int_le (width_of tech Poly) (pos l)) =
    both (is_even_size w && is_even_size l)
    (int_le (width_of tech Diffusion) (pos w) && int_le (width_of tech Poly) (pos l)) h in
    let evens : IsTrue (is_even_size w) × IsTrue (is_even_size l) = both (is_even_size w) (is_even_size l) parts.0 in
    let wides : IsTrue (int_le (width_of tech Diffusion) (pos w)) × IsTrue (int_le (width_of tech Poly) (pos l)) =
    both (int_le (width_of tech Diffusion) (pos w)) (int_le (width_of tech Poly) (pos l)) parts.1 in
    let wide : width_of tech Diffusion ≤ℤ pos w = le_from_test (width_of tech Diffusion) (pos w) wides.0 in
    let long : width_of tech Poly ≤ℤ pos l = le_from_test (width_of tech Poly) (pos l) wides.1 in
    let even_w : (w % 2 ≡ 0) × (w ≤ 4096) = even_from_test w evens.0 in
    let even_l : (l % 2 ≡ 0) × (l ≤ 4096) = even_from_test l evens.1 in (
      even_size w (least_size (width_of tech Diffusion) w (size_of_layer tech Diffusion) wide) even_w.0 even_w.1,
      even_size l (least_size (width_of tech Poly) l (size_of_layer tech Poly) long) even_l.0 even_l.1,
      wide,
      long,
    )
