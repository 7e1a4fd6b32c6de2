-- Widths and the pad of numbers without a fault.
use Rattle.std.proofs.{Common.{◌≡◌, ℤ, pos, negsuc, ◌+ℤ◌, ◌*ℤ◌, ◌≤ℤ◌, arith, ap}, lemmas.Int.ints}
use Rattle.std.specs.Prelude.{int_div}
use Rattle.rule_table.specs.{Spacing.{width_in, pad_in}, Bounds.{IsSize, IsLength, IsTechnology}}
use Rattle.rule_table.specs.declared.{keys.Numbers.Numbers, classes.Layer.{Layer, TheVariants.{Diffusion, Poly, Metal}}}

pub size_of_width : (n : Numbers) → IsTechnology n → (l : Layer) → IsSize (width_in n l)
size_of_width n h Diffusion = h.width_diffusion
size_of_width n h Poly = h.width_poly
size_of_width n h Metal = h.width_metal

pub width_within : (n : Numbers) → IsTechnology n → (l : Layer) → width_in n l ≤ℤ pad_in n
width_within n h Diffusion = h.pad_diffusion
width_within n h Poly = h.pad_poly
width_within n h Metal = h.pad_metal

pub pad_bounds : (n : Numbers) → IsTechnology n → (pos 2 ≤ℤ pad_in n) × (pad_in n ≤ℤ pos 12288)
unfolding pad_in
pad_bounds n h = (omega (arith, ints), omega (arith, ints))

-- an even number and twice another are even together
even_sum : (a b : ℤ) → IsSize a → IsLength b → (pos 2 *ℤ int_div (a +ℤ (pos 2 *ℤ b)) (pos 2)) ≡ (a +ℤ (pos 2 *ℤ b))
even_sum (pos a) (pos b) h k = let even : (pos 2 *ℤ int_div (pos a) (pos 2)) ≡ pos a =
    h.even in ap pos (omega (arith, ints))
even_sum (negsuc a) b h k = absurd (let low : pos 2 ≤ℤ negsuc a = h.low in omega (arith, ints))
even_sum (pos a) (negsuc b) h k = absurd (let low : pos 0 ≤ℤ negsuc b = k.0 in omega (arith, ints))

pub pad_even : (n : Numbers) → IsTechnology n → (pos 2 *ℤ int_div (pad_in n) (pos 2)) ≡ pad_in n
unfolding pad_in
pad_even n h = even_sum n.cut_size n.cut_enclosure h.cut_size h.in_range.cut_enclosure
