-- Numbers that meet each of the conditions have no fault.
use Rattle.std.proofs.Common.{◌≡◌, ◌⊎◌, ℤ, pos, negsuc, ◌≤ℤ◌, ◌%◌, Bool, true, false, [], ◌∷◌, None, refl, inl, inr}
use Rattle.std.proofs.{Common.arith, lemmas.{Bool.{cases_Bool, Decides.nat_tests}, Int.ints}}
use Rattle.std.specs.Prelude.{if◌then◌else◌}
use Rattle.rule_table.specs.Keys.{sizes, spacings, has_buried, first_key, first_outside, is_outside, is_zero}
use Rattle.rule_table.specs.{Keys.is_no_size, Faults.{fault_of, is_version, range_fault, has_short_channel}}
use Rattle.rule_table.specs.Faults.{has_short_extension, has_narrow_fet, has_small_pad, gate_length, diffusion_length}
use Rattle.rule_table.specs.{Bounds.{IsLength, IsSize, IsTechnology}, declared.keys.Numbers.Numbers}
use Rattle.rule_table.proofs.Versions.{version_without_buried, buried_spacing}

inside : (z : ℤ) → IsLength z → is_outside (pos 4096) z ≡ false
inside z h = grind (arith, ints)

no_zero : (z : ℤ) → pos 1 ≤ℤ z → is_zero z ≡ false
no_zero z h = grind (arith, ints)

a_size : (z : ℤ) → IsSize z → is_no_size z ≡ false
unfolding is_no_size
a_size (pos n) h =
    let even : n % 2 ≡ 0 = omega (arith, ints, h.even) in
    grind (arith, ints, nat_tests, h.low)
a_size (negsuc n) h = absurd (let low : pos 2 ≤ℤ negsuc n = h.low in omega (arith, ints))

of_version : (z : ℤ) → (z ≡ pos 1) ⊎ (z ≡ pos 2) → is_version z ≡ true
of_version z (inl one) = rw one
of_version z (inr two) = rw two

inside_buried : (b : Bool) (z : ℤ) → IsLength z → (b ≡ false → z ≡ pos 0)
    → is_outside (if b then pos 4096 else pos 0) z ≡ false
inside_buried true z h none = inside z h
inside_buried false z h none = rw (none refl)

in_range : (n : Numbers) → IsTechnology n → range_fault n ≡ None
unfolding range_fault first_outside first_key
in_range n h =
    let r = h.in_range in
    rw (
      of_version _ h.version,
      inside _ r.version,
      inside _ r.unit,
      inside _ r.width_diffusion,
      inside _ r.width_poly,
      inside _ r.width_metal,
      inside _ r.spacing_diffusion,
      inside _ r.spacing_poly,
      inside _ r.spacing_metal,
      inside _ r.spacing_poly_diffusion,
      inside _ r.spacing_cut,
      inside _ r.spacing_cut_channel,
      inside _ r.spacing_implant_channel,
      inside _ r.extension_poly,
      inside _ r.extension_diffusion,
      inside _ r.extension_implant,
      inside _ r.cut_size,
      inside _ r.cut_enclosure,
      inside_buried (has_buried n) _ r.extension_buried (λ none. (h.no_buried (version_without_buried n h none)).0),
      inside_buried (has_buried n) _ r.spacing_buried_channel
          (λ none. (h.no_buried (version_without_buried n h none)).1),
    ) refl

even_sizes : (n : Numbers) → IsTechnology n → first_key is_no_size (sizes n) ≡ None
unfolding first_key
even_sizes n h = rw (a_size _ h.width_diffusion, a_size _ h.width_poly, a_size _ h.width_metal, a_size _ h.cut_size)
    refl

no_zero_buried : (n : Numbers) → IsTechnology n
    → first_key is_zero (if has_buried n then (18, n.spacing_buried_channel) ∷ [] else []) ≡ None
unfolding first_key
no_zero_buried n h =
    elim (cases_Bool (has_buried n)) [
      | inl some ↦ rw (some, no_zero _ (buried_spacing n h some))
      | inr none ↦ rw none
    ]

some_spacings : (n : Numbers) → IsTechnology n → first_key is_zero (spacings n) ≡ None
unfolding first_key
some_spacings n h =
    let s = h.spacings in
    rw (
      no_zero _ s.diffusion,
      no_zero _ s.poly,
      no_zero _ s.metal,
      no_zero _ s.poly_diffusion,
      no_zero _ s.cut,
      no_zero _ s.cut_channel,
      no_zero _ s.implant_channel,
    ) (no_zero_buried n h)

long_channel : (n : Numbers) → IsTechnology n → has_short_channel n ≡ false
unfolding has_short_channel
long_channel n h = grind (arith, ints, h.channel)

long_extension : (n : Numbers) → IsTechnology n → has_short_extension n ≡ false
unfolding has_short_extension
long_extension n h = grind (arith, ints, h.gate_reaches, h.diffusion_reaches)

wide_fet : (n : Numbers) → IsTechnology n → has_narrow_fet n ≡ false
unfolding has_narrow_fet gate_length diffusion_length
wide_fet n h = grind (arith, ints, h.fet_poly, h.fet_diffusion)

large_pad : (n : Numbers) → IsTechnology n → has_small_pad n ≡ false
unfolding has_small_pad
large_pad n h = grind (arith, ints, h.pad_diffusion, h.pad_poly, h.pad_metal)

pub complete : (n : Numbers) → IsTechnology n → fault_of n ≡ None
unfolding fault_of
complete n h =
    rw (
      in_range n h,
      a_size n.unit h.unit,
      even_sizes n h,
      some_spacings n h,
      long_channel n h,
      long_extension n
          h,
      wide_fet n h,
      large_pad n h,
    ) refl
