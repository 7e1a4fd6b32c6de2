-- What it means that a test of single numbers finds none.
use Rattle.std.proofs.Common.{◌≡◌, ℕ, ℤ, pos, negsuc, ◌≤ℤ◌, Bool, true, false, List, [], ◌∷◌, Option, Some, None, refl}
use Rattle.std.proofs.{Common.{ap, ◌%◌, ◌≤◌, arith, inl, inr}, lemmas.{Int.ints, Bool.{cases_Bool, Decides.nat_tests}}}
use Rattle.std.specs.{Option.option_or, Prelude.if◌then◌else◌}
use Rattle.rule_table.specs.Keys.{common_numbers, buried_numbers, sizes, spacings, has_buried, most_of_buried}
use Rattle.rule_table.specs.{Keys.{first_key, first_outside, is_outside, is_zero, is_no_size}, Bounds.IsLength}
use Rattle.rule_table.specs.{Bounds.{IsSize, IsInRange, HasSpacings}, declared.keys.Numbers.Numbers}
use Rattle.rule_table.proofs.Versions.{buried_in_version_2}

-- each number passes the test
abbrev pub Spared : (ℤ → Bool) → List (ℕ × ℤ) → Type 0
Spared fails [] = Unit {0}
Spared fails (k ∷ ks) = (fails k.1 ≡ false) × Spared fails ks

spared_step : (fails : ℤ → Bool) (k : ℕ × ℤ) (ks : List (ℕ × ℤ)) → first_key fails (k ∷ ks) ≡ None
    → (fails k.1 ≡ false) × (first_key fails ks ≡ None)
unfolding first_key
spared_step fails k ks e =
    elim (cases_Bool (fails k.1)) [
      | inl bad ↦ absurd (let f = rw bad at e in cc)
      | inr good ↦ (good, rw good at e)
    ]

pub spared : (fails : ℤ → Bool) (ks : List (ℕ × ℤ)) → first_key fails ks ≡ None → Spared fails ks
spared fails [] e = tt
spared fails (k ∷ ks) e = let h = spared_step fails k ks e in (h.0, spared fails ks h.1)

length_of : (z : ℤ) → is_outside (pos 4096) z ≡ false → IsLength z
length_of z e = grind (arith, ints)

none_of_both : (p q : Option ℕ) → option_or p q ≡ None → (p ≡ None) × (q ≡ None)
none_of_both None q e = (refl, e)
none_of_both (Some k) q e = absurd cc

-- a number that is at most 4096 where there are buried contacts, and else at most 0
buried_length : (b : Bool) (z : ℤ) → is_outside (if b then pos 4096 else pos 0) z ≡ false → IsLength z
buried_length true z e = length_of z e
buried_length false z e = grind (arith, ints)

no_length : (b : Bool) (z : ℤ) → b ≡ false → is_outside (if b then pos 4096 else pos 0) z ≡ false → z ≡ pos 0
no_length true z none e = absurd cc
no_length false z none e = grind (arith, ints)

pub none_buried : (n : Numbers) → has_buried n ≡ false → first_outside n ≡ None
    → (n.extension_buried ≡ pos 0) × (n.spacing_buried_channel ≡ pos 0)
unfolding first_outside
none_buried n none e =
    let s = spared (is_outside (most_of_buried n)) (buried_numbers n) (none_of_both _ _ e).1 in
    (no_length _ _ none s.0, no_length _ _ none s.1.0)

pub in_range : (n : Numbers) → first_outside n ≡ None → IsInRange n
unfolding first_outside
in_range n e =
    let h = none_of_both _ _ e in
    let s = spared (is_outside (pos 4096)) (common_numbers n) h.0 in
    let t = spared (is_outside (most_of_buried n)) (buried_numbers n) h.1 in
    record {
      version = length_of _ s.0;
      unit = length_of _ s.1.0;
      width_diffusion = length_of _ s.1.1.0;
      width_poly = length_of _ s.1.1.1.0;
      width_metal = length_of _ s.1.1.1.1.0;
      spacing_diffusion = length_of _ s.1.1.1.1.1.0;
      spacing_poly = length_of _ s.1.1.1.1.1.1.0;
      spacing_metal = length_of _ s.1.1.1.1.1.1.1.0;
      spacing_poly_diffusion = length_of _ s.1.1.1.1.1.1.1.1.0;
      spacing_cut = length_of _ s.1.1.1.1.1.1.1.1.1.0;
      spacing_cut_channel = length_of _ s.1.1.1.1.1.1.1.1.1.1.0;
      spacing_implant_channel = length_of _ s.1.1.1.1.1.1.1.1.1.1.1.0;
      extension_poly = length_of _ s.1.1.1.1.1.1.1.1.1.1.1.1.0;
      extension_diffusion = length_of _ s.1.1.1.1.1.1.1.1.1.1.1.1.1.0;
      extension_implant = length_of _ s.1.1.1.1.1.1.1.1.1.1.1.1.1.1.0;
      cut_size = length_of _ s.1.1.1.1.1.1.1.1.1.1.1.1.1.1.1.0;
      cut_enclosure = length_of _ s.1.1.1.1.1.1.1.1.1.1.1.1.1.1.1.1.0;
      extension_buried = buried_length _ _ t.0;
      spacing_buried_channel = buried_length _ _ t.1.0;
    }

size_of : (z : ℤ) → IsLength z → is_no_size z ≡ false → IsSize z
unfolding is_no_size
size_of (pos n) h e =
    let some : 1 ≤ n = grind (arith, ints, nat_tests) in
    let even : n % 2 ≡ 0 = grind (arith, ints, nat_tests) in
    record { low = omega (arith, ints); high = h.1; even = ap pos (omega arith) }
size_of (negsuc n) h e = absurd (omega (arith, ints))

-- an even width and cut
pub even_sizes : (n : Numbers) → IsInRange n → first_key is_no_size (sizes n) ≡ None
    → IsSize n.width_diffusion × IsSize n.width_poly × IsSize n.width_metal × IsSize n.cut_size
even_sizes n h e =
    let s = spared is_no_size (sizes n) e in (
      size_of _ h.width_diffusion s.0,
      size_of _ h.width_poly s.1.0,
      size_of _ h.width_metal s.1.1.0,
      size_of _
          h.cut_size s.1.1.1.0,
    )

pub size_here : (z : ℤ) → IsLength z → is_no_size z ≡ false → IsSize z
size_here = size_of

positive : (z : ℤ) → IsLength z → is_zero z ≡ false → pos 1 ≤ℤ z
positive z h e = grind (arith, ints)

-- what is spared where there are buried contacts
spared_buried : (b : Bool) (ks : List (ℕ × ℤ)) → b ≡ true → Spared is_zero (if b then ks else []) → Spared is_zero ks
spared_buried true ks some s = s
spared_buried false ks some s = absurd cc

pub positive_spacings : (n : Numbers) → IsInRange n → first_key is_zero (spacings n) ≡ None → HasSpacings n
positive_spacings n h e =
    let s = spared is_zero (spacings n) e in
    record {
      diffusion = positive _ h.spacing_diffusion s.0;
      poly = positive _ h.spacing_poly s.1.0;
      metal = positive _ h.spacing_metal s.1.1.0;
      poly_diffusion = positive _ h.spacing_poly_diffusion s.1.1.1.0;
      cut = positive _ h.spacing_cut s.1.1.1.1.0;
      cut_channel = positive _ h.spacing_cut_channel s.1.1.1.1.1.0;
      implant_channel = positive _ h.spacing_implant_channel s.1.1.1.1.1.1.0;
      buried_channel = λ two. positive _ h.spacing_buried_channel
          (spared_buried _ ((18, n.spacing_buried_channel) ∷ []) (buried_in_version_2 n two) s.1.1.1.1.1.1.1).0;
    }
