-- Numbers without a fault meet each of the facts.
use Rattle.std.proofs.Common.{◌≡◌, ℕ, ℤ, pos, ◌⊎◌, ◌+ℤ◌, ◌≤ℤ◌, ◌<ℤ◌, Bool, true, false, List, [], ◌∷◌, Option, Some}
use Rattle.std.proofs.{Common.{None, option_map, refl, arith, inl, inr}, lemmas.{Int.ints, Bool.cases_Bool}}
use Rattle.std.specs.Ordering.{int_eq}
use Rattle.rule_table.specs.{Keys.first_outside, Faults.{is_version, first_fault, fault_if, tests, fault_of}}
use Rattle.rule_table.specs.Faults.{range_fault, has_short_channel, has_short_extension, has_narrow_fet, has_small_pad}
use Rattle.rule_table.specs.{Faults.{gate_length, diffusion_length}, Bounds.IsTechnology, Spacing.pad_in}
use Rattle.rule_table.specs.declared.{keys.Numbers.Numbers, faults.TechFault.TechFault}
use Rattle.rule_table.proofs.{Versions.none_in_version_1, Ranges.{in_range, none_buried, even_sizes, size_here}}
use Rattle.rule_table.proofs.Ranges.{positive_spacings}

-- no test of the list finds a fault
abbrev pub AllNone : List (Option TechFault) → Type 0
AllNone [] = Unit {0}
AllNone (f ∷ fs) = (f ≡ None) × AllNone fs

all_none : (fs : List (Option TechFault)) → first_fault fs ≡ None → AllNone fs
all_none [] e = tt
all_none (None ∷ fs) e = (refl, all_none fs e)
all_none (Some f ∷ fs) e = absurd cc

not_faulty : (b : Bool) (f : TechFault) → fault_if b f ≡ None → b ≡ false
not_faulty true f e = absurd cc
not_faulty false f e = refl

unmapped : (f : ℕ → TechFault) (o : Option ℕ) → option_map f o ≡ None → o ≡ None
unmapped f None e = refl
unmapped f (Some k) e = absurd cc

versions : (z : ℤ) → is_version z ≡ true → (z ≡ pos 1) ⊎ (z ≡ pos 2)
versions z e =
    elim (cases_Bool (int_eq z (pos 1))) [
      | inl one ↦ inl (grind (arith, ints))
      | inr other ↦ inr (grind (arith, ints))
    ]

range_parts : (n : Numbers) → range_fault n ≡ None → ((n.version ≡ pos 1) ⊎ (n.version ≡ pos 2))
    × (first_outside n ≡ None)
unfolding range_fault
range_parts n e =
    elim (cases_Bool (is_version n.version)) [
      | inl one ↦ (versions _ one, unmapped _ _ (rw one at e))
      | inr other ↦ absurd (let f = rw other at e in cc)
    ]

channel : (n : Numbers) → has_short_channel n ≡ false
    → n.spacing_diffusion ≤ℤ (n.width_poly +ℤ n.spacing_poly_diffusion)
unfolding has_short_channel
channel n e = grind (arith, ints)

extensions : (n : Numbers) → has_short_extension n ≡ false → (n.spacing_poly_diffusion <ℤ n.extension_poly)
    × (n.spacing_poly_diffusion <ℤ n.extension_diffusion)
unfolding has_short_extension
extensions n e = (grind (arith, ints), grind (arith, ints))

fets : (n : Numbers) → has_narrow_fet n ≡ false → (n.width_poly ≤ℤ gate_length n)
    × (n.width_diffusion ≤ℤ diffusion_length n)
unfolding has_narrow_fet
fets n e = (grind (arith, ints), grind (arith, ints))

pads : (n : Numbers) → has_small_pad n ≡ false → (n.width_diffusion ≤ℤ pad_in n) × (n.width_poly ≤ℤ pad_in n)
    × (n.width_metal ≤ℤ pad_in n)
unfolding has_small_pad
pads n e = (grind (arith, ints), grind (arith, ints), grind (arith, ints))

pub sound : (n : Numbers) → fault_of n ≡ None → IsTechnology n
unfolding fault_of gate_length diffusion_length
sound n e =
    let h = all_none (tests n) e in
    let v = range_parts n h.0 in
    let r = in_range n v.1 in
    let s = even_sizes n r (unmapped _ _ h.1.1.0) in
    let x = extensions n (not_faulty _ _ h.1.1.1.1.1.0) in
    let f = fets n (not_faulty _ _ h.1.1.1.1.1.1.0) in
    let p = pads n (not_faulty _ _ h.1.1.1.1.1.1.1.0) in
    record {
      in_range = r;
      version = v.0;
      no_buried = λ one. none_buried n (none_in_version_1 n one) v.1;
      unit = size_here _ r.unit (not_faulty _ _ h.1.0);
      width_diffusion = s.0;
      width_poly = s.1;
      width_metal = s.2;
      cut_size = s.3;
      spacings = positive_spacings n r (unmapped _ _ h.1.1.1.0);
      channel = channel n (not_faulty _ _ h.1.1.1.1.0);
      gate_reaches = x.0;
      diffusion_reaches = x.1;
      fet_poly = f.0;
      fet_diffusion = f.1;
      pad_diffusion = p.0;
      pad_poly = p.1;
      pad_metal = p.2;
    }
