-- Spacings, margins and the widest spacing of numbers without a fault.
use Rattle.std.proofs.Common.{◌≡◌, ℤ, pos, ◌≤ℤ◌, true, false, List, [], ◌∷◌, map, Option, Some, None, refl, sym, inl}
use Rattle.std.proofs.{Common.{inr, arith}, lemmas.{Bool.cases_Bool, Int.{ints, clamps}}}
use Rattle.std.specs.{Prelude.{◌↔◌, IsTrue, IfSome, fold}, Int.int_max}
use Rattle.rule_table.specs.{Keys.has_buried, Spacing.{row, either, spacing_in, gap_of, all_classes, has_class}}
use Rattle.rule_table.specs.{Spacing.{greatest, margin_in, widest_in}, Bounds.IsTechnology}
use Rattle.rule_table.specs.declared.{keys.Numbers.Numbers, classes.{Rule.Rule, Class.{Class, TheVariants.{M, P, Dc}}}}
use Rattle.rule_table.{specs.declared.classes.Class.TheVariants.{Dm, C, I, G, B}, proofs.Versions.buried_spacing}

-- a spacing is from 1 to 4096
abbrev pub IsSpacing : Rule → Type 0
IsSpacing r = (pos 1 ≤ℤ r.s) × (r.s ≤ℤ pos 4096)

buried_bounds : (n : Numbers) → IsTechnology n → IfSome (row n B G) IsSpacing
buried_bounds n h =
    elim (cases_Bool (has_buried n)) [
      | inl some ↦ rw some (buried_spacing n h some, h.in_range.spacing_buried_channel.1)
      | inr none ↦ rw none tt
    ]

row_bounds : (n : Numbers) → IsTechnology n → (a b : Class) → IfSome (row n a b) IsSpacing
row_bounds n h M M = (h.spacings.metal, h.in_range.spacing_metal.1)
row_bounds n h P P = (h.spacings.poly, h.in_range.spacing_poly.1)
row_bounds n h Dc Dc = (h.spacings.diffusion, h.in_range.spacing_diffusion.1)
row_bounds n h P Dm = (h.spacings.poly_diffusion, h.in_range.spacing_poly_diffusion.1)
row_bounds n h C C = (h.spacings.cut, h.in_range.spacing_cut.1)
row_bounds n h C G = (h.spacings.cut_channel, h.in_range.spacing_cut_channel.1)
row_bounds n h I G = (h.spacings.implant_channel, h.in_range.spacing_implant_channel.1)
row_bounds n h B G = buried_bounds n h
row_bounds n h _ _ = tt

either_bounds : (p q : Option Rule) → IfSome p IsSpacing → IfSome q IsSpacing → IfSome (either p q) IsSpacing
either_bounds None q h k = k
either_bounds (Some r) q h k = h

pub spacing_bounds : (n : Numbers) → IsTechnology n → (a b : Class) → IfSome (spacing_in n a b) IsSpacing
unfolding spacing_in
spacing_bounds n h a b = either_bounds _ _ (row_bounds n h a b) (row_bounds n h b a)

either_none : (o : Option Rule) → either o None ≡ o
either_none None = refl
either_none (Some r) = refl

-- the table has no order
pub spacing_in-symmetric : (n : Numbers) (a b : Class) → spacing_in n a b ≡ spacing_in n b a
unfolding spacing_in
spacing_in-symmetric n M M = refl
spacing_in-symmetric n P P = refl
spacing_in-symmetric n Dc Dc = refl
spacing_in-symmetric n Dm Dm = refl
spacing_in-symmetric n C C = refl
spacing_in-symmetric n I I = refl
spacing_in-symmetric n G G = refl
spacing_in-symmetric n P Dm = refl
spacing_in-symmetric n Dm P = refl
spacing_in-symmetric n C G = refl
spacing_in-symmetric n G C = refl
spacing_in-symmetric n I G = refl
spacing_in-symmetric n G I = refl
spacing_in-symmetric n B B = refl
spacing_in-symmetric n B G = either_none (row n B G)
spacing_in-symmetric n G B = sym (either_none (row n B G))
spacing_in-symmetric n _ _ = refl

gap_bounds : (o : Option Rule) → IfSome o IsSpacing → (pos 0 ≤ℤ gap_of o) × (gap_of o ≤ℤ pos 4096)
gap_bounds None h = (omega (arith, ints), omega (arith, ints))
gap_bounds (Some r) h = (omega (arith, ints), h.1)

-- each value is at most the top
abbrev AllBelow : (Class → ℤ) → ℤ → List Class → Type 0
AllBelow f top [] = Unit {0}
AllBelow f top (b ∷ bs) = (f b ≤ℤ top) × AllBelow f top bs

from_first : (f : Class → ℤ) (a : ℤ) (bs : List Class) → a ≤ℤ fold int_max a (map f bs)
from_first f a [] = omega (arith, ints)
from_first f a (b ∷ bs) =
    let more : int_max a (f b) ≤ℤ fold int_max (int_max a (f b)) (map f bs) = from_first f (int_max a (f b)) bs in
    let here : a ≤ℤ int_max a (f b) = omega (arith, ints, clamps) in
    omega (arith, ints)

below_fold : (f : Class → ℤ) (a : ℤ) (bs : List Class) → AllBelow f (fold int_max a (map f bs)) bs
below_fold f a [] = tt
below_fold f a (b ∷ bs) =
    let more : int_max a (f b) ≤ℤ fold int_max (int_max a (f b)) (map f bs) = from_first f (int_max a (f b)) bs in
    let here : f b ≤ℤ int_max a (f b) = omega (arith, ints, clamps) in
    (omega (arith, ints), below_fold f (int_max a (f b)) bs)

-- the greatest over all classes is at least the value at each
greatest_above : (f : Class → ℤ) (b : Class) → f b ≤ℤ greatest (map f all_classes)
unfolding greatest
greatest_above f M = (below_fold f (pos 0) all_classes).0
greatest_above f P = (below_fold f (pos 0) all_classes).1.0
greatest_above f Dc = (below_fold f (pos 0) all_classes).1.1.0
greatest_above f Dm = (below_fold f (pos 0) all_classes).1.1.1.0
greatest_above f C = (below_fold f (pos 0) all_classes).1.1.1.1.0
greatest_above f I = (below_fold f (pos 0) all_classes).1.1.1.1.1.0
greatest_above f G = (below_fold f (pos 0) all_classes).1.1.1.1.1.1.0
greatest_above f B = (below_fold f (pos 0) all_classes).1.1.1.1.1.1.1.0

-- a bound of each value bounds the greatest
fold_below : (f : Class → ℤ) (a top : ℤ) → a ≤ℤ top → ((b : Class) → f b ≤ℤ top) → (bs : List Class)
    → fold int_max a (map f bs) ≤ℤ top
fold_below f a top low h [] = low
fold_below f a top low h (b ∷ bs) =
    let here : f b ≤ℤ top = h b in
    let step : int_max a (f b) ≤ℤ top = omega (arith, ints, clamps) in
    fold_below f (int_max a (f b)) top step h bs

greatest_below : (f : Class → ℤ) (top : ℤ) → pos 0 ≤ℤ top → ((b : Class) → f b ≤ℤ top)
    → greatest (map f all_classes) ≤ℤ top
unfolding greatest
greatest_below f top low h = fold_below f (pos 0) top low h all_classes

-- a margin is at least each spacing of its class
gap_within : (o : Option Rule) (top : ℤ) → gap_of o ≤ℤ top → IfSome o (λ r. r.s ≤ℤ top)
gap_within None top h = tt
gap_within (Some r) top h = h

pub margin_above : (n : Numbers) (a b : Class) → IfSome (spacing_in n a b) (λ r. r.s ≤ℤ margin_in n a)
unfolding margin_in
margin_above n a b = gap_within _ _ (greatest_above (λ c. gap_of (spacing_in n a c)) b)

pub margin_below : (n : Numbers) → IsTechnology n → (a : Class) → margin_in n a ≤ℤ pos 4096
unfolding margin_in
margin_below n h a =
    greatest_below (λ b. gap_of (spacing_in n a b)) (pos 4096) (omega (arith, ints))
    (λ b. (gap_bounds _ (spacing_bounds n h a b)).1)

-- the widest spacing is at least each margin
pub widest_above : (n : Numbers) (a : Class) → margin_in n a ≤ℤ widest_in n
unfolding widest_in
widest_above n a = greatest_above (margin_in n) a

pub widest_below : (n : Numbers) → IsTechnology n → widest_in n ≤ℤ pos 4096
unfolding widest_in
widest_below n h = greatest_below (margin_in n) (pos 4096) (omega (arith, ints)) (margin_below n h)

both : (X Y : Rule → Type 0) (o : Option Rule) → IfSome o X → IfSome o Y → IfSome o (λ r. X r × Y r)
both X Y None p q = tt
both X Y (Some r) p q = (p, q)

pub within_margins : (n : Numbers) (a b : Class)
    → IfSome (spacing_in n a b) (λ r. (r.s ≤ℤ margin_in n a) × (r.s ≤ℤ margin_in n b))
within_margins n a b =
    let other : IfSome (spacing_in n a b) (λ r. r.s ≤ℤ margin_in n b) =
    rw (spacing_in-symmetric n a b) (margin_above n b a) in
    both _ _ (spacing_in n a b) (margin_above n a b) other

-- no margin is below 0
pub margin_low : (n : Numbers) (a : Class) → pos 0 ≤ℤ margin_in n a
unfolding margin_in greatest
margin_low n a = from_first (λ b. gap_of (spacing_in n a b)) (pos 0) all_classes

-- a class that has a row has a margin of at least 1
pub margin_positive : (n : Numbers) → IsTechnology n → (a : Class) → has_class n a ≡ true → pos 1 ≤ℤ margin_in n a
unfolding margin_in spacing_in
margin_positive n h M some = omega (arith, ints, greatest_above (λ c. gap_of (spacing_in n M c)) M)
margin_positive n h P some = omega (arith, ints, greatest_above (λ c. gap_of (spacing_in n P c)) P)
margin_positive n h Dc some = omega (arith, ints, greatest_above (λ c. gap_of (spacing_in n Dc c)) Dc)
margin_positive n h Dm some = omega (arith, ints, greatest_above (λ c. gap_of (spacing_in n Dm c)) P)
margin_positive n h C some = omega (arith, ints, greatest_above (λ c. gap_of (spacing_in n C c)) C)
margin_positive n h I some = omega (arith, ints, greatest_above (λ c. gap_of (spacing_in n I c)) G)
margin_positive n h G some = omega (arith, ints, greatest_above (λ c. gap_of (spacing_in n G c)) I)
margin_positive n h B some =
    let gap : gap_of (spacing_in n B G) ≡ n.spacing_buried_channel = rw some refl in
    let above : gap_of (spacing_in n B G) ≤ℤ margin_in n B = greatest_above (λ c. gap_of (spacing_in n B c)) G in
    omega (arith, ints, buried_spacing n h some, gap, above)

-- and one that has none has a margin of 0
no_margin : (n : Numbers) (a : Class) → has_class n a ≡ false → margin_in n a ≡ pos 0
unfolding margin_in spacing_in greatest
no_margin n B none = rw none
no_margin n _ none = absurd cc

pub margin_exactly : (n : Numbers) → IsTechnology n → (a : Class) → IsTrue (has_class n a) ↔ pos 1 ≤ℤ margin_in n a
margin_exactly n h a = (
  margin_positive n h a,
  λ low. elim (cases_Bool (has_class n a)) [
    | inl some ↦ some
    | inr none ↦ absurd (let zero : margin_in n a ≡ pos 0 = no_margin n a none in omega (arith, ints))
  ],
)

pub widest_positive : (n : Numbers) → IsTechnology n → pos 1 ≤ℤ widest_in n
widest_positive n h =
    let one : pos 1 ≤ℤ margin_in n M = margin_positive n h M refl in
    let more : margin_in n M ≤ℤ widest_in n = widest_above n M in
    omega (arith, ints)
