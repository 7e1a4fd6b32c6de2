-- Lengths, gaps and boxes in grains: those in u, times a positive number.
use Rattle.std.proofs.Common.{◌≡◌, ℕ, zero, suc, ℤ, pos, negsuc, ◌+ℤ◌, ◌-ℤ◌, ◌*ℤ◌, ◌≤ℤ◌, ◌<ℤ◌, sym, ap, ◌∙◌, subst}
use Rattle.std.{proofs.{Common.arith, lemmas.Int.{ints, clamps, by_lt_z}}, specs.Int.{int_max, int_min}}
use Rattle.rule_table.specs.{declared.technology.Tech.Tech, Technology.numbers_of}
use Rattle.sym_items.specs.Sides.{Sides, gap_of_sides}
use Rattle.expand.proofs.Among.{sound_numbers}
use Rattle.buried_contacts.{specs.Contacts.common, proofs.Shares.same_sides}
use Rattle.crossing_model.specs.Boxes.{grains}
use Rattle.instance_laws.specs.{Meetings.EnclosesBy, Shapes.sides_in_grains}

-- ---- products

by_count : (a b : ℤ) (n : ℕ) → a ≤ℤ b → (a *ℤ pos n) ≤ℤ (b *ℤ pos n)
by_count a b zero h = omega (arith, ints)
by_count a b (suc n) h =
    let ih = by_count a b n h in
    let e : (a *ℤ pos (suc n)) ≡ ((a *ℤ pos n) +ℤ a) = omega (arith, ints) in
    let f : (b *ℤ pos (suc n)) ≡ ((b *ℤ pos n) +ℤ b) = omega (arith, ints) in
    omega (arith, ints, ih, h, e, f)

one_more : (a : ℤ) (n : ℕ) → (a *ℤ pos (suc n)) ≡ ((a *ℤ pos n) +ℤ a)
one_more a n = omega (arith, ints)

sum_by_count : (a b : ℤ) (n : ℕ) → ((a +ℤ b) *ℤ pos n) ≡ ((a *ℤ pos n) +ℤ (b *ℤ pos n))
sum_by_count a b zero = omega (arith, ints)
sum_by_count a b (suc n) =
    let ih = sum_by_count a b n in
    let e = one_more (a +ℤ b) n in
    let f = one_more a n in
    let g = one_more b n in
    omega (arith, ints, ih, e, f, g)

sum_scaled : (s a b : ℤ) → pos 1 ≤ℤ s → ((a +ℤ b) *ℤ s) ≡ ((a *ℤ s) +ℤ (b *ℤ s))
sum_scaled (pos n) a b low = sum_by_count a b n
sum_scaled (negsuc n) a b low = absurd (omega (arith, ints, low))

difference_scaled : (s a b : ℤ) → pos 1 ≤ℤ s → ((a *ℤ s) -ℤ (b *ℤ s)) ≡ ((a -ℤ b) *ℤ s)
difference_scaled s a b low =
    let whole = sum_scaled s (a -ℤ b) b low in
    let back : ((a -ℤ b) +ℤ b) ≡ a = omega (arith, ints) in
    let e : (((a -ℤ b) +ℤ b) *ℤ s) ≡ (a *ℤ s) = ap (λ (z : ℤ). z *ℤ s) back in
    omega (arith, ints, whole, e)

times : (s a b : ℤ) → pos 1 ≤ℤ s → a ≤ℤ b → (a *ℤ s) ≤ℤ (b *ℤ s)
times (pos n) a b low h = by_count a b n h
times (negsuc n) a b low h = absurd (omega (arith, ints, low))

-- scaled numbers stand in the same order
pub scaled : (s a b : ℤ) → pos 1 ≤ℤ s → a ≤ℤ b → (a *ℤ s) ≤ℤ (b *ℤ s)
scaled s a b low h = times s a b low h

pub scaled_less : (s a b : ℤ) → pos 1 ≤ℤ s → a <ℤ b → (a *ℤ s) <ℤ (b *ℤ s)
scaled_less s a b low h =
    let more = times s (a +ℤ pos 1) b low (omega (arith, ints, h)) in
    let e = sum_scaled s a (pos 1) low in
    let f : (pos 1 *ℤ s) ≡ s = omega (arith, ints) in
    omega (arith, ints, more, e, f, low)

pub unscaled : (s a b : ℤ) → pos 1 ≤ℤ s → (a *ℤ s) ≤ℤ (b *ℤ s) → a ≤ℤ b
unscaled s a b low h =
    by_lt_z b a (λ lt. absurd (let less = scaled_less s b a low lt in omega (arith, ints, less, h))) (λ le. le)

pub unscaled_less : (s a b : ℤ) → pos 1 ≤ℤ s → (a *ℤ s) <ℤ (b *ℤ s) → a <ℤ b
unscaled_less s a b low h =
    by_lt_z a b (λ lt. lt) (λ le. absurd (let more = times s b a low le in omega (arith, ints, more, h)))

max_scaled : (s a b : ℤ) → pos 1 ≤ℤ s → int_max (a *ℤ s) (b *ℤ s) ≡ (int_max a b *ℤ s)
max_scaled s a b low = by_lt_z a b
    (λ lt. (let m = scaled_less s a b low lt in
    let e : int_max a b ≡ b = omega (arith, ints, clamps, lt) in
    let f : int_max (a *ℤ s) (b *ℤ s) ≡ (b *ℤ s) = omega (arith, ints, clamps, m) in f ∙ ap (λ z. z *ℤ s) (sym e)))
    (λ le. (let m = times s b a low le in
    let e : int_max a b ≡ a = omega (arith, ints, clamps, le) in
    let f : int_max (a *ℤ s) (b *ℤ s) ≡ (a *ℤ s) = omega (arith, ints, clamps, m) in f ∙ ap (λ z. z *ℤ s) (sym e)))

min_scaled : (s a b : ℤ) → pos 1 ≤ℤ s → int_min (a *ℤ s) (b *ℤ s) ≡ (int_min a b *ℤ s)
min_scaled s a b low = by_lt_z a b
    (λ lt. (let m = scaled_less s a b low lt in
    let e : int_min a b ≡ a = omega (arith, ints, clamps, lt) in
    let f : int_min (a *ℤ s) (b *ℤ s) ≡ (a *ℤ s) = omega (arith, ints, clamps, m) in f ∙ ap (λ z. z *ℤ s) (sym e)))
    (λ le. (let m = times s b a low le in
    let e : int_min a b ≡ b = omega (arith, ints, clamps, le) in
    let f : int_min (a *ℤ s) (b *ℤ s) ≡ (b *ℤ s) = omega (arith, ints, clamps, m) in f ∙ ap (λ z. z *ℤ s) (sym e)))

-- ---- in grains

pub scale_positive : (tech : Tech) → pos 1 ≤ℤ (pos 2 *ℤ (numbers_of tech).unit)
scale_positive tech =
    let low = (sound_numbers tech).unit.low in
    omega (arith, ints, low)

gap_on_scaled : (s a b c d : ℤ) → pos 1 ≤ℤ s
    → int_max ((c *ℤ s) -ℤ (b *ℤ s)) ((a *ℤ s) -ℤ (d *ℤ s)) ≡ (int_max (c -ℤ b) (a -ℤ d) *ℤ s)
gap_on_scaled s a b c d low =
    ap (λ z. int_max z ((a *ℤ s) -ℤ (d *ℤ s))) (difference_scaled s c b low)
    ∙ (ap (int_max ((c -ℤ b) *ℤ s)) (difference_scaled s a d low) ∙ max_scaled s (c -ℤ b) (a -ℤ d) low)

pub gap_in_grains : (tech : Tech) (u v : Sides)
    → gap_of_sides (sides_in_grains tech u) (sides_in_grains tech v) ≡ grains tech (gap_of_sides u v)
gap_in_grains tech u v =
    let s : ℤ = pos 2 *ℤ (numbers_of tech).unit in
    let low = scale_positive tech in
    let x : ℤ = int_max (v.left -ℤ u.right) (u.left -ℤ v.right) in
    let y : ℤ = int_max (v.bottom -ℤ u.top) (u.bottom -ℤ v.top) in
    ap (λ z. int_max z (int_max ((v.bottom *ℤ s) -ℤ (u.top *ℤ s)) ((u.bottom *ℤ s) -ℤ (v.top *ℤ s))))
    (gap_on_scaled s u.left u.right v.left v.right low)
    ∙ (ap (int_max (x *ℤ s)) (gap_on_scaled s u.bottom u.top v.bottom v.top low) ∙ max_scaled s x y low)

zero_scaled : (s : ℤ) → (pos 0 *ℤ s) ≡ pos 0
zero_scaled s = omega (arith, ints)

-- boxes overlap, and touch, where those in grains do
pub overlap_in_grains : (tech : Tech) (u v : Sides) → gap_of_sides u v <ℤ pos 0
    → gap_of_sides (sides_in_grains tech u) (sides_in_grains tech v) <ℤ pos 0
overlap_in_grains tech u v h =
    let e = gap_in_grains tech u v in
    let less = scaled_less (pos 2 *ℤ (numbers_of tech).unit) (gap_of_sides u v) (pos 0) (scale_positive tech) h in
    subst (λ z. z <ℤ pos 0) (sym e)
    (subst (λ z. grains tech (gap_of_sides u v) <ℤ z) (zero_scaled (pos 2 *ℤ (numbers_of tech).unit)) less)

pub overlap_from_grains : (tech : Tech) (u v : Sides)
    → gap_of_sides (sides_in_grains tech u) (sides_in_grains tech v) <ℤ pos 0 → gap_of_sides u v <ℤ pos 0
overlap_from_grains tech u v h =
    let less : grains tech (gap_of_sides u v) <ℤ pos 0 = subst (λ z. z <ℤ pos 0) (gap_in_grains tech u v) h in
    unscaled_less (pos 2 *ℤ (numbers_of tech).unit) (gap_of_sides u v) (pos 0) (scale_positive tech)
    (subst (λ z. grains tech (gap_of_sides u v) <ℤ z) (sym (zero_scaled (pos 2 *ℤ (numbers_of tech).unit))) less)

pub touch_in_grains : (tech : Tech) (u v : Sides) → gap_of_sides u v ≤ℤ pos 0
    → gap_of_sides (sides_in_grains tech u) (sides_in_grains tech v) ≤ℤ pos 0
touch_in_grains tech u v h =
    let e = gap_in_grains tech u v in
    let less = scaled (pos 2 *ℤ (numbers_of tech).unit) (gap_of_sides u v) (pos 0) (scale_positive tech) h in
    subst (λ z. z ≤ℤ pos 0) (sym e)
    (subst (λ z. grains tech (gap_of_sides u v) ≤ℤ z) (zero_scaled (pos 2 *ℤ (numbers_of tech).unit)) less)

pub touch_from_grains : (tech : Tech) (u v : Sides)
    → gap_of_sides (sides_in_grains tech u) (sides_in_grains tech v) ≤ℤ pos 0 → gap_of_sides u v ≤ℤ pos 0
touch_from_grains tech u v h =
    let less : grains tech (gap_of_sides u v) ≤ℤ pos 0 = subst (λ z. z ≤ℤ pos 0) (gap_in_grains tech u v) h in
    unscaled (pos 2 *ℤ (numbers_of tech).unit) (gap_of_sides u v) (pos 0) (scale_positive tech)
    (subst (λ z. grains tech (gap_of_sides u v) ≤ℤ z) (sym (zero_scaled (pos 2 *ℤ (numbers_of tech).unit))) less)

-- what two boxes have in common
pub common_in_grains : (tech : Tech) (u v : Sides)
    → common (sides_in_grains tech u) (sides_in_grains tech v) ≡ sides_in_grains tech (common u v)
common_in_grains tech u v =
    let s : ℤ = pos 2 *ℤ (numbers_of tech).unit in
    let low = scale_positive tech in
    same_sides (common (sides_in_grains tech u) (sides_in_grains tech v)) (sides_in_grains tech (common u v))
    (max_scaled s u.left v.left low) (min_scaled s u.right v.right low) (max_scaled s u.bottom v.bottom low)
    (min_scaled s u.top v.top low)

-- a margin
pub margin_in_grains : (tech : Tech) (a m b : ℤ) → (a +ℤ m) ≤ℤ b → (grains tech a +ℤ grains tech m) ≤ℤ grains tech b
margin_in_grains tech a m b h =
    let s : ℤ = pos 2 *ℤ (numbers_of tech).unit in
    subst (λ z. z ≤ℤ grains tech b) (sum_scaled s a m (scale_positive tech))
    (scaled s (a +ℤ m) b (scale_positive tech) h)

pub margin_from_grains : (tech : Tech) (a m b : ℤ) → (grains tech a +ℤ grains tech m) ≤ℤ grains tech b → (a +ℤ m) ≤ℤ b
margin_from_grains tech a m b h =
    let s : ℤ = pos 2 *ℤ (numbers_of tech).unit in
    unscaled s (a +ℤ m) b (scale_positive tech)
    (subst (λ z. z ≤ℤ grains tech b) (sym (sum_scaled s a m (scale_positive tech))) h)

pub encloses_in_grains : (tech : Tech) (u v : Sides) (m : ℤ) → EnclosesBy u v m
    → EnclosesBy (sides_in_grains tech u) (sides_in_grains tech v) (grains tech m)
encloses_in_grains tech u v m h = record {
  left = margin_in_grains tech u.left m v.left h.left;
  right = margin_in_grains tech v.right m u.right h.right;
  bottom = margin_in_grains tech u.bottom m v.bottom h.bottom;
  top = margin_in_grains tech v.top m u.top h.top;
}

pub encloses_from_grains : (tech : Tech) (u v : Sides) (m : ℤ)
    → EnclosesBy (sides_in_grains tech u) (sides_in_grains tech v) (grains tech m) → EnclosesBy u v m
encloses_from_grains tech u v m h = record {
  left = margin_from_grains tech u.left m v.left h.left;
  right = margin_from_grains tech v.right m u.right h.right;
  bottom = margin_from_grains tech u.bottom m v.bottom h.bottom;
  top = margin_from_grains tech v.top m u.top h.top;
}

pub length_in_grains : (tech : Tech) (a b n : ℤ) → (a -ℤ b) ≡ n → (grains tech a -ℤ grains tech b) ≡ grains tech n
length_in_grains tech a b n e = difference_scaled (pos 2 *ℤ (numbers_of tech).unit) a b (scale_positive tech)
    ∙ ap (grains tech) e

pub grains_positive : (tech : Tech) (n : ℤ) → pos 1 ≤ℤ n → pos 1 ≤ℤ grains tech n
grains_positive tech n low =
    let s : ℤ = pos 2 *ℤ (numbers_of tech).unit in
    let more = scaled s (pos 1) n (scale_positive tech) low in
    let one : (pos 1 *ℤ s) ≡ s = omega (arith, ints) in
    let least = scale_positive tech in
    omega (arith, ints, more, one, least)

-- an exact margin
pub margin_exact : (tech : Tech) (p q a m b : ℤ) → p ≡ grains tech a → q ≡ grains tech b → (a +ℤ m) ≡ b
    → (p +ℤ grains tech m) ≤ℤ q
margin_exact tech p q a m b e f h =
    let there = margin_in_grains tech a m b (omega (arith, ints, h)) in
    subst (λ (x : ℤ). (x +ℤ grains tech m) ≤ℤ q) (sym e)
    (subst (λ (y : ℤ). (grains tech a +ℤ grains tech m) ≤ℤ y) (sym f) there)
