-- Layouts in which no two items i < j are too near one another are the clean ones.
use Rattle.std.proofs.Common.{◌≡◌, ◌==◌, ◌||◌, ℕ, ◌<◌, ◌≤◌, Bool, true, false, cond, ℤ, ◌≤ℤ◌, List, length, Option}
use Rattle.std.proofs.{Common.{Some, None, refl, inl, inr, arith}, lemmas.{Bool.cases_lt, Int.ints}}
use Rattle.std.specs.Prelude.{IfSome}
use Rattle.rule_table.specs.{declared.{technology.Tech.Tech, classes.Rule.Rule}, Technology.{numbers_of, spacing_of}}
use Rattle.rule_table.{specs.Technology.{margin_of, widest_of}, proofs.Margins.{margin_above, widest_above}}
use Rattle.sym_items.specs.{declared.items.{Item.Item, Coords.Coords}, Sides.gap_in}
use Rattle.pair_rules.specs.{Bound.{is_exempt, spacing_by, is_joined, bound_spacing}, Clean.IsClean}
use Rattle.pair_rules.proofs.CleanPairs.{clean_in_order, spaced_either}
use Rattle.coarse_grid.specs.Clash.{is_below, is_near, is_near_at}

pub by_lt : {P : Type 0} (a b : ℕ) → (a < b → P) → (b ≤ a → P) → P
by_lt a b below above = elim (cases_lt a b) [ inl h ↦ below h | inr h ↦ above h ]

-- a gap that is not below a spacing is at least that, and the other way round
at_least : (gap : ℤ) (o : Option ℤ) → is_below gap o ≡ false → IfSome o (λ s. s ≤ℤ gap)
at_least gap None h = tt
at_least gap (Some s) h = grind (arith, ints)

not_below : (gap : ℤ) (o : Option ℤ) → IfSome o (λ s. s ≤ℤ gap) → is_below gap o ≡ false
not_below gap None h = refl
not_below gap (Some s) h = grind (arith, ints)

-- no two items i < j are too near one another, so none are
pub all_clean : (tech : Tech) (c : Coords) (items : List Item)
    → ((i j : ℕ) → i < j → j < length items → is_near_at tech c items i j ≡ false) → IsClean tech c items
all_clean tech c items none = clean_in_order tech c items (λ i j lt among. at_least _ _ (none i j lt among))

-- and a clean layout has no clash
pub clean_not_near : (tech : Tech) (c : Coords) (items : List Item) (i j : ℕ) → IsClean tech c items
    → i < length items → j < length items → is_near_at tech c items i j ≡ false
clean_not_near tech c items i j clean i_among j_among = not_below _ _ (clean i j i_among j_among)

-- whether two items are too near one another does not depend on their order
pub near_either : (tech : Tech) (c : Coords) (a b : Item) → is_near tech c a b ≡ false → is_near tech c b a ≡ false
near_either tech c a b far = not_below _ _ (spaced_either tech c a b (at_least _ _ far))

-- a spacing is at most the widest
spacing_widest : (tech : Tech) (a b : Item) → IfSome (bound_spacing tech a b) (λ s. s ≤ℤ widest_of tech)
unfolding bound_spacing
spacing_widest tech a b =
    unless ((a.owner == b.owner) || is_joined a b) (spacing_by (spacing_of tech a.class b.class) a.net b.net)
    (widest_of tech)
    (ruled (spacing_of tech a.class b.class) a.net b.net (margin_of tech a.class) (widest_of tech)
    (margin_above (numbers_of tech) a.class b.class) (widest_above (numbers_of tech) a.class))
  where
    unless : (b : Bool) (o : Option ℤ) (w : ℤ) → IfSome o (λ s. s ≤ℤ w) → IfSome (cond b None o) (λ s. s ≤ℤ w)
    unless true o w h = tt
    unless false o w h = h

    ruled : (o : Option Rule) (net other : ℕ) (m w : ℤ) → IfSome o (λ r. r.s ≤ℤ m) → m ≤ℤ w
        → IfSome (spacing_by o net other) (λ s. s ≤ℤ w)
    ruled None net other m w h le = tt
    ruled (Some r) net other m w h le = unless (is_exempt r net other) (Some r.s) w (omega (arith, ints, h, le))

-- so items that are too near one another don't lie the widest spacing apart
pub near_not_wide : (tech : Tech) (c : Coords) (a b : Item) → is_near tech c a b ≡ true
    → widest_of tech ≤ℤ gap_in c a b → ⊥
near_not_wide tech c a b near wide =
    let f = not_below (gap_in c a b) (bound_spacing tech a b)
    (all_within (gap_in c a b) (widest_of tech) (bound_spacing tech a b) (spacing_widest tech a b) wide) in
    cc
  where
    all_within : (gap w : ℤ) (o : Option ℤ) → IfSome o (λ s. s ≤ℤ w) → w ≤ℤ gap → IfSome o (λ s. s ≤ℤ gap)
    all_within gap w None h wide = tt
    all_within gap w (Some s) h wide = omega (arith, ints, h, wide)
