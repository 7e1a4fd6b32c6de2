-- Clean layouts, looked at pair by pair.
use Rattle.std.proofs.Common.{◌≡◌, ℕ, ◌<◌, ℤ, ◌≤ℤ◌, List, length, Option, None, refl, sym, subst, inl, inr, arith}
use Rattle.std.{proofs.{Common.eq-eqb, lemmas.{Int.{ints, clamps}, Bool.cases_lt}}, specs.Prelude.IfSome}
use Rattle.rule_table.specs.declared.technology.Tech.{Tech}
use Rattle.sym_items.specs.{declared.items.{Item.Item, Coords.Coords}, Sides.gap_in}
use Rattle.pair_rules.specs.{Bound.{item_at, bound_spacing}, Clean.{IsSpaced, IsClean}}
use Rattle.pair_rules.proofs.EitherOrder.{bound_symmetric}

gap_symmetric : (c : Coords) (a b : Item) → gap_in c a b ≡ gap_in c b a
gap_symmetric c a b = omega (arith, ints, clamps)

-- what two items keep does not depend on their order
pub spaced_either : (t : Tech) (c : Coords) (a b : Item) → IsSpaced t c a b → IsSpaced t c b a
spaced_either t c a b h =
    let O : Option ℤ → Type 0 = λ o. IfSome o (λ s. s ≤ℤ gap_in c b a) in
    let G : ℤ → Type 0 = λ g. IfSome (bound_spacing t a b) (λ s. s ≤ℤ g) in
    subst O (bound_symmetric t a b) (subst G (gap_symmetric c a b) h)

-- an item is not bound to itself
not_bound_to_itself : (t : Tech) (a : Item) → bound_spacing t a a ≡ None
unfolding bound_spacing
not_bound_to_itself t a = let same = eq-eqb a.owner a.owner refl in rw same refl

spaced_itself : (t : Tech) (c : Coords) (a : Item) → IsSpaced t c a a
spaced_itself t c a =
    let O : Option ℤ → Type 0 = λ o. IfSome o (λ s. s ≤ℤ gap_in c a a) in
    subst O (sym (not_bound_to_itself t a)) tt

by_order : {P : Type 0} (m n : ℕ) → (m < n → P) → (m ≡ n → P) → (n < m → P) → P
by_order m n less same more =
    elim (cases_lt m n) [
      | inl below ↦ less below
      | inr above ↦ elim (cases_lt n m) [ inl below ↦ more below | inr again ↦ same (omega (arith, above, again)) ]
    ]

-- a layout is clean where each pair in order keeps its spacing
pub clean_in_order : (t : Tech) (c : Coords) (items : List Item)
    → ((i j : ℕ) → i < j → j < length items → IsSpaced t c (item_at items i) (item_at items j)) → IsClean t c items
clean_in_order t c items h i j i_among j_among =
    let a = item_at items i in
    let b = item_at items j in
    let S : ℕ → Type 0 = λ k. IsSpaced t c a (item_at items k) in
    by_order i j
    (λ before. h i j before j_among)
    (λ same. subst S same (spaced_itself t c a))
    (λ after. spaced_either t c b a (h j i after i_among))
