-- Boxes have one list of first breaks, which is empty where the rules are kept.
use Rattle.std.proofs.Common.{◌≡◌, ◌↔◌, ℕ, zero, suc, ◌≤◌, ◌⊎◌, inl, inr, Bool, IsTrue, List, [], ◌∷◌, All, Contains}
use Rattle.std.proofs.{Common.{length, get_or, refl, sym, ap, ◌∙◌, subst, arith}, lemmas.Bool.Decides.same_from_decides}
use Rattle.std.proofs.lemmas.List.{get_or_default, Elements.{All-contains, Contains-append_right}}
use Rattle.lam_geom.specs.declared.boxes.MaskBox.{MaskBox}
use Rattle.rule_table.specs.declared.technology.Tech.{Tech}
use Rattle.rule_breaks.specs.{declared.rule.Break.Break, Breaks.KeepRules, Lists.{AreFirstBreaks, AreBreaksInOrder}}
use Rattle.rule_breaks.specs.Lists.{IsBefore, IsBroken, IsLeftOut}
use Rattle.flat_check.proofs.{FirstListed.{after_head, head_or_later}, Listed.{chained, compared, never}}

-- ---- in a list or not

contains_or : (xs : List Break) (y : Break) → Contains xs y ⊎ (Contains xs y → ⊥)
contains_or [] y = inr (λ there. omega (arith, there.1))
contains_or (x ∷ xs) y = go (contains_or xs y) (compared x y) where
  beside : (x ≡ y → ⊥) → (Contains xs y → ⊥) → Contains (x ∷ xs) y → ⊥
  beside apart none there = elim (head_or_later x xs y there) [ inl e ↦ apart e | inr later ↦ none later ]

  go : Contains xs y ⊎ (Contains xs y → ⊥) → IsBefore x y ⊎ ((x ≡ y) ⊎ IsBefore y x)
      → Contains (x ∷ xs) y ⊎ (Contains (x ∷ xs) y → ⊥)
  go (inl there) c = inl (Contains-append_right (x ∷ []) xs y there)
  go (inr not) (inl less) = inr (beside (λ e. never y (subst (λ (z : Break). IsBefore z y) e less)) not)
  go (inr not) (inr (inl here)) = inl (zero, omega arith, here)
  go (inr not) (inr (inr less)) = inr (beside (λ e. never y (subst (IsBefore y) e less)) not)

-- ---- two lists

-- each of one list is in another, or is after all of it where that has as many as it may
abbrev AreAmong : ℕ → List Break → List Break → Type 0
AreAmong most xs ys = (z : Break) → Contains xs z → Contains ys z
    ⊎ ((length ys ≡ most) × All (λ (y : Break). IsBefore y z) ys)

tail_among : (most : ℕ) (x y : Break) (xs ys : List Break) → x ≡ y → AreBreaksInOrder (x ∷ xs)
    → AreAmong (suc most) (x ∷ xs) (y ∷ ys) → AreAmong most xs ys
tail_among most x y xs ys same h among z there = elim (among z (Contains-append_right (x ∷ []) xs z there)) [
  | inl in_both ↦ elim (head_or_later y ys z in_both) [
    | inl here ↦ absurd (never z (subst (λ (w : Break). IsBefore w z) (same ∙ here) (after_head x xs z h there)))
    | inr later ↦ inl later
  ]
  | inr full ↦ inr (omega (arith, full.0), λ k d lt. full.1 (suc k) d (omega (arith, lt)))
]

-- the head of one is not before that of the other
not_before : (most : ℕ) (x y : Break) (xs ys : List Break) → AreBreaksInOrder (y ∷ ys)
    → AreAmong most (x ∷ xs) (y ∷ ys) → IsBefore x y → ⊥
not_before most x y xs ys h among less = elim (among x (zero, omega arith, refl)) [
  | inl there ↦ elim (head_or_later y ys x there) [
    | inl here ↦ never y (subst (λ (z : Break). IsBefore z y) (sym here) less)
    | inr later ↦ never y (chained y x y (after_head y ys x h later) less)
  ]
  | inr full ↦ never y (chained y x y (full.1 zero y (omega arith)) less)
]

same_lists : (most : ℕ) (xs ys : List Break) → length xs ≤ most → length ys ≤ most → AreBreaksInOrder xs
    → AreBreaksInOrder ys → AreAmong most xs ys → AreAmong most ys xs → xs ≡ ys
same_lists most [] [] fx fy hx hy a b = refl
same_lists most [] (y ∷ ys) fx fy hx hy a b =
    elim (b y (zero, omega arith, refl))
    [ inl there ↦ absurd (omega (arith, there.1)) | inr full ↦ absurd (omega (arith, full.0, fy)) ]
same_lists most (x ∷ xs) [] fx fy hx hy a b =
    elim (a x (zero, omega arith, refl))
    [ inl there ↦ absurd (omega (arith, there.1)) | inr full ↦ absurd (omega (arith, full.0, fx)) ]
same_lists zero (x ∷ xs) (y ∷ ys) fx fy hx hy a b = absurd (omega (arith, fx))
same_lists (suc most) (x ∷ xs) (y ∷ ys) fx fy hx hy a b = elim (compared x y) [
  | inl less ↦ absurd (not_before (suc most) x y xs ys hy a less)
  | inr more ↦ elim more [
    | inl same ↦
        let rest = same_lists most xs ys (omega (arith, fx)) (omega (arith, fy)) hx.1 hy.1
        (tail_among most x y xs ys same hx a) (tail_among most y x ys xs (sym same) hy b) in
        ap (λ (z : Break). z ∷ xs) same ∙ ap (λ (zs : List Break). y ∷ zs) rest
    | inr less ↦ absurd (not_before (suc most) y x ys xs hx b less)
  ]
]

module _ (tech : Tech) (boxes : List MaskBox) (most : ℕ) where
  among : (xs ys : List Break) (m n : Bool) → AreFirstBreaks tech boxes most xs m
      → AreFirstBreaks tech boxes most ys n → AreAmong most xs ys
  among xs ys m n h k z there = go (contains_or ys z) where
    go : Contains ys z ⊎ (Contains ys z → ⊥) → Contains ys z
        ⊎ ((length ys ≡ most) × All (λ (y : Break). IsBefore y z) ys)
    go (inl in_both) = inl in_both
    go (inr out) =
        let left : IsLeftOut tech boxes ys z =
        record { broken = All-contains (IsBroken tech boxes) xs z h.each there; out = out } in
        inr (
          k.full (k.left.1 (z, left)),
          λ i d lt.
              k.first z (get_or ys i d) left (i, lt, get_or_default ys i (get_or ys i d) d lt),
        )

  pub one_list : (xs ys : List Break) (m n : Bool) → AreFirstBreaks tech boxes most xs m
      → AreFirstBreaks tech boxes most ys n → (xs ≡ ys) × (m ≡ n)
  one_list xs ys m n h k =
      let same = same_lists most xs ys h.few k.few h.in_order k.in_order (among xs ys m n h k)
      (among ys xs n m k h) in (
        same,
        same_from_decides m n h.left (subst (λ (zs : List Break). IsTrue n ↔
            ((x : Break) × IsLeftOut tech boxes zs x)) (sym same) k.left),
      )

  pub kept_none : (xs : List Break) (m : Bool) → KeepRules tech boxes → AreFirstBreaks tech boxes most xs m → xs ≡ []
  kept_none [] m keep h = refl
  kept_none (x ∷ xs) m keep h = let first = h.each 0 x (omega arith) in absurd (keep first.rule x.a x.b first.broken)
