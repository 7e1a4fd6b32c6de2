-- A list of first breaks is empty only where the rules are kept, and else begins with the first break.
use Rattle.std.proofs.Common.{◌≡◌, ℕ, zero, suc, ◌≤◌, ◌⊎◌, inl, inr, Bool, List, [], ◌∷◌, Contains, refl}
use Rattle.std.proofs.{Common.{ap, subst, arith}, lemmas.List.Elements.All-contains}
use Rattle.lam_geom.specs.declared.boxes.MaskBox.{MaskBox}
use Rattle.rule_table.specs.declared.technology.Tech.{Tech}
use Rattle.rule_breaks.specs.{declared.rule.{Break.Break, Rule.Rule}, Breaks.{IsBreak, IsFirstBreak, IsNotAfter}}
use Rattle.rule_breaks.specs.{Breaks.KeepRules, Lists.{AreFirstBreaks, AreBreaksInOrder, IsBefore, IsBroken, place}}
use Rattle.flat_check.proofs.Listed.{chained, compared, never}

pub head_or_later : (x : Break) (xs : List Break) (y : Break) → Contains (x ∷ xs) y → (x ≡ y) ⊎ Contains xs y
head_or_later x xs y (zero, lt, e) = inl e
head_or_later x xs y (suc k, lt, e) = inr (k, omega (arith, lt), e)

pub after_head : (x : Break) (xs : List Break) (y : Break) → AreBreaksInOrder (x ∷ xs) → Contains xs y → IsBefore x y
after_head x xs y h there = All-contains (IsBefore x) xs y h.0 there

module _ (tech : Tech) (boxes : List MaskBox) (most : ℕ) where
  -- an empty list
  pub none_listed : (m : Bool) → 1 ≤ most → AreFirstBreaks tech boxes most [] m → KeepRules tech boxes
  none_listed m some h rule a b broken =
      let more =
      h.full (h.left.1 (
        place rule a b,
        record {
          broken = record { rule = rule; numbered = refl; broken = broken };
          out = λ there. omega (arith, there.1);
        },
      )) in
      omega (arith, more, some)

  -- the first of a list
  pub first_listed : (x : Break) (xs : List Break) (m : Bool) → AreFirstBreaks tech boxes most (x ∷ xs) m
      → IsFirstBreak tech boxes x
  first_listed x xs m h =
      record {
        rule = first.rule;
        numbered = first.numbered;
        broken = first.broken;
        least = λ other a b broken. go other a b broken (compared x (place other a b));
      } where
        first : IsBroken tech boxes x
        first = h.each 0 x (omega arith)

        go : (other : Rule) (a b : ℕ) → IsBreak tech boxes other a b
            → IsBefore x (place other a b) ⊎ ((x ≡ place other a b) ⊎ IsBefore (place other a b) x)
            → IsNotAfter x other a b
        go other a b broken (inl (inl less)) = inl less
        go other a b broken (inl (inr (e, inl less))) = inr (e, inl less)
        go other a b broken (inl (inr (e, inr (f, less)))) = inr (e, inr (f, omega (arith, less)))
        go other a b broken (inr (inl same)) =
            inr (
              ap (λ (z : Break). z.rule) same,
              inr
                  (ap (λ (z : Break). z.a) same, omega (arith, ap (λ (z : Break). z.b) same)),
            )
        go other a b broken (inr (inr before)) =
            let y = place other a b in
            let out : Contains (x ∷ xs) y → ⊥ = λ there. elim (head_or_later x xs y there) [
              | inl here ↦ never y (subst (IsBefore y) here before)
              | inr later ↦ never y (chained y x y before (after_head x xs y h.in_order later))
            ] in
            absurd (never x
            (chained x y x
            (h.first y x (record { broken = record { rule = other; numbered = refl; broken = broken }; out = out })
            (zero, omega arith, refl)) before))
