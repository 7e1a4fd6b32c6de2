-- The order of the rules, and the first break of the first that is broken.
use Rattle.std.proofs.Common.{◌≡◌, ℕ, ◌-◌, ◌<◌, inl, inr, Option, Some, None, List, [], refl, sym, ap, ◌∙◌, subst, lit<}
use Rattle.std.proofs.{Common.arith, lemmas.Bool.cases_lt}
use Rattle.lam_geom.specs.declared.boxes.MaskBox.{MaskBox}
use Rattle.rule_table.specs.declared.technology.Tech.{Tech}
use Rattle.rule_breaks.specs.{declared.rule.{Break.Break, Rule.{Rule, TheVariants.Width}}, Breaks.{number_of, IsBreak}}
use Rattle.rule_breaks.specs.{Breaks.{IsFirstBreak, IsNotAfter, KeepRules}, Order.rule_of, Lists.{IsBefore, ListBefore}}
use Rattle.rule_breaks.specs.Lists.{place, place_of}
use Rattle.flat_check.specs.Ranges.{IsFirstFrom}

-- ---- rules by number

numbered : (rule : Rule) → rule_of (number_of rule) ≡ rule
numbered Width = refl
numbered rule = refl

-- no two rules have one number
pub one_number : (a b : Rule) → number_of a ≡ number_of b → a ≡ b
one_number a b e = sym (numbered a) ∙ ap rule_of e ∙ numbered b

-- the numbers are those from 1 to 12
pub number_within : (rule : Rule) → (0 < number_of rule) × (number_of rule < 13)
number_within Width = (lit< tt, lit< tt)
number_within rule = (lit< tt, lit< tt)

-- how many rules are left, from this one on
abbrev pub left_from : Option Rule → ℕ
left_from (Some rule) = 13 - number_of rule
left_from None = 0

-- ---- where no break is listed

module _ (tech : Tech) (boxes : List MaskBox) where
  -- none is before the place
  none_before : (next : Break) → ListBefore tech boxes next [] → (rule : Rule) (a b : ℕ) → IsBreak tech boxes rule a b
      → IsBefore (place rule a b) next → ⊥
  none_before next h rule a b broken before = let there = h.complete (place rule a b)
      (record { rule = rule; numbered = refl; broken = broken }) before in omega (arith, there.1)

  pub keep_all : ListBefore tech boxes (place_of None) [] → KeepRules tech boxes
  keep_all h rule a b broken = none_before (place_of None) h rule a b broken (inl (number_within rule).1)

  -- the first break of the first rule that is broken
  pub first_of_all : (rule : Rule) (to : ℕ) (first : Break) → ListBefore tech boxes (place_of (Some rule)) []
      → IsFirstFrom tech boxes rule 0 to first → IsFirstBreak tech boxes first
  first_of_all rule to first before found = record {
    rule = rule;
    numbered = found.of_rule;
    broken = found.broken;
    least = not_after;
  } where
    not_after : (other : Rule) (a b : ℕ) → IsBreak tech boxes other a b → IsNotAfter first other a b
    not_after other a b broken =
        let own = found.of_rule in
        elim (cases_lt (number_of other) (number_of rule)) [
          | inl less ↦ absurd (none_before (place_of (Some rule)) before other a b broken (inl less))
          | inr more ↦ elim (cases_lt (number_of rule) (number_of other)) [
            | inl after ↦ inl (omega (arith, own, after))
            | inr not_past ↦
                let same : other ≡ rule = one_number other rule (omega arith) in
                inr (
                  own ∙ ap number_of (sym same),
                  found.least a b (omega arith) (subst (λ (r : Rule). IsBreak tech boxes r a b) same broken),
                )
          ]
        ]
