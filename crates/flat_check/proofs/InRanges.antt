-- Searches in ranges of boxes, one after another.
use Rattle.std.proofs.Common.{◌≡◌, ℕ, ◌+◌, ◌<◌, ◌≤◌, inl, inr, Option, Some, None, List, [], ◌∷◌}
use Rattle.std.{proofs.{Common.{sym, subst, arith}, lemmas.Bool.cases_lt}, specs.List.AllZip}
use Rattle.lam_geom.specs.declared.boxes.MaskBox.{MaskBox}
use Rattle.rule_table.specs.declared.technology.Tech.{Tech}
use Rattle.crossings.specs.Pairs.{Least}
use Rattle.par_phase.{specs.{declared.ranges.Range.Range, Ranges.AreRanges}, proofs.InRanges.ranges_within}
use Rattle.flat_check.specs.Ranges.{IsBrokenBefore, IsFirstIn, IsFirstUnlessBefore, first_or, first_some}
use Rattle.rule_breaks.specs.{declared.rule.{Break.Break, Rule.Rule}, Breaks.{number_of, IsBreak}}

module _ (tech : Tech) (boxes : List MaskBox) (rule : Rule) where
  -- one more first box, with no break
  pub none_more : (from n : ℕ) → ((a b : ℕ) → from ≤ a → a < n → IsBreak tech boxes rule a b → ⊥)
      → ((b : ℕ) → IsBreak tech boxes rule n b → ⊥) → (a b : ℕ) → from ≤ a → a < n + 1 → IsBreak tech boxes rule a b
      → ⊥
  none_more from n before here a b low lt broken = elim (cases_lt a n) [
    | inl less ↦ before a b low less broken
    | inr more ↦ let e : a ≡ n = omega arith in here b (subst (λ (k : ℕ). IsBreak tech boxes rule k b) e broken)
  ]

  -- the first box with one
  pub first_there : (from to a b number : ℕ) → number ≡ number_of rule → from ≤ a → a < to
      → ((c d : ℕ) → from ≤ c → c < a → IsBreak tech boxes rule c d → ⊥) → Least (IsBreak tech boxes rule a) (Some b)
      → IsFirstIn tech boxes rule from to (Some (record { rule = number; a = a; b = b }))
  first_there from to a b number is low high before least = record {
    of_rule = is;
    low = low;
    high = high;
    broken = least.0;
    least = λ c d from_c broken. elim (cases_lt a c) [
      | inl less ↦ inl less
      | inr more ↦ elim (cases_lt c a) [
        | inl under ↦ absurd (before c d from_c under broken)
        | inr over ↦ let e : a ≡ c =
            omega arith in inr (e, least.1 d (subst (λ (k : ℕ). IsBreak tech boxes rule k d) (sym e) broken))
      ]
    ];
  }

  -- no break before a range and none in it
  none_after : (from mid : ℕ) → (IsBrokenBefore tech boxes rule from → ⊥)
      → ((a b : ℕ) → from ≤ a → a < mid → IsBreak tech boxes rule a b → ⊥) → IsBrokenBefore tech boxes rule mid → ⊥
  none_after from mid none within h = elim (cases_lt h.a from) [
    | inl less ↦ none (record { a = h.a; b = h.b; before = less; broken = h.broken })
    | inr past ↦ within h.a h.b past h.before h.broken
  ]

  -- a range, and what is after it
  pub first_both : (from mid to : ℕ) (first rest : Option Break) → from ≤ mid → mid ≤ to
      → IsFirstUnlessBefore tech boxes rule from mid first → IsFirstUnlessBefore tech boxes rule mid to rest
      → IsFirstUnlessBefore tech boxes rule from to (first_or first rest)
  first_both from mid to (Some first) rest le more h k none =
      let here = h none in
      record {
        of_rule = here.of_rule;
        low = here.low;
        high = omega (arith, here.high, more);
        broken = here.broken;
        least = here.least;
      }
  first_both from mid to None None le more h k none =
      let here = h none in let there = k (none_after from mid none here) in
      λ a b low high broken.
      elim (cases_lt a mid) [ inl less ↦ here a b low less broken | inr past ↦ there a b past high broken ]
  first_both from mid to None (Some rest) le more h k none =
      let here = h none in let there = k (none_after from mid none here) in
      record {
        of_rule = there.of_rule;
        low = omega (arith, there.low, le);
        high = there.high;
        broken = there.broken;
        least = λ a b low broken.
            elim (cases_lt a mid) [
              | inl less ↦ absurd (here a b low less broken)
              | inr past ↦
                  there.least a b past broken
            ];
      }

  -- all ranges
  pub first_in_all : (Q : Range → Option Break → Type 0)
      → ((range : Range) (first : Option Break) → Q range first
      → IsFirstUnlessBefore tech boxes rule range.from range.to first) → (ranges : List Range) (found : List
      (Option Break)) (from to : ℕ)
      → AreRanges from ranges to → AllZip Q ranges found
      → IsFirstUnlessBefore tech boxes rule from to (first_some found)
  first_in_all Q says [] [] from to are zipped none = λ a b low high broken. absurd (omega (arith, are, low, high))
  first_in_all Q says [] (first ∷ found) from to are zipped none = absurd zipped
  first_in_all Q says (range ∷ ranges) [] from to are zipped none = absurd zipped
  first_in_all Q says (range ∷ ranges) (first ∷ found) from to are zipped none =
      let here = subst (λ (n : ℕ). IsFirstUnlessBefore tech boxes rule n range.to first) are.0
      (says range first zipped.0) in
      first_both from range.to to first (first_some found) (omega (arith, are.0, are.1))
      (ranges_within range.to to ranges are.2).0 here
      (first_in_all Q says ranges found range.to to are.2 zipped.1) none

  -- nothing is before the first box
  pub from_first : (to : ℕ) (first : Option Break) → IsFirstUnlessBefore tech boxes rule 0 to first
      → IsFirstIn tech boxes rule 0 to first
  from_first to first h = h (λ before. let lt = before.before in omega (arith, lt))
