-- A list of breaks rule by rule, and where nets are looked at.
use Rattle.std.proofs.Common.{ℕ, Bool, true, false, zero, suc, ◌<◌, ◌≤◌, inl, inr, Some, None, List, [], ◌∷◌, length}
use Rattle.std.proofs.{Common.{get_or, refl, subst, arith, Contains, All}, lemmas.Bool.cases_lt}
use Rattle.lam_geom.specs.declared.boxes.MaskBox.{MaskBox}
use Rattle.rule_table.specs.declared.technology.Tech.{Tech}
use Rattle.crossing_model.specs.Crossings.{AreProper}
use Rattle.rule_breaks.specs.declared.rule.{Break.Break, Rule.{Rule, TheVariants.{Width, CutSize, ProperCrossing}}}
use Rattle.rule_breaks.specs.{declared.rule.Rule.TheVariants.{PolyToDiffusion, CutCover}, Breaks.{number_of, IsBreak}}
use Rattle.rule_breaks.specs.{Breaks.ShapesHold, Lists.{AreBreaksInOrder, BeginsAfter, IsBefore, IsBroken, ListBefore}}
use Rattle.rule_breaks.specs.{Lists.{place, place_of}, Order.{IsKept, next_of}}
use Rattle.flat_check.specs.{declared.{flat_layout.FlatLayout.FlatLayout, trees.Trees.Trees}, FlatLayouts.IsOnNets}
use Rattle.flat_check.specs.{Trees.{AreRuleTreesOf, ArePerhapsProper}, Ranges.IsFirstIn}
use Rattle.flat_check.proofs.{Among.boxes_of_break, Listed.past_rule, Shapes.{after_shapes, shapes_where}}

-- in order of rules, all of a list come after a number where the first does
begun : (n : ℕ) (list : List Break) → AreBreaksInOrder list → BeginsAfter n list → (y : Break) → Contains list y
    → n < y.rule
begun n [] h b y there = absurd (omega (arith, there.1))
begun n (x ∷ xs) h b y (zero, lt, e) = subst (λ (z : Break). n < z.rule) e b
begun n (x ∷ xs) h b y (suc k, lt, e) =
    subst (λ (z : Break). n < z.rule) e (go (get_or xs k y) (h.0 k y (omega (arith, lt)))) where
      go : (z : Break) → IsBefore x z → n < z.rule
      go z (inl less) = omega (arith, b, less)
      go z (inr (same, after)) = omega (arith, b, same)

module _ (tech : Tech) (boxes : List MaskBox) where
  -- before a rule on nets, where no rule on shapes is broken
  shapes_listed : (rule : Rule) (list : List Break) → IsOnNets rule → BeginsAfter 5 list
      → ListBefore tech boxes (place_of (Some rule)) list → (earlier : Rule) → number_of earlier ≤ 5
      → IsKept tech boxes earlier
  shapes_listed rule list on begins h earlier low a b broken =
      let x : Break = place earlier a b in
      let after = after_shapes rule on in
      let there = h.complete x (record { rule = earlier; numbered = refl; broken = broken })
      (inl (omega (arith, low, after))) in
      let above = begun 5 list h.in_order begins x there in
      omega (arith, above, low)

  -- a break of a rule on shapes
  no_shapes : (rule : Rule) (a b : ℕ) → number_of rule ≤ 5 → IsBreak tech boxes rule a b → ShapesHold tech boxes → ⊥
  no_shapes Width a b low h shapes = shapes.widths a h.0
  no_shapes CutSize a b low h shapes = shapes.cuts a h.0
  no_shapes ProperCrossing a b low (lt, inl h) shapes = h.improper (shapes.crossings a b h.meeting)
  no_shapes ProperCrossing a b low (lt, inr h) shapes = h.improper (shapes.crossings b a h.meeting)
  no_shapes PolyToDiffusion a b low h shapes = shapes.poly a b h.1
  no_shapes CutCover a b low h shapes = shapes.covers a h.0
  no_shapes rule a b low h shapes = omega (arith, low)

  shapes_first : (list : List Break) → All (λ (x : Break). IsBroken tech boxes x) list → (BeginsAfter 5 list → ⊥)
      → ShapesHold tech boxes → ⊥
  shapes_first [] each not shapes = not tt
  shapes_first (x ∷ xs) each not shapes =
      let first = each 0 x (omega arith) in
      elim (cases_lt 5 x.rule) [
        | inl after ↦ not after
        | inr more ↦
            no_shapes first.rule x.a x.b (omega (arith, first.numbered, more)) first.broken shapes
      ]

  on_nets : (rule : Rule) (a b : ℕ) → IsOnNets rule → IsBreak tech boxes rule a b → ShapesHold tech boxes
  on_nets rule a b (inl e) h = (subst (λ (r : Rule). IsBreak tech boxes r a b) e h).0
  on_nets rule a b (inr (inl e)) h = (subst (λ (r : Rule). IsBreak tech boxes r a b) e h).0
  on_nets rule a b (inr (inr e)) h = (subst (λ (r : Rule). IsBreak tech boxes r a b) e h).0

  -- a rule on nets is not looked at
  pub net_rule_passed : (rule : Rule) (list : List Break) → IsOnNets rule → (BeginsAfter 5 list → ⊥)
      → ListBefore tech boxes (place_of (Some rule)) list → ListBefore tech boxes (place_of (next_of rule)) list
  net_rule_passed rule list on not h =
      past_rule tech boxes rule 0 list
      (λ a b low broken. shapes_first list (λ k d lt. (h.each k d lt).0) not (on_nets rule a b on broken)) h

  -- a rule that is kept is passed
  pub rule_kept : (rule : Rule) (list : List Break) → IsFirstIn tech boxes rule 0 (length boxes) None
      → ListBefore tech boxes (place_of (Some rule)) list → ListBefore tech boxes (place_of (next_of rule)) list
  rule_kept rule list none h = past_rule tech boxes rule 0 list
      (λ a b low broken. let two = boxes_of_break tech boxes rule a b broken in none a b (omega arith)
      (omega (arith, two.0, two.1)) broken) h

  -- a rule is passed once all first boxes are
  pub rule_passed : (rule : Rule) (n : ℕ) (list : List Break) → length boxes ≤ n
      → ListBefore tech boxes (place rule n 0) list → ListBefore tech boxes (place_of (next_of rule)) list
  rule_passed rule n list end h =
      past_rule tech boxes rule n list
      (λ a b low broken. let two = boxes_of_break tech boxes rule a b broken in omega (arith, two.0, two.1, low, end))
      h

-- where no crossing is broken all are proper
proper_by : (tech : Tech) (boxes : List MaskBox) (proper : Bool) → ArePerhapsProper tech boxes proper
    → IsKept tech boxes ProperCrossing → AreProper tech boxes
proper_by tech boxes true h kept = h
proper_by tech boxes false h kept = absurd (kept h.a h.b h.bad)

-- where a rule on nets is looked at
pub shapes_before : (flat : FlatLayout) (trees : Trees) → AreRuleTreesOf flat trees → (rule : Rule) (list : List Break)
    → BeginsAfter 5 list → ListBefore flat.tech.now flat.boxes.now (place_of (Some rule)) list → IsOnNets rule
    → ShapesHold flat.tech.now flat.boxes.now
shapes_before flat trees are rule list begins before on =
    let kept = shapes_listed flat.tech.now flat.boxes.now rule list on begins before in
    shapes_where flat.tech.now flat.boxes.now (proper_by flat.tech.now flat.boxes.now trees.proper are.proper
    (kept ProperCrossing (omega arith))) kept
