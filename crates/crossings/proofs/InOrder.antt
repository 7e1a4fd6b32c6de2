-- The crossings so far, in order of their diffusion.
use Rattle.std.proofs.Common.{◌≡◌, ℕ, ◌+◌, ◌<◌, inl, inr, List, [], ◌∷◌, ◌++◌, length, map, get_or, sym, ◌∙◌, subst, ap}
use Rattle.std.proofs.{Common.{All, arith}, lemmas.{Bool.cases_lt, List.{map-append, length-append}}}
use Rattle.std.proofs.lemmas.List.{get_or_append_left, get_or-append-add, Elements.{All-push, All-weaker, All-map}}
use Rattle.std.proofs.lemmas.List.Elements.{All-get_or, Contains-append_left, Contains-push}
use Rattle.lam_geom.specs.declared.boxes.MaskBox.{MaskBox}
use Rattle.rule_table.specs.declared.technology.Tech.{Tech}
use Rattle.crossing_model.specs.declared.crossing.Crossing.{Crossing}
use Rattle.crossing_model.specs.Crossings.{IsIncreasing, IsMeeting, IsCrossing, AreCrossings}
use Rattle.crossings.specs.{declared.pairs.Pair.Pair, Pairs.{AreCrossingsBelow, AddsCrossing}}

-- one more number, greater than all others
increasing_push : (numbers : List ℕ) (k : ℕ) → IsIncreasing numbers → All (λ n. n < k) numbers
    → IsIncreasing (numbers ++ k ∷ [])
increasing_push numbers k h below i j lt within =
    let size = length-append numbers (k ∷ []) in
    elim (cases_lt j (length numbers)) [
      | inl inside ↦
          let at_i = get_or_append_left numbers (k ∷ []) 0 i (omega arith) in
          let at_j = get_or_append_left numbers (k ∷ []) 0 j inside in
          let old = h i j lt inside in
          omega arith
      | inr outside ↦
          let last : j ≡ length numbers + 0 = omega arith in
          let at_i = get_or_append_left numbers (k ∷ []) 0 i (omega arith) in
          let at_j : get_or (numbers ++ k ∷ []) j 0 ≡ k = ap (λ (n : ℕ). get_or (numbers ++ k ∷ []) n 0) last
          ∙ get_or-append-add numbers (k ∷ []) 0 0 in
          let less = All-get_or (λ n. n < k) numbers i 0 (omega arith) below in
          omega arith
    ]

pub below_none : (tech : Tech) (boxes : List MaskBox) → AreCrossingsBelow tech boxes 0 []
below_none tech boxes = record {
  each = λ k d lt. absurd (omega arith);
  in_order = λ i j lt within. absurd (omega arith);
  below = λ k d lt. absurd (omega arith);
  complete = λ p d h lt. absurd (omega arith);
}

-- one more box, which is the diffusion of no crossing
pub below_skip : (tech : Tech) (boxes : List MaskBox) (n : ℕ) (crossings : List Crossing)
    → AreCrossingsBelow tech boxes n crossings → ((p : ℕ) → IsMeeting tech boxes p n → ⊥)
    → AreCrossingsBelow tech boxes (n + 1) crossings
below_skip tech boxes n crossings h none = record {
  each = h.each;
  in_order = h.in_order;
  below = All-weaker (λ (c : Crossing). c.diffusion < n) (λ (c : Crossing). c.diffusion < n + 1) (λ c lt. omega arith)
      crossings h.below;
  complete = λ p d met lt. elim (cases_lt d n) [
    | inl less ↦ h.complete p d met less
    | inr more ↦ let e : d ≡ n = omega arith in absurd (none p (subst (λ (k : ℕ). IsMeeting tech boxes p k) e met))
  ];
}

-- one more box, which is the diffusion of one crossing
pub below_push : (tech : Tech) (boxes : List MaskBox) (n : ℕ) (pair : Pair) (old new : List Crossing)
    → AreCrossingsBelow tech boxes n old → AddsCrossing tech boxes pair old new → pair.diffusion ≡ n
    → ((p : ℕ) → IsMeeting tech boxes p n → p ≡ pair.poly) → AreCrossingsBelow tech boxes (n + 1) new
below_push tech boxes n pair old new h adds at only =
    let c = adds.added in
    let here : c.diffusion ≡ n = adds.diffusion ∙ at in
    let diffusions = λ (x : Crossing). x.diffusion in
    subst (AreCrossingsBelow tech boxes (n + 1)) (sym adds.items) (record {
      each = All-push (IsCrossing tech boxes) old c h.each adds.is_crossing;
      in_order = subst IsIncreasing (sym (map-append diffusions old (c ∷ [])))
          (increasing_push (map diffusions old) c.diffusion h.in_order
          (All-map (λ k. k < c.diffusion) diffusions old
          (All-weaker (λ (x : Crossing). x.diffusion < n) (λ (x : Crossing). x.diffusion < c.diffusion)
          (λ x lt. omega arith) old h.below)));
      below = All-push (λ (x : Crossing). x.diffusion < n + 1) old c
          (All-weaker (λ (x : Crossing). x.diffusion < n) (λ (x : Crossing). x.diffusion < n + 1)
          (λ x lt. omega arith) old h.below) (omega arith);
      complete = λ p d met lt. elim (cases_lt d n) [
        | inl less ↦ let found =
            h.complete p d met less in (found.0, Contains-append_left old (c ∷ []) found.0 found.1, found.2, found.3)
        | inr more ↦
            let e : d ≡ n = omega arith in
            let same = only p (subst (λ (k : ℕ). IsMeeting tech boxes p k) e met) in
            (c, Contains-push old c, adds.poly ∙ sym same, here ∙ sym e)
      ];
    })

-- all boxes
pub below_all : (tech : Tech) (boxes : List MaskBox) (n : ℕ) (crossings : List Crossing) → n ≡ length boxes
    → AreCrossingsBelow tech boxes n crossings → AreCrossings tech boxes crossings
below_all tech boxes n crossings all h = record {
  each = h.each;
  in_order = h.in_order;
  complete = λ p d met. let among = met.overlap.diffusion.among in h.complete p d met (omega arith);
}
