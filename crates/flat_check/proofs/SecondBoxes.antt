-- The breaks of a rule with a first box, by all boxes with which it breaks the rule.
use Rattle.std.proofs.Common.{◌≡◌, ℕ, ◌+◌, ◌<◌, ◌≤◌, inl, inr, Some, List, ◌∷◌, ◌++◌, [], All, Contains, length, get_or}
use Rattle.std.proofs.{Common.{refl, sym, ◌∙◌, subst, ap, arith, eqb}, lemmas.{Bool.cases_lt, List.get_or_default}}
use Rattle.std.proofs.lemmas.List.{length_push, Elements.{All-contains, Contains-get_or}, Sorted.Contains-permutation}
use Rattle.std.proofs.lemmas.List.{Sorted.IsPermutation-sym, Kept.{AllPairs-from_increasing, Contains-dedup_nat}}
use Rattle.std.proofs.lemmas.{List.Kept.Contains-from_dedup, Map.Keys.IsStrictlyIncreasing-dedup}
use Rattle.std.specs.{List.{dedup, Sorted.{IsPermutation, IsSorted}}, Ordering.nat_cmp}
use Rattle.box_tree.specs.Found.{AreGathered}
use Rattle.lam_geom.specs.declared.boxes.MaskBox.{MaskBox}
use Rattle.rule_table.specs.declared.technology.Tech.{Tech}
use Rattle.crossings.specs.Pairs.{Least}
use Rattle.rule_breaks.specs.{declared.rule.{Break.Break, Rule.Rule}, Breaks.IsBreak, Lists.{IsCut, ListBefore, place}}
use Rattle.flat_check.specs.{Ranges.IsBrokenBefore, Partners.{ArePartners, BreakTogether}}
use Rattle.flat_check.proofs.{Among.boxes_of_break, Listed.{one_more, past_first, past_seconds}}

at_number : (xs : List ℕ) (c : ℕ) (there : Contains xs c) → get_or xs there.0 0 ≡ c
at_number xs c there = get_or_default xs there.0 0 c there.1 ∙ there.2

-- ---- the second box, or that a box before is the first

module _ (tech : Tech) (boxes : List MaskBox) (rule : Rule) (a : ℕ) where
  -- one that is no less is the second box of a break
  second_box : (b : ℕ) → a ≤ b → BreakTogether tech boxes rule a b → IsBreak tech boxes rule a b
  second_box b le (inl h) = h
  second_box b le (inr h) =
      let two = boxes_of_break tech boxes rule b a h in
      let e : a ≡ b = omega (arith, two.0, le) in
      subst (λ (n : ℕ). IsBreak tech boxes rule a n) e (subst (λ (n : ℕ). IsBreak tech boxes rule n a) (sym e) h)

  module _ (start found : List ℕ) (none : start ≡ []) (gathered : AreGathered (BreakTogether tech boxes rule a) start
      found) where
    together : (b : ℕ) → Contains found b → BreakTogether tech boxes rule a b
    together b there = elim (gathered.sound b there) [
      | inl before ↦ absurd (let at = before.1 in omega (arith, at, ap length none))
      | inr broken ↦ broken
    ]

    pub none_second : found ≡ [] → (b : ℕ) → IsBreak tech boxes rule a b → ⊥
    none_second empty b h = let there = gathered.complete b (inl h) in omega (arith, there.1, ap length empty)

    module _ (b : ℕ) (there : Contains found b) (least : All (λ (c : ℕ). b ≤ c) found) where
      pub least_second : a ≤ b → Least (IsBreak tech boxes rule a) (Some b)
      least_second le = (
        second_box b le (together b there),
        λ c broken. All-contains (λ (n : ℕ). b ≤ n) found c least (gathered.complete c (inl broken)),
      )

      -- where the least is before the box, no box from here to there is the first
      pub broken_before : (from : ℕ) → b < a → ((c d : ℕ) → from ≤ c → c < a → IsBreak tech boxes rule c d → ⊥)
          → IsBrokenBefore tech boxes rule from
      broken_before from less kept = elim (together b there) [
        | inl h ↦ absurd (let two = boxes_of_break tech boxes rule a b h in omega (arith, two.0, less))
        | inr h ↦ elim (cases_lt b from) [
          | inl before ↦ record { a = b; b = a; before = before; broken = h }
          | inr past ↦ absurd (kept b a past less h)
        ]
      ]

    -- sorted, and left once each
    pub sorted_partners : (sorted all : List ℕ) → IsPermutation found sorted → IsSorted nat_cmp sorted
        → all ≡ dedup eqb sorted → ArePartners tech boxes rule a all
    sorted_partners sorted all moved in_order is = subst (ArePartners tech boxes rule a) (sym is) (record {
      sound = λ b there. together b (Contains-permutation sorted found b (IsPermutation-sym found sorted moved)
          (Contains-from_dedup eqb sorted b there));
      complete = λ b broken. Contains-dedup_nat sorted b (Contains-permutation found sorted b moved
          (gathered.complete b broken));
      rising = IsStrictlyIncreasing-dedup sorted in_order;
    })

    -- or one at most
    pub few_partners : length found < 2 → ArePartners tech boxes rule a found
    few_partners few = record {
      sound = together;
      complete = gathered.complete;
      rising = λ k lt. absurd (omega (arith, few, lt));
    }

-- the breaks with the first so many of some boxes are listed
pub record AreListedTo (tech : Tech) (boxes : List MaskBox) (rule : Rule) (a : ℕ) (found : List ℕ) (most i : ℕ)
    (list : List Break) : Type 0 where
  pub n : ℕ
  pub passed : (k : ℕ) → k < i → a ≤ get_or found k 0 → get_or found k 0 < n
  pub ahead : (k : ℕ) → i ≤ k → k < length found → a ≤ get_or found k 0 → n ≤ get_or found k 0
  pub before : ListBefore tech boxes (place rule a n) list
  pub few : length list ≤ most

module _ (tech : Tech) (boxes : List MaskBox) (rule : Rule) (a : ℕ) (found : List ℕ)
    (partners : ArePartners tech boxes rule a found) where
  -- one that is no less is the second box of a break
  breaks_with : (b : ℕ) → Contains found b → a ≤ b → IsBreak tech boxes rule a b
  breaks_with b there le = second_box tech boxes rule a b le (partners.sound b there)

  -- the next one that is no less than the first box
  pub come_to : (most i : ℕ) (list : List Break) → i < length found → a ≤ get_or found i 0
      → AreListedTo tech boxes rule a found most i list → ListBefore tech boxes (place rule a (get_or found i 0)) list
  come_to most i list lt le h =
      let b : ℕ = get_or found i 0 in
      past_seconds tech boxes rule a h.n b list (h.ahead i (omega arith) lt le) (λ c low high broken.
      let there = partners.complete c (inl broken) in
      let at = at_number found c there in
      let from = boxes_of_break tech boxes rule a c broken in
      elim (cases_lt there.0 i) [
        | inl before ↦ let under = h.passed there.0 before (omega (arith, at, from.0)) in omega (arith, under, at, low)
        | inr after ↦ elim (cases_lt i there.0) [
          | inl later ↦ let up = AllPairs-from_increasing found partners.rising i there.0 0 later there.1 in omega
              (arith, up, at, high)
          | inr same ↦ let e : there.0 ≡ i = omega (arith, after, same) in let is =
              subst (λ (n : ℕ). get_or found n 0 ≡ c) e at in omega (arith, is, high)
        ]
      ]) h.before

  pub listed_more : (most i : ℕ) (list new : List Break) → i < length found → a ≤ get_or found i 0
      → length list < most → new ≡ list ++ place rule a (get_or found i 0) ∷ []
      → AreListedTo tech boxes rule a found most i list → AreListedTo tech boxes rule a found most (i + 1) new
  listed_more most i list new lt le room is h =
      let b : ℕ = get_or found i 0 in
      subst (AreListedTo tech boxes rule a found most (i + 1)) (sym is) (record {
        n = b + 1;
        passed = λ k less low. elim (cases_lt k i) [
          | inl before ↦ let under = h.passed k before low in let up =
              h.ahead i (omega arith) lt le in omega (arith, under, up)
          | inr after ↦ let at : i ≡ k =
              omega (arith, less, after) in subst (λ (n : ℕ). get_or found n 0 < b + 1) at (omega arith)
        ];
        ahead = λ k low within _. let up = AllPairs-from_increasing found partners.rising i k 0 (omega (arith, low))
            within in omega (arith, up);
        before = one_more tech boxes rule a b list (breaks_with b (Contains-get_or found i 0 lt) le)
            (come_to most i list lt le h);
        few = omega (arith, room, length_push list (place rule a b));
      })

  pub listed_cut : (most i : ℕ) (list : List Break) → i < length found → a ≤ get_or found i 0 → length list ≡ most
      → AreListedTo tech boxes rule a found most i list → IsCut tech boxes most list
  listed_cut most i list lt le full h = record {
    next = place rule a (get_or found i 0);
    broken = record {
      rule = rule;
      numbered = refl;
      broken = breaks_with (get_or found i 0) (Contains-get_or found i 0 lt) le;
    };
    before = come_to most i list lt le h;
    full = full;
  }

  pub listed_all : (most i : ℕ) (list : List Break) → length found ≤ i
      → AreListedTo tech boxes rule a found most i list → ListBefore tech boxes (place rule (a + 1) 0) list
  listed_all most i list end h =
      past_first tech boxes rule a h.n list (λ c low broken. none c low broken) h.before where
        none : (c : ℕ) → h.n ≤ c → IsBreak tech boxes rule a c → ⊥
        none c low broken =
            let there = partners.complete c (inl broken) in
            let at = at_number found c there in
            let from = boxes_of_break tech boxes rule a c broken in
            let under = h.passed there.0 (omega (arith, there.1, end)) (omega (arith, at, from.0)) in
            omega (arith, under, at, low)
