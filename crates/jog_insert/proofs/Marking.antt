-- The numbers of jogs whose joints have names that stand in the cell are marked, line by line.
use Rattle.std.proofs.Common.{◌≡◌, ℕ, suc, ◌<◌, ◌≤◌, ◌≢◌, Bool, true, false, List, [], ◌∷◌, ◌++◌, length, get_or, set}
use Rattle.std.proofs.{Common.{refl, sym, ap, subst, inl, inr, ◌∙◌, arith}, lemmas.Bool.{cases_eq, cases_lt}}
use Rattle.std.proofs.lemmas.List.{get_or-set_same, get_or-set_other, length-set, Elements.Contains-append_left}
use Rattle.std.proofs.lemmas.List.{Elements.{Contains-push, Contains-push_cases, at_from_Contains}, Sums.sum_by-set}
use Rattle.std.{proofs.lemmas.List.Sums.sum_by-cons, specs.Prelude.{◌⊎◌, Contains, slice_index_or, if◌then◌else◌}}
use Rattle.stick_text.specs.declared.design.Line.{Line}
use Rattle.jog_insert.specs.Jogs.{lower_name, upper_name, name_in, IsTaken, IsFree, IsJogNumber}
use Rattle.jog_insert.specs.Building.{IsNameOf, IsTakenBy, AreMarked, Marks, marks_in}

-- ---- names that are taken, with one more line

none_in : {X : Type 0} (x : X) → Contains [] x → ⊥
none_in x h = let w = at_from_Contains [] x h in absurd (omega (arith, w.1))

taken_more : (lines : List Line) (line : Line) (name : List ℕ) → IsTaken lines name → IsTaken (lines ++ line ∷ []) name
taken_more lines line name t = (t.0, Contains-append_left lines (line ∷ []) t.0 t.1, t.2)

taken_here : (lines : List Line) (line : Line) (name own : List ℕ) → name_in line.form ≡ own ∷ [] → own ≡ name
    → IsTaken (lines ++ line ∷ []) name
taken_here lines line name own is e = (
  line,
  Contains-push lines line,
  subst (λ (names : List (List ℕ)). Contains names name) (sym is)
      (subst (Contains (own ∷ [])) e (Contains-push [] own)),
)

taken_cases : (lines : List Line) (line : Line) (name : List ℕ) → IsTaken (lines ++ line ∷ []) name
    → IsTaken lines name ⊎ Contains (name_in line.form) name
taken_cases lines line name t = by (Contains-push_cases lines line t.0 t.1)
  where
    by : Contains lines t.0 ⊎ (line ≡ t.0) → IsTaken lines name ⊎ Contains (name_in line.form) name
    by (inl there) = inl (t.0, there, t.2)
    by (inr e) = inr (subst (λ (l : Line). Contains (name_in l.form) name) (sym e) t.2)

only_name : (own name : List ℕ) → Contains (own ∷ []) name → own ≡ name
only_name own name h = by (Contains-push_cases [] own name h)
  where
    by : Contains [] name ⊎ (own ≡ name) → own ≡ name
    by (inl there) = absurd (none_in name there)
    by (inr e) = e

-- a line without a name takes none
taken_before : (lines : List Line) (line : Line) (name : List ℕ) → name_in line.form ≡ []
    → IsTaken (lines ++ line ∷ []) name → IsTaken lines name
taken_before lines line name none t = by (taken_cases lines line name t)
  where
    by : IsTaken lines name ⊎ Contains (name_in line.form) name → IsTaken lines name
    by (inl there) = there
    by (inr here) = absurd (none_in name (subst (λ (names : List (List ℕ)). Contains names name) none here))

-- a line with one takes it
taken_or_own : (lines : List Line) (line : Line) (name own : List ℕ) → name_in line.form ≡ own ∷ []
    → IsTaken (lines ++ line ∷ []) name → IsTaken lines name ⊎ (own ≡ name)
taken_or_own lines line name own is t = by (taken_cases lines line name t)
  where
    by : IsTaken lines name ⊎ Contains (name_in line.form) name → IsTaken lines name ⊎ (own ≡ name)
    by (inl there) = inl there
    by (inr here) = inr (only_name own name (subst (λ (names : List (List ℕ)). Contains names name) is here))

-- ---- marks

-- a line without a name
pub marked_before : (lines : List Line) (line : Line) (taken : List Bool) → name_in line.form ≡ []
    → AreMarked lines taken → AreMarked (lines ++ line ∷ []) taken
marked_before lines line taken none are =
    record { marked = λ n lt t. are.marked n lt (back n t); only = λ n lt e. on n (are.only n lt e) }
  where
    back : (n : ℕ) → IsTakenBy (lines ++ line ∷ []) n → IsTakenBy lines n
    back n (inl t) = inl (taken_before lines line (lower_name n) none t)
    back n (inr t) = inr (taken_before lines line (upper_name n) none t)

    on : (n : ℕ) → IsTakenBy lines n → IsTakenBy (lines ++ line ∷ []) n
    on n (inl t) = inl (taken_more lines line (lower_name n) t)
    on n (inr t) = inr (taken_more lines line (upper_name n) t)

-- a line with one
pub marked_more : (lines : List Line) (line : Line) (own : List ℕ) (old new : List Bool)
    → name_in line.form ≡ own ∷ [] → Marks own old new → AreMarked lines old → AreMarked (lines ++ line ∷ []) new
marked_more lines line own old new is marks are = record {
  marked = λ n lt t. back n (omega (arith, lt, marks.size)) t;
  only = λ n lt e. on n (omega (arith, lt, marks.size)) (marks.only n (omega (arith, lt, marks.size)) e);
}
  where
    by_lower : (n : ℕ) → n < length old → IsTaken lines (lower_name n) ⊎ (own ≡ lower_name n)
        → slice_index_or new n false ≡ true
    by_lower n lt (inl t) = marks.kept n lt (are.marked n lt (inl t))
    by_lower n lt (inr e) = marks.marked n lt (inl e)

    by_upper : (n : ℕ) → n < length old → IsTaken lines (upper_name n) ⊎ (own ≡ upper_name n)
        → slice_index_or new n false ≡ true
    by_upper n lt (inl t) = marks.kept n lt (are.marked n lt (inr t))
    by_upper n lt (inr e) = marks.marked n lt (inr e)

    back : (n : ℕ) → n < length old → IsTakenBy (lines ++ line ∷ []) n → slice_index_or new n false ≡ true
    back n lt (inl t) = by_lower n lt (taken_or_own lines line (lower_name n) own is t)
    back n lt (inr t) = by_upper n lt (taken_or_own lines line (upper_name n) own is t)

    more : (n : ℕ) → IsTakenBy lines n → IsTakenBy (lines ++ line ∷ []) n
    more n (inl t) = inl (taken_more lines line (lower_name n) t)
    more n (inr t) = inr (taken_more lines line (upper_name n) t)

    here : (n : ℕ) → IsNameOf n own → IsTakenBy (lines ++ line ∷ []) n
    here n (inl e) = inl (taken_here lines line (lower_name n) own is e)
    here n (inr e) = inr (taken_here lines line (upper_name n) own is e)

    on : (n : ℕ) → n < length old → (slice_index_or old n false ≡ true) ⊎ IsNameOf n own
        → IsTakenBy (lines ++ line ∷ []) n
    on n lt (inl e) = more n (are.only n lt e)
    on n lt (inr e) = here n e

-- one more mark
pub marks_set : (name : List ℕ) (old : List Bool) (number : ℕ) → number < length old → IsNameOf number name
    → ((n : ℕ) → n < length old → IsNameOf n name → number ≡ n) → Marks name old (set old number true)
marks_set name old number lt is same = record {
  size = length-set old number true;
  kept = λ n low e. by n low (cases_eq n number) e;
  marked = λ n low e. let here : number ≡ n =
      same n low e in subst (λ (k : ℕ). get_or (set old number true) k false ≡ true) here
      (get_or-set_same old number true false lt);
  only = λ n low e. own n low (cases_eq n number) e;
  count = omega (arith, sum_by-set (λ (b : Bool). if b then 1 else 0) old number true false lt);
}
  where
    by : (n : ℕ) → n < length old → (n ≡ number) ⊎ (n ≢ number) → get_or old n false ≡ true
        → get_or (set old number true) n false ≡ true
    by n low (inl e) h = subst (λ (k : ℕ). get_or (set old number true) k false ≡ true) (sym e)
        (get_or-set_same old number true false lt)
    by n low (inr ne) h = get_or-set_other old number n true false ne ∙ h

    own : (n : ℕ) → n < length old → (n ≡ number) ⊎ (n ≢ number) → get_or (set old number true) n false ≡ true
        → (get_or old n false ≡ true) ⊎ IsNameOf n name
    own n low (inl e) h = inr (subst (λ (k : ℕ). IsNameOf k name) (sym e) is)
    own n low (inr ne) h = inl (sym (get_or-set_other old number n true false ne) ∙ h)

-- where all are marked
pub all_marked : (taken : List Bool) → ((k : ℕ) → k < length taken → get_or taken k false ≡ true)
    → marks_in taken ≡ length taken
all_marked [] h = refl
all_marked (x ∷ taken) h =
    let first : x ≡ true = h 0 (omega arith) in
    let value : Bool → ℕ = λ b. if b then 1 else 0 in
    let one : value x ≡ 1 = ap value first in
    omega (
      arith,
      one,
      sum_by-cons (λ (b : Bool). if b then 1 else 0) x taken,
      all_marked taken
          (λ k lt. h (suc k) (omega (arith, lt))),
    )

-- the first number without a mark
pub first_free : (lines : List Line) (taken : List Bool) (n : ℕ) → AreMarked lines taken → n < length taken
    → slice_index_or taken n false ≡ false → ((k : ℕ) → k < n → slice_index_or taken k false ≡ true)
    → IsJogNumber lines n
first_free lines taken n are lt free before = record {
  free = (
    λ t. let m : slice_index_or taken n false ≡ true = are.marked n lt (inl t) in absurd (cc),
    λ t.
        let m : slice_index_or taken n false ≡ true = are.marked n lt (inr t) in absurd (cc),
  );
  least = λ m is. by m is (cases_lt m n);
}
  where
    clash : (m : ℕ) → IsFree lines m → IsTakenBy lines m → ⊥
    clash m is (inl t) = is.0 t
    clash m is (inr t) = is.1 t

    by : (m : ℕ) → IsFree lines m → (m < n) ⊎ (n ≤ m) → n ≤ m
    by m is (inl below) = absurd (clash m is (are.only m (omega (arith, below, lt)) (before m below)))
    by m is (inr le) = le
