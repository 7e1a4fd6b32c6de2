-- Flags that are set and taken away.
use Rattle.std.proofs.Common.{◌≡◌, ℕ, ◌<◌, ◌≢◌, Bool, true, false, List, ◌⊎◌, inl, inr, length, set, refl, sym, subst}
use Rattle.std.proofs.Common.{◌∙◌}
use Rattle.std.proofs.lemmas.{Bool.{cases_eq, true≢false}, List.{get_or-set_same, get_or-set_other, length-set}}
use Rattle.cons_graph.specs.{declared.edges.Edge.Edge, EdgeNumbers.edge_at}
use Rattle.round_log.specs.Looks.{is_forward}
use Rattle.liao_wong.specs.{Marked.is_marked, Worklist.WaitToo}

pub set_here : (flags : List Bool) (n : ℕ) (b : Bool) → n < length flags → is_marked (set flags n b) n ≡ b
set_here flags n b lt = get_or-set_same flags n b false lt

pub set_elsewhere : (flags : List Bool) (n j : ℕ) (b : Bool) → j ≢ n → is_marked (set flags n b) j ≡ is_marked flags j
set_elsewhere flags n j b ne = get_or-set_other flags n j b false ne

-- a mark more keeps those that there are
pub set_keeps : (flags : List Bool) (n j : ℕ) → n < length flags → is_marked flags j ≡ true
    → is_marked (set flags n true) j ≡ true
set_keeps flags n j lt t =
    let P : ℕ → Type 0 = λ x. is_marked (set flags n true) x ≡ true in
    elim (cases_eq j n) [
      | inl e ↦ subst P (sym e) (set_here flags n true lt)
      | inr ne ↦ set_elsewhere flags n j true ne ∙ t
    ]

pub set_only : (flags : List Bool) (n j : ℕ) → is_marked (set flags n true) j ≡ true
    → (is_marked flags j ≡ true) ⊎ (j ≡ n)
set_only flags n j t =
    elim (cases_eq j n) as (λ _. (is_marked flags j ≡ true) ⊎ (j ≡ n)) [
      | inl e ↦ inr e
      | inr ne ↦ inl (sym (set_elsewhere flags n j true ne) ∙ t)
    ]

-- what is not marked after a mark more was not before
pub set_was_not : (flags : List Bool) (n j : ℕ) → n < length flags → is_marked (set flags n true) j ≡ false
    → is_marked flags j ≡ false
set_was_not flags n j lt f = was (is_marked flags j) refl
  where
    was : (b : Bool) → is_marked flags j ≡ b → is_marked flags j ≡ false
    was true e = absurd (true≢false (sym (set_keeps flags n j lt e) ∙ f))
    was false e = e

-- what is marked after a mark is taken away is another number, and was before
pub cleared : (flags : List Bool) (n j : ℕ) → n < length flags → is_marked (set flags n false) j ≡ true
    → (j ≢ n) × (is_marked flags j ≡ true)
cleared flags n j lt t =
    let P : ℕ → Type 0 = λ x. is_marked (set flags n false) x ≡ true in
    let ne : j ≢ n = λ e. true≢false (sym (subst P e t) ∙ set_here flags n false lt) in
    (ne, sym (set_elsewhere flags n j false ne) ∙ t)

-- ---- more edges wait

pub wait_none_more : (edges : List Edge) (order : List ℕ) (old : List Bool) → WaitToo edges order old old
wait_none_more edges order old = record { same_length = refl; kept = λ k t. t; only_backward = λ k t. inl t }

pub wait_one_more : (edges : List Edge) (order : List ℕ) (old mid : List Bool) (k : ℕ) → WaitToo edges order old mid
    → k < length mid → is_forward order (edge_at edges k) ≡ false → WaitToo edges order old (set mid k true)
wait_one_more edges order old mid k w lt down =
    let P : ℕ → Type 0 = λ x. is_forward order (edge_at edges x) ≡ false in
    record {
      same_length = length-set mid k true ∙ w.same_length;
      kept = λ j t. set_keeps mid k j lt (w.kept j t);
      only_backward =
          λ j t. elim (set_only mid k j t)
          as (λ _. (is_marked old j ≡ true) ⊎ (is_forward order (edge_at edges j) ≡ false)) [
            | inl m ↦ w.only_backward j m
            | inr e ↦ inr (subst P (sym e) down)
          ];
    }
