-- The looks at the forward edges out of one variable, one after another.
use Rattle.std.proofs.Common.{◌≡◌, ◌≢◌, ℕ, ◌+◌, ◌<◌, ◌≤◌, Bool, true, Some, List, ◌∷◌, inl, inr, length, get_or, set}
use Rattle.std.proofs.{Common.{sym, ap, subst, ◌∙◌, arith}, lemmas.{Bool.{cases_lt, ltb-true}, List.get_or_default}}
use Rattle.std.specs.List.{All}
use Rattle.cons_graph.specs.{declared.edges.Edge.Edge, Constraints.IsConstraintGraph, EdgeNumbers.edge_at}
use Rattle.round_log.{specs.{declared.log.Entry.Entry, Looks.{raise_of, is_forward, place_in}}, proofs.Least.edge_among}
use Rattle.liao_wong.specs.{Marked.is_marked, Worklist.{AppendsNothing, HasLookedForward}}
use Rattle.liao_wong.proofs.{Marking.set_elsewhere, Worklists.{kept_none, own_none, raised_head}}

-- what holds after the looks at the first of these edges
pub record HasLookedUpTo (edges : List Edge) (order numbers : List ℕ) (i tail : ℕ) (old new : List Bool)
    (raises : List Entry) : Type 0 where
  pub quiet : (j : ℕ) → j < i → is_forward order (edge_at edges (get_or numbers j 0)) ≡ true
      → AppendsNothing edges raises (get_or numbers j 0)
  pub after : (n : ℕ) → n ≤ place_in order tail → is_marked new n ≡ is_marked old n

-- a look that appends nothing, or no look
pub looked_quietly : (edges : List Edge) (order numbers : List ℕ) (i tail : ℕ) (old new : List Bool) (rs : List Entry)
    → HasLookedUpTo edges order numbers i tail old new rs
    → (is_forward order (edge_at edges (get_or numbers i 0)) ≡ true → AppendsNothing edges rs (get_or numbers i 0))
    → HasLookedUpTo edges order numbers (i + 1) tail old new rs
looked_quietly edges order numbers i tail old new rs h here =
    let P : ℕ → Type 0 = λ j. is_forward order (edge_at edges (get_or numbers j 0)) ≡ true
    → AppendsNothing edges rs (get_or numbers j 0) in
    record {
      quiet = λ j lt. elim (cases_lt j i) as (λ _. P j) [
        | inl before ↦ h.quiet j before
        | inr not_before ↦ (let e : j ≡ i = omega arith in subst P (sym e) here)
      ];
      after = h.after;
    }

-- a look that raises, after which the head is ready
pub looked_raising : (vars : ℕ) (edges : List Edge) (order numbers : List ℕ) (i tail : ℕ) (old new : List Bool)
    (rs : List Entry) (r : Entry) → IsConstraintGraph (record { vars = vars; edges = edges })
    → All (λ k. k < length edges) numbers → i < length numbers → All (λ k. (edge_at edges k).from ≡ tail) numbers
    → is_forward order (edge_at edges (get_or numbers i 0)) ≡ true
    → raise_of (edge_at edges) rs (get_or numbers i 0) ≡ Some r → HasLookedUpTo edges order numbers i tail old new rs
    → HasLookedUpTo edges order numbers (i + 1) tail old (set new (place_in order r.var) true) (r ∷ rs)
looked_raising vars edges order numbers i tail old new rs r s inside lt tails up e h =
    let k : ℕ = get_or numbers i 0 in
    let ends : (edge_at edges k).from ≢ (edge_at edges k).to =
    (edge_among (record { vars = vars; edges = edges }) s k (inside i 0 lt)).ends_differ in
    let head : r.var ≡ (edge_at edges k).to = raised_head edges rs k r e in
    let from : (edge_at edges k).from ≡ tail = tails i 0 lt in
    let higher : place_in order (edge_at edges k).from < place_in order (edge_at edges k).to =
    ltb-true (place_in order (edge_at edges k).from) (place_in order (edge_at edges k).to) up in
    let above : place_in order tail < place_in order r.var =
    (let a = ap (place_in order) from in let b = ap (place_in order) head in omega (arith, a, b, higher)) in
    let P : ℕ → Type 0 = λ j. is_forward order (edge_at edges (get_or numbers j 0)) ≡ true
    → AppendsNothing edges (r ∷ rs) (get_or numbers j 0) in
    record {
      quiet = λ j less. elim (cases_lt j i) as (λ _. P j) [
        | inl before ↦
            (λ up'. kept_none edges rs (get_or numbers j 0) k r
            (λ same. ends (from ∙ sym (tails j 0 (omega arith)) ∙ sym same ∙ head)) e (h.quiet j before up'))
        | inr not_before ↦ (let same : j ≡ i = omega arith in subst P (sym same) (λ up'. own_none edges rs k r ends e))
      ];
      after = λ n le. set_elsewhere new (place_in order r.var) n true
          (λ same. absurd (omega (arith, same, le, above))) ∙ h.after n le;
    }

pub looked_all : (edges : List Edge) (order numbers : List ℕ) (i tail : ℕ) (old new : List Bool) (rs : List Entry)
    → length numbers ≤ i → HasLookedUpTo edges order numbers i tail old new rs
    → HasLookedForward edges order numbers tail old new rs
looked_all edges order numbers i tail old new rs le h =
    let Quiet : ℕ → Type 0 = λ k. is_forward order (edge_at edges k) ≡ true → AppendsNothing edges rs k in
    record {
      quiet = λ j d lt.
          (let e : get_or numbers j 0 ≡ get_or numbers j d = get_or_default numbers j 0 d lt in subst Quiet e
          (h.quiet j (omega arith)));
      after = h.after;
    }
