-- What a session keeps when an edge comes or goes.
use Rattle.std.proofs.Common.{◌≡◌, ◌≢◌, ℕ, suc, ◌+◌, ◌-◌, ◌<◌, Bool, inl, inr, ℤ, List, [], ◌∷◌, ◌++◌, length, get_or}
use Rattle.std.proofs.{Common.{sym, ap, subst, ◌∙◌, arith}, lemmas.{Bool.cases_lt, List.get_or_default}}
use Rattle.std.proofs.lemmas.List.Edits.{length-remove, get_or-remove_below, get_or-remove_above}
use Rattle.std.{proofs.lemmas.List.Elements.{All-from_get_or, All-push, Contains-append_left}, specs.List.{Any, remove}}
use Rattle.cons_graph.specs.{declared.edges.Edge.Edge, Constraints.{IsConstraintGraph, IsEdgeAmong, LeadsFromOrigin}}
use Rattle.cons_graph.specs.{EdgeNumbers.edge_at, Solutions.{Meets, IsSolution, IsLeastSolution, value_of}}
use Rattle.cons_graph.specs.Walks.{HasPositiveCycle}
use Rattle.round_log.proofs.Least.{edge_among, from_origin, meets_at, positive_cycle_excludes}
use Rattle.edit_session.{specs.Raised.IsAppended, proofs.{Linked.{none, edge_before, length_more}, Sizes.least_small}}

-- ---- an edge comes

pub graph_more : (vars : ℕ) (edges : List Edge) (e : Edge) → IsConstraintGraph (record { vars = vars; edges = edges })
    → IsEdgeAmong vars e → IsConstraintGraph (record { vars = vars; edges = edges ++ e ∷ [] })
graph_more vars edges e s among = record {
  has_origin = s.has_origin;
  few_vars = s.few_vars;
  edges_among = All-push (IsEdgeAmong vars) edges e s.edges_among among;
  all_from_origin = λ v a b.
      let w = from_origin (record { vars = vars; edges = edges }) s v a b in
      let same : edge_at (edges ++ e ∷ []) w.0 ≡ edge_at edges w.0 = edge_before edges e w.0 w.1 in
      let long : length (edges ++ e ∷ []) ≡ suc (length edges) = length_more edges e in (
        w.0,
        edge_at edges w.0,
        (let l = w.1 in omega (arith, l, long)),
        get_default (edges ++ e ∷ []) w.0
            (edge_at edges w.0) (let l = w.1 in omega (arith, l, long)) same,
        (w.2, w.3),
      );
}
  where
    get_default : (es : List Edge) (k : ℕ) (x : Edge) → k < length es → edge_at es k ≡ x → get_or es k x ≡ x
    get_default es k x lt e = get_or_default es k x none lt ∙ e

pub solution_before : (edges : List Edge) (e : Edge) (y : ℕ → ℤ) → IsSolution (edges ++ e ∷ []) y → IsSolution edges y
solution_before edges e y h = record {
  origin = h.origin;
  meets = All-from_get_or (Meets y) edges none (λ k lt. (
      let P : Edge → Type 0 = λ d. Meets y d in
      let long : length (edges ++ e ∷ []) ≡ suc (length edges) = length_more edges e in
      subst P (edge_before edges e k lt) (meets_at (edges ++ e ∷ []) y h.meets k (omega (arith, lt, long)))));
}

-- the values before an edge is appended
pub appended : (vars : ℕ) (edges : List Edge) (e : Edge) (x : List ℤ) (marks : List Bool)
    → IsConstraintGraph (record { vars = vars; edges = edges }) → IsEdgeAmong vars e → length x ≡ vars
    → length marks ≡ vars → IsLeastSolution vars edges (value_of x) → IsAppended (edges ++ e ∷ []) x marks
appended vars edges e x marks s among one_each one_mark least =
    let more : List Edge = edges ++ e ∷ [] in
    let long : length more ≡ suc (length edges) = length_more edges e in
    let G : ℕ → Type 0 = λ n. IsConstraintGraph (record { vars = n; edges = more }) in
    record {
      some = omega (arith, long);
      shape = subst G (sym one_each) (graph_more vars edges e s among);
      one_mark_each = one_mark ∙ sym one_each;
      small = λ u lt. least_small (record { vars = vars; edges = edges }) (value_of x) u s least
          (omega (arith, lt, one_each));
      origin = least.solves.origin;
      met = λ k lt. (let inside : k < length edges = omega (arith, lt, long) in let P : Edge
          → Type 0 = λ d. Meets (value_of x) d in subst P (sym (edge_before edges e k inside))
          (meets_at edges (value_of x) least.solves.meets k inside));
      below = λ y h u lt. least.below y (solution_before edges e y h) u (omega (arith, lt, one_each));
    }

-- a positive cycle stays
pub cycle_more : (edges : List Edge) (e : Edge) → HasPositiveCycle edges → HasPositiveCycle (edges ++ e ∷ [])
cycle_more edges e c = (
  c.0,
  record {
    of_these = λ k d lt. Contains-append_left edges (e ∷ []) (get_or c.0 k d) (c.1.of_these k d lt);
    closed = c.1.closed;
    positive = c.1.positive;
  },
)

-- a least solution leaves no positive cycle
pub no_cycle : (vars : ℕ) (edges : List Edge) (x : ℕ → ℤ) → IsLeastSolution vars edges x → HasPositiveCycle edges → ⊥
no_cycle vars edges x l c = positive_cycle_excludes edges c.0 x c.1 l.solves

-- ---- an edge goes

pub graph_less : (vars : ℕ) (edges : List Edge) (place : ℕ)
    → IsConstraintGraph (record { vars = vars; edges = edges }) → place < length edges
    → (edge_at edges place).from ≢ 0 → IsConstraintGraph (record { vars = vars; edges = remove edges place })
graph_less vars edges place s lt free =
    let left : List Edge = remove edges place in
    let count : length left + 1 ≡ length edges = length-remove edges place lt in
    record {
      has_origin = s.has_origin;
      few_vars = s.few_vars;
      edges_among = All-from_get_or (IsEdgeAmong vars) left none (λ k kk.
          let P : Edge → Type 0 = λ d. IsEdgeAmong vars d in
          elim (cases_lt k place) as (λ _. IsEdgeAmong vars (edge_at left k)) [
            | inl l ↦ subst P (sym (get_or-remove_below edges place none k l lt))
                (edge_among (record { vars = vars; edges = edges }) s k (omega arith))
            | inr le ↦ subst P (sym (get_or-remove_above edges place none k le lt))
                (edge_among (record { vars = vars; edges = edges }) s (k + 1) (omega (arith, count, kk)))
          ]);
      all_from_origin = λ v a b.
          let w = from_origin (record { vars = vars; edges = edges }) s v a b in
          let k : ℕ = w.0 in
          let e : Edge = edge_at edges k in
          let kk : k < length edges = w.1 in
          let other : k ≢ place = λ i. free (ap (λ n. (edge_at edges n).from) (sym i) ∙ w.2) in
          elim (cases_lt k place) as (λ _. Any (LeadsFromOrigin v) left) [
            | inl l ↦ (
              k,
              e,
              omega arith,
              get_or-remove_below edges place e k l lt
                  ∙ get_or_default edges k e none kk,
              (w.2, w.3),
            )
            | inr le ↦
                let over : place < k = omega arith in
                let one : k - 1 + 1 ≡ k = omega arith in
                let P : ℕ → Type 0 = λ n. get_or edges n e ≡ e in (
                  k - 1,
                  e,
                  omega (arith, count, kk),
                  get_or-remove_above edges place e (k - 1) (omega arith) lt
                      ∙ subst P (sym one) (get_or_default edges k e none kk),
                  (w.2, w.3),
                )
          ];
    }
