-- The values when an edge has been appended.
use Rattle.std.proofs.Common.{◌≡◌, ◌≢◌, ℕ, suc, ◌-◌, ◌^◌, ◌<◌, ◌≤◌, Bool, true, false, ◌⊎◌, inl, inr, ℤ, pos, neg_ℤ}
use Rattle.std.proofs.Common.{◌+ℤ◌, ◌-ℤ◌, ◌≤ℤ◌, ◌<ℤ◌, List, [], length, get_or, set, refl, sym, ap, subst, ◌∙◌, arith}
use Rattle.std.proofs.lemmas.{Int.ints, Bool.cases_eq, List.{length-set, Elements.{All-from_get_or, All-nil}}}
use Rattle.std.{proofs.lemmas.List.Elements.Contains-get_or, specs.List.Contains}
use Rattle.cons_graph.specs.declared.edges.Edge.{Edge}
use Rattle.cons_graph.specs.{Constraints.IsEdgeAmong, EdgeNumbers.edge_at, Solutions.{Meets, IsLeastSolution, value_of}}
use Rattle.round_log.proofs.Least.{edge_among, meets_at}
use Rattle.edit_session.specs.Raised.{IsReached, IsRaised, IsAppended, nat_of}
use Rattle.edit_session.proofs.{Linked.none, Rises.{IsSet, is_set, still_met, nat_of_is, reached_more}}

-- the last edge
abbrev pub last_of : List Edge → Edge
last_of edges = edge_at edges (length edges - 1)

pub last_among : (edges : List Edge) (x : List ℤ) (marks : List Bool) → IsAppended edges x marks
    → IsEdgeAmong (length x) (last_of edges)
last_among edges x marks h = edge_among (record { vars = length x; edges = edges }) h.shape (length edges - 1)
    (let s : 1 ≤ length edges = h.some in omega arith)

-- each edge is the last one or one before it
old_or_last : (edges : List Edge) (k : ℕ) → k < length edges → (suc k < length edges) ⊎ (k ≡ length edges - 1)
old_or_last edges k lt =
    elim (cases_eq k (length edges - 1)) as (λ _. (suc k < length edges) ⊎ (k ≡ length edges - 1))
    [ inl e ↦ inr e | inr d ↦ inl (omega arith) ]

-- the last edge is met
pub last_met : (edges : List Edge) (x : List ℤ) (marks : List Bool) → IsAppended edges x marks
    → Meets (value_of x) (last_of edges) → IsLeastSolution (length x) edges (value_of x)
last_met edges x marks h m = record {
  solves = record {
    origin = h.origin;
    meets = All-from_get_or (Meets (value_of x)) edges none
        (λ k lt. elim (old_or_last edges k lt) as (λ _. Meets (value_of x) (edge_at edges k)) [
          | inl o ↦ h.met k o
          | inr e ↦ (let P : ℕ → Type 0 = λ j. Meets (value_of x) (edge_at edges j) in subst P (sym e) m)
        ]);
  };
  below = h.below;
}

-- its head is raised, and waits
pub last_raised : (edges : List Edge) (x : List ℤ) (marks marks' : List Bool) (asked : ℤ) → IsAppended edges x marks
    → asked ≡ value_of x (last_of edges).from +ℤ (last_of edges).len → value_of x (last_of edges).to <ℤ asked
    → length marks' ≡ length marks → get_or marks' (last_of edges).to false ≡ true
    → IsRaised (length x) (last_of edges).from edges (set x (last_of edges).to asked) marks' 0 0
last_raised edges x marks marks' asked h is less count waits =
    let e : Edge = last_of edges in
    let k : ℕ = length edges - 1 in
    let lt : k < length edges = (let s : 1 ≤ length edges = h.some in omega arith) in
    let among : IsEdgeAmong (length x) e = last_among edges x marks h in
    let y : List ℤ = set x e.to asked in
    let s : IsSet x e.to asked = is_set x e.to asked among.to_in_range (omega (arith, ints)) in
    let here : value_of y e.to ≡ asked = s.here in
    let from_stays : value_of y e.from ≡ value_of x e.from = s.there e.from among.ends_differ in
    let most : ℕ = nat_of (asked -ℤ value_of x e.to) in
    let most_is : pos most ≡ asked -ℤ value_of x e.to = nat_of_is (asked -ℤ value_of x e.to) (omega (arith, ints)) in
    let from_high : value_of x e.from ≤ℤ pos (2 ^ 55) = (h.small e.from among.from_in_range).1 in
    let to_low : neg_ℤ (pos (2 ^ 55)) ≤ℤ value_of x e.to = (h.small e.to among.to_in_range).0 in
    let long : e.len ≤ℤ pos (2 ^ 21) = among.length_high in
    let last_now : Meets (value_of y) e =
    (let q : e.len ≤ℤ (value_of y e.to -ℤ value_of y e.from) = omega (arith, ints) in q) in
    let last_at : (j : ℕ) → j ≡ k → Meets (value_of y) (edge_at edges j) =
    λ j i. (let P : ℕ → Type 0 = λ n. Meets (value_of y) (edge_at edges n) in subst P (sym i) last_now) in
    let at : (P : ℕ → Type 0) → P e.to → ((u : ℕ) → u ≢ e.to → P u) → (u : ℕ)
    → P u = λ P p q u. elim (cases_eq u e.to) as (λ _. P u) [ inl i ↦ subst P (sym i) p | inr d ↦ q u d ] in
    record {
      base = value_of x;
      most = most;
      most_small = omega (arith, ints);
      shape = h.shape;
      one_each = length-set x e.to asked;
      one_mark_each = count ∙ h.one_mark_each;
      tail_in_range = among.from_in_range;
      base_small = h.small;
      base_meets = λ j jj d. elim (old_or_last edges j jj) as (λ _. Meets (value_of x) (edge_at edges j)) [
        | inl o ↦ h.met j o
        | inr i ↦ absurd (d (ap (λ n. (edge_at edges n).from) i))
      ];
      tail_stays = from_stays;
      tail_met = λ j jj f. elim (old_or_last edges j jj) as (λ _. Meets (value_of y) (edge_at edges j)) [
        | inl o ↦ still_met (value_of x) (value_of y) (edge_at edges j) (h.met j o) (s.higher (edge_at edges j).to)
            (s.there (edge_at edges j).from (λ i. among.ends_differ (sym f ∙ i)))
        | inr i ↦ last_at j i
      ];
      origin = s.there 0 (λ i. among.not_into_origin (sym i)) ∙ h.origin;
      at_least = λ u _. s.higher u;
      at_most = at (λ u. u < length x → value_of y u ≤ℤ (value_of x u +ℤ pos most)) (λ _. omega (arith, ints))
          (λ u d _. (let p : value_of y u ≡ value_of x u = s.there u d in omega (arith, ints)));
      below = λ z sol. at (λ u. u < length x → value_of y u ≤ℤ z u)
          (λ _. (let m : e.len ≤ℤ (z e.to -ℤ z e.from) = meets_at edges z sol.meets k lt in let b : value_of x e.from
          ≤ℤ z e.from = h.below z sol e.from among.from_in_range in omega (arith, ints))) (λ u d uu. (let p : value_of
          y u ≡ value_of x u = s.there u d in let q : value_of x u ≤ℤ z u =
          h.below z sol u uu in omega (arith, ints)));
      reached =
          at (λ u. u < length x → (value_of y u ≡ value_of x u)
          ⊎ IsReached edges e.from u (value_of y u -ℤ value_of x e.from))
          (λ _. inr
          (reached_more edges e.from e (pos 0) (value_of y e.to -ℤ value_of x e.from)
          (Contains-get_or edges k none lt)
          (record { walk = []; of_these = All-nil (Contains edges); leads = refl; as_long = refl })
          (omega (arith, ints))))
          (λ u d _. inl (s.there u d));
      met = λ j jj.
          let d : Edge = edge_at edges j in
          let Done : Type 0 = Meets (value_of y) d ⊎ ((get_or marks' d.from false ≡ true) ⊎ ((d.from ≡ 0) × (j < 0))) in
          elim (cases_eq d.from e.to) as (λ _. Done) [
            | inl i ↦ (let P : ℕ → Type 0 = λ u. get_or marks' u false ≡ true in inr (inl (subst P (sym i) waits)))
            | inr ne ↦ elim (old_or_last edges j jj) as (λ _. Done) [
              | inl o ↦ inl (still_met (value_of x) (value_of y) d (h.met j o) (s.higher d.to) (s.there d.from ne))
              | inr i ↦ inl (last_at j i)
            ]
          ];
    }
