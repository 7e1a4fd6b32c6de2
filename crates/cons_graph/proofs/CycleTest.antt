-- What the tests of a cycle say together.
use Rattle.std.proofs.Common.{◌≡◌, ℕ, ◌<◌, ◌≤◌, ℤ, pos, ◌<ℤ◌, Some, List, [], ◌∷◌, length, get_or, refl, sym, ap, subst}
use Rattle.std.proofs.{Common.arith, lemmas.{Bool.{eqb-true, Decides.Decides-eqb}, List.Elements.All-contains}}
use Rattle.std.proofs.lemmas.{List.Elements.All-map, Map.Made.IsDistinct-from_AllPairs}
use Rattle.std.proofs.lemmas.Map.{Steps.length-le_from_distinct_below, Views.Contains-from_any}
use Rattle.std.specs.{Prelude.slice_get, List.All}
use Rattle.cons_graph.specs.declared.edges.{Edge.Edge, Why.TheVariants.Size}
use Rattle.cons_graph.specs.{Constraints.{Constraints, IsConstraintGraph}, EdgeNumbers.edge_at, Walks.{IsWalk, IsCycle}}
use Rattle.cons_graph.specs.SimpleWalks.{edges_of, length_of, tails_of, HasNoRepeat, WalksFromTo, IsSimplePositiveCycle}
use Rattle.cons_graph.proofs.Tests.{length-tails}

-- edges no two of which begin at one variable are no more than the variables
pub few_without_repeat : (g : Constraints) (walk : List ℕ) → IsConstraintGraph g → All (λ k. k < length g.edges) walk
    → HasNoRepeat (tails_of g.edges walk) → length walk ≤ g.vars
few_without_repeat g walk s r n =
    let tails : List ℕ = tails_of g.edges walk in
    let below : All (λ v. v < g.vars) tails =
    All-map (λ v. v < g.vars) (λ k. (edge_at g.edges k).from) walk
    (λ i d lt.
    (s.edges_among (get_or walk i d) (record { from = 0; to = 0; len = pos 0; why = Size })
    (r i d lt)).from_in_range) in
    let few = length-le_from_distinct_below tails g.vars (IsDistinct-from_AllPairs Decides-eqb tails n)
    (λ q t. All-contains (λ v. v < g.vars) tails q below (Contains-from_any eqb-true q tails t)) in
    omega (arith, few, length-tails g.edges walk)

pub cycle_from_walk : (v : ℕ) (es : List Edge) → IsWalk v es v → (es ≡ [] → ⊥) → IsCycle es
cycle_from_walk v [] w n = absurd (n refl)
cycle_from_walk v (e ∷ es) w n = let P : ℕ → Type 0 = λ u. IsWalk e.to es u in subst P (sym w.0) w.1

-- the tests of a cycle that begins with this edge
pub cycle_says : (edges : List Edge) (cycle : List ℕ) (first : ℕ) (r : ℤ) → slice_get cycle 0 ≡ Some first
    → WalksFromTo edges (edge_at edges first).from cycle (edge_at edges first).from
    → All (λ u. (edge_at edges first).from ≤ u) (tails_of edges cycle) → HasNoRepeat (tails_of edges cycle)
    → r ≡ length_of edges cycle → (pos 0 <ℤ r → IsSimplePositiveCycle edges cycle)
    × (IsSimplePositiveCycle edges cycle → pos 0 <ℤ r)
cycle_says edges [] first r e w l n q = absurd cc
cycle_says edges (k ∷ ks) first r e w l n q =
    let same : k ≡ first = cc in
    let P : ℤ → Type 0 = λ x. pos 0 <ℤ x in
    let L : ℕ → Type 0 = λ x. All (λ u. x ≤ u) (tails_of edges (k ∷ ks)) in (
      λ h. record {
        in_range = w.in_range;
        closed = cycle_from_walk (edge_at edges first).from (edges_of edges (k ∷ ks)) w.follows (λ x. cc);
        no_repeat = n;
        least_first = subst L (sym (ap (λ i. (edge_at edges i).from) same)) l;
        positive = subst P q h;
      },
      λ h. subst P (sym q) h.positive,
    )

-- a simple cycle passes the tests that come before its sum
pub walks_of_cycle : (edges : List Edge) (cycle : List ℕ) (first : ℕ) → slice_get cycle 0 ≡ Some first
    → IsSimplePositiveCycle edges cycle
    → WalksFromTo edges (edge_at edges first).from cycle (edge_at edges first).from
walks_of_cycle edges [] first e h = absurd cc
walks_of_cycle edges (k ∷ ks) first e h =
    let same : k ≡ first = cc in
    let own : WalksFromTo edges (edge_at edges k).from (k ∷ ks) (edge_at edges k).from =
    record { in_range = h.in_range; follows = (refl, h.closed) } in
    let P : ℕ → Type 0 = λ i. WalksFromTo edges (edge_at edges i).from (k ∷ ks) (edge_at edges i).from in
    subst P same own

pub least_of_cycle : (edges : List Edge) (cycle : List ℕ) (first : ℕ) → slice_get cycle 0 ≡ Some first
    → IsSimplePositiveCycle edges cycle → All (λ u. (edge_at edges first).from ≤ u) (tails_of edges cycle)
least_of_cycle edges [] first e h = absurd cc
least_of_cycle edges (k ∷ ks) first e h =
    let same : k ≡ first = cc in
    let P : ℕ → Type 0 = λ i. All (λ u. (edge_at edges i).from ≤ u) (tails_of edges (k ∷ ks)) in
    subst P same h.least_first
