-- The least solution of what a session lists and some limits.
use Rattle.std.proofs.Common.{◌≡◌, ℕ, ℤ, List, ◌++◌, take, drop, sym, subst, All, Contains}
use Rattle.std.proofs.lemmas.List.{take-append-drop, Elements.{All-append, All-contains, All-weaker}}
use Rattle.cons_graph.specs.{declared.edges.Edge.Edge, Solutions.{IsLeastSolution, Meets}}
use Rattle.pitch_join.proofs.Lists.{of_both}
use Rattle.first_pass.specs.Following.{listed_with}

-- The least solution of the edges of a session is that of its first ones and some limits, where it meets the limits
-- and each of the others is one of them.
pub least_shown : (vars listed : ℕ) (edges limits : List Edge) (x : ℕ → ℤ) → IsLeastSolution vars edges x
    → All (Meets x) limits → All (Contains limits) (drop listed edges)
    → IsLeastSolution vars (listed_with listed edges limits) x
least_shown vars listed edges limits x least met among =
    let prefix : List Edge = take listed edges in
    let back : List Edge = drop listed edges in
    let whole : prefix ++ back ≡ edges = take-append-drop listed edges in
    record {
      solves = record {
        origin = least.solves.origin;
        meets = All-append (Meets x) prefix limits
            ((of_both (Meets x) prefix back).0
            (subst (λ (es : List Edge). All (Meets x) es) (sym whole) least.solves.meets)).0 met;
      };
      below = λ y solves v lt.
          let parts = (of_both (Meets y) prefix limits).0 solves.meets in
          let others : All (Meets y) back =
          All-weaker (Contains limits) (Meets y) (λ e h. All-contains (Meets y) limits e parts.1 h) back among in
          let all : All (Meets y) edges =
          subst (λ (es : List Edge). All (Meets y) es) whole (All-append (Meets y) prefix back parts.0 others) in
          least.below y (record { origin = solves.origin; meets = all }) v lt;
    }
