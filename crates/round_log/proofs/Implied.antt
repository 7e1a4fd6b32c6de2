-- Edges that others imply: along a walk each gives way to the walk that implies it.
use Rattle.std.proofs.Common.{◌≡◌, ℕ, pos, ◌≤ℤ◌, ◌<ℤ◌, List, [], ◌∷◌, ◌++◌, get_or, refl, ap, subst, arith}
use Rattle.std.proofs.lemmas.{Int.ints, List.Elements.{All-append, All-cons, All-nil, All-head, All-tail, All-contains}}
use Rattle.std.specs.List.{All, Contains}
use Rattle.cons_graph.specs.{declared.edges.Edge.Edge, Walks.{IsWalk, walk_length}}
use Rattle.cons_graph.proofs.{CycleTest.cycle_from_walk, Tests.walk_length-append}
use Rattle.round_log.{specs.Implied.{IsImpliedBy, HaveCyclesAlike}, proofs.{Least.cycle_closed, Walking.IsWalk-append}}

-- an edge of the list is implied by itself
pub implied_by_itself : (edges : List Edge) (e : Edge) → Contains edges e → IsImpliedBy edges e
implied_by_itself edges e c =
    record {
      walk = e ∷ [];
      of_these = All-cons (Contains edges) e [] c (All-nil (Contains edges));
      leads = (refl, refl);
      long = omega (arith, ints);
    }

record IsWalkInstead (some walk : List Edge) (a b : ℕ) : Type 0 where
  pub instead : List Edge
  pub of_these : All (Contains some) instead
  pub leads : IsWalk a instead b
  pub long : walk_length walk ≤ℤ walk_length instead

walk_instead : (some all walk : List Edge) (a b : ℕ) → All (IsImpliedBy some) all → All (Contains all) walk
    → IsWalk a walk b → IsWalkInstead some walk a b
walk_instead some all [] a b h c w =
    record { instead = []; of_these = All-nil (Contains some); leads = w; long = omega (arith, ints) }
walk_instead some all (e ∷ es) a b h c w =
    let first : IsImpliedBy some e = All-contains (IsImpliedBy some) all e h (All-head (Contains all) e es c) in
    let rest : IsWalkInstead some es e.to b = walk_instead some all es e.to b h (All-tail (Contains all) e es c) w.1 in
    let P : ℕ → Type 0 = λ v. IsWalk v first.walk e.to in
    let low : e.len ≤ℤ walk_length first.walk = first.long in
    let low' : walk_length es ≤ℤ walk_length rest.instead = rest.long in
    let sum = walk_length-append first.walk rest.instead in
    record {
      instead = first.walk ++ rest.instead;
      of_these = All-append (Contains some) first.walk rest.instead first.of_these rest.of_these;
      leads = IsWalk-append a first.walk e.to rest.instead b (subst P w.0 first.leads) rest.leads;
      long = omega (arith, ints, sum);
    }

-- where some of the edges imply all, both have positive cycles or neither has one
pub cycles_alike : (some all : List Edge) → HaveCyclesAlike some all
cycles_alike some all inside implied = (
  λ c. (
    c.0,
    record {
      of_these = λ k d lt. All-contains (Contains all) some (get_or c.0 k d) inside (c.1.of_these k d lt);
      closed = c.1.closed;
      positive = c.1.positive;
    },
  ),
  λ c.
      let w = cycle_closed c.0 c.1.closed in
      let by : IsWalkInstead some c.0 w.0 w.0 = walk_instead some all c.0 w.0 w.0 implied c.1.of_these w.1 in
      let up : pos 0 <ℤ walk_length c.0 = c.1.positive in
      let long : walk_length c.0 ≤ℤ walk_length by.instead = by.long in
      let positive : pos 0 <ℤ walk_length by.instead = omega (arith, ints) in (
        by.instead,
        record {
          of_these = by.of_these;
          closed = cycle_from_walk w.0 by.instead by.leads
              (λ e. let zero_long : walk_length by.instead ≡ pos 0 = ap walk_length e in omega (arith, ints));
          positive =
              positive;
        },
      ),
)
