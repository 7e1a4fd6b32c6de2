-- What inequalities imply they imply over joint variables, and with more inequalities.
use Rattle.std.proofs.Common.{◌≡◌, ℕ, ℤ, ◌+ℤ◌, List, [], ◌∷◌, map, refl, ap, arith, Contains, All}
use Rattle.std.proofs.lemmas.{Int.ints, List.Elements.{All-map, All-weaker, All-contains, All-contains_itself}}
use Rattle.cons_graph.specs.{declared.edges.Edge.Edge, Walks.{IsWalk, walk_length}}
use Rattle.round_log.specs.Implied.{IsImpliedBy}
use Rattle.pitch_join.{specs.Joined.{joined, shifted}, proofs.Lists.of_images}

pub walk_shifted : (base a : ℕ) (walk : List Edge) (b : ℕ) → IsWalk a walk b
    → IsWalk (joined base a) (map (shifted base) walk) (joined base b)
walk_shifted base a [] b leads = ap (joined base) leads
walk_shifted base a (e ∷ es) b leads = (ap (joined base) leads.0, walk_shifted base e.to es b leads.1)

length_shifted : (base : ℕ) (walk : List Edge) → walk_length (map (shifted base) walk) ≡ walk_length walk
length_shifted base [] = refl
length_shifted base (e ∷ es) = ap (λ (z : ℤ). e.len +ℤ z) (length_shifted base es)

pub implied_shifted : (base : ℕ) (edges : List Edge) (e : Edge) → IsImpliedBy edges e
    → IsImpliedBy (map (shifted base) edges) (shifted base e)
implied_shifted base edges e h =
    let all : List Edge = map (shifted base) edges in
    let C : Edge → Type 0 = λ x. Contains all (shifted base x) in
    let each : All C edges = (of_images (Contains all) (shifted base) edges).0 (All-contains_itself all) in
    let same = length_shifted base h.walk in
    let long = h.long in
    record {
      walk = map (shifted base) h.walk;
      of_these = All-map (Contains all) (shifted base) h.walk
          (All-weaker (Contains edges) C (λ x among. All-contains C edges x each among) h.walk h.of_these);
      leads = walk_shifted base e.from h.walk e.to h.leads;
      long = omega (arith, ints, same, long);
    }

pub implied_more : (some all : List Edge) (e : Edge) → All (Contains all) some → IsImpliedBy some e → IsImpliedBy all e
implied_more some all e among h = record {
  walk = h.walk;
  of_these = All-weaker (Contains some) (Contains all) (λ x here. All-contains (Contains all) some x among here)
      h.walk h.of_these;
  leads = h.leads;
  long = h.long;
}
