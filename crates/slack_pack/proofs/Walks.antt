-- Walks against solutions.
use Rattle.std.proofs.Common.{◌≡◌, ℕ, ◌<◌, ℤ, pos, ◌+ℤ◌, ◌-ℤ◌, ◌≤ℤ◌, List, [], ◌∷◌, get_or, refl, sym, ap, subst, inl}
use Rattle.std.proofs.{Common.{inr, arith}, lemmas.{Int.ints, Bool.cases_eq, List.Elements.{All-contains, All-cons}}}
use Rattle.std.{proofs.lemmas.List.Elements.All-nil, specs.List.Contains}
use Rattle.cons_graph.specs.{declared.edges.Edge.Edge, Solutions.{Meets, IsSolution}, Walks.walk_length}
use Rattle.round_log.proofs.Least.{walk_rises}
use Rattle.slack_pack.specs.Most.{IsHeld, HasWalk, IsAttained, IsOnCriticalWalk, AreLeastAndMost}

-- along a walk a solution rises by at least its length
pub rises : (edges : List Edge) (x : ℕ → ℤ) (a b : ℕ) (long : ℤ) → IsSolution edges x → HasWalk edges a b long
    → long ≤ℤ (x b -ℤ x a)
rises edges x a b long s w =
    let r : walk_length w.walk ≤ℤ (x b -ℤ x a) =
    walk_rises x a w.walk b w.leads
    (λ k d lt. All-contains (Meets x) edges (get_or w.walk k d) s.meets (w.of_these k d lt)) in
    let l : walk_length w.walk ≡ long = w.as_long in
    omega (arith, ints)

pub no_walk : (edges : List Edge) (v : ℕ) → HasWalk edges v v (pos 0)
no_walk edges v = record { walk = []; of_these = All-nil (Contains edges); leads = refl; as_long = refl }

-- a walk from the head of an edge, with the edge before it
pub walk_more : (edges : List Edge) (e : Edge) (v b : ℕ) (long : ℤ) → Contains edges e → e.from ≡ v
    → HasWalk edges e.to b long → HasWalk edges v b (e.len +ℤ long)
walk_more edges e v b long c f w = record {
  walk = e ∷ w.walk;
  of_these = All-cons (Contains edges) e w.walk c w.of_these;
  leads = (f, w.leads);
  as_long = ap (λ l. e.len +ℤ l) w.as_long;
}

-- a value that is attained is above that of each solution that holds the far variables
pub attained_above : (edges : List Edge) (far : List ℕ) (x z : ℕ → ℤ) (v : ℕ) (a : ℤ) → IsAttained edges far x v a
    → IsHeld edges far x z → z v ≤ℤ a
attained_above edges far x z v a t h =
    let r : t.long ≤ℤ (z t.end -ℤ z v) = rises edges z v t.end t.long h.solves t.walk in
    let same : z t.end ≡ x t.end = h.held t.end t.is_far in
    let is : a ≡ x t.end -ℤ t.long = t.is in
    omega (arith, ints)

-- ---- the law

-- the value that a critical walk fixes
fixed : (edges : List Edge) (far : List ℕ) (x y : ℕ → ℤ) (v : ℕ) → IsSolution edges x → IsHeld edges far x y
    → x v ≤ℤ y v → IsOnCriticalWalk edges far x v → y v ≡ x v
fixed edges far x y v s h low c =
    let before : c.before ≤ℤ (x v -ℤ x 0) = rises edges x 0 v c.before s c.first in
    let after : c.after ≤ℤ (y c.end -ℤ y v) = rises edges y v c.end c.after h.solves c.second in
    let zero : x 0 ≡ pos 0 = s.origin in
    let same : y c.end ≡ x c.end = h.held c.end c.is_far in
    let long : c.before +ℤ c.after ≡ x c.end = c.as_long in
    omega (arith, ints)

-- the critical walk of a variable that cannot move
critical : (edges : List Edge) (far : List ℕ) (x y : ℕ → ℤ) (v : ℕ) → HasWalk edges 0 v (x v)
    → IsAttained edges far x v (y v) → y v ≡ x v → IsOnCriticalWalk edges far x v
critical edges far x y v w t e = record {
  end = t.end;
  is_far = t.is_far;
  before = x v;
  after = t.long;
  first = w;
  second = t.walk;
  as_long = (let is : y v ≡ x t.end -ℤ t.long = t.is in omega (arith, ints));
}

-- the origin lies on the walk to any far variable
origin_critical : (vars : ℕ) (edges : List Edge) (far : List ℕ) (x y : ℕ → ℤ) → AreLeastAndMost vars edges far x y
    → IsOnCriticalWalk edges far x 0
origin_critical vars edges far x y b =
    let f = b.some_far in
    record {
      end = f.1;
      is_far = (f.0, f.2, f.3);
      before = pos 0;
      after = x f.1;
      first = no_walk edges 0;
      second = b.reached f.1 f.4;
      as_long = omega (arith, ints);
    }

pub stands : (vars : ℕ) (edges : List Edge) (far : List ℕ) (x y : ℕ → ℤ) → AreLeastAndMost vars edges far x y
    → (v : ℕ) → v < vars → (y v ≡ x v → IsOnCriticalWalk edges far x v) × (IsOnCriticalWalk edges far x v → y v ≡ x v)
stands vars edges far x y b v lt =
    let low : x v ≤ℤ y v = b.most.above x (record { solves = b.solves; held = λ f c. refl }) v lt in
    let P : ℕ → Type 0 = λ u. IsOnCriticalWalk edges far x u in (
      λ e. elim (cases_eq v 0) as (λ _. IsOnCriticalWalk edges far x v) [
        | inl zero ↦ subst P (sym zero) (origin_critical vars edges far x y b)
        | inr n ↦ critical edges far x y v (b.reached v lt) (b.attained v (omega arith) lt) e
      ],
      fixed edges far x y v b.solves b.most.is_held low,
    )
