-- Labels against solutions: never above one, and at the end the least one; a positive cycle excludes every solution.
use Rattle.std.proofs.Common.{◌≡◌, ℕ, ◌<◌, ◌≤◌, ℤ, pos, ◌+ℤ◌, ◌-ℤ◌, ◌≤ℤ◌, ◌<ℤ◌, Bool, eqb, Some, None, List, [], ◌∷◌}
use Rattle.std.proofs.Common.{inl, inr, length, get_or, refl, sym, ap, subst, ◌∙◌, arith, unwrap_or}
use Rattle.std.proofs.lemmas.{Int.ints, Bool.{cond-true, cond-false, cases_Bool, cases_eq, eqb-true}}
use Rattle.std.proofs.lemmas.List.{get_or_default, Elements.{All-from_get_or, All-contains, All-head, All-tail}}
use Rattle.std.specs.List.{All, Contains}
use Rattle.cons_graph.specs.declared.edges.{Edge.Edge, Why.TheVariants.Size}
use Rattle.cons_graph.specs.{Constraints.{Constraints, IsConstraintGraph, IsEdgeAmong}, Solutions.{Meets, IsSolution}}
use Rattle.cons_graph.specs.{Solutions.IsLeastSolution, Walks.{IsWalk, walk_length, IsCycle, IsPositiveCycle}}
use Rattle.cons_graph.specs.EdgeNumbers.{edge_at}
use Rattle.round_log.specs.{declared.log.Entry.Entry, Looks.label}
use Rattle.round_log.proofs.{Raises.{IsRaise, IsQuiet, label-same, label-other}, Parts.IsLog}

-- the edge of a number in range, and the edge from the origin to a variable
pub edge_among : (g : Constraints) → IsConstraintGraph g → (k : ℕ) → k < length g.edges
    → IsEdgeAmong g.vars (edge_at g.edges k)
edge_among g s k lt = s.edges_among k (record { from = 0; to = 0; len = pos 0; why = Size }) lt

pub from_origin : (g : Constraints) → IsConstraintGraph g → (v : ℕ) → 1 ≤ v → v < g.vars
    → (k : ℕ) × (k < length g.edges) × ((edge_at g.edges k).from ≡ 0) × ((edge_at g.edges k).to ≡ v)
from_origin g s v a b =
    let w = s.all_from_origin v a b in
    let none : Edge = record { from = 0; to = 0; len = pos 0; why = Size } in
    let same : edge_at g.edges w.0 ≡ w.1 = get_or_default g.edges w.0 none w.1 w.2 ∙ w.3 in
    (w.0, w.2, ap (λ e. e.from) same ∙ w.4.0, ap (λ e. e.to) same ∙ w.4.1)

-- a map that meets every edge of the list meets the one of each number
pub meets_at : (edges : List Edge) (x : ℕ → ℤ) → All (Meets x) edges → (k : ℕ) → k < length edges
    → Meets x (edge_at edges k)
meets_at edges x h k lt = h k (record { from = 0; to = 0; len = pos 0; why = Size }) lt

-- ---- labels never pass a solution

pub labels_below : (edge : ℕ → Edge) (back : ℕ → Bool) (m : ℕ) (rs : List Entry) (x : ℕ → ℤ) → IsLog edge back m rs
    → ((k : ℕ) → k < m → Meets x (edge k)) → x 0 ≡ pos 0 → (v : ℕ) (a : ℤ) → label rs v ≡ Some a → a ≤ℤ x v
labels_below edge back m [] x l h z v a e =
    elim (cases_eq v 0) [
      | inl s ↦
          let w : Some (pos 0) ≡ Some a = sym (cond-true (eqb v 0) (Some (pos 0)) None (ap (λ u. eqb u 0) s)) ∙ e in
          let p : pos 0 ≡ a = cc in
          let q : x v ≡ pos 0 = ap x s ∙ z in
          omega (arith, ints)
      | inr n ↦
          absurd (let w : None ≡ Some a = sym
          (cond-false (eqb v 0) (Some (pos 0)) None
          (elim (cases_Bool (eqb v 0)) [ inl t ↦ absurd (n (eqb-true v 0 t)) | inr f ↦ f ])) ∙ e in cc)
    ]
labels_below edge back m (r ∷ rs) x l h z v a e =
    let i : IsRaise edge rs r.edge r = l.0.raise in
    elim (cases_eq r.var v) [
      | inl s ↦
          let w : Some r.value ≡ Some a = sym (label-same r rs v s) ∙ e in
          let p : r.value ≡ a = cc in
          let tail : i.tail ≤ℤ x (edge r.edge).from =
          labels_below edge back m rs x l.1 h z (edge r.edge).from i.tail i.tail_is in
          let rise : (edge r.edge).len ≤ℤ (x (edge r.edge).to -ℤ x (edge r.edge).from) = h r.edge l.0.among in
          let value : r.value ≡ i.tail +ℤ (edge r.edge).len = i.value_is in
          let head : x (edge r.edge).to ≡ x v = ap x (sym i.var_is ∙ s) in
          omega (arith, ints)
      | inr n ↦ labels_below edge back m rs x l.1 h z v a (sym (label-other r rs v n) ∙ e)
    ]

-- ---- at the end

pub origin_label : (g : Constraints) (back : ℕ → Bool) (rs : List Entry) → IsConstraintGraph g
    → IsLog (edge_at g.edges) back (length g.edges) rs → label rs 0 ≡ Some (pos 0)
origin_label g back [] s l = refl
origin_label g back (r ∷ rs) s l =
    label-other r rs 0 (λ e. (edge_among g s r.edge l.0.among).not_into_origin (sym l.0.raise.var_is ∙ e))
    ∙ origin_label g back rs s l.1

pub labelled : (g : Constraints) (back : ℕ → Bool) (rs : List Entry) → IsConstraintGraph g
    → IsLog (edge_at g.edges) back (length g.edges) rs
    → ((k : ℕ) → k < length g.edges → IsQuiet (edge_at g.edges) rs k) → (v : ℕ) → v < g.vars
    → (a : ℤ) × (label rs v ≡ Some a)
labelled g back rs s l q v lt =
    elim (cases_eq v 0) [
      | inl e ↦ (pos 0, ap (label rs) e ∙ origin_label g back rs s l)
      | inr n ↦
          let w = from_origin g s v (omega arith) lt in
          let k : ℕ = w.0 in
          let t : label rs (edge_at g.edges k).from ≡ Some (pos 0) = ap (label rs) w.2 ∙ origin_label g back rs s l in
          ((q k w.1).head_for (pos 0) t, ap (label rs) (sym w.3) ∙ (q k w.1).head_is (pos 0) t)
    ]

-- the value of a variable at the end of the rounds: its label
abbrev pub label_value : List Entry → ℕ → ℤ
label_value rs v = unwrap_or (label rs v) (pos 0)

pub label_value-is : (rs : List Entry) (v : ℕ) (a : ℤ) → label rs v ≡ Some a → label_value rs v ≡ a
label_value-is rs v a e = ap (λ o. unwrap_or o (pos 0)) e

pub quiet_meets : (g : Constraints) (back : ℕ → Bool) (rs : List Entry) → IsConstraintGraph g
    → IsLog (edge_at g.edges) back (length g.edges) rs
    → ((k : ℕ) → k < length g.edges → IsQuiet (edge_at g.edges) rs k) → (k : ℕ) → k < length g.edges
    → Meets (label_value rs) (edge_at g.edges k)
quiet_meets g back rs s l q k lt =
    let e : Edge = edge_at g.edges k in
    let tail = labelled g back rs s l q e.from (edge_among g s k lt).from_in_range in
    let t : label_value rs e.from ≡ tail.0 = label_value-is rs e.from tail.0 tail.1 in
    let h : label_value rs e.to ≡ (q k lt).head_for tail.0 tail.1 =
    label_value-is rs e.to ((q k lt).head_for tail.0 tail.1) ((q k lt).head_is tail.0 tail.1) in
    let enough : (tail.0 +ℤ e.len) ≤ℤ (q k lt).head_for tail.0 tail.1 = (q k lt).enough tail.0 tail.1 in
    let P : ℤ → Type 0 = λ y. e.len ≤ℤ (y -ℤ label_value rs e.from) in
    let Q : ℤ → Type 0 = λ y. e.len ≤ℤ ((q k lt).head_for tail.0 tail.1 -ℤ y) in
    subst P (sym h) (subst Q (sym t) (omega (arith, ints)))

-- where every edge is quiet, the labels are the least solution
pub quiet_least : (g : Constraints) (back : ℕ → Bool) (rs : List Entry) → IsConstraintGraph g
    → IsLog (edge_at g.edges) back (length g.edges) rs
    → ((k : ℕ) → k < length g.edges → IsQuiet (edge_at g.edges) rs k)
    → IsLeastSolution g.vars g.edges (label_value rs)
quiet_least g back rs s l q = record {
  solves = record {
    origin = label_value-is rs 0 (pos 0) (origin_label g back rs s l);
    meets = All-from_get_or (Meets (label_value rs)) g.edges (record { from = 0; to = 0; len = pos 0; why = Size })
        (quiet_meets g back rs s l q);
  };
  below = λ y sol v lt.
      let a = labelled g back rs s l q v lt in
      let P : ℤ → Type 0 = λ z. z ≤ℤ y v in
      subst P (sym (label_value-is rs v a.0 a.1))
      (labels_below (edge_at g.edges) back (length g.edges) rs y l (meets_at g.edges y sol.meets) sol.origin v a.0
      a.1);
}

-- a map that agrees with the least solution on the variables is it
pub least_same : (g : Constraints) (x y : ℕ → ℤ) → IsConstraintGraph g → IsLeastSolution g.vars g.edges x
    → ((v : ℕ) → v < g.vars → y v ≡ x v) → IsLeastSolution g.vars g.edges y
least_same g x y s l same = record {
  solves = record {
    origin = same 0 s.has_origin ∙ l.solves.origin;
    meets = λ k d lt.
        let e : Edge = get_or g.edges k d in
        let P : ℤ → Type 0 = λ z. e.len ≤ℤ (z -ℤ y e.from) in
        let Q : ℤ → Type 0 = λ z. e.len ≤ℤ (x e.to -ℤ z) in
        subst P (sym (same e.to (s.edges_among k d lt).to_in_range))
        (subst Q (sym (same e.from (s.edges_among k d lt).from_in_range)) (l.solves.meets k d lt));
  };
  below = λ z sol v lt. let P : ℤ → Type 0 = λ w. w ≤ℤ z v in subst P (sym (same v lt)) (l.below z sol v lt);
}

-- ---- walks and cycles against solutions

-- along a walk a solution rises by at least its length
pub walk_rises : (x : ℕ → ℤ) (start : ℕ) (es : List Edge) (end : ℕ) → IsWalk start es end → All (Meets x) es
    → walk_length es ≤ℤ (x end -ℤ x start)
walk_rises x start [] end w h = let e : x start ≡ x end = ap x w in omega (arith, ints)
walk_rises x start (e ∷ es) end w h =
    let first : e.len ≤ℤ (x e.to -ℤ x e.from) = All-head (Meets x) e es h in
    let rest : walk_length es ≤ℤ (x end -ℤ x e.to) = walk_rises x e.to es end w.1 (All-tail (Meets x) e es h) in
    let same : x e.from ≡ x start = ap x w.0 in
    omega (arith, ints)

pub cycle_closed : (es : List Edge) → IsCycle es → (v : ℕ) × IsWalk v es v
cycle_closed [] c = absurd c
cycle_closed (e ∷ es) c = (e.from, (refl, c))

meets_of_these : (edges walk : List Edge) (x : ℕ → ℤ) → All (Meets x) edges → All (Contains edges) walk
    → All (Meets x) walk
meets_of_these edges walk x h c = λ k d lt. All-contains (Meets x) edges (get_or walk k d) h (c k d lt)

-- a positive cycle excludes every solution
pub positive_cycle_excludes : (edges walk : List Edge) (x : ℕ → ℤ) → IsPositiveCycle edges walk → IsSolution edges x → ⊥
positive_cycle_excludes edges walk x c s =
    let w = cycle_closed walk c.closed in
    let rise : walk_length walk ≤ℤ (x w.0 -ℤ x w.0) =
    walk_rises x w.0 walk w.0 w.1 (meets_of_these edges walk x s.meets c.of_these) in
    let p : pos 0 <ℤ walk_length walk = c.positive in
    omega (arith, ints)
