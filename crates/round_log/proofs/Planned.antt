-- The rounds of a constraint graph and an order of its variables are planned as the rounds need it.
use Rattle.std.proofs.Common.{◌≡◌, ◌≢◌, ℕ, zero, suc, ◌<◌, ◌≤◌, Bool, true, not, eqb, List, [], ◌∷◌, ◌++◌, inl, inr}
use Rattle.std.proofs.{Common.{length, get_or, refl, sym, ap, subst, ◌∙◌, arith, eq-eqb}, lemmas.Bool.cond-true}
use Rattle.std.proofs.lemmas.Bool.{cond-false, cases_eq, eqb-true, ne_eqb, ltb-true, not-false, not_from_true}
use Rattle.std.specs.List.{AllPairs, Contains, filter, flat_map}
use Rattle.cons_graph.specs.{declared.edges.Edge.Edge, Constraints.{Constraints, IsConstraintGraph}}
use Rattle.cons_graph.specs.EdgeNumbers.{edge_at, all_numbers, leaving}
use Rattle.round_log.specs.{Orders.NamesEachOnce, Looks.{place_in, is_forward}, Rounds.schedule_of}
use Rattle.round_log.proofs.{Chains.In, Members.{In-append, In-filter, In-filter-from, In-range, In-range-from}}
use Rattle.round_log.proofs.{Members.{In-flat_map, In-flat_map-back, IsDistinct}, Parts.IsInOrder, RoundSteps.IsPlanned}
use Rattle.round_log.proofs.Least.{edge_among}

-- ---- members by their places

pub In-at : {X : Type 0} (xs : List X) (i : ℕ) (d : X) → i < length xs → In (get_or xs i d) xs
In-at [] i d h = absurd (omega arith)
In-at (x ∷ xs) zero d h = inl refl
In-at (x ∷ xs) (suc i) d h = inr (In-at xs i d (omega arith))

pub In-from_contains : {X : Type 0} (xs : List X) (x : X) → Contains xs x → In x xs
In-from_contains xs x c = let P = λ (y : _). In y xs in subst P c.2 (In-at xs c.0 x c.1)

pub place_of_In : {X : Type 0} (xs : List X) (x : X) → In x xs
    → (i : ℕ) × (i < length xs) × ((d : X) → get_or xs i d ≡ x)
place_of_In [] x h = absurd h
place_of_In {X} (y ∷ xs) x h =
    elim h as (λ _. (i : ℕ) × (i < length (y ∷ xs)) × ((d : X) → get_or (y ∷ xs) i d ≡ x)) [
      | inl e ↦ (0, omega arith, λ d. e)
      | inr i ↦ let w = place_of_In xs x i in (suc w.0, (let l = w.1 in omega (arith, l)), w.2)
    ]

pub IsDistinct-from_pairs : (xs : List ℕ) → AllPairs (λ u v. u ≢ v) xs → IsDistinct xs
IsDistinct-from_pairs [] h = tt
IsDistinct-from_pairs (x ∷ xs) h = (
  λ i. let w = place_of_In xs x i in h 0 (suc w.0) 0 (omega arith) (let l = w.1 in omega (arith, l)) (sym (w.2 0)),
  IsDistinct-from_pairs xs (λ i j d lt le. h (suc i) (suc j) d (omega arith) (omega arith)),
)

-- ---- places in an order

pub place_in_range : (order : List ℕ) (v : ℕ) → In v order → place_in order v < length order
place_in_range [] v h = absurd h
place_in_range (u ∷ us) v h =
    let P : ℕ → Type 0 = λ n. n < suc (length us) in
    elim (cases_eq u v) [
      | inl e ↦ subst P (sym (cond-true (eqb u v) 0 (suc (place_in us v)) (eq-eqb u v e))) (omega arith)
      | inr n ↦ subst P (sym (cond-false (eqb u v) 0 (suc (place_in us v)) (ne_eqb u v n)))
          (elim h as (λ _. suc (place_in us v) < suc (length us)) [
            | inl e ↦ absurd (n e)
            | inr i ↦
                (let k : place_in us v < length us = place_in_range us v i in omega arith)
          ])
    ]

-- each variable of the list has a place that no later one is below
abbrev IsPlacedUp : (ℕ → ℕ) → List ℕ → Type 0
IsPlacedUp place [] = Unit {0}
IsPlacedUp place (u ∷ us) = ((w : ℕ) → In w us → place u ≤ place w) × IsPlacedUp place us

placed_later : (f g : ℕ → ℕ) (us : List ℕ) → ((w : ℕ) → In w us → g w ≡ suc (f w)) → IsPlacedUp f us → IsPlacedUp g us
placed_later f g [] e h = tt
placed_later f g (u ∷ us) e h = (
  λ w i. (let a = e u (inl refl) in let b = e w (inr i) in let c = h.0 w i in omega (arith, a, b, c)),
  placed_later
      f g us (λ w i. e w (inr i)) h.1,
)

placed_up : (order : List ℕ) → IsDistinct order → IsPlacedUp (place_in order) order
placed_up [] d = tt
placed_up (u ∷ us) d =
    let first : place_in (u ∷ us) u ≡ 0 = cond-true (eqb u u) 0 (suc (place_in us u)) (eq-eqb u u refl) in (
      λ w i. omega (arith, first),
      placed_later (place_in us) (place_in (u ∷ us)) us
          (λ w i. cond-false (eqb u w) 0 (suc (place_in us w))
          (ne_eqb u w (λ e. d.0 (let P : ℕ → Type 0 = λ x. In x us in subst P (sym e) i)))) (placed_up us d.1),
    )

-- ---- the forward edges are in order

in_order-append : (edge : ℕ → Edge) (xs ys : List ℕ) → IsInOrder edge xs → IsInOrder edge ys
    → ((k j : ℕ) → In k xs → In j ys → (edge j).to ≢ (edge k).from) → IsInOrder edge (xs ++ ys)
in_order-append edge [] ys a b c = b
in_order-append edge (x ∷ xs) ys a b c = (
  λ j i. elim (In-append j xs ys i) as (λ _. (edge j).to ≢ (edge x).from)
      [ inl h ↦ a.0 j h | inr h ↦ c x j (inl refl) h ],
  in_order-append edge xs ys a.1 b
      (λ k j h i. c k j (inr h) i),
)

in_order_group : (edge : ℕ → Edge) (xs : List ℕ) → ((k j : ℕ) → In k xs → In j xs → (edge j).to ≢ (edge k).from)
    → IsInOrder edge xs
in_order_group edge [] h = tt
in_order_group edge (x ∷ xs) h =
    (λ j i. h x j (inl refl) (inr i), in_order_group edge xs (λ k j a b. h k j (inr a) (inr b)))

-- the forward edges that leave a variable
abbrev group : List Edge → List ℕ → ℕ → List ℕ
group edges order v = filter (λ k. is_forward order (edge_at edges k)) (leaving edges v)

in_group : (edges : List Edge) (order : List ℕ) (v k : ℕ) → In k (group edges order v)
    → (k < length edges) × ((edge_at edges k).from ≡ v) × (is_forward order (edge_at edges k) ≡ true)
in_group edges order v k i =
    let a = In-filter (λ j. is_forward order (edge_at edges j)) k (leaving edges v) i in
    let b = In-filter (λ j. eqb (edge_at edges j).from v) k (all_numbers edges) a.0 in
    let c = In-range k 0 (length edges) b.0 in
    ((let l = c.1 in omega (arith, l)), eqb-true (edge_at edges k).from v b.1, a.1)

groups_in_order : (edges : List Edge) (order us : List ℕ) → IsPlacedUp (place_in order) us
    → IsInOrder (edge_at edges) (flat_map (group edges order) us)
groups_in_order edges order [] h = tt
groups_in_order edges order (u ∷ us) h =
    in_order-append (edge_at edges) (group edges order u) (flat_map (group edges order) us)
    (in_order_group (edge_at edges) (group edges order u) (λ k j a b e.
    let gk = in_group edges order u k a in
    let gj = in_group edges order u j b in
    let up : place_in order (edge_at edges j).from < place_in order (edge_at edges j).to =
    ltb-true (place_in order (edge_at edges j).from) (place_in order (edge_at edges j).to) gj.2 in
    let same : place_in order (edge_at edges j).to ≡ place_in order (edge_at edges j).from =
    ap (place_in order) (e ∙ gk.1 ∙ sym gj.1) in
    omega arith))
    (groups_in_order edges order us h.1)
    (λ k j a b e.
    let gk = in_group edges order u k a in
    let w = In-flat_map-back (group edges order) j us b in
    let gj = in_group edges order w.0 j w.2 in
    let up : place_in order (edge_at edges j).from < place_in order (edge_at edges j).to =
    ltb-true (place_in order (edge_at edges j).from) (place_in order (edge_at edges j).to) gj.2 in
    let to_u : place_in order (edge_at edges j).to ≡ place_in order u = ap (place_in order) (e ∙ gk.1) in
    let from_w : place_in order (edge_at edges j).from ≡ place_in order w.0 = ap (place_in order) gj.1 in
    let below : place_in order u ≤ place_in order w.0 = h.0 w.0 w.1 in
    omega arith)

-- ---- the plan of a graph and an order

abbrev pub is_backward : List Edge → List ℕ → ℕ → Bool
is_backward edges order k = not (is_forward order (edge_at edges k))

pub planned : (g : Constraints) (order : List ℕ) → IsConstraintGraph g → NamesEachOnce g.vars order
    → IsPlanned (schedule_of g.edges order) (is_backward g.edges order) (length g.edges)
planned g order s o = record {
  forward_edges = λ k i.
      let w = In-flat_map-back (group g.edges order) k order i in
      let h = in_group g.edges order w.0 k w.2 in
      record {
        among = h.0;
        forward = not_from_true (is_forward order (edge_at g.edges k)) h.2;
        ends_differ = (edge_among g s k h.0).ends_differ;
      };
  backward_edges = λ k i.
      let h = In-filter (λ j. not (is_forward order (edge_at g.edges j))) k (all_numbers g.edges) i in
      let r = In-range k 0 (length g.edges) h.0 in
      let lt : k < length g.edges = (let l = r.1 in omega (arith, l)) in
      record { among = lt; backward = h.1; ends_differ = (edge_among g s k lt).ends_differ };
  in_order = groups_in_order g.edges order order (placed_up order (IsDistinct-from_pairs order o.once));
  backward_all = λ k lt b. In-filter-from (λ j. not (is_forward order (edge_at g.edges j))) k (all_numbers g.edges)
      (In-range-from k 0 (length g.edges) (omega arith) (omega arith)) b;
  forward_all = λ k lt f.
      let u : ℕ = (edge_at g.edges k).from in
      let here : In u order = In-from_contains order u (o.each u (edge_among g s k lt).from_in_range) in
      let leaves : In k (leaving g.edges u) =
      In-filter-from (λ j. eqb (edge_at g.edges j).from u) k (all_numbers g.edges)
      (In-range-from k 0 (length g.edges) (omega arith) (omega arith)) (eq-eqb u u refl) in
      In-flat_map (group g.edges order) u k order here
      (In-filter-from (λ j. is_forward order (edge_at g.edges j)) k (leaving g.edges u) leaves
      (not-false (is_forward order (edge_at g.edges k)) f));
}
