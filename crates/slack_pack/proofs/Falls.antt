-- A slack that falls to what an edge allows, and a round of them.
use Rattle.std.proofs.Common.{◌≡◌, ℕ, ◌+◌, ◌*◌, ◌^◌, ◌<◌, ◌≤◌, Bool, true, false, cond, ltb, eqb, inl, inr, ℤ, pos}
use Rattle.std.proofs.Common.{neg_ℤ, ◌+ℤ◌, ◌-ℤ◌, ◌≤ℤ◌, List, length, get_or, set, refl, sym, ap, subst, ◌∙◌, arith}
use Rattle.std.proofs.lemmas.{Int.ints, Bool.{cases_eq, cases_lt, cond-true, cond-false, lt-ltb, le-ltb, eq-eqb}}
use Rattle.std.proofs.lemmas.{Bool.eqb-true, List.{length-set, get_or-set_same, get_or-set_other, Elements.All-set}}
use Rattle.std.{proofs.lemmas.List.{Elements.Contains-get_or, Sums.sum_by-set}, specs.List.{All, Contains, sum}}
use Rattle.cons_graph.specs.{declared.edges.{Edge.Edge, Why.TheVariants.Size}, Constraints.Constraints}
use Rattle.cons_graph.specs.{Constraints.{IsConstraintGraph, IsEdgeAmong}, EdgeNumbers.{edge_at, all_numbers, leaving}}
use Rattle.round_log.proofs.{Chains.In, Least.edge_among, Members.{In-filter, In-filter-from, In-range, In-range-from}}
use Rattle.round_log.proofs.Planned.{In-at, place_of_In}
use Rattle.slack_pack.specs.{Most.IsAttained, Slacks.{none_yet, room_of, Allows, Grants, IsLeastAllowed, reached}}
use Rattle.slack_pack.{specs.Slacks.{AreSlacks, IsLowered, IsQuietAt}, proofs.{Least.allows_less, Walks.walk_more}}

-- the edges that leave a variable, by their places in its run
pub leaving_at : (edges : List Edge) (v j : ℕ) → j < length (leaving edges v)
    → (get_or (leaving edges v) j 0 < length edges) × ((edge_at edges (get_or (leaving edges v) j 0)).from ≡ v)
leaving_at edges v j lt =
    let w = In-filter (λ i. eqb (edge_at edges i).from v) (get_or (leaving edges v) j 0) (all_numbers edges)
    (In-at (leaving edges v) j 0 lt) in
    let r = In-range (get_or (leaving edges v) j 0) 0 (length edges) w.0 in
    ((let low = r.1 in omega (arith, low)), eqb-true (edge_at edges (get_or (leaving edges v) j 0)).from v w.1)

pub place_of_edge : (edges : List Edge) (v i : ℕ) → i < length edges → (edge_at edges i).from ≡ v
    → (j : ℕ) × (j < length (leaving edges v)) × (get_or (leaving edges v) j 0 ≡ i)
place_of_edge edges v i lt e =
    let inside : In i (leaving edges v) =
    In-filter-from (λ k. eqb (edge_at edges k).from v) i (all_numbers edges)
    (In-range-from i 0 (length edges) (omega arith) (omega arith)) (eq-eqb (edge_at edges i).from v e) in
    let w = place_of_In (leaving edges v) i inside in
    (w.0, w.1, w.2 0)

-- ---- how many have a slack

abbrev has : ℕ → ℕ
has s = cond (ltb s none_yet) 1 0

record IsCount (old new before after : ℕ) : Type 0 where
  never_fewer : old ≤ new
  one_more : none_yet ≤ before → new ≡ old + 1

-- one slack falls
counts : (slacks : List ℕ) (v least : ℕ) → v < length slacks → least < none_yet
    → IsCount (reached slacks) (reached (set slacks v least)) (get_or slacks v 0) least
counts slacks v least lt small =
    let before : ℕ = get_or slacks v 0 in
    let total : reached (set slacks v least) + has before ≡ reached slacks + has least =
    sum_by-set has slacks v least 0 lt in
    let now : has least ≡ 1 = cond-true (ltb least none_yet) 1 0 (lt-ltb least none_yet small) in
    record {
      never_fewer = elim (cases_lt before none_yet) as (λ _. reached slacks ≤ reached (set slacks v least)) [
        | inl l ↦
            (let e : has before ≡ 1 = cond-true (ltb before none_yet) 1 0 (lt-ltb before none_yet l) in
            omega (arith, total, now, e))
        | inr m ↦
            (let e : has before ≡ 0 = cond-false (ltb before none_yet) 1 0 (le-ltb before none_yet m) in
            omega (arith, total, now, e))
      ];
      one_more =
          λ m. (let e : has before ≡ 0 = cond-false (ltb before none_yet) 1 0 (le-ltb before none_yet m) in
          omega (arith, total, now, e));
    }

-- ---- one variable

-- what a variable has whose slack falls to what this edge grants
fallen_attained : (edges : List Edge) (far : List ℕ) (x : ℕ → ℤ) (e : Edge) (v head least : ℕ) → Contains edges e
    → e.from ≡ v → pos least ≡ pos head +ℤ room_of x e → IsAttained edges far x e.to (x e.to +ℤ pos head)
    → IsAttained edges far x v (x v +ℤ pos least)
fallen_attained edges far x e v head least c f grant t = record {
  end = t.end;
  is_far = t.is_far;
  long = e.len +ℤ t.long;
  walk = walk_more edges e v t.end t.long c f t.walk;
  is = (let same : x e.from ≡ x v = ap x f in let is : x e.to +ℤ pos head
      ≡ x t.end -ℤ t.long = t.is in omega (arith, ints));
}

-- the bound after one more
bound_more : (at' head low room : ℤ) (least old new : ℕ) → new ≡ old + 1
    → (head +ℤ low) ≤ℤ pos (2 ^ 60 + 2 ^ 21 * old) → pos least ≡ low +ℤ ((head -ℤ at') -ℤ room)
    → neg_ℤ (pos (2 ^ 21)) ≤ℤ room → (at' +ℤ pos least) ≤ℤ pos (2 ^ 60 + 2 ^ 21 * new)
bound_more at' head low room least old new e a b c = omega (arith, ints)

-- the bound of a slack that is not greater
bound_same : (at' : ℤ) (least before old new : ℕ) → old ≤ new → least ≤ before
    → (at' +ℤ pos before) ≤ℤ pos (2 ^ 60 + 2 ^ 21 * old) → (at' +ℤ pos least) ≤ℤ pos (2 ^ 60 + 2 ^ 21 * new)
bound_same at' least before old new le less a = omega (arith, ints)

fallen_kept : (g : Constraints) (x : ℕ → ℤ) (slacks : List ℕ) (v k least : ℕ) → IsConstraintGraph g
    → length slacks ≡ g.vars → v < g.vars → k < length g.edges → (edge_at g.edges k).from ≡ v
    → Grants slacks x (edge_at g.edges k) least → least < get_or slacks v 0 → get_or slacks v 0 ≤ none_yet
    → (far : List ℕ) → AreSlacks g far x slacks → AreSlacks g far x (set slacks v least)
fallen_kept g x slacks v k least s counted vv kk f grant less cap far h =
    let e : Edge = edge_at g.edges k in
    let among : IsEdgeAmong g.vars e = edge_among g s k kk in
    let inside : v < length slacks = omega arith in
    let now : List ℕ = set slacks v least in
    let here : get_or now v 0 ≡ least = get_or-set_same slacks v least 0 inside in
    let there : (u : ℕ) → (u ≡ v → ⊥) → get_or now u 0 ≡ get_or slacks u 0 =
    λ u n. get_or-set_other slacks v u least 0 n in
    let count : IsCount (reached slacks) (reached now) (get_or slacks v 0) least =
    counts slacks v least inside (omega arith) in
    let zero_at : (u : ℕ) → get_or slacks u 0 ≡ 0 → get_or now u 0 ≡ 0 =
    λ u z. elim (cases_eq u v) as (λ _. get_or now u 0 ≡ 0) [
      | inl same ↦
          absurd (let q : get_or slacks u 0 ≡ get_or slacks v 0 = ap (λ i. get_or slacks i 0) same in omega arith)
      | inr n ↦ there u n ∙ z
    ] in
    let A : ℕ → Type 0 = λ b. IsAttained g.edges far x v (x v +ℤ pos b) in
    let B : ℕ → Type 0 = λ b. (x v +ℤ pos b) ≤ℤ pos (2 ^ 60 + 2 ^ 21 * reached now) in
    record {
      origin = zero_at 0 h.origin;
      held = λ u c. zero_at u (h.held u c);
      attained = λ u one lt small.
          elim (cases_eq u v) as (λ _. IsAttained g.edges far x u (x u +ℤ pos (get_or now u 0))) [
            | inl same ↦
                let P : ℕ → Type 0 = λ w. IsAttained g.edges far x w (x w +ℤ pos (get_or now w 0)) in
                let head_one : 1 ≤ e.to =
                (let n : e.to ≡ 0 → ⊥ = among.not_into_origin in elim (cases_eq e.to 0) as (λ _. 1 ≤ e.to)
                [ inl z ↦ absurd (n z) | inr d ↦ omega arith ]) in
                let new : A least = fallen_attained g.edges far x e v (get_or slacks e.to 0) least
                (Contains-get_or g.edges k (record { from = 0; to = 0; len = pos 0; why = Size }) kk) f grant.1
                (h.attained e.to head_one among.to_in_range grant.0) in
                subst P (sym same) (subst A (sym here) new)
            | inr n ↦
                let P : ℕ → Type 0 = λ b. IsAttained g.edges far x u (x u +ℤ pos b) in
                let old : get_or slacks u 0 < none_yet = (let q = there u n in omega (arith, q, small)) in
                subst P (sym (there u n)) (h.attained u one lt old)
          ];
      small = λ u lt small.
          elim (cases_eq u v) as (λ _. (x u +ℤ pos (get_or now u 0)) ≤ℤ pos (2 ^ 60 + 2 ^ 21 * reached now)) [
            | inl same ↦
                let P : ℕ → Type 0 = λ w. (x w +ℤ pos (get_or now w 0)) ≤ℤ pos (2 ^ 60 + 2 ^ 21 * reached now) in
                let new : B least = elim (cases_lt (get_or slacks v 0) none_yet) as (λ _. B least) [
                  | inl l ↦ bound_same (x v) least (get_or slacks v 0) (reached slacks) (reached now) count.never_fewer
                      (omega arith) (h.small v vv l)
                  | inr m ↦
                      let R : ℤ → Type 0 = λ a. pos least ≡ pos (get_or slacks e.to 0) +ℤ ((x e.to -ℤ a) -ℤ e.len) in
                      bound_more (x v) (x e.to) (pos (get_or slacks e.to 0)) e.len least (reached slacks) (reached now)
                      (count.one_more m) (h.small e.to among.to_in_range grant.0) (subst R (ap x f) grant.1)
                      among.length_low
                ] in
                subst P (sym same) (subst B (sym here) new)
            | inr n ↦
                let P : ℕ → Type 0 = λ b. (x u +ℤ pos b) ≤ℤ pos (2 ^ 60 + 2 ^ 21 * reached now) in
                let old : get_or slacks u 0 < none_yet = (let q = there u n in omega (arith, q, small)) in
                subst P (sym (there u n))
                (bound_same (x u) (get_or slacks u 0) (get_or slacks u 0) (reached slacks) (reached now)
                count.never_fewer (omega arith) (h.small u lt old))
          ];
    }

pub falls : (g : Constraints) (x : ℕ → ℤ) (slacks : List ℕ) (v least : ℕ) → IsConstraintGraph g
    → length slacks ≡ g.vars → All (λ s. s ≤ none_yet) slacks → v < g.vars
    → IsLeastAllowed g.edges x slacks (leaving g.edges v) (length (leaving g.edges v)) (get_or slacks v 0) least
    → least < get_or slacks v 0 → IsLowered g x slacks (set slacks v least) true
falls g x slacks v least s counted capped vv h less =
    let inside : v < length slacks = omega arith in
    let cap : get_or slacks v 0 ≤ none_yet = capped v 0 inside in
    record {
      counted = length-set slacks v least ∙ counted;
      capped = All-set (λ a. a ≤ none_yet) slacks v least (omega arith) capped;
      kept = elim h.granted as (λ _. (far : List ℕ) → AreSlacks g far x slacks
          → AreSlacks g far x (set slacks v least)) [
            | inl e ↦ absurd (omega arith)
            | inr w ↦
                let k = leaving_at g.edges v w.0 w.1 in
                fallen_kept g x slacks v (get_or (leaving g.edges v) w.0 0) least s counted vv k.0 k.1 w.2 less cap
          ];
      less = λ t.
          (let total : sum (set slacks v least) + get_or slacks v 0
          ≡ sum slacks + least = sum_by-set (λ (a : ℕ). a) slacks v least 0 inside in omega (arith, total));
      same = λ f. (let d : true ≡ false = f in absurd (cc));
    }

-- where it does not fall, its edges allow it
pub stays : (edges : List Edge) (x : ℕ → ℤ) (slacks : List ℕ) (v least : ℕ)
    → IsLeastAllowed edges x slacks (leaving edges v) (length (leaving edges v)) (get_or slacks v 0) least
    → get_or slacks v 0 ≤ least → IsQuietAt edges x slacks v
stays edges x slacks v least h le = λ i lt f.
    let w = place_of_edge edges v i lt f in
    let P : ℕ → Type 0 = λ k. Allows slacks x (edge_at edges k) least in
    allows_less slacks x (edge_at edges i) least (get_or slacks v 0) le (subst P w.2 (h.allowed w.0 w.1))

-- ---- a round

-- one more fell
pub fell_more : (g : Constraints) (x : ℕ → ℤ) (a b c : List ℕ) (some : Bool) → IsLowered g x a b some
    → IsLowered g x b c true → IsLowered g x a c true
fell_more g x a b c some h k = record {
  counted = k.counted;
  capped = k.capped;
  kept = λ far s. k.kept far (h.kept far s);
  less = λ t. (let now : sum c < sum b = k.less refl in lower some h now);
  same = λ f. (let d : true ≡ false = f in absurd (cc));
}
  where
    lower : (r : Bool) → IsLowered g x a b r → sum c < sum b → sum c < sum a
    lower true h lt = (let first : sum b < sum a = h.less refl in omega (arith, first, lt))
    lower false h lt = (let same : sum b ≡ sum a = ap sum (h.same refl) in omega (arith, same, lt))
