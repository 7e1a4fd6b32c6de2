-- Values that rise from those of a least solution: one look at an edge, and the end.
use Rattle.std.proofs.Common.{◌≡◌, ◌≢◌, ℕ, zero, suc, ◌^◌, ◌<◌, ◌≤◌, Bool, true, false, ◌⊎◌, inl, inr, ℤ, pos, negsuc}
use Rattle.std.proofs.Common.{neg_ℤ, ◌+ℤ◌, ◌-ℤ◌, ◌≤ℤ◌, ◌<ℤ◌, List, [], ◌∷◌, ◌++◌, length, get_or, set, refl, sym, subst}
use Rattle.std.proofs.{Common.{◌∙◌, arith}, lemmas.{Int.ints, Bool.{cases_eq, cases_lt}, List.length-set}}
use Rattle.std.proofs.lemmas.List.{get_or-set_same, get_or-set_other, Elements.{All-from_get_or, All-push}}
use Rattle.std.{proofs.lemmas.List.Elements.Contains-get_or, specs.List.Contains}
use Rattle.cons_graph.specs.{declared.edges.Edge.Edge, Constraints.IsEdgeAmong, EdgeNumbers.edge_at, Solutions.Meets}
use Rattle.cons_graph.specs.{Solutions.{IsLeastSolution, value_of}, Walks.{IsWalk, walk_length, HasPositiveCycle}}
use Rattle.cons_graph.proofs.CycleTest.{cycle_from_walk}
use Rattle.round_log.proofs.Least.{edge_among, meets_at}
use Rattle.edit_session.specs.{Links.IsLatest, Raised.{IsReached, IsRaised, nat_of, room_of, room_left}}
use Rattle.edit_session.proofs.Linked.{none}

-- ---- walks

walk_push : (a b : ℕ) (walk : List Edge) (e : Edge) → IsWalk a walk b → e.from ≡ b → IsWalk a (walk ++ e ∷ []) e.to
walk_push a b [] e w f = (f ∙ sym w, refl)
walk_push a b (d ∷ walk) e w f = (w.0, walk_push d.to b walk e w.1 f)

length_push : (walk : List Edge) (e : Edge) → walk_length (walk ++ e ∷ []) ≡ walk_length walk +ℤ e.len
length_push [] e = omega (arith, ints)
length_push (d ∷ walk) e = let h : walk_length (walk ++ e ∷ []) ≡ walk_length walk +ℤ e.len =
    length_push walk e in omega (arith, ints)

not_empty : (walk : List Edge) (e : Edge) → walk ++ e ∷ [] ≡ [] → ⊥
not_empty [] e h = absurd cc
not_empty (d ∷ walk) e h = absurd cc

-- a walk and one more edge
pub reached_more : (edges : List Edge) (tail : ℕ) (e : Edge) (long more : ℤ) → Contains edges e
    → IsReached edges tail e.from long → more ≡ long +ℤ e.len → IsReached edges tail e.to more
reached_more edges tail e long more c w is = record {
  walk = w.walk ++ e ∷ [];
  of_these = All-push (Contains edges) w.walk e w.of_these c;
  leads = walk_push tail e.from w.walk e w.leads refl;
  as_long =
      (let l : walk_length (w.walk ++ e ∷ []) ≡ walk_length w.walk +ℤ e.len = length_push w.walk e in
      let k : walk_length w.walk ≡ long = w.as_long in omega (arith, ints));
}

-- a walk that an edge closes
closed : (edges : List Edge) (e : Edge) (long : ℤ) → Contains edges e → IsReached edges e.to e.from long
    → pos 0 <ℤ (long +ℤ e.len) → HasPositiveCycle edges
closed edges e long c w p = (
  w.walk ++ e ∷ [],
  record {
    of_these = All-push (Contains edges) w.walk e w.of_these c;
    closed = cycle_from_walk e.to (w.walk ++ e ∷ []) (walk_push e.to e.from w.walk e w.leads refl) (not_empty w.walk e);
    positive =
        (let l : walk_length (w.walk ++ e ∷ []) ≡ walk_length w.walk +ℤ e.len = length_push w.walk e in
        let k : walk_length w.walk ≡ long = w.as_long in omega (arith, ints));
  },
)

-- ---- one look

-- the same values where other edges may be left
with_met : (vars tail : ℕ) (edges : List Edge) (x : List ℤ) (marks marks' : List Bool) (v n w m : ℕ)
    → IsRaised vars tail edges x marks v n → length marks' ≡ length marks
    → ((k : ℕ) → k < length edges → Meets (value_of x) (edge_at edges k)
    ⊎ ((get_or marks' (edge_at edges k).from false ≡ true)
    ⊎ (((edge_at edges k).from ≡ w) × (k < m)))) → IsRaised vars tail edges x marks' w m
with_met vars tail edges x marks marks' v n w m h count met = record {
  base = h.base;
  most = h.most;
  most_small = h.most_small;
  shape = h.shape;
  one_each = h.one_each;
  one_mark_each = count ∙ h.one_mark_each;
  tail_in_range = h.tail_in_range;
  base_small = h.base_small;
  base_meets = h.base_meets;
  tail_stays = h.tail_stays;
  tail_met = h.tail_met;
  origin = h.origin;
  at_least = h.at_least;
  at_most = h.at_most;
  below = h.below;
  reached = h.reached;
  met = met;
}

-- the edge is met
pub look_met : (vars tail : ℕ) (edges : List Edge) (x : List ℤ) (marks : List Bool) (v k : ℕ)
    → IsRaised vars tail edges x marks v (suc k) → Meets (value_of x) (edge_at edges k)
    → IsRaised vars tail edges x marks v k
look_met vars tail edges x marks v k h m =
    with_met vars tail edges x marks marks v (suc k) v k h refl
    (λ j lt. elim (h.met j lt) as (λ _. Meets (value_of x) (edge_at edges j)
    ⊎ ((get_or marks (edge_at edges j).from false ≡ true) ⊎ (((edge_at edges j).from ≡ v) × (j < k)))) [
      | inl a ↦ inl a
      | inr b ↦
          elim b as (λ _. Meets (value_of x) (edge_at edges j)
          ⊎ ((get_or marks (edge_at edges j).from false ≡ true) ⊎ (((edge_at edges j).from ≡ v) × (j < k)))) [
            | inl w ↦ inr (inl w)
            | inr p ↦
                elim (cases_eq j k) as (λ _. Meets (value_of x) (edge_at edges j)
                ⊎ ((get_or marks (edge_at edges j).from false ≡ true) ⊎ (((edge_at edges j).from ≡ v) × (j < k)))) [
                  | inl e ↦ (let P : ℕ → Type 0 = λ i. Meets (value_of x) (edge_at edges i) in inl (subst P (sym e) m))
                  | inr d ↦ inr (inr (p.0, (let l = p.1 in omega (arith, l, d))))
                ]
          ]
    ])

-- the values with one raised
pub record IsSet (x : List ℤ) (v : ℕ) (asked : ℤ) : Type 0 where
  pub here : value_of (set x v asked) v ≡ asked
  pub there : (u : ℕ) → u ≢ v → value_of (set x v asked) u ≡ value_of x u
  pub higher : (u : ℕ) → value_of x u ≤ℤ value_of (set x v asked) u

pub is_set : (x : List ℤ) (v : ℕ) (asked : ℤ) → v < length x → value_of x v ≤ℤ asked → IsSet x v asked
is_set x v asked lt le =
    let here : value_of (set x v asked) v ≡ asked = get_or-set_same x v asked (pos 0) lt in
    let there : (u : ℕ) → u ≢ v → value_of (set x v asked) u ≡ value_of x u =
    λ u n. get_or-set_other x v u asked (pos 0) n in
    record {
      here = here;
      there = there;
      higher = λ u. elim (cases_eq u v) as (λ _. value_of x u ≤ℤ value_of (set x v asked) u) [
        | inl e ↦
            (let P : ℕ → Type 0 = λ w. value_of x w ≤ℤ value_of (set x v asked) w in subst P (sym e)
            (omega (arith, ints)))
        | inr n ↦ (let q : value_of (set x v asked) u ≡ value_of x u = there u n in omega (arith, ints))
      ];
    }

-- an edge stays met where its head's value has risen and its tail's has not
pub still_met : (x y : ℕ → ℤ) (e : Edge) → Meets x e → x e.to ≤ℤ y e.to → y e.from ≡ x e.from → Meets y e
still_met x y e m h f = omega (arith, ints)

-- what a raise rests on: the edge is not met, and its tail is not the one that stays
record IsAsked (vars tail : ℕ) (edges : List Edge) (base : ℕ → ℤ) (x : List ℤ) (k : ℕ) : Type 0 where
  among : IsEdgeAmong vars (edge_at edges k)
  old : Meets base (edge_at edges k)

asked_old : (vars tail : ℕ) (edges : List Edge) (x : List ℤ) (marks : List Bool) (v n k : ℕ)
    (h : IsRaised vars tail edges x marks v n) → k < length edges
    → value_of x (edge_at edges k).to <ℤ (value_of x (edge_at edges k).from +ℤ (edge_at edges k).len)
    → IsAsked vars tail edges h.base x k
asked_old vars tail edges x marks v n k h lt less =
    let e : Edge = edge_at edges k in
    record {
      among = edge_among (record { vars = vars; edges = edges }) h.shape k lt;
      old = elim (cases_eq e.from tail) as (λ _. Meets h.base e) [
        | inl s ↦
            absurd (let m : Meets (value_of x) e = h.tail_met k lt s in let q : e.len ≤ℤ
            (value_of x e.to -ℤ value_of x e.from) = m in omega (arith, ints))
        | inr d ↦ h.base_meets k lt d
      ];
    }

-- a raise of the tail that stays closes a positive cycle
pub look_cycle : (vars tail : ℕ) (edges : List Edge) (x : List ℤ) (marks : List Bool) (v n k : ℕ)
    → IsRaised vars tail edges x marks v n → k < length edges → (edge_at edges k).to ≡ tail
    → value_of x (edge_at edges k).to <ℤ (value_of x (edge_at edges k).from +ℤ (edge_at edges k).len)
    → HasPositiveCycle edges
look_cycle vars tail edges x marks v n k h lt to less =
    let e : Edge = edge_at edges k in
    let a : IsAsked vars tail edges h.base x k = asked_old vars tail edges x marks v n k h lt less in
    let old : e.len ≤ℤ (h.base e.to -ℤ h.base e.from) = a.old in
    let stays : value_of x e.to ≡ h.base e.to =
    (let P : ℕ → Type 0 = λ u. value_of x u ≡ h.base u in subst P (sym to) h.tail_stays) in
    let W : ℕ → Type 0 = λ u. IsReached edges u e.from (value_of x e.from -ℤ h.base u) in
    elim (h.reached e.from a.among.from_in_range) as (λ _. HasPositiveCycle edges) [
      | inl s ↦ absurd (omega (arith, ints))
      | inr w ↦ closed edges e (value_of x e.from -ℤ h.base e.to) (Contains-get_or edges k none lt)
          (subst W (sym to) w) (omega (arith, ints))
    ]

-- the head is raised, and waits
pub look_raised : (vars tail : ℕ) (edges : List Edge) (x : List ℤ) (marks marks' : List Bool) (k : ℕ) (asked : ℤ)
    → IsRaised vars tail edges x marks (edge_at edges k).from (suc k) → k < length edges → (edge_at edges k).to ≢ tail
    → asked ≡ value_of x (edge_at edges k).from +ℤ (edge_at edges k).len → value_of x (edge_at edges k).to <ℤ asked
    → length marks' ≡ length marks → get_or marks' (edge_at edges k).to false ≡ true
    → ((u : ℕ) → get_or marks u false ≡ true → get_or marks' u false ≡ true)
    → IsRaised vars tail edges (set x (edge_at edges k).to asked) marks' (edge_at edges k).from k
look_raised vars tail edges x marks marks' k asked h lt ne is less count waits still =
    let e : Edge = edge_at edges k in
    let more : value_of x e.to <ℤ (value_of x e.from +ℤ e.len) = omega (arith, ints) in
    let a : IsAsked vars tail edges h.base x k = asked_old vars tail edges x marks e.from (suc k) k h lt more in
    let old : e.len ≤ℤ (h.base e.to -ℤ h.base e.from) = a.old in
    let inside : e.to < length x =
    (let n : length x ≡ vars = h.one_each in let r : e.to < vars = a.among.to_in_range in omega (arith, n, r)) in
    let y : List ℤ = set x e.to asked in
    let s : IsSet x e.to asked = is_set x e.to asked inside (omega (arith, ints)) in
    let here : value_of y e.to ≡ asked = s.here in
    let low : value_of x e.from ≤ℤ (h.base e.from +ℤ pos h.most) = h.at_most e.from a.among.from_in_range in
    let from_stays : value_of y e.from ≡ value_of x e.from = s.there e.from a.among.ends_differ in
    let at : (P : ℕ → Type 0) → P e.to → ((u : ℕ) → u ≢ e.to → P u) → (u : ℕ)
    → P u = λ P p q u. elim (cases_eq u e.to) as (λ _. P u) [ inl i ↦ subst P (sym i) p | inr d ↦ q u d ] in
    record {
      base = h.base;
      most = h.most;
      most_small = h.most_small;
      shape = h.shape;
      one_each = length-set x e.to asked ∙ h.one_each;
      one_mark_each = count ∙ h.one_mark_each;
      tail_in_range = h.tail_in_range;
      base_small = h.base_small;
      base_meets = h.base_meets;
      tail_stays = s.there tail (λ i. ne (sym i)) ∙ h.tail_stays;
      tail_met = λ j jj f. still_met (value_of x) (value_of y) (edge_at edges j) (h.tail_met j jj f)
          (s.higher (edge_at edges j).to) (s.there (edge_at edges j).from (λ i. ne (sym i ∙ f)));
      origin = s.there 0 (λ i. a.among.not_into_origin (sym i)) ∙ h.origin;
      at_least =
          λ u lt. (let p : h.base u ≤ℤ value_of x u = h.at_least u lt in let q : value_of x u ≤ℤ value_of y u =
          s.higher u in omega (arith, ints));
      at_most = at (λ u. u < vars → value_of y u ≤ℤ (h.base u +ℤ pos h.most)) (λ lt. omega (arith, ints))
          (λ u d lt.
          (let p : value_of y u ≡ value_of x u = s.there u d in let q : value_of x u ≤ℤ (h.base u +ℤ pos h.most) =
          h.at_most u lt in omega (arith, ints)));
      below = λ z sol. at (λ u. u < vars → value_of y u ≤ℤ z u)
          (λ _. (let m : e.len ≤ℤ (z e.to -ℤ z e.from) = meets_at edges z sol.meets k lt in let b : value_of x e.from
          ≤ℤ z e.from = h.below z sol e.from a.among.from_in_range in omega (arith, ints))) (λ u d uu. (let
          p : value_of y u ≡ value_of x u = s.there u d in let q : value_of x u ≤ℤ z u =
          h.below z sol u uu in omega (arith, ints)));
      reached = at (λ u. u < vars → (value_of y u ≡ h.base u) ⊎ IsReached edges tail u (value_of y u -ℤ h.base tail))
          (λ _. elim (h.reached e.from a.among.from_in_range)
          as (λ _. (value_of y e.to ≡ h.base e.to) ⊎ IsReached edges tail e.to (value_of y e.to -ℤ h.base tail)) [
            | inl same ↦
                absurd (let p : h.base e.to ≤ℤ value_of x e.to = h.at_least e.to a.among.to_in_range in
                omega (arith, ints))
            | inr w ↦
                inr (reached_more edges tail e (value_of x e.from -ℤ h.base tail) (value_of y e.to -ℤ h.base tail)
                (Contains-get_or edges k none lt) w (omega (arith, ints)))
          ])
          (λ u d uu.
          (let P : ℤ → Type 0 = λ b. (b ≡ h.base u)
          ⊎ IsReached edges tail u (b -ℤ h.base tail) in subst P (sym (s.there u d)) (h.reached u uu)));
      met = λ j jj.
          let d : Edge = edge_at edges j in
          let Done : Type 0 = Meets (value_of y) d
          ⊎ ((get_or marks' d.from false ≡ true) ⊎ ((d.from ≡ e.from) × (j < k))) in
          elim (cases_eq d.from e.to) as (λ _. Done) [
            | inl i ↦ (let P : ℕ → Type 0 = λ u. get_or marks' u false ≡ true in inr (inl (subst P (sym i) waits)))
            | inr ne' ↦ elim (h.met j jj) as (λ _. Done) [
              | inl m ↦ inl (still_met (value_of x) (value_of y) d m (s.higher d.to) (s.there d.from ne'))
              | inr o ↦ elim o as (λ _. Done) [
                | inl w ↦ inr (inl (still d.from w))
                | inr p ↦ elim (cases_eq j k) as (λ _. Done) [
                  | inl i ↦
                      (let P : ℕ → Type 0 = λ n. Meets (value_of y) (edge_at edges n) in let m : Meets (value_of y)
                      e = omega (arith, ints) in inl (subst P (sym i) m))
                  | inr dk ↦ inr (inr (p.0, (let l = p.1 in omega (arith, l, dk))))
                ]
              ]
            ]
          ];
    }

-- ---- between looks

-- the edges that leave the variable are those of the links
pub look_on : (vars tail : ℕ) (edges : List Edge) (x : List ℤ) (marks : List Bool) (v n link : ℕ)
    → IsRaised vars tail edges x marks v n → IsLatest edges v n link → IsRaised vars tail edges x marks v link
look_on vars tail edges x marks v n link h latest = with_met vars tail edges x marks marks v n v link h refl (λ j lt.
    let Done : Type 0 = Meets (value_of x) (edge_at edges j)
    ⊎ ((get_or marks (edge_at edges j).from false ≡ true) ⊎ (((edge_at edges j).from ≡ v) × (j < link))) in
    elim (h.met j lt) as (λ _. Done) [
      | inl a ↦ inl a
      | inr b ↦ elim b as (λ _. Done) [
        | inl w ↦ inr (inl w)
        | inr p ↦ elim (cases_lt j link) as (λ _. Done) [
          | inl l ↦ inr (inr (p.0, l))
          | inr le ↦ absurd (latest.last j le p.1 p.0)
        ]
      ]
    ])

-- one goes from those that wait
pub look_next : (vars tail : ℕ) (edges : List Edge) (x : List ℤ) (marks marks' : List Bool) (w v : ℕ)
    → IsRaised vars tail edges x marks w 0 → length marks' ≡ length marks
    → ((u : ℕ) → u ≢ v → get_or marks u false ≡ true → get_or marks' u false ≡ true)
    → IsRaised vars tail edges x marks' v (length edges)
look_next vars tail edges x marks marks' w v h count still =
    with_met vars tail edges x marks marks' w 0 v (length edges) h count (λ j lt.
    let Done : Type 0 = Meets (value_of x) (edge_at edges j)
    ⊎ ((get_or marks' (edge_at edges j).from false ≡ true)
    ⊎ (((edge_at edges j).from ≡ v) × (j < length edges))) in
    elim (h.met j lt) as (λ _. Done) [
      | inl a ↦ inl a
      | inr b ↦ elim b as (λ _. Done) [
        | inl m ↦ elim (cases_eq (edge_at edges j).from v) as (λ _. Done) [
          | inl i ↦ inr (inr (i, lt))
          | inr d ↦ inr (inl (still (edge_at edges j).from d m))
        ]
        | inr p ↦ absurd (let l = p.1 in omega (arith, l))
      ]
    ])

-- the variable that is looked at does not matter once its edges are
pub look_done : (vars tail : ℕ) (edges : List Edge) (x : List ℤ) (marks : List Bool) (v w : ℕ)
    → IsRaised vars tail edges x marks v 0 → IsRaised vars tail edges x marks w 0
look_done vars tail edges x marks v w h = with_met vars tail edges x marks marks v 0 w 0 h refl (λ j lt.
    let Done : Type 0 = Meets (value_of x) (edge_at edges j)
    ⊎ ((get_or marks (edge_at edges j).from false ≡ true) ⊎ (((edge_at edges j).from ≡ w) × (j < 0))) in
    elim (h.met j lt) as (λ _. Done) [
      | inl a ↦ inl a
      | inr b ↦ elim b as (λ _. Done) [ inl m ↦ inr (inl m) | inr p ↦ absurd (let l = p.1 in omega (arith, l)) ]
    ])

-- where none waits, the values are the least solution
pub settled : (vars tail : ℕ) (edges : List Edge) (x : List ℤ) (marks : List Bool) (v : ℕ)
    → IsRaised vars tail edges x marks v 0 → ((u : ℕ) → get_or marks u false ≡ true → ⊥)
    → IsLeastSolution vars edges (value_of x)
settled vars tail edges x marks v h idle = record {
  solves = record {
    origin = h.origin;
    meets = All-from_get_or (Meets (value_of x)) edges none
        (λ j lt. elim (h.met j lt) as (λ _. Meets (value_of x) (edge_at edges j)) [
          | inl a ↦ a
          | inr b ↦ elim b as (λ _. Meets (value_of x) (edge_at edges j))
              [ inl m ↦ absurd (idle (edge_at edges j).from m) | inr p ↦ absurd (let l = p.1 in omega (arith, l)) ]
        ]);
  };
  below = h.below;
}

-- ---- how far the values are from their limits

pub within : (vars tail : ℕ) (edges : List Edge) (x : List ℤ) (marks : List Bool) (v n : ℕ)
    → IsRaised vars tail edges x marks v n → (u : ℕ) → u < vars
    → (neg_ℤ (pos (2 ^ 55)) ≤ℤ value_of x u) × (value_of x u ≤ℤ pos (2 ^ 59))
within vars tail edges x marks v n h u lt =
    let b : neg_ℤ (pos (2 ^ 55)) ≤ℤ h.base u = (h.base_small u lt).0 in
    let c : h.base u ≤ℤ pos (2 ^ 55) = (h.base_small u lt).1 in
    let m : h.most ≤ 2 ^ 57 = h.most_small in
    let p : h.base u ≤ℤ value_of x u = h.at_least u lt in
    let q : value_of x u ≤ℤ (h.base u +ℤ pos h.most) = h.at_most u lt in
    (omega (arith, ints), omega (arith, ints))

pub nat_of_is : (a : ℤ) → pos 0 ≤ℤ a → pos (nat_of a) ≡ a
nat_of_is (pos n) h = refl
nat_of_is (negsuc n) h = absurd (omega (arith, ints))

less_room : (a b : ℤ) → a <ℤ b → b ≤ℤ pos (2 ^ 60) → suc (room_of b) ≤ room_of a
less_room a b lt le =
    let p : pos (room_of b) ≡ pos (2 ^ 60) -ℤ b = nat_of_is (pos (2 ^ 60) -ℤ b) (omega (arith, ints)) in
    let q : pos (room_of a) ≡ pos (2 ^ 60) -ℤ a = nat_of_is (pos (2 ^ 60) -ℤ a) (omega (arith, ints)) in
    omega (arith, ints)

-- one value rises
pub room_less : (x : List ℤ) (v : ℕ) (a : ℤ) → v < length x → value_of x v <ℤ a → a ≤ℤ pos (2 ^ 60)
    → suc (room_left (set x v a)) ≤ room_left x
room_less [] v a lt less le = absurd (omega arith)
room_less (b ∷ x) zero a lt less le = let r : suc (room_of a) ≤ room_of b = less_room b a less le in omega (arith, r)
room_less (b ∷ x) (suc v) a lt less le = let r : suc (room_left (set x v a)) ≤ room_left x =
    room_less x v a (omega arith) less le in omega (arith, r)
