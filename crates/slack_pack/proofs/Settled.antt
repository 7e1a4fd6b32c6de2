-- Slacks at the start, and slacks that no round lowers.
use Rattle.std.proofs.Common.{◌≡◌, ℕ, ◌+◌, ◌*◌, ◌^◌, ◌<◌, ◌≤◌, ◌⊎◌, false, inl, inr, ltb, ℤ, pos, neg_ℤ, ◌+ℤ◌, ◌-ℤ◌}
use Rattle.std.proofs.Common.{◌≤ℤ◌, List, [], ◌∷◌, ◌++◌, length, get_or, set, take, sym, ap, subst, ◌∙◌, arith}
use Rattle.std.proofs.lemmas.{Int.ints, Bool.cases_eq, List.{length-set, get_or-set_same, get_or-set_other}}
use Rattle.std.proofs.lemmas.List.{get_or_default, take_more, Elements.{All-contains, All-head, All-tail}}
use Rattle.std.proofs.lemmas.List.Elements.{All-from_get_or, Contains-push, Contains-push_cases, Contains-append_left}
use Rattle.std.{proofs.lemmas.List.Sums.count_by-le-length, specs.List.{All, Contains}}
use Rattle.cons_graph.specs.declared.edges.{Edge.Edge, Why.TheVariants.Size}
use Rattle.cons_graph.specs.{Constraints.{Constraints, IsConstraintGraph, IsEdgeAmong}, EdgeNumbers.edge_at}
use Rattle.cons_graph.specs.{Solutions.value_of, Walks.IsWalk}
use Rattle.slack_pack.specs.{Most.{IsHeld, IsMost, HasWalk, IsAttained}, Slacks.{none_yet, IsPlaced, Allows, reached}}
use Rattle.slack_pack.{specs.Slacks.{AreSlacks, IsLowered, IsQuietAt, AreFirst}, proofs.Walks.{no_walk, attained_above}}

-- ---- the start

-- one more far variable
pub first_more : (vars : ℕ) (far slacks : List ℕ) (i : ℕ) → i < length far → get_or far i 0 < vars
    → AreFirst vars (take i far) slacks → AreFirst vars (take (i + 1) far) (set slacks (get_or far i 0) 0)
first_more vars far slacks i lt inside h =
    let f : ℕ = get_or far i 0 in
    let now : List ℕ = set slacks f 0 in
    let more : take (i + 1) far ≡ take i far ++ f ∷ [] = take_more far i 0 lt in
    let n : length slacks ≡ vars = h.counted in
    let here : get_or now f 0 ≡ 0 = get_or-set_same slacks f 0 0 (omega arith) in
    let zero_at : (u : ℕ) → (get_or slacks u 0 ≡ 0) ⊎ (u ≡ f) → get_or now u 0 ≡ 0 =
    λ u z. elim (cases_eq u f) as (λ _. get_or now u 0 ≡ 0) [
      | inl same ↦ ap (λ v. get_or now v 0) same ∙ here
      | inr d ↦ get_or-set_other slacks f u 0 0 d
          ∙ elim z as (λ _. get_or slacks u 0 ≡ 0) [ inl q ↦ q | inr s ↦ absurd (d s) ]
    ] in
    let P : List ℕ → ℕ → Type 0 = λ l v. (get_or now v 0 ≡ none_yet)
    ⊎ ((get_or now v 0 ≡ 0) × ((v ≡ 0) ⊎ Contains l v)) in
    record {
      counted = length-set slacks f 0 ∙ n;
      origin = zero_at 0 (inl h.origin);
      held = λ u c.
          let C : List ℕ → Type 0 = λ l. Contains l u in
          elim (Contains-push_cases (take i far) f u (subst C more c)) as (λ _. get_or now u 0 ≡ 0)
          [ inl old ↦ zero_at u (inl (h.held u old)) | inr e ↦ zero_at u (inr (sym e)) ];
      others = λ v vv.
          let Q : List ℕ → Type 0 = λ l. P l v in
          subst Q (sym more) (elim (cases_eq v f) as (λ _. P (take i far ++ f ∷ []) v) [
            | inl same ↦ let R : ℕ → Type 0 =
                λ u. P (take i far ++ f ∷ []) u in subst R (sym same) (inr (here, inr (Contains-push (take i far) f)))
            | inr d ↦
                let e : get_or now v 0 ≡ get_or slacks v 0 = get_or-set_other slacks f v 0 0 d in
                elim (h.others v vv) as (λ _. P (take i far ++ f ∷ []) v) [
                  | inl none ↦ inl (e ∙ none)
                  | inr w ↦
                      inr (
                        e ∙ w.0,
                        elim w.1 as (λ _. (v ≡ 0) ⊎ Contains (take i far ++ f ∷ []) v)
                            [ inl z ↦ inl z | inr c ↦ inr (Contains-append_left (take i far) (f ∷ []) v c) ],
                      )
                ]
          ]);
    }

pub first_capped : (vars : ℕ) (far slacks : List ℕ) → AreFirst vars far slacks → All (λ s. s ≤ none_yet) slacks
first_capped vars far slacks h = All-from_get_or (λ s. s ≤ none_yet) slacks 0 (λ i lt.
    let n : length slacks ≡ vars = h.counted in
    elim (h.others i (omega arith)) as (λ _. get_or slacks i 0 ≤ none_yet)
    [ inl e ↦ omega arith | inr w ↦ (let z = w.0 in omega (arith, z)) ])

pub first_slacks_are : (g : Constraints) (far : List ℕ) (xs : List ℤ) (slacks : List ℕ) → IsPlaced g xs
    → AreFirst g.vars far slacks → AreSlacks g far (value_of xs) slacks
first_slacks_are g far xs slacks p h =
    let x : ℕ → ℤ = value_of xs in
    let zero : (v : ℕ) → v < g.vars → get_or slacks v 0 < none_yet
    → (get_or slacks v 0 ≡ 0) × ((v ≡ 0) ⊎ Contains far v) = λ v vv lt.
    elim (h.others v vv) as (λ _. (get_or slacks v 0 ≡ 0) × ((v ≡ 0) ⊎ Contains far v))
    [ inl e ↦ absurd (omega arith) | inr w ↦ w ] in
    record {
      origin = h.origin;
      held = h.held;
      attained = λ v one vv lt.
          let z = zero v vv lt in
          let s : get_or slacks v 0 ≡ 0 = z.0 in
          elim z.1 as (λ _. IsAttained g.edges far x v (x v +ℤ pos (get_or slacks v 0))) [
            | inl origin ↦ absurd (omega arith)
            | inr c ↦ record { end = v; is_far = c; long = pos 0; walk = no_walk g.edges v; is = omega (arith, ints) }
          ];
      small = λ v vv lt.
          let s : get_or slacks v 0 ≡ 0 = (zero v vv lt).0 in
          let high : x v ≤ℤ pos (2 ^ 60) = p.high v (pos 0) (let n = p.one_each in omega (arith, n, vv)) in
          omega (arith, ints);
    }

-- ---- where no round lowers a slack

-- what an edge allows its tail, by its place in the list
quiet_edge : (edges : List Edge) (x : ℕ → ℤ) (slacks : List ℕ) (vars : ℕ)
    → ((v : ℕ) → v < vars → IsQuietAt edges x slacks v) → (k : ℕ) (e : Edge) → k < length edges → get_or edges k e ≡ e
    → e.from < vars → Allows slacks x e (get_or slacks e.from 0)
quiet_edge edges x slacks vars q k e lt is inside =
    let same : edge_at edges k ≡ e =
    get_or_default edges k (record { from = 0; to = 0; len = pos 0; why = Size }) e lt ∙ is in
    let P : Edge → Type 0 = λ d. Allows slacks x d (get_or slacks e.from 0) in
    subst P same (q e.from inside k lt (ap (λ d. d.from) same))

-- a slack that an edge allows stays below the bound
below : (head tail len : ℤ) (s t count : ℕ) → (head +ℤ pos s) ≤ℤ pos (2 ^ 60 + 2 ^ 21 * count) → count ≤ 2 ^ 17
    → neg_ℤ (pos (2 ^ 60)) ≤ℤ tail → neg_ℤ (pos (2 ^ 21)) ≤ℤ len → pos t ≤ℤ (pos s +ℤ ((head -ℤ tail) -ℤ len))
    → t < none_yet
below head tail len s t count a few low short h = omega (arith, ints)

few_reached : (g : Constraints) (slacks : List ℕ) → IsConstraintGraph g → length slacks ≡ g.vars
    → reached slacks ≤ 2 ^ 17
few_reached g slacks s n =
    let few : g.vars ≤ 2 ^ 17 = s.few_vars in
    let le : reached slacks ≤ length slacks = count_by-le-length (λ a. ltb a none_yet) slacks in
    omega (arith, few, le, n)

-- a slack spreads from the end of a walk to its start
along : (g : Constraints) (far : List ℕ) (xs : List ℤ) (slacks : List ℕ) → IsPlaced g xs → length slacks ≡ g.vars
    → AreSlacks g far (value_of xs) slacks → ((v : ℕ) → v < g.vars → IsQuietAt g.edges (value_of xs) slacks v)
    → (walk : List Edge) (v end : ℕ) → All (Contains g.edges) walk → IsWalk v walk end
    → get_or slacks end 0 < none_yet → get_or slacks v 0 < none_yet
along g far xs slacks p n h q [] v end c w lt = let P : ℕ → Type 0 =
    λ u. get_or slacks u 0 < none_yet in subst P (sym w) lt
along g far xs slacks p n h q (e ∷ es) v end c w lt =
    let x : ℕ → ℤ = value_of xs in
    let rest : get_or slacks e.to 0 < none_yet =
    along g far xs slacks p n h q es e.to end (All-tail (Contains g.edges) e es c) w.1 lt in
    let in_list : Contains g.edges e = All-head (Contains g.edges) e es c in
    let among : IsEdgeAmong g.vars e = All-contains (IsEdgeAmong g.vars) g.edges e p.shape.edges_among in_list in
    let allows : Allows slacks x e (get_or slacks e.from 0) =
    quiet_edge g.edges x slacks g.vars q in_list.0 e in_list.1 in_list.2 among.from_in_range in
    let low : neg_ℤ (pos (2 ^ 60)) ≤ℤ x e.from =
    p.low e.from (pos 0) (let m = p.one_each in let f = among.from_in_range in omega (arith, m, f)) in
    let P : ℕ → Type 0 = λ u. get_or slacks u 0 < none_yet in
    subst P w.0
    (below (x e.to) (x e.from) e.len (get_or slacks e.to 0) (get_or slacks e.from 0) (reached slacks)
    (h.small e.to among.to_in_range rest) (few_reached g slacks p.shape n) low among.length_low (allows rest))

-- the far variable that each reaches
abbrev pub ReachFar : Constraints → List ℕ → Type 0
ReachFar g far = (v : ℕ) → 1 ≤ v → v < g.vars → (f : ℕ) × (Contains far f) × ((long : ℤ) × (HasWalk g.edges v f long))

-- what holds where no round lowers a slack
pub record IsSettled (g : Constraints) (far : List ℕ) (xs : List ℤ) (slacks : List ℕ) : Type 0 where
  pub placed : IsPlaced g xs
  pub counted : length slacks ≡ g.vars
  pub are : AreSlacks g far (value_of xs) slacks
  pub quiet : (v : ℕ) → v < g.vars → IsQuietAt g.edges (value_of xs) slacks v
  pub among : All (λ f. f < g.vars) far
  pub reach : ReachFar g far

pub settled_after : (g : Constraints) (far : List ℕ) (xs : List ℤ) (old new : List ℕ) → IsPlaced g xs
    → AreSlacks g far (value_of xs) old → IsLowered g (value_of xs) old new false
    → ((v : ℕ) → v < g.vars → IsQuietAt g.edges (value_of xs) new v) → All (λ f. f < g.vars) far → ReachFar g far
    → IsSettled g far xs new
settled_after g far xs old new p h l q among reach =
    record { placed = p; counted = l.counted; are = l.kept far h; quiet = q; among = among; reach = reach }

-- each variable has a slack
pub all_reached : (g : Constraints) (far : List ℕ) (xs : List ℤ) (slacks : List ℕ) → IsSettled g far xs slacks
    → (v : ℕ) → v < g.vars → get_or slacks v 0 < none_yet
all_reached g far xs slacks s v lt =
    elim (cases_eq v 0) as (λ _. get_or slacks v 0 < none_yet) [
      | inl z ↦
          (let o : get_or slacks 0 0 ≡ 0 = s.are.origin in let e : get_or slacks v 0
          ≡ get_or slacks 0 0 = ap (λ u. get_or slacks u 0) z in omega (arith, o, e))
      | inr d ↦
          let w = s.reach v (omega arith) lt in
          let zero : get_or slacks w.0 0 ≡ 0 = s.are.held w.0 w.1 in
          along g far xs slacks s.placed s.counted s.are s.quiet w.2.1.walk v w.0 w.2.1.of_these w.2.1.leads
          (omega (arith, zero))
    ]

small_slack : (a : ℤ) (s count : ℕ) → neg_ℤ (pos (2 ^ 60)) ≤ℤ a → count ≤ 2 ^ 17
    → (a +ℤ pos s) ≤ℤ pos (2 ^ 60 + 2 ^ 21 * count) → s ≤ 2 ^ 62
small_slack a s count low few h = omega (arith, ints)

pub all_small : (g : Constraints) (far : List ℕ) (xs : List ℤ) (slacks : List ℕ) → IsSettled g far xs slacks
    → All (λ s. s ≤ 2 ^ 62) slacks
all_small g far xs slacks s = All-from_get_or (λ a. a ≤ 2 ^ 62) slacks 0 (λ v lt.
    let n : length slacks ≡ g.vars = s.counted in
    let vv : v < g.vars = omega arith in
    let low : neg_ℤ (pos (2 ^ 60)) ≤ℤ value_of xs v =
    s.placed.low v (pos 0) (let m = s.placed.one_each in omega (arith, m, vv)) in
    small_slack (value_of xs v) (get_or slacks v 0) (reached slacks) low (few_reached g slacks s.placed.shape n)
    (s.are.small v vv (all_reached g far xs slacks s v vv)))

-- ---- the values that they give

moved_meets : (head tail len : ℤ) (s t : ℕ) (head' tail' : ℤ) → head' ≡ head +ℤ pos s → tail' ≡ tail +ℤ pos t
    → pos t ≤ℤ (pos s +ℤ ((head -ℤ tail) -ℤ len)) → len ≤ℤ (head' -ℤ tail')
moved_meets head tail len s t head' tail' a b h = omega (arith, ints)

pub settled_held : (g : Constraints) (far : List ℕ) (xs : List ℤ) (slacks : List ℕ) (y : ℕ → ℤ)
    → IsSettled g far xs slacks → ((v : ℕ) → v < g.vars → y v ≡ value_of xs v +ℤ pos (get_or slacks v 0))
    → IsHeld g.edges far (value_of xs) y
settled_held g far xs slacks y s is =
    let x : ℕ → ℤ = value_of xs in
    record {
      solves = record {
        origin =
            (let e : y 0 ≡ x 0 +ℤ pos (get_or slacks 0 0) = is 0 s.placed.shape.has_origin in let o : get_or slacks 0
            0 ≡ 0 = s.are.origin in let z : x 0 ≡ pos 0 = s.placed.solves.origin in omega (arith, ints));
        meets = λ k d lt.
            let e : Edge = get_or g.edges k d in
            let among : IsEdgeAmong g.vars e = s.placed.shape.edges_among k d lt in
            let allows : Allows slacks x e (get_or slacks e.from 0) =
            quiet_edge g.edges x slacks g.vars s.quiet k e lt (get_or_default g.edges k e d lt)
            among.from_in_range in
            moved_meets (x e.to) (x e.from) e.len (get_or slacks e.to 0) (get_or slacks e.from 0) (y e.to) (y e.from)
            (is e.to among.to_in_range) (is e.from among.from_in_range)
            (allows (all_reached g far xs slacks s e.to among.to_in_range));
      };
      held = λ f c.
          let lt : f < g.vars = All-contains (λ u. u < g.vars) far f s.among c in
          let e : y f ≡ x f +ℤ pos (get_or slacks f 0) = is f lt in
          let z : get_or slacks f 0 ≡ 0 = s.are.held f c in
          omega (arith, ints);
    }

pub settled_attained : (g : Constraints) (far : List ℕ) (xs : List ℤ) (slacks : List ℕ) (y : ℕ → ℤ)
    → IsSettled g far xs slacks → ((v : ℕ) → v < g.vars → y v ≡ value_of xs v +ℤ pos (get_or slacks v 0)) → (v : ℕ)
    → 1 ≤ v → v < g.vars → IsAttained g.edges far (value_of xs) v (y v)
settled_attained g far xs slacks y s is v one lt =
    let P : ℤ → Type 0 = λ a. IsAttained g.edges far (value_of xs) v a in
    subst P (sym (is v lt)) (s.are.attained v one lt (all_reached g far xs slacks s v lt))

pub settled_most : (g : Constraints) (far : List ℕ) (xs : List ℤ) (slacks : List ℕ) (y : ℕ → ℤ)
    → IsSettled g far xs slacks → ((v : ℕ) → v < g.vars → y v ≡ value_of xs v +ℤ pos (get_or slacks v 0))
    → IsMost g.vars g.edges far (value_of xs) y
settled_most g far xs slacks y s is =
    let h : IsHeld g.edges far (value_of xs) y = settled_held g far xs slacks y s is in
    record {
      is_held = h;
      above = λ z k v lt. elim (cases_eq v 0) as (λ _. z v ≤ℤ y v) [
        | inl e ↦
            (let a : z 0 ≡ pos 0 = k.solves.origin in let b : y 0 ≡ pos 0 = h.solves.origin in let c : z v
            ≡ z 0 = ap z e in let d : y v ≡ y 0 = ap y e in omega (arith, ints))
        | inr d ↦ attained_above g.edges far (value_of xs) z v (y v)
            (settled_attained g far xs slacks y s is v (omega arith) lt) k
      ];
    }
