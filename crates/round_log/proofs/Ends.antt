-- What the rounds of a constraint graph give, whole: at the end the least solution and its walks, at a stop a cycle.
use Rattle.std.proofs.Common.{◌≡◌, ℕ, ◌+◌, ◌-◌, ◌<◌, ◌≤◌, ◌^◌, ℤ, pos, neg_ℤ, ◌≤ℤ◌, Bool, Some, List, [], ◌∷◌, ◌++◌}
use Rattle.std.proofs.Common.{map, reverse, inl, inr, length, get_or, refl, sym, ap, subst, ◌∙◌, arith}
use Rattle.std.proofs.lemmas.{Bool.{ltb-true, not-false}, List.{map-append, FromFn.length-range_with_len}}
use Rattle.std.specs.List.{All, range_with_len}
use Rattle.cons_graph.specs.{declared.edges.Edge.Edge, Constraints.{Constraints, IsConstraintGraph}}
use Rattle.cons_graph.specs.{Solutions.IsSolution, Walks.{IsWalk, walk_length}, SimpleWalks.{edges_of, length_of}}
use Rattle.cons_graph.specs.{SimpleWalks.{heads_of, HasNoRepeat, WalksFromTo}, EdgeNumbers.edge_at}
use Rattle.round_log.specs.{declared.log.Entry.Entry, WalksBack.walk_of, Orders.NamesEachOnce, Looks.{label, latest}}
use Rattle.round_log.{specs.{Looks.{place_in, is_forward}, Rounds.schedule_of}, proofs.{Raises.IsJustified, Chains.In}}
use Rattle.round_log.proofs.{Chains.{In-chain, IsLinked, IsTraced, trace, trace_is, chain_rising}, Members.In-map-back}
use Rattle.round_log.proofs.{Members.{In-range-from, IsDistinct, length_of_distinct}, Parts.{IsLog, log_justified}}
use Rattle.round_log.proofs.{Parts.depth_at_most, RoundSteps.IsGoing, Least.{edge_among, meets_at}, Depths.depth}
use Rattle.round_log.proofs.{Sizes.{label_within, length_by_depth, small}, Planned.{is_backward, IsDistinct-from_pairs}}
use Rattle.round_log.proofs.{Planned.{In-at, In-from_contains, place_of_In, place_in_range}, Walking.entry_edges}
use Rattle.round_log.proofs.Walking.{vars_of, chain_walk, chain_length, chain_distinct, In-reverse, IsDistinct-reverse}
use Rattle.round_log.proofs.Walking.{pairs_from_IsDistinct, reverse-cons}

-- the rounds of a graph and an order, by their parts
abbrev pub back_of : Constraints → List ℕ → ℕ → Bool
back_of g order = is_backward g.edges order

abbrev pub LogOf : Constraints → List ℕ → List Entry → Type 0
LogOf g order rs = IsLog (edge_at g.edges) (back_of g order) (length g.edges) rs

abbrev pub GoingOf : Constraints → List ℕ → ℕ → List Entry → Type 0
GoingOf g order d rs = IsGoing (schedule_of g.edges order) (back_of g order) (length g.edges) d rs

-- ---- labels are small

In-variables : (order : List ℕ) (vars v : ℕ) → NamesEachOnce vars order → v < vars → In v order
In-variables order vars v o lt = In-from_contains order v (o.each v lt)

pub order_length : (order : List ℕ) (vars : ℕ) → NamesEachOnce vars order → length order ≤ vars
order_length order vars o =
    let h : (v : ℕ) → In v order → In v (range_with_len 0 vars) = λ v i. let w = place_of_In order v i in let lt =
    o.in_range w.0 v w.1 in In-range-from v 0 vars (omega arith)
    (let P : ℕ → Type 0 = λ x. x < 0 + vars in subst P (w.2 v) (omega (arith, lt))) in
    let le = length_of_distinct order (range_with_len 0 vars) (IsDistinct-from_pairs order o.once) h in
    omega (arith, le, length-range_with_len 0 vars)

place_below : (order : List ℕ) (vars v : ℕ) → NamesEachOnce vars order → v < vars → place_in order v < vars
place_below order vars v o lt = let p = place_in_range order v (In-variables order vars v o lt) in let q =
    order_length order vars o in omega (arith, p, q)

pub label_small : (g : Constraints) (order : List ℕ) (rs : List Entry) → IsConstraintGraph g
    → NamesEachOnce g.vars order → LogOf g order rs → (v : ℕ) (a : ℤ) → v < g.vars → label rs v ≡ Some a
    → (neg_ℤ (pos (2 ^ 55)) ≤ℤ a) × (a ≤ℤ pos (2 ^ 55))
label_small g order rs s o l v a lt e =
    let among = edge_among g s in
    let vs : List ℕ = range_with_len 1 (g.vars - 1) in
    let deep = depth_at_most (edge_at g.edges) (back_of g order) (length g.edges) rs (latest rs v) vs l
    (λ k a b. let h = among k a in let t = h.to_in_range in let z = h.not_into_origin in In-range-from
    (edge_at g.edges k).to 1 (g.vars - 1) (omega (arith, z)) (omega (arith, t))) in
    let few = length-range_with_len 1 (g.vars - 1) in
    let long = length_by_depth (edge_at g.edges) (back_of g order) (place_in order) (length g.edges) g.vars rs l
    (λ k a. place_below order g.vars (edge_at g.edges k).from o (among k a).from_in_range)
    (λ k a b. ltb-true (place_in order (edge_at g.edges k).from) (place_in order (edge_at g.edges k).to)
    (not-false (is_forward order (edge_at g.edges k)) b)) v in
    small g.vars (depth (back_of g order) (trace rs v)) (place_in order v) (length (trace rs v)) a s.few_vars
    s.has_origin (omega (arith, deep, few)) (place_below order g.vars v o lt) long
    (label_within (edge_at g.edges) (back_of g order) (length g.edges) g.vars rs l among v a e)

-- ---- lists of numbers and of entries

pub map-map : {X Y Z : Type 0} (f : Y → Z) (g : X → Y) (xs : List X) → map f (map g xs) ≡ map (λ x. f (g x)) xs
map-map f g [] = refl
map-map f g (x ∷ xs) = ap (λ l. f (g x) ∷ l) (map-map f g xs)

pub map-reverse : {X Y : Type 0} (f : X → Y) (xs : List X) → map f (reverse xs) ≡ reverse (map f xs)
map-reverse f [] = refl
map-reverse f (x ∷ xs) = ap (map f) (reverse-cons x xs) ∙ map-append f (reverse xs) (x ∷ [])
    ∙ ap (λ l. l ++ f x ∷ []) (map-reverse f xs) ∙ sym (reverse-cons (f x) (map f xs))

pub All-from_In : {X : Type 0} (P : X → Type 0) (xs : List X) → ((x : X) → In x xs → P x) → All P xs
All-from_In P xs h = λ k d lt. h (get_or xs k d) (In-at xs k d lt)

-- each raise of a log is by an edge in range, into the raise's variable, which is not the origin
pub log_entry : (g : Constraints) (back : ℕ → Bool) (rs : List Entry) (q : Entry)
    → IsLog (edge_at g.edges) back (length g.edges) rs → In q rs
    → (q.edge < length g.edges) × (q.var ≡ (edge_at g.edges q.edge).to)
log_entry g back [] q l i = absurd i
log_entry g back (r ∷ rs) q l i =
    let P : Entry → Type 0 = λ x. (x.edge < length g.edges) × (x.var ≡ (edge_at g.edges x.edge).to) in
    elim i as (λ _. (q.edge < length g.edges) × (q.var ≡ (edge_at g.edges q.edge).to))
    [ inl e ↦ subst P e (l.0.among, l.0.raise.var_is) | inr h ↦ log_entry g back rs q l.1 h ]

-- ---- the walk of a variable

abbrev pub numbers : List Entry → List ℕ
numbers cs = map (λ c. c.edge) cs

walk_edges : (edges : List Edge) (cs : List Entry)
    → edges_of edges (reverse (numbers cs)) ≡ reverse (entry_edges (edge_at edges) cs)
walk_edges edges cs = map-reverse (edge_at edges) (numbers cs)
    ∙ ap reverse (map-map (edge_at edges) (λ (c : Entry). c.edge) cs)

walk_heads : (edges : List Edge) (cs : List Entry) → IsLinked (edge_at edges) cs
    → heads_of edges (reverse (numbers cs)) ≡ reverse (vars_of cs)
walk_heads edges cs l = map-reverse (λ k. (edge_at edges k).to) (numbers cs)
    ∙ ap reverse (map-map (λ k. (edge_at edges k).to) (λ (c : Entry). c.edge) cs ∙ same cs l)
  where
    same : (ds : List Entry) → IsLinked (edge_at edges) ds → map (λ c. (edge_at edges c.edge).to) ds ≡ vars_of ds
    same [] k = refl
    same (d ∷ ds) k = ap (λ x. x ∷ map (λ c. (edge_at edges c.edge).to) ds) k.0.head_is
        ∙ ap (λ x. d.var ∷ x) (same ds k.1)

-- the walk of a labelled variable leads from the origin to it, and its length is the label
pub walk_is : (g : Constraints) (back : ℕ → Bool) (rs : List Entry) → IsLog (edge_at g.edges) back (length g.edges) rs
    → (v : ℕ) (a : ℤ) → label rs v ≡ Some a → WalksFromTo g.edges 0 (walk_of rs v) v
    × (length_of g.edges (walk_of rs v) ≡ a)
walk_is g back rs l v a e =
    let t : IsTraced (edge_at g.edges) (trace rs v) v a =
    trace_is (edge_at g.edges) rs v a (log_justified (edge_at g.edges) back (length g.edges) rs l) e in
    let cs : List Entry = trace rs v in
    let W : List Edge → Type 0 = λ es. IsWalk 0 es v in
    let T : ℕ → Type 0 = λ u. IsWalk 0 (reverse (entry_edges (edge_at g.edges) cs)) u in (
      record {
        in_range = All-from_In (λ k. k < length g.edges) (walk_of rs v) (λ k i.
            let w = In-map-back (λ (c : Entry). c.edge) k cs (In-reverse k (numbers cs) i) in
            let h = log_entry g back rs w.0 l (In-chain w.0 rs (latest rs v) w.1) in
            (let p = h.0 in let q = w.2 in omega (arith, p, q)));
        follows = subst W (sym (walk_edges g.edges cs)) (subst T t.var_is (chain_walk (edge_at g.edges) cs t.linked));
      },
      ap walk_length (walk_edges g.edges cs) ∙ chain_length (edge_at g.edges) cs t.linked ∙ t.value_is,
    )

-- and it meets no variable twice where there is a solution
pub walk_no_repeat : (g : Constraints) (back : ℕ → Bool) (rs : List Entry) → IsConstraintGraph g
    → IsLog (edge_at g.edges) back (length g.edges) rs → (x : ℕ → ℤ) → IsSolution g.edges x → (v : ℕ) (a : ℤ)
    → label rs v ≡ Some a → HasNoRepeat (0 ∷ heads_of g.edges (walk_of rs v))
walk_no_repeat g back rs s l x sol v a e =
    let j : IsJustified (edge_at g.edges) rs = log_justified (edge_at g.edges) back (length g.edges) rs l in
    let cs : List Entry = trace rs v in
    let t : IsTraced (edge_at g.edges) cs v a = trace_is (edge_at g.edges) rs v a j e in
    let apart : IsDistinct (vars_of cs) =
    chain_distinct (edge_at g.edges) x cs t.linked (chain_rising (edge_at g.edges) rs (latest rs v) j)
    (λ c i. meets_at g.edges x sol.meets c.edge (log_entry g back rs c l (In-chain c rs (latest rs v) i)).0) in
    let no_origin : In 0 (vars_of cs) → ⊥ = λ i.
    let w = In-map-back (λ (c : Entry). c.var) 0 cs i in
    let h = log_entry g back rs w.0 l (In-chain w.0 rs (latest rs v) w.1) in
    (edge_among g s w.0.edge h.0).not_into_origin (sym h.1 ∙ w.2) in
    let D : List ℕ → Type 0 = λ vs. IsDistinct (0 ∷ vs) in
    pairs_from_IsDistinct (0 ∷ heads_of g.edges (walk_of rs v))
    (subst D (sym (walk_heads g.edges cs t.linked))
    (λ i. no_origin (In-reverse 0 (vars_of cs) i), IsDistinct-reverse (vars_of cs) apart))
