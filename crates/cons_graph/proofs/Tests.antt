-- The tests of walks and cycles, as they go along a list.
use Rattle.std.proofs.Common.{◌≡◌, ℕ, zero, suc, ◌+◌, ◌<◌, ◌≤◌, ◌+ℤ◌, Bool, true, eqb, ltb, ◌&&◌, List, [], ◌∷◌, ◌++◌}
use Rattle.std.proofs.Common.{◌⊎◌, inl, inr, length, get_or, take, drop, refl, sym, ap, ◌∙◌, arith, eq-eqb}
use Rattle.std.proofs.lemmas.{Int.ints, Bool.{cases_eq, and_parts, and_from, eqb-true, ltb-true, lt-ltb}}
use Rattle.std.proofs.lemmas.List.{get_or_default, length-map, take_more, map-append, drop_more, drop_all, take-map}
use Rattle.std.proofs.lemmas.List.{get_or-take, length-take, Elements.{All-cons, All-head, All-tail, All-nil}}
use Rattle.std.{proofs.lemmas.List.Elements.All-from_get_or, specs.List.{All, Contains}}
use Rattle.cons_graph.specs.{declared.edges.Edge.Edge, Walks.walk_length, EdgeNumbers.edge_at, SimpleWalks.edges_of}
use Rattle.cons_graph.specs.SimpleWalks.{length_of, tails_of, WalksFromTo, HasNoRepeat}

-- ---- whether edges lead from one variable to another

abbrev pub leads_by : List Edge → ℕ → List ℕ → ℕ → Bool
leads_by edges at' [] end = eqb at' end
leads_by edges at' (k ∷ ks) end = (ltb k (length edges) && eqb (edge_at edges k).from at')
    && leads_by edges (edge_at edges k).to ks end

pub leads_by-true : (edges : List Edge) (start : ℕ) (walk : List ℕ) (end : ℕ) → leads_by edges start walk end ≡ true
    → WalksFromTo edges start walk end
leads_by-true edges start [] end t =
    record { in_range = All-nil (λ k. k < length edges); follows = eqb-true start end t }
leads_by-true edges start (k ∷ ks) end t =
    let p = and_parts (ltb k (length edges) && eqb (edge_at edges k).from start)
    (leads_by edges (edge_at edges k).to ks end) t in
    let q = and_parts (ltb k (length edges)) (eqb (edge_at edges k).from start) p.0 in
    let rest : WalksFromTo edges (edge_at edges k).to ks end = leads_by-true edges (edge_at edges k).to ks end p.1 in
    record {
      in_range = All-cons (λ j. j < length edges) k ks (ltb-true k (length edges) q.0) rest.in_range;
      follows = (eqb-true (edge_at edges k).from start q.1, rest.follows);
    }

pub leads_by-from : (edges : List Edge) (start : ℕ) (walk : List ℕ) (end : ℕ) → WalksFromTo edges start walk end
    → leads_by edges start walk end ≡ true
leads_by-from edges start [] end w = eq-eqb start end w.follows
leads_by-from edges start (k ∷ ks) end w =
    and_from (ltb k (length edges) && eqb (edge_at edges k).from start) (leads_by edges (edge_at edges k).to ks end)
    (and_from (ltb k (length edges)) (eqb (edge_at edges k).from start)
    (lt-ltb k (length edges) (All-head (λ j. j < length edges) k ks w.in_range))
    (eq-eqb (edge_at edges k).from start w.follows.0))
    (leads_by-from edges (edge_at edges k).to ks end
    (record { in_range = All-tail (λ j. j < length edges) k ks w.in_range; follows = w.follows.1 }))

-- ---- the sum so far

pub walk_length-append : (xs ys : List Edge) → walk_length (xs ++ ys) ≡ walk_length xs +ℤ walk_length ys
walk_length-append [] ys = omega (arith, ints)
walk_length-append (x ∷ xs) ys = let e = walk_length-append xs ys in omega (arith, ints, e)

pub length_of-more : (edges : List Edge) (walk : List ℕ) (i : ℕ) → i < length walk
    → length_of edges (take (i + 1) walk) ≡ length_of edges (take i walk) +ℤ (edge_at edges (get_or walk i 0)).len
length_of-more edges walk i lt =
    let more = ap (length_of edges) (take_more walk i 0 lt) in
    let parts = ap walk_length (map-append (edge_at edges) (take i walk) (get_or walk i 0 ∷ []))
    ∙ walk_length-append (edges_of edges (take i walk)) (edges_of edges (get_or walk i 0 ∷ [])) in
    omega (arith, ints, more, parts)

-- ---- tails by their places

pub tail_at : (edges : List Edge) (walk : List ℕ) (i : ℕ) → i < length walk
    → get_or (tails_of edges walk) i 0 ≡ (edge_at edges (get_or walk i 0)).from
tail_at edges [] i lt = absurd (omega arith)
tail_at edges (k ∷ ks) zero lt = refl
tail_at edges (k ∷ ks) (suc i) lt = tail_at edges ks i (omega arith)

pub length-tails : (edges : List Edge) (walk : List ℕ) → length (tails_of edges walk) ≡ length walk
length-tails edges walk = length-map walk (λ k. (edge_at edges k).from)

-- ---- the exits of the test of a walk

pub leads_stop : (edges : List Edge) (at' start : ℕ) (walk : List ℕ) (end i : ℕ)
    → leads_by edges at' (drop i walk) end ≡ leads_by edges start walk end → i < length walk
    → (length edges ≤ get_or walk i 0) ⊎ ((edge_at edges (get_or walk i 0)).from ≡ at' → ⊥)
    → WalksFromTo edges start walk end → ⊥
leads_stop edges at' start walk end i inv lt stop w =
    let k : ℕ = get_or walk i 0 in
    let t : leads_by edges at' (k ∷ drop (i + 1) walk) end ≡ true =
    ap (λ l. leads_by edges at' l end) (sym (drop_more walk i 0 lt)) ∙ inv
    ∙ leads_by-from edges start walk end w in
    let p = and_parts (ltb k (length edges) && eqb (edge_at edges k).from at')
    (leads_by edges (edge_at edges k).to (drop (i + 1) walk) end) t in
    let q = and_parts (ltb k (length edges)) (eqb (edge_at edges k).from at') p.0 in
    elim stop as (λ _. ⊥) [
      | inl le ↦ (let l : k < length edges = ltb-true k (length edges) q.0 in omega arith)
      | inr n ↦ n (eqb-true (edge_at edges k).from at' q.1)
    ]

pub leads_end : (edges : List Edge) (at' start : ℕ) (walk : List ℕ) (end i : ℕ)
    → leads_by edges at' (drop i walk) end ≡ leads_by edges start walk end → length walk ≤ i
    → (eqb at' end ≡ true → WalksFromTo edges start walk end)
    × (WalksFromTo edges start walk end → eqb at' end ≡ true)
leads_end edges at' start walk end i inv le =
    let same : eqb at' end ≡ leads_by edges start walk end =
    ap (λ l. leads_by edges at' l end) (sym (drop_all i walk le)) ∙ inv in
    (λ t. leads_by-true edges start walk end (sym same ∙ t), λ w. same ∙ leads_by-from edges start walk end w)

-- ---- the exits of the tests of tails

pub all_tails_from : (edges : List Edge) (walk : List ℕ) (v i : ℕ) → length walk ≤ i
    → ((j : ℕ) → j < i → v ≤ get_or (tails_of edges walk) j 0) → All (λ u. v ≤ u) (tails_of edges walk)
all_tails_from edges walk v i le h =
    All-from_get_or (λ u. v ≤ u) (tails_of edges walk) 0 (λ j lt. h j (omega (arith, lt, length-tails edges walk)))

pub tail_below : (edges : List Edge) (walk : List ℕ) (v i : ℕ) → i < length walk
    → (edge_at edges (get_or walk i 0)).from < v → All (λ u. v ≤ u) (tails_of edges walk) → ⊥
tail_below edges walk v i lt low h =
    let le : v ≤ get_or (tails_of edges walk) i 0 = h i 0 (omega (arith, length-tails edges walk)) in
    omega (arith, le, tail_at edges walk i lt)

pub no_repeat_from : (edges : List Edge) (walk : List ℕ) (n : ℕ) → length walk ≤ n
    → ((i j : ℕ) → i < j → j < n → get_or (tails_of edges walk) i 0 ≡ get_or (tails_of edges walk) j 0 → ⊥)
    → HasNoRepeat (tails_of edges walk)
no_repeat_from edges walk n le h = λ i j d lt inside e.
    let small : j < length walk = omega (arith, inside, length-tails edges walk) in
    h i j lt (omega arith) (get_or_default (tails_of edges walk) i 0 d (omega (arith, length-tails edges walk)) ∙ e
    ∙ get_or_default (tails_of edges walk) j d 0 inside)

tails-take : (edges : List Edge) (walk : List ℕ) (n : ℕ) → tails_of edges (take n walk) ≡ take n (tails_of edges walk)
tails-take edges walk n = sym (take-map (λ k. (edge_at edges k).from) n walk)

-- a tail among those before is a repeat
pub repeat_found : (edges : List Edge) (walk : List ℕ) (i : ℕ) → i < length walk
    → Contains (tails_of edges (take i walk)) (edge_at edges (get_or walk i 0)).from
    → HasNoRepeat (tails_of edges walk) → ⊥
repeat_found edges walk i lt c h =
    let v : ℕ = (edge_at edges (get_or walk i 0)).from in
    let inside : c.0 < i =
    (let a = c.1 in let b = length-tails edges (take i walk) in let d = length-take i walk in
    omega (arith, a, b, d)) in
    let here : get_or (tails_of edges walk) c.0 v ≡ v = sym (get_or-take i (tails_of edges walk) c.0 v inside)
    ∙ ap (λ l. get_or l c.0 v) (sym (tails-take edges walk i)) ∙ c.2 in
    let all_in = length-tails edges walk in
    let there : get_or (tails_of edges walk) i v ≡ v =
    get_or_default (tails_of edges walk) i v 0 (omega (arith, all_in)) ∙ tail_at edges walk i lt in
    h c.0 i v inside (omega (arith, all_in)) (here ∙ sym there)

-- a tail that is not among those before is no repeat
pub no_repeat_more : (edges : List Edge) (walk : List ℕ) (n : ℕ) → n < length walk
    → (Contains (tails_of edges (take n walk)) (edge_at edges (get_or walk n 0)).from → ⊥)
    → ((i j : ℕ) → i < j → j < n → get_or (tails_of edges walk) i 0 ≡ get_or (tails_of edges walk) j 0 → ⊥)
    → (i j : ℕ) → i < j → j < n + 1 → get_or (tails_of edges walk) i 0 ≡ get_or (tails_of edges walk) j 0 → ⊥
no_repeat_more edges walk n lt new h i j ij jn e =
    elim (cases_eq j n) as (λ _. ⊥) [
      | inr ne ↦ h i j ij (omega arith) e
      | inl s ↦
          let v : ℕ = (edge_at edges (get_or walk n 0)).from in
          let small : i < n = omega arith in
          let all_in = length-tails edges walk in
          let there : get_or (tails_of edges walk) j 0 ≡ v = ap (λ x. get_or (tails_of edges walk) x 0) s
          ∙ tail_at edges walk n lt in
          let here : get_or (tails_of edges (take n walk)) i v ≡ v = ap (λ l. get_or l i v) (tails-take edges walk n)
          ∙ get_or-take n (tails_of edges walk) i v small
          ∙ get_or_default (tails_of edges walk) i v 0 (omega (arith, all_in)) ∙ e ∙ there in
          let part = length-tails edges (take n walk) in
          let cut = length-take n walk in
          new (i, omega (arith, part, cut), here)
    ]
