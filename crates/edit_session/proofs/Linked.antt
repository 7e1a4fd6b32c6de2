-- Links between edges of one tail: made one after another.
use Rattle.std.proofs.Common.{◌≡◌, ◌≢◌, ℕ, suc, ◌<◌, ◌≤◌, pos, List, [], ◌∷◌, ◌++◌, inl, inr, length, get_or, set, refl}
use Rattle.std.proofs.{Common.{sym, ap, subst, ◌∙◌, arith}, Math.Seq.get_or-append_seam}
use Rattle.std.proofs.lemmas.{Bool.cases_eq, List.{length-set, length-append, get_or-set_same, get_or-set_other}}
use Rattle.std.proofs.lemmas.List.{get_or_append_left, set-get_or}
use Rattle.cons_graph.specs.{declared.edges.{Edge.Edge, Why.TheVariants.Size}, EdgeNumbers.edge_at}
use Rattle.edit_session.specs.Links.{IsLatest, AreLinksUpTo, AreLinks}

abbrev pub none : Edge
none = record { from = 0; to = 0; len = pos 0; why = Size }

-- the edges of a list with one more
pub edge_before : (edges : List Edge) (e : Edge) (k : ℕ) → k < length edges
    → edge_at (edges ++ e ∷ []) k ≡ edge_at edges k
edge_before edges e k lt = get_or_append_left edges (e ∷ []) none k lt

pub edge_last : (edges : List Edge) (e : Edge) → edge_at (edges ++ e ∷ []) (length edges) ≡ e
edge_last edges e = get_or-append_seam edges e [] none

pub length_more : (edges : List Edge) (e : Edge) → length (edges ++ e ∷ []) ≡ suc (length edges)
length_more edges e = let l = length-append edges (e ∷ []) in omega (arith, l)

-- the last of no edges
latest_none : (edges : List Edge) (v link : ℕ) → link ≡ 0 → IsLatest edges v 0 link
latest_none edges v link e =
    record { within = omega arith; leaves = λ k l. absurd (omega arith); last = λ k a b. absurd (omega arith) }

-- one more edge that leaves another variable
latest_other : (edges : List Edge) (v n link : ℕ) → IsLatest edges v n link → (edge_at edges n).from ≢ v
    → IsLatest edges v (suc n) link
latest_other edges v n link h ne = record {
  within = (let w : link ≤ n = h.within in omega arith);
  leaves = h.leaves;
  last = λ k a b. elim (cases_eq k n) as (λ _. (edge_at edges k).from ≢ v) [
    | inl e ↦ (let P : ℕ → Type 0 = λ j. (edge_at edges j).from ≢ v in subst P (sym e) ne)
    | inr d ↦ h.last k a (omega arith)
  ];
}

-- one more that leaves the variable
latest_same : (edges : List Edge) (v n : ℕ) → (edge_at edges n).from ≡ v → IsLatest edges v (suc n) (suc n)
latest_same edges v n e = record {
  within = omega arith;
  leaves =
      λ k l. (let same : n ≡ k = omega arith in let P : ℕ
      → Type 0 = λ j. (edge_at edges j).from ≡ v in subst P same e);
  last = λ k a b. absurd (omega arith);
}

-- among edges that begin alike
latest_alike : (edges edges' : List Edge) (v n link : ℕ) → ((k : ℕ) → k < n → edge_at edges' k ≡ edge_at edges k)
    → IsLatest edges v n link → IsLatest edges' v n link
latest_alike edges edges' v n link same h =
    let w : link ≤ n = h.within in
    record {
      within = w;
      leaves = λ k l. ap (λ e. e.from) (same k (omega arith)) ∙ h.leaves k l;
      last = λ k a b e. h.last k a b (sym (ap (λ x. x.from) (same k b)) ∙ e);
    }

-- no links yet
pub links_none : (vars : ℕ) (edges : List Edge) (latest before : List ℕ) → length latest ≡ vars
    → length before ≡ length edges → ((v : ℕ) → v < length latest → get_or latest v 0 ≡ 0)
    → AreLinksUpTo vars edges 0 latest before
links_none vars edges latest before a b z = record {
  one_each = a;
  one_each_edge = b;
  newest = λ v lt. latest_none edges v (get_or latest v 0) (z v (omega arith));
  older = λ k lt. absurd (omega arith);
}

-- one more edge is linked
pub links_one : (vars : ℕ) (edges : List Edge) (n : ℕ) (latest before : List ℕ)
    → AreLinksUpTo vars edges n latest before → n < length edges → (edge_at edges n).from < vars
    → AreLinksUpTo vars edges (suc n) (set latest (edge_at edges n).from (suc n))
    (set before n (get_or latest (edge_at edges n).from 0))
links_one vars edges n latest before h lt low =
    let tail : ℕ = (edge_at edges n).from in
    let inside : tail < length latest = (let a : length latest ≡ vars = h.one_each in omega arith) in
    let room : n < length before = (let b : length before ≡ length edges = h.one_each_edge in omega arith) in
    record {
      one_each = length-set latest tail (suc n) ∙ h.one_each;
      one_each_edge = length-set before n (get_or latest tail 0) ∙ h.one_each_edge;
      newest =
          λ v vv. elim (cases_eq v tail) as (λ _. IsLatest edges v (suc n) (get_or (set latest tail (suc n)) v 0)) [
            | inl e ↦ (
                let P : ℕ → Type 0 = λ u. IsLatest edges u (suc n) (get_or (set latest tail (suc n)) u 0) in
                let Q : ℕ → Type 0 = λ l. IsLatest edges tail (suc n) l in
                subst P (sym e)
                (subst Q (sym (get_or-set_same latest tail (suc n) 0 inside)) (latest_same edges tail n refl)))
            | inr d ↦ (
                let Q : ℕ → Type 0 = λ l. IsLatest edges v (suc n) l in
                subst Q (sym (get_or-set_other latest tail v (suc n) 0 d))
                (latest_other edges v n (get_or latest v 0) (h.newest v vv) (λ e. d (sym e))))
          ];
      older = λ k kk.
          elim (cases_eq k n)
          as (λ _. IsLatest edges (edge_at edges k).from k (get_or (set before n (get_or latest tail 0)) k 0)) [
            | inl e ↦ (
                let P : ℕ → Type 0 = λ j. IsLatest edges (edge_at edges j).from j
                (get_or (set before n (get_or latest tail 0)) j 0) in
                let Q : ℕ → Type 0 = λ l. IsLatest edges tail n l in
                subst P (sym e)
                (subst Q (sym (get_or-set_same before n (get_or latest tail 0) 0 room)) (h.newest tail low)))
            | inr d ↦ (
                let Q : ℕ → Type 0 = λ l. IsLatest edges (edge_at edges k).from k l in
                subst Q (sym (get_or-set_other before n k (get_or latest tail 0) 0 d)) (h.older k (omega arith)))
          ];
    }

-- the links of a list with one more edge
pub links_more : (vars : ℕ) (edges : List Edge) (e : Edge) (latest before : List ℕ) (tail link number : ℕ)
    → tail < vars → link ≡ get_or latest tail 0 → number ≡ suc (length before) → e.from ≡ tail
    → AreLinks vars edges latest before
    → AreLinks vars (edges ++ e ∷ []) (set latest tail number) (before ++ link ∷ [])
links_more vars edges e latest before tail link number low is count f h =
    let more : List Edge = edges ++ e ∷ [] in
    let n : ℕ = length edges in
    let wide : List ℕ = before ++ link ∷ [] in
    let b : length before ≡ n = h.one_each_edge in
    let long : length more ≡ suc n = length_more edges e in
    let tail_is : (edge_at more n).from ≡ tail = ap (λ x. x.from) (edge_last edges e) ∙ f in
    let alike : (m : ℕ) → m ≤ n → (k : ℕ) → k < m → edge_at more k ≡ edge_at edges k =
    λ m le k lt. edge_before edges e k (omega arith) in
    let kept : AreLinksUpTo vars more n latest wide = record {
      one_each = h.one_each;
      one_each_edge = (let l = length-append before (link ∷ []) in omega (arith, l, b, long));
      newest = λ v vv. latest_alike edges more v n (get_or latest v 0) (alike n (omega arith)) (h.newest v vv);
      older = λ k kk. (
          let P : Edge → Type 0 = λ x. IsLatest more x.from k (get_or wide k 0) in
          let Q : ℕ → Type 0 = λ l. IsLatest more (edge_at edges k).from k l in
          subst P (sym (edge_before edges e k kk))
          (subst Q (sym (get_or_append_left before (link ∷ []) 0 k (omega arith)))
          (latest_alike edges more (edge_at edges k).from k (get_or before k 0) (alike k (omega arith))
          (h.older k kk))));
    } in
    let one : AreLinksUpTo vars more (suc n) (set latest (edge_at more n).from (suc n))
    (set wide n (get_or latest (edge_at more n).from 0)) =
    links_one vars more n latest wide kept (omega arith) (omega (arith, tail_is, low)) in
    let L : ℕ → Type 0 = λ t. AreLinksUpTo vars more (suc n) (set latest t (suc n)) (set wide n (get_or latest t 0)) in
    let M : ℕ → Type 0 = λ c. AreLinksUpTo vars more (suc n) (set latest tail c) (set wide n (get_or latest tail 0)) in
    let N : List ℕ → Type 0 = λ w. AreLinksUpTo vars more (suc n) (set latest tail number) w in
    let C : ℕ → Type 0 = λ c. AreLinksUpTo vars more c (set latest tail number) wide in
    let number_is : suc n ≡ number = omega arith in
    let P : ℕ → Type 0 = λ a. set wide n a ≡ wide in
    let link_is : get_or wide n 0 ≡ link =
    (let Q : ℕ → Type 0 = λ i. get_or wide i 0 ≡ link in subst Q b (get_or-append_seam before link [] 0)) in
    let same : set wide n (get_or latest tail 0) ≡ wide = subst P (link_is ∙ is) (set-get_or wide n 0) in
    subst C (sym long) (subst N same (subst M number_is (subst L tail_is one)))
