-- Walks put together, and the walk that a chain is.
use Rattle.std.proofs.Common.{◌≡◌, ◌≢◌, ℕ, zero, suc, ◌<◌, ℤ, ◌+ℤ◌, ◌-ℤ◌, ◌≤ℤ◌, ◌<ℤ◌, List, [], ◌∷◌, ◌++◌, map, reverse}
use Rattle.std.proofs.{Common.{◌⊎◌, inl, inr, length, get_or, refl, sym, ap, subst, ◌∙◌, arith}, lemmas.Int.ints}
use Rattle.std.{proofs.lemmas.List.reverse-append, specs.List.AllPairs}
use Rattle.cons_graph.specs.{declared.edges.Edge.Edge, Solutions.Meets, Walks.{IsWalk, walk_length}}
use Rattle.cons_graph.proofs.Tests.{walk_length-append}
use Rattle.round_log.specs.declared.log.Entry.{Entry}
use Rattle.round_log.proofs.{Chains.{In, IsLinked, IsRising, top_var, top_value}, Planned.In-at, Members.In-map-back}
use Rattle.round_log.proofs.Members.{IsDistinct, In-append, In-append-left, In-append-right}

pub IsWalk-append : (a : ℕ) (xs : List Edge) (b : ℕ) (ys : List Edge) (c : ℕ) → IsWalk a xs b → IsWalk b ys c
    → IsWalk a (xs ++ ys) c
IsWalk-append a [] b ys c p q = let P : ℕ → Type 0 = λ x. IsWalk x ys c in subst P (sym p) q
IsWalk-append a (x ∷ xs) b ys c p q = (p.0, IsWalk-append x.to xs b ys c p.1 q)

pub IsWalk-split : (a : ℕ) (xs ys : List Edge) (c : ℕ) → IsWalk a (xs ++ ys) c
    → (b : ℕ) × (IsWalk a xs b) × (IsWalk b ys c)
IsWalk-split a [] ys c p = (a, refl, p)
IsWalk-split a (x ∷ xs) ys c p = let w = IsWalk-split x.to xs ys c p.1 in (w.0, (p.0, w.1), w.2)

pub reverse-cons : {X : Type 0} (x : X) (xs : List X) → reverse (x ∷ xs) ≡ reverse xs ++ x ∷ []
reverse-cons x xs = reverse-append (x ∷ []) xs

-- ---- the walk of a chain

abbrev pub entry_edges : (ℕ → Edge) → List Entry → List Edge
entry_edges edge cs = map (λ c. edge c.edge) cs

pub chain_walk : (edge : ℕ → Edge) (cs : List Entry) → IsLinked edge cs
    → IsWalk 0 (reverse (entry_edges edge cs)) (top_var cs)
chain_walk edge [] l = refl
chain_walk edge (c ∷ cs) l =
    let P : List Edge → Type 0 = λ es. IsWalk 0 es c.var in
    subst P (sym (reverse-cons (edge c.edge) (entry_edges edge cs)))
    (IsWalk-append 0 (reverse (entry_edges edge cs)) (top_var cs) (edge c.edge ∷ []) c.var
    (chain_walk edge cs l.1) (l.0.tail_is, l.0.head_is))

pub chain_length : (edge : ℕ → Edge) (cs : List Entry) → IsLinked edge cs
    → walk_length (reverse (entry_edges edge cs)) ≡ top_value cs
chain_length edge [] l = refl
chain_length edge (c ∷ cs) l =
    let e = ap walk_length (reverse-cons (edge c.edge) (entry_edges edge cs))
    ∙ walk_length-append (reverse (entry_edges edge cs)) (edge c.edge ∷ []) in
    let before = chain_length edge cs l.1 in
    let v = l.0.value_is in
    omega (arith, ints, e, before, v)

-- ---- no variable twice, where there is a solution

-- the distance of a solution's value from an entry's value only grows towards the newer end
chain_slack : (edge : ℕ → Edge) (x : ℕ → ℤ) (cs : List Entry) (q : Entry) → IsLinked edge cs
    → ((c : Entry) → In c cs → Meets x (edge c.edge)) → In q cs
    → (x q.var -ℤ q.value) ≤ℤ (x (top_var cs) -ℤ top_value cs)
chain_slack edge x [] q l m i = absurd i
chain_slack edge x (c ∷ cs) q l m i =
    elim i as (λ _. (x q.var -ℤ q.value) ≤ℤ (x c.var -ℤ c.value)) [
      | inl e ↦ let P : Entry → Type 0 =
          λ z. (x z.var -ℤ z.value) ≤ℤ (x c.var -ℤ c.value) in subst P e (omega (arith, ints))
      | inr h ↦
          let before : (x q.var -ℤ q.value) ≤ℤ (x (top_var cs) -ℤ top_value cs) =
          chain_slack edge x cs q l.1 (λ d j. m d (inr j)) h in
          let meets : (edge c.edge).len ≤ℤ (x (edge c.edge).to -ℤ x (edge c.edge).from) = m c (inl refl) in
          let head : x (edge c.edge).to ≡ x c.var = ap x l.0.head_is in
          let tail : x (edge c.edge).from ≡ x (top_var cs) = ap x l.0.tail_is in
          let v : c.value ≡ top_value cs +ℤ (edge c.edge).len = l.0.value_is in
          omega (arith, ints)
    ]

-- the variables of a chain, from its newest end
abbrev pub vars_of : List Entry → List ℕ
vars_of cs = map (λ c. c.var) cs

pub chain_distinct : (edge : ℕ → Edge) (x : ℕ → ℤ) (cs : List Entry) → IsLinked edge cs → IsRising cs
    → ((c : Entry) → In c cs → Meets x (edge c.edge)) → IsDistinct (vars_of cs)
chain_distinct edge x [] l r m = tt
chain_distinct edge x (c ∷ cs) l r m = (
  λ i.
      let w = In-map-back (λ (q : Entry). q.var) c.var cs i in
      let q : Entry = w.0 in
      let slack : (x q.var -ℤ q.value) ≤ℤ (x c.var -ℤ c.value) = chain_slack edge x (c ∷ cs) q l m (inr w.1) in
      let lower : q.value <ℤ c.value = r.0 q w.1 w.2 in
      let same : x q.var ≡ x c.var = ap x w.2 in
      omega (arith, ints),
  chain_distinct edge x cs l.1 r.1 (λ d j. m d (inr j)),
)

-- ---- lists without a repeated value, in other orders

pub IsDistinct-append : (xs ys : List ℕ) → IsDistinct xs → IsDistinct ys → ((v : ℕ) → In v xs → In v ys → ⊥)
    → IsDistinct (xs ++ ys)
IsDistinct-append [] ys a b c = b
IsDistinct-append (x ∷ xs) ys a b c = (
  λ i. elim (In-append x xs ys i) as (λ _. ⊥) [ inl h ↦ a.0 h | inr h ↦ c x (inl refl) h ],
  IsDistinct-append xs ys
      a.1 b (λ v i j. c v (inr i) j),
)

pub IsDistinct-parts : (xs ys : List ℕ) → IsDistinct (xs ++ ys)
    → IsDistinct xs × IsDistinct ys × ((v : ℕ) → In v xs → In v ys → ⊥)
IsDistinct-parts [] ys d = (tt, d, λ v i j. i)
IsDistinct-parts (x ∷ xs) ys d =
    let w = IsDistinct-parts xs ys d.1 in (
      (λ i. d.0 (In-append-left x xs ys i), w.0),
      w.1,
      λ v i j.
          elim i as (λ _. ⊥) [
            | inl e ↦ d.0 (In-append-right x xs ys (let P : ℕ → Type 0 = λ u. In u ys in subst P (sym e) j))
            | inr h ↦
                w.2 v h j
          ],
    )

pub IsDistinct-turned : (xs ys : List ℕ) → IsDistinct (xs ++ ys) → IsDistinct (ys ++ xs)
IsDistinct-turned xs ys d = let w = IsDistinct-parts xs ys d in IsDistinct-append ys xs w.1 w.0 (λ v i j. w.2 v j i)

pub In-reverse : {X : Type 0} (x : X) (xs : List X) → In x (reverse xs) → In x xs
In-reverse x [] i = i
In-reverse {X} x (y ∷ xs) i =
    let P : List X → Type 0 = λ l. In x l in
    elim (In-append x (reverse xs) (y ∷ []) (subst P (reverse-cons y xs) i)) as (λ _. (y ≡ x) ⊎ In x xs) [
      | inl h ↦ inr (In-reverse x xs h)
      | inr h ↦
          elim h as (λ _. (y ≡ x) ⊎ In x xs) [ inl e ↦ inl e | inr b ↦ absurd b ]
    ]

pub IsDistinct-reverse : (xs : List ℕ) → IsDistinct xs → IsDistinct (reverse xs)
IsDistinct-reverse [] d = tt
IsDistinct-reverse (x ∷ xs) d = let P : List ℕ → Type 0 =
    λ l. IsDistinct l in subst P (sym (reverse-cons x xs))
    (IsDistinct-append (reverse xs) (x ∷ []) (IsDistinct-reverse xs d.1) (λ i. i, tt)
    (λ v i j.
    elim j as (λ _. ⊥)
    [ inl e ↦ d.0 (In-reverse x xs (let P : ℕ → Type 0 = λ u. In u (reverse xs) in subst P (sym e) i)) | inr b ↦ b ]))

-- a list without a repeated value, by its places
pub pairs_from_IsDistinct : (xs : List ℕ) → IsDistinct xs → AllPairs (λ u v. u ≢ v) xs
pairs_from_IsDistinct xs d = λ i j e lt le. apart xs d i j e lt le
  where
    apart : (ys : List ℕ) → IsDistinct ys → (i j e : ℕ) → i < j → j < length ys → get_or ys i e ≡ get_or ys j e → ⊥
    apart [] k i j e lt le s = absurd (omega arith)
    apart (y ∷ ys) k zero zero e lt le s = absurd (omega arith)
    apart (y ∷ ys) k zero (suc j) e lt le s =
        k.0 (let P : ℕ → Type 0 = λ u. In u ys in subst P (sym s) (In-at ys j e (omega arith)))
    apart (y ∷ ys) k (suc i) zero e lt le s = absurd (omega arith)
    apart (y ∷ ys) k (suc i) (suc j) e lt le s = apart ys k.1 i j e (omega arith) (omega arith) s
