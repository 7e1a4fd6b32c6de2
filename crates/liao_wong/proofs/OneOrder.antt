-- What values and edges determine: the order by (value, number), and the cycle at which the rounds stop.
use Rattle.std.proofs.Common.{◌≡◌, ℕ, suc, ◌<◌, ℤ, List, [], ◌∷◌, inl, inr, refl, sym, ap, subst, ◌∙◌, arith}
use Rattle.std.{proofs.lemmas.Int.ints, specs.List.AllPairs}
use Rattle.cons_graph.specs.declared.edges.Edge.{Edge}
use Rattle.round_log.specs.{Orders.NamesEachOnce, Rounds.schedule_of, WalksBack.cycle_of}
use Rattle.round_log.proofs.{Chains.In, OneOutcome.one_stop, Planned.{In-from_contains, place_of_In}}
use Rattle.liao_wong.specs.{Answers.HasOneCycle, Sorted.{Precedes, HasOneOrder}}

-- ---- a list in which each element comes before all later ones is determined by its elements

before_later : (R : ℕ → ℕ → Type 0) (x : ℕ) (xs : List ℕ) → AllPairs R (x ∷ xs) → (v : ℕ) → In v xs → R x v
before_later R x xs h v i =
    let w = place_of_In xs v i in
    let P : ℕ → Type 0 = λ y. R x y in
    subst P (w.2 0) (h 0 (suc w.0) 0 (omega arith) (let l = w.1 in omega (arith, l)))

pairs_tail : (R : ℕ → ℕ → Type 0) (x : ℕ) (xs : List ℕ) → AllPairs R (x ∷ xs) → AllPairs R xs
pairs_tail R x xs h = λ i j d lt le. h (suc i) (suc j) d (omega arith) (omega arith)

-- what is a member of both lists, and is not the first of the one, is not the first of the other
in_tail : (R : ℕ → ℕ → Type 0) → ((v : ℕ) → R v v → ⊥) → (x y : ℕ) (xs ys : List ℕ) → x ≡ y → AllPairs R (x ∷ xs)
    → ((v : ℕ) → In v (x ∷ xs) → In v (y ∷ ys)) → (v : ℕ) → In v xs → In v ys
in_tail R irreflexive x y xs ys same a f v i =
    elim (f v (inr i)) as (λ _. In v ys) [
      | inl e ↦
          absurd (let P : ℕ
          → Type 0 = λ z. R x z in irreflexive x (subst P (sym e ∙ sym same) (before_later R x xs a v i)))
      | inr j ↦ j
    ]

same_list : (R : ℕ → ℕ → Type 0) → ((u v : ℕ) → R u v → R v u → ⊥) → (xs ys : List ℕ) → AllPairs R xs → AllPairs R ys
    → ((v : ℕ) → In v xs → In v ys) → ((v : ℕ) → In v ys → In v xs) → xs ≡ ys
same_list R asym [] [] a b f g = refl
same_list R asym [] (y ∷ ys) a b f g = absurd (g y (inl refl))
same_list R asym (x ∷ xs) [] a b f g = absurd (f x (inl refl))
same_list R asym (x ∷ xs) (y ∷ ys) a b f g =
    let first : x ≡ y = elim (f x (inl refl)) as (λ _. x ≡ y) [
      | inl e ↦ sym e
      | inr i ↦ elim (g y (inl refl)) as (λ _. x ≡ y)
          [ inl e ↦ e | inr j ↦ absurd (asym x y (before_later R x xs a y j) (before_later R y ys b x i)) ]
    ] in
    let irreflexive : (v : ℕ) → R v v → ⊥ = λ v r. asym v v r r in
    let rest : xs ≡ ys = same_list R asym xs ys (pairs_tail R x xs a) (pairs_tail R y ys b)
    (in_tail R irreflexive x y xs ys first a f) (in_tail R irreflexive y x ys xs (sym first) b g) in
    ap (λ z. z ∷ xs) first ∙ ap (λ l. y ∷ l) rest

-- ---- the order

not_both : (x : ℕ → ℤ) (u v : ℕ) → Precedes x u v → Precedes x v u → ⊥
not_both x u v a b = elim a as (λ _. ⊥) [
  | inl lt ↦
      elim b as (λ _. ⊥) [ inl gt ↦ omega (arith, ints) | inr e ↦ (let s : x v ≡ x u = e.0 in omega (arith, ints)) ]
  | inr e ↦
      elim b as (λ _. ⊥) [
        | inl gt ↦ (let s : x u ≡ x v = e.0 in omega (arith, ints))
        | inr d ↦
            (let p : u < v = e.1 in let q : v < u = d.1 in omega arith)
      ]
]

members : (vars : ℕ) (a b : List ℕ) → NamesEachOnce vars a → NamesEachOnce vars b → (v : ℕ) → In v a → In v b
members vars a b n m v i =
    let w = place_of_In a v i in
    let P : ℕ → Type 0 = λ u. u < vars in
    In-from_contains b v (m.each v (subst P (w.2 0) (n.in_range w.0 0 w.1)))

pub has_one_order : (vars : ℕ) (x : ℕ → ℤ) → HasOneOrder vars x
has_one_order vars x a b n in_a m in_b =
    same_list (Precedes x) (not_both x) a b in_a in_b (members vars a b n m) (members vars b a m n)

-- ---- the cycle

pub has_one_cycle : (edges : List Edge) (order : List ℕ) → HasOneCycle edges order
has_one_cycle edges order c d a b = a.is
    ∙ ap (cycle_of edges) (one_stop (schedule_of edges order) a.raises b.raises a.stops b.stops) ∙ sym b.is
