-- How large the values of a least solution are: they have no gap wider than the longest edge, or all values above it
-- could be less.
use Rattle.std.proofs.Common.{◌≡◌, ℕ, zero, suc, ◌*◌, ◌^◌, ◌<◌, ◌≤◌, ◌⊎◌, inl, inr, ℤ, pos, neg_ℤ, ◌+ℤ◌, ◌-ℤ◌, ◌≤ℤ◌}
use Rattle.std.proofs.Common.{◌<ℤ◌, List, [], ◌∷◌, length, get_or, refl, sym, ap, subst, ◌∙◌, arith}
use Rattle.std.proofs.lemmas.{Int.{ints, by_lt_z}, Bool.cases_eq, List.FromFn.length-range_with_len}
use Rattle.std.specs.List.{range_with_len}
use Rattle.cons_graph.specs.{declared.edges.Edge.Edge, Constraints.{Constraints, IsConstraintGraph, IsEdgeAmong}}
use Rattle.cons_graph.specs.{EdgeNumbers.edge_at, Solutions.{IsSolution, IsLeastSolution}}
use Rattle.round_log.proofs.{Chains.In, Members.{In-range-from, IsDistinct, length_of_distinct}, Least.from_origin}
use Rattle.round_log.proofs.Least.{meets_at}
use Rattle.liao_wong.specs.Answers.{IsWithinLimit}

-- a value that is at most 2^21 above a level
abbrev Is_in : (ℕ → ℤ) → ℤ → ℕ → Type 0
Is_in x level w = (level <ℤ x w) × (x w ≤ℤ (level +ℤ pos (2 ^ 21)))

-- a value that is not: it is at most the level, or far above it
abbrev Is_out : (ℕ → ℤ) → ℤ → ℕ → Type 0
Is_out x level w = (x w ≤ℤ level) ⊎ ((level +ℤ pos (2 ^ 21)) <ℤ x w)

in_or_out : (x : ℕ → ℤ) (level : ℤ) (w : ℕ) → Is_in x level w ⊎ Is_out x level w
in_or_out x level w =
    by_lt_z level (x w)
    (λ a. by_lt_z (level +ℤ pos (2 ^ 21)) (x w) (λ b. inr (inr b)) (λ b. inl (a, b)))
    (λ a. inr (inl a))

-- some variable below n has such a value, or none has
search_in : (x : ℕ → ℤ) (level : ℤ) (n : ℕ) → ((w : ℕ) × (w < n) × Is_in x level w)
    ⊎ ((w : ℕ) → w < n → Is_out x level w)
search_in x level zero = inr (λ w lt. absurd (omega arith))
search_in x level (suc n) =
    let Found : Type 0 = ((w : ℕ) × (w < suc n) × Is_in x level w) ⊎ ((w : ℕ) → w < suc n → Is_out x level w) in
    elim (in_or_out x level n) as (λ _. Found) [
      | inl i ↦ inl (n, omega arith, i)
      | inr o ↦ elim (search_in x level n) as (λ _. Found) [
        | inl f ↦ inl (f.0, (let l = f.1 in omega (arith, l)), f.2)
        | inr all ↦ inr (λ w lt. elim (cases_eq w n) as (λ _. Is_out x level w) [
          | inl e ↦ (let P : ℕ → Type 0 = λ u. Is_out x level u in subst P (sym e) o)
          | inr d ↦ all w (omega arith)
        ])
      ]
    ]

-- a value above the level, less by one, or a value that is not above it
record Is_lowered (x : ℕ → ℤ) (level : ℤ) (w : ℕ) (a : ℤ) : Type 0 where
  high : level <ℤ x w → a ≡ x w -ℤ pos 1
  low : x w ≤ℤ level → a ≡ x w

lowered_is : (x : ℕ → ℤ) (level : ℤ) (w : ℕ) → (a : ℤ) × Is_lowered x level w a
lowered_is x level w =
    by_lt_z level (x w)
    (λ h. (x w -ℤ pos 1, record { high = λ _. refl; low = λ l. absurd (omega (arith, ints)) }))
    (λ h. (x w, record { high = λ l. absurd (omega (arith, ints)); low = λ _. refl }))

-- an edge over a gap stays met
over_gap : (xu xw yu yw len level : ℤ) → (yu ≡ xu -ℤ pos 1) ⊎ (yu ≡ xu) → (level <ℤ xu → yu ≡ xu -ℤ pos 1)
    → (level <ℤ xw → yw ≡ xw -ℤ pos 1) → (xw ≤ℤ level → yw ≡ xw) → (xw ≤ℤ level) ⊎ ((level +ℤ pos (2 ^ 21)) <ℤ xw)
    → len ≤ℤ (xw -ℤ xu) → len ≤ℤ pos (2 ^ 21) → len ≤ℤ (yw -ℤ yu)
over_gap xu xw yu yw len level either high_u high_w low_w out m long =
    elim out as (λ _. len ≤ℤ (yw -ℤ yu)) [
      | inl l ↦
          (let e : yw ≡ xw = low_w l in elim either as (λ _. len ≤ℤ (yw -ℤ yu))
          [ inl a ↦ omega (arith, ints) | inr a ↦ omega (arith, ints) ])
      | inr g ↦
          let e : yw ≡ xw -ℤ pos 1 = high_w (omega (arith, ints)) in
          by_lt_z level xu
          (λ h. let d : yu ≡ xu -ℤ pos 1 = high_u h in omega (arith, ints))
          (λ h. elim either as (λ _. len ≤ℤ (yw -ℤ yu)) [ inl a ↦ omega (arith, ints) | inr a ↦ omega (arith, ints) ])
    ]

either_way : (x : ℕ → ℤ) (level : ℤ) (w : ℕ) (a : ℤ) → Is_lowered x level w a → (a ≡ x w -ℤ pos 1) ⊎ (a ≡ x w)
either_way x level w a h = by_lt_z level (x w) (λ l. inl (h.high l)) (λ l. inr (h.low l))

-- above each level from 0 on that some value is above, a value comes soon
pub no_gap : (g : Constraints) (x : ℕ → ℤ) (level : ℤ) (v : ℕ) → IsConstraintGraph g
    → IsLeastSolution g.vars g.edges x → pos 0 ≤ℤ level → v < g.vars → level <ℤ x v
    → (w : ℕ) × (w < g.vars) × Is_in x level w
no_gap g x level v s l from vv above =
    elim (search_in x level g.vars) as (λ _. (w : ℕ) × (w < g.vars) × Is_in x level w) [
      | inl f ↦ f
      | inr out ↦
          let y : ℕ → ℤ = λ w. (lowered_is x level w).0 in
          let is : (w : ℕ) → Is_lowered x level w (y w) = λ w. (lowered_is x level w).1 in
          let zero_is : x 0 ≡ pos 0 = l.solves.origin in
          let solves : IsSolution g.edges y = record {
            origin = (is 0).low (omega (arith, ints)) ∙ zero_is;
            meets = λ k d lt. (
                let e : Edge = get_or g.edges k d in
                let among : IsEdgeAmong g.vars e = s.edges_among k d lt in
                over_gap (x e.from) (x e.to) (y e.from) (y e.to) e.len level
                (either_way x level e.from (y e.from) (is e.from)) (is e.from).high (is e.to).high (is e.to).low
                (out e.to among.to_in_range) (l.solves.meets k d lt) among.length_high);
          } in
          let le : x v ≤ℤ y v = l.below y solves v vv in
          let less : y v ≡ x v -ℤ pos 1 = (is v).high above in
          absurd (omega (arith, ints))
    ]

-- distinct variables, one for each of the first n levels
record Are_levels (vars n : ℕ) (x : ℕ → ℤ) (ws : List ℕ) : Type 0 where
  count : length ws ≡ n
  once : IsDistinct ws
  in_range : (w : ℕ) → In w ws → w < vars
  low : (w : ℕ) → In w ws → x w ≤ℤ pos (2 ^ 21 * n)

levels : (g : Constraints) (x : ℕ → ℤ) (v : ℕ) → IsConstraintGraph g → IsLeastSolution g.vars g.edges x → v < g.vars
    → (n : ℕ) → pos (2 ^ 21 * n) <ℤ x v → (ws : List ℕ) × Are_levels g.vars n x ws
levels g x v s l vv zero above =
    ([], record { count = refl; once = tt; in_range = λ w i. absurd i; low = λ w i. absurd i })
levels g x v s l vv (suc n) above =
    let less : pos (2 ^ 21 * n) <ℤ x v = omega (arith, ints) in
    let r = levels g x v s l vv n less in
    let h : Are_levels g.vars n x r.0 = r.1 in
    let f = no_gap g x (pos (2 ^ 21 * n)) v s l (omega (arith, ints)) vv less in
    let over : pos (2 ^ 21 * n) <ℤ x f.0 = f.2.0 in
    let under : x f.0 ≤ℤ (pos (2 ^ 21 * n) +ℤ pos (2 ^ 21)) = f.2.1 in (
      f.0 ∷ r.0,
      record {
        count = ap suc h.count;
        once = (λ i. (let q : x f.0 ≤ℤ pos (2 ^ 21 * n) = h.low f.0 i in absurd (omega (arith, ints))), h.once);
        in_range =
            λ w i. elim i as (λ _. w < g.vars)
            [ inl e ↦ (let P : ℕ → Type 0 = λ u. u < g.vars in subst P e f.1) | inr j ↦ h.in_range w j ];
        low = λ w i. elim i as (λ _. x w ≤ℤ pos (2 ^ 21 * suc n)) [
          | inl e ↦ (let P : ℕ → Type 0 = λ u. x u ≤ℤ pos (2 ^ 21 * suc n) in subst P e (omega (arith, ints)))
          | inr j ↦ (let q : x w ≤ℤ pos (2 ^ 21 * n) = h.low w j in omega (arith, ints))
        ];
      },
    )

-- a value is at most 2^21 for each variable
least_high : (g : Constraints) (x : ℕ → ℤ) (v : ℕ) → IsConstraintGraph g → IsLeastSolution g.vars g.edges x
    → v < g.vars → x v ≤ℤ pos (2 ^ 21 * suc g.vars)
least_high g x v s l vv =
    by_lt_z (pos (2 ^ 21 * suc g.vars)) (x v)
    (λ above.
    let r = levels g x v s l vv (suc g.vars) above in
    let h : Are_levels g.vars (suc g.vars) x r.0 = r.1 in
    let few : length r.0 ≤ length (range_with_len 0 g.vars) =
    length_of_distinct r.0 (range_with_len 0 g.vars) h.once
    (λ w i. In-range-from w 0 g.vars (omega arith) (let lt = h.in_range w i in omega (arith, lt))) in
    let all : length (range_with_len 0 g.vars) ≡ g.vars = length-range_with_len 0 g.vars in
    let count : length r.0 ≡ suc g.vars = h.count in
    absurd (omega (arith, few, all, count)))
    (λ le. le)

-- the values of a least solution are within 2^55 of 0
pub least_small : (g : Constraints) (x : ℕ → ℤ) (v : ℕ) → IsConstraintGraph g → IsLeastSolution g.vars g.edges x
    → v < g.vars → IsWithinLimit (x v)
least_small g x v s l vv =
    let high : x v ≤ℤ pos (2 ^ 21 * suc g.vars) = least_high g x v s l vv in
    let few : g.vars ≤ 2 ^ 17 = s.few_vars in
    let zero_is : x 0 ≡ pos 0 = l.solves.origin in
    let low : neg_ℤ (pos (2 ^ 21)) ≤ℤ x v = elim (cases_eq v 0) as (λ _. neg_ℤ (pos (2 ^ 21)) ≤ℤ x v) [
      | inl e ↦ (let q : x v ≡ x 0 = ap x e in omega (arith, ints))
      | inr d ↦
          let w = from_origin g s v (omega arith) vv in
          let e : Edge = edge_at g.edges w.0 in
          let m : e.len ≤ℤ (x e.to -ℤ x e.from) = meets_at g.edges x l.solves.meets w.0 w.1 in
          let f : x e.from ≡ x 0 = ap x w.2 in
          let t : x e.to ≡ x v = ap x w.3 in
          let short : neg_ℤ (pos (2 ^ 21)) ≤ℤ e.len = (s.edges_among w.0 (edge_at [] 0) w.1).length_low in
          omega (arith, ints)
    ] in
    (omega (arith, ints), omega (arith, ints))
