-- The least of a number and of what some edges allow.
use Rattle.std.proofs.Common.{◌≡◌, ℕ, ◌+◌, ◌<◌, ◌≤◌, ◌⊎◌, inl, inr, ℤ, pos, ◌+ℤ◌, ◌≤ℤ◌, List, get_or, sym, subst, arith}
use Rattle.std.{proofs.lemmas.{Int.ints, Bool.{cases_eq, cases_lt}}, specs.Prelude.min}
use Rattle.cons_graph.specs.{declared.edges.Edge.Edge, EdgeNumbers.edge_at}
use Rattle.slack_pack.specs.Slacks.{none_yet, room_of, Allows, Grants, IsLeastAllowed}

pub allows_less : (slacks : List ℕ) (x : ℕ → ℤ) (e : Edge) (a b : ℕ) → b ≤ a → Allows slacks x e a → Allows slacks x e b
allows_less slacks x e a b le h = λ lt.
    let far : pos a ≤ℤ (pos (get_or slacks e.to 0) +ℤ room_of x e) = h lt in
    let room : ℤ = room_of x e in
    let far' : pos a ≤ℤ (pos (get_or slacks e.to 0) +ℤ room) = far in
    omega (arith, ints)

pub least_more : (edges : List Edge) (x : ℕ → ℤ) (slacks numbers : List ℕ) (n start least a : ℕ) → start ≤ none_yet
    → IsLeastAllowed edges x slacks numbers n start least → Allows slacks x (edge_at edges (get_or numbers n 0)) a
    → (a ≡ none_yet) ⊎ Grants slacks x (edge_at edges (get_or numbers n 0)) a
    → IsLeastAllowed edges x slacks numbers (n + 1) start (min least a)
least_more edges x slacks numbers n start least a cap h allows grants =
    let most : least ≤ start = h.at_most in
    let now : ℕ = min least a in
    let G : ℕ → ℕ → Type 0 = λ j b. Grants slacks x (edge_at edges (get_or numbers j 0)) b in
    let A : ℕ → ℕ → Type 0 = λ j b. Allows slacks x (edge_at edges (get_or numbers j 0)) b in
    let Reached : ℕ → Type 0 = λ b. (b ≡ start) ⊎ ((j : ℕ) × (j < n + 1) × G j b) in
    let old : Reached least =
    elim h.granted as (λ _. Reached least)
    [ inl e ↦ inl e | inr w ↦ inr (w.0, (let lt : w.0 < n = w.1 in omega arith), w.2) ] in
    record {
      at_most = omega arith;
      allowed = λ j lt. elim (cases_eq j n) as (λ _. A j (min least a)) [
        | inl e ↦ let P : ℕ → Type 0 =
            λ i. A i (min least a) in subst P (sym e)
            (allows_less slacks x (edge_at edges (get_or numbers n 0)) a (min least a) (omega arith) allows)
        | inr ne ↦ allows_less slacks x (edge_at edges (get_or numbers j 0)) least (min least a) (omega arith)
            (h.allowed j (omega arith))
      ];
      granted = elim (cases_lt a least) as (λ _. Reached (min least a)) [
        | inl less ↦
            let e : a ≡ min least a = omega arith in
            elim grants as (λ _. Reached (min least a)) [
              | inl none ↦ absurd (omega arith)
              | inr g ↦ inr (n, omega arith, (let P : ℕ → Type 0 = λ b. G n b in subst P e g))
            ]
        | inr more ↦ let e : least ≡ min least a = omega arith in subst Reached e old
      ];
    }
