-- Graphs of the tests: an edge from the origin to each other variable, one after another.
use Rattle.std.proofs.Common.{◌≡◌, ℕ, suc, ◌^◌, ◌<◌, ◌≤◌, inl, inr, ℤ, pos, neg_ℤ, ◌≤ℤ◌, List, [], ◌∷◌, ◌++◌, get_or}
use Rattle.std.proofs.{Common.{sym, subst, ◌∙◌, arith}, lemmas.{Int.ints, Bool.cases_lt, List.length-append}}
use Rattle.std.{proofs.lemmas.List.{get_or_append_left, Elements.All-push, Quantifiers.Any-push}, specs.List.Any}
use Rattle.cons_graph.specs.{declared.edges.Edge.Edge, Constraints.{IsConstraintGraph, IsEdgeAmong, LeadsFromOrigin}}

-- one more variable, and the edge to it
pub graph_wider : (n m : ℕ) (edges : List Edge) (e : Edge) → m ≡ suc n → m ≤ 65536 → e.from ≡ 0 → e.to ≡ n
    → e.len ≡ pos 0 → IsConstraintGraph (record { vars = n; edges = edges })
    → IsConstraintGraph (record { vars = m; edges = edges ++ e ∷ [] })
graph_wider n m edges e one few from to len s =
    let some : 1 ≤ n = s.has_origin in
    record {
      has_origin = omega (arith, one);
      few_vars = omega (arith, few);
      edges_among =
          All-push (IsEdgeAmong m) edges e
          (λ k d lt.
          (let a : IsEdgeAmong n (get_or edges k d) = s.edges_among k d lt in let f = a.from_in_range in let t =
          a.to_in_range in record {
            from_in_range = omega (arith, f, one);
            to_in_range = omega (arith, t, one);
            ends_differ = a.ends_differ;
            not_into_origin = a.not_into_origin;
            length_low = a.length_low;
            length_high =
                a.length_high;
          }))
          (record {
            from_in_range = omega (arith, from, one);
            to_in_range = omega (arith, to, one);
            ends_differ = (λ i. omega (arith, i, from, to, some));
            not_into_origin =
                (λ i. omega (arith, i, to, some));
            length_low =
                (let P : ℤ → Type 0 = λ z. neg_ℤ (pos (2 ^ 21)) ≤ℤ z in subst P (sym len) (omega (arith, ints)));
            length_high =
                (let P : ℤ → Type 0 = λ z. z ≤ℤ pos (2 ^ 21) in subst P (sym len) (omega (arith, ints)));
          });
      all_from_origin = λ v a b. elim (cases_lt v n) as (λ _. Any (LeadsFromOrigin v) (edges ++ e ∷ [])) [
        | inl lt ↦
            (let h = s.all_from_origin v a lt in (
              h.0,
              h.1,
              (let l = h.2 in omega (arith, l, length-append edges (e ∷ []))),
              get_or_append_left edges
                  (e ∷ []) h.1 h.0 h.2 ∙ h.3,
              h.4,
            ))
        | inr ge ↦ Any-push (LeadsFromOrigin v) edges e
            (from, to ∙ (let g : v < m = b in let l : n ≤ v = ge in let i : n ≡ v = omega (arith, g, l, one) in i))
      ];
    }
