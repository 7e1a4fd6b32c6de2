-- Edges that make a constraint graph: those from the origin, and one more.
use Rattle.std.proofs.Common.{◌≡◌, ℕ, zero, suc, ◌+◌, ◌<◌, ◌≤◌, List, [], ◌∷◌, ◌++◌, pos, neg_ℤ, ◌≤ℤ◌, refl, sym, subst}
use Rattle.std.proofs.{Common.{◌∙◌, inl, inr, arith, rules}, lemmas.{Bool.cases_lt, List.length-append}}
use Rattle.std.proofs.lemmas.List.{get_or_append_left, Elements.{All-nil, All-cons, All-append}, Quantifiers.Any-push}
use Rattle.std.specs.{Prelude.◌^◌, List.{All, Any, range_with_len}}
use Rattle.cons_graph.specs.{declared.edges.Edge.Edge, Constraints.{IsConstraintGraph, IsEdgeAmong, LeadsFromOrigin}}
use Rattle.round_log.{specs.Orders.IsOrder, proofs.Outcomes.every_variable}

any_left : {X : Type 0} (P : X → Type 0) (xs ys : List X) → Any P xs → Any P (xs ++ ys)
any_left P xs ys h =
    (h.0, h.1, omega (arith, h.2, length-append xs ys), get_or_append_left xs ys h.1 h.0 h.2 ∙ h.3, h.4)

-- edges among so many variables, of which one leads from the origin to each other variable below n
pub record AreReaching (vars n : ℕ) (edges : List Edge) : Type 0 where
  pub among : All (IsEdgeAmong vars) edges
  pub reached : (v : ℕ) → 1 ≤ v → v < n → Any (LeadsFromOrigin v) edges

-- one more edge reaches the next variable
pub one_reached : (vars n : ℕ) (edges : List Edge) (e : Edge) → AreReaching vars n edges → IsEdgeAmong vars e
    → LeadsFromOrigin n e → AreReaching vars (n + 1) (edges ++ e ∷ [])
one_reached vars n edges e r a leads = record {
  among = All-append (IsEdgeAmong vars) edges (e ∷ []) r.among
      (All-cons (IsEdgeAmong vars) e [] a (All-nil (IsEdgeAmong vars)));
  reached = λ v lo hi. elim (cases_lt v n) as (λ _. Any (LeadsFromOrigin v) (edges ++ e ∷ [])) [
    | inl lt ↦ any_left (LeadsFromOrigin v) edges (e ∷ []) (r.reached v lo lt)
    | inr ge ↦ Any-push (LeadsFromOrigin v) edges e (
      leads.0,
      leads.1
          ∙ (let f : n ≤ v = ge in let g : v < n + 1 = hi in let h : n ≡ v = omega (arith, f, g) in h),
    )
  ];
}

-- a graph with one more edge among its variables is one
pub one_more : (vars : ℕ) (edges : List Edge) (e : Edge) → IsConstraintGraph (record { vars = vars; edges = edges })
    → IsEdgeAmong vars e → IsConstraintGraph (record { vars = vars; edges = edges ++ e ∷ [] })
one_more vars edges e g a = record {
  has_origin = g.has_origin;
  few_vars = g.few_vars;
  edges_among = All-append (IsEdgeAmong vars) edges (e ∷ []) g.edges_among
      (All-cons (IsEdgeAmong vars) e [] a (All-nil (IsEdgeAmong vars)));
  all_from_origin = λ v lo hi. any_left (LeadsFromOrigin v) edges (e ∷ []) (g.all_from_origin v lo hi);
}

-- the variables in order of their numbers are an order
pub numbers_order : (vars : ℕ) → 1 ≤ vars → IsOrder vars (range_with_len 0 vars)
numbers_order zero some = elim some [ ]
numbers_order (suc n) some = record { names = every_variable (suc n); origin_first = refl }

-- the edge from the origin to the next variable reaches it
pub spoke_reached : (vars v : ℕ) (edges : List Edge) (e : Edge) → AreReaching vars v edges → 1 ≤ v → v < vars
    → e.from ≡ 0 → e.to ≡ v → e.len ≡ pos 0 → AreReaching vars (v + 1) (edges ++ e ∷ [])
spoke_reached vars v edges e r lo hi from to len = one_reached vars v edges e r among (from, to)
  where
    among : IsEdgeAmong vars e
    among = record {
      from_in_range = omega (arith, lo, hi, from);
      to_in_range = omega (arith, hi, to);
      ends_differ = omega (arith, lo, from, to);
      not_into_origin = omega (arith, lo, to);
      length_low = subst (λ n. neg_ℤ (pos (2 ^ 21)) ≤ℤ n) (sym len) (search rules);
      length_high = subst (λ n. n ≤ℤ pos (2 ^ 21)) (sym len) (search rules);
    }
