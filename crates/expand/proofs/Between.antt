-- What the inequality between two ends says.
use Rattle.std.proofs.Common.{◌≡◌, ℕ, true, false, eqb, ℤ, ◌+ℤ◌, ◌-ℤ◌, ◌≤ℤ◌, List, [], ◌∷◌, refl, sym, ap, subst, arith}
use Rattle.std.proofs.{Common.{inl, inr}, lemmas.{Int.ints, Bool.{cases_Bool, cases_eq, eq-eqb, ne_eqb}}}
use Rattle.std.specs.List.{AllByRecursion}
use Rattle.cons_graph.specs.{declared.edges.{Edge.Edge, Why.Why}, Solutions.Meets}
use Rattle.sym_items.specs.{declared.items.End.End, Values.end_under}
use Rattle.expand.specs.{Structure.{at_least, between}, Bounds.FitsOn, Laws.BetweenMeans}

-- there is an inequality between ends on different variables alone
one_edge : (low high : End) (len : ℤ) (why : Why) → eqb low.var high.var ≡ false
    → between low high len why ≡ at_least low.var high.var ((len -ℤ high.off) +ℤ low.off) why ∷ []
one_edge low high len why e = rw e refl

no_edge : (low high : End) (len : ℤ) (why : Why) → eqb low.var high.var ≡ true → between low high len why ≡ []
no_edge low high len why e = rw e refl

pub between_means : (low high : End) (len : ℤ) (why : Why) → BetweenMeans low high len why
between_means low high len why x =
    let M : List Edge → Type 0 = AllByRecursion (Meets x) in (
      λ meets differ. let h = (subst M (one_edge low high len why (ne_eqb low.var high.var differ)) meets).0 in
          omega (arith, ints, h),
      λ apart. elim (cases_Bool (eqb low.var high.var)) [
        | inl t ↦ subst M (sym (no_edge low high len why t)) tt
        | inr f ↦
            let h = apart (λ same. let t = eq-eqb low.var high.var same in cc) in
            subst M (sym (one_edge low high len why f)) (omega (arith, ints, h), tt)
      ],
    )

-- so ends that lie far enough apart where both are on one variable lie so far apart
pub between_holds : (x : ℕ → ℤ) (low high : End) (len : ℤ) (why : Why)
    → AllByRecursion (Meets x) (between low high len why) → FitsOn low high len
    → (end_under x low +ℤ len) ≤ℤ end_under x high
between_holds x low high len why meets fits =
    elim (cases_eq low.var high.var) [
      | inl same ↦
          let at : x low.var ≡ x high.var = ap x same in
          let h = fits same in
          omega (arith, ints, at, h)
      | inr differ ↦ (between_means low high len why x).0 meets differ
    ]
