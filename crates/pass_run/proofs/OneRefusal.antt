-- Passes are refused in one way.
use Rattle.std.proofs.Common.{◌≡◌, ℕ, suc, List, [], ◌∷◌, ◌++◌, length, get_or, drop, ◌⊎◌, inl, inr, refl, sym, ap, ◌∙◌}
use Rattle.std.proofs.Common.{subst, arith, ℤ}
use Rattle.lam_geom.specs.declared.boxes.Axis.{Axis}
use Rattle.rule_table.specs.declared.technology.Tech.{Tech}
use Rattle.cons_graph.specs.{declared.edges.Edge.Edge, Solutions.value_of}
use Rattle.liao_wong.{specs.Answers.IsCycleOf, proofs.OneOrder.{has_one_order, has_one_cycle}}
use Rattle.sym_items.specs.declared.items.Coords.{Coords}
use Rattle.expand.specs.declared.master.Master.{Master}
use Rattle.plan_model.specs.declared.plan.Plan.{Plan}
use Rattle.pass_run.specs.declared.passes.PassFault.{PassFault, TheVariants.{TooManyEdges, Unsatisfiable, OutOfMemory}}
use Rattle.pass_run.specs.{declared.step.Step.Step, Layouts.{starts_of, system_values, moved_by, layouts_after}}
use Rattle.pass_run.specs.{Passes.{ArePasses, axes_of}, Report.{report_of, cycle_text}, PassFaults.IsSolvable}
use Rattle.pass_run.specs.PassFaults.{HasManyEdges, IsCyclicOver, IsUnsatisfiable, RefusesPasses, AreRefusedInOneWay}
use Rattle.pass_run.{specs.{PassFaults.{StopsAtFirst, IsFirstUnsolvable}, Least.LeadTo}, proofs.Determined.one_pass}
use Rattle.pass_run.proofs.Leading.{cycle_first, made_least, many_first, not_refused, passes_lead}
use Rattle.pitch_join.specs.{Names.system_names, Joined.{system_variables, pruned_system}}

module _ (tech : Tech) (plan : Plan) (masters : List Master) where
  -- passes come to one without values in one way
  one_stop : (before : List Coords) (a b : List Step) (x y : Axis) (u v : List Axis)
      → ArePasses tech plan masters before a → ArePasses tech plan masters before b
      → axes_of a ++ x ∷ u ≡ axes_of b ++ y ∷ v → (IsSolvable tech plan masters (layouts_after masters before a) x → ⊥)
      → (IsSolvable tech plan masters (layouts_after masters before b) y → ⊥) → (a ≡ b) × (x ≡ y)
  one_stop before [] [] x y u v pa pb same na nb = (refl, ap (λ (axes : List Axis). get_or axes 0 x) same)
  one_stop before [] (t ∷ b) x y u v pa pb same na nb =
      let first : x ≡ t.axis = ap (λ (axes : List Axis). get_or axes 0 x) same in
      absurd (na (rw first (made_least tech plan masters before t pb.0 pb.1).solvable))
  one_stop before (s ∷ a) [] x y u v pa pb same na nb =
      let first : s.axis ≡ y = ap (λ (axes : List Axis). get_or axes 0 y) same in
      absurd (nb (rw (← first) (made_least tech plan masters before s pa.0 pa.1).solvable))
  one_stop before (s ∷ a) (t ∷ b) x y u v pa pb same na nb =
      let first : s.axis ≡ t.axis = ap (λ (axes : List Axis). get_or axes 0 s.axis) same in
      let step : s ≡ t = one_pass tech plan masters before s t (sym first) pa.0 pb.0 pa.1 pb.1 in
      let P : Step → Type 0 = λ z. ArePasses tech plan masters (moved_by masters before z) b in
      let after : Step → List Coords = λ z. layouts_after masters (moved_by masters before z) b in
      let N : Step → Type 0 = λ z. IsSolvable tech plan masters (after z) y → ⊥ in
      let made = subst P (sym step) pb.2 in
      let none = subst N (sym step) nb in
      let later = one_stop (moved_by masters before s) a b x y u v pa.2 made (ap (drop 1) same) na none in
      (ap (λ (z : Step). z ∷ a) step ∙ ap (λ (zs : List Step). t ∷ zs) later.0, later.1)

  -- so for two refusals of the same axes
  one_first : {axes : List Axis} {p q : ℕ} (a : IsFirstUnsolvable tech plan masters axes p)
      (b : IsFirstUnsolvable tech plan masters axes q)
      → (a.done ≡ b.done) × (a.axis ≡ b.axis) × (p ≡ q)
  one_first a b =
      let on = sym a.comes.axes_are ∙ b.comes.axes_are in
      let same = one_stop (starts_of tech masters) a.done b.done a.axis b.axis a.comes.later b.comes.later
      a.comes.made b.comes.made on a.not_solvable b.not_solvable in
      (same.0, same.1, a.comes.count ∙ ap (λ (zs : List Step). suc (length zs)) same.0 ∙ sym b.comes.count)

  -- the text of a cycle is one
  one_text : (c : List Coords) (pass : ℕ) (axis : Axis) (s t : List ℕ) → IsCyclicOver tech plan masters c pass axis s
      → IsCyclicOver tech plan masters c pass axis t → s ≡ t
  one_text c pass axis s t a b =
      let listed : List Edge = pruned_system axis tech plan masters c in
      let x : ℕ → ℤ = value_of (system_values axis c) in
      let order : a.order ≡ b.order = has_one_order (system_variables axis masters) x a.order b.order a.each_once
      a.in_order b.each_once b.in_order in
      let C : List ℕ → Type 0 = λ ns. IsCycleOf listed ns b.cycle in
      let cycle : a.cycle ≡ b.cycle = has_one_cycle listed a.order a.cycle b.cycle a.stops
      (subst C (sym order) b.stops) in
      a.says ∙ ap (cycle_text (system_names axis masters) listed pass axis) cycle ∙ sym b.says

  abbrev after : List Step → List Coords
  after done = layouts_after masters (starts_of tech masters) done

  -- a pass with too many inequalities and one with a cycle do not both come
  not_both : {axes : List Axis} {p q : ℕ} {report : List ℕ} → HasManyEdges tech plan masters axes p
      → IsUnsatisfiable tech plan masters axes q report → ⊥
  not_both m u =
      let same = one_first (many_first m) (cycle_first u) in
      let count : List Step → Axis → ℕ = λ done axis. length (pruned_system axis tech plan masters (after done)) in
      let e : count m.done m.axis ≡ count u.done u.axis = ap (λ z. count z m.axis) same.0 ∙ ap (count u.done) same.1 in
      let many = m.many in
      let few = u.cyclic.few in
      omega (arith, e, many, few)

  one_cycle : {axes : List Axis} {p q : ℕ} {r s : List ℕ} → IsUnsatisfiable tech plan masters axes p r
      → IsUnsatisfiable tech plan masters axes q s → (p ≡ q) × (r ≡ s)
  one_cycle {axes} {p} {q} a b =
      let same = one_first (cycle_first a) (cycle_first b) in
      let C : List Step → Axis → ℕ → Type 0 = λ done axis n. IsCyclicOver tech plan masters (after done) n axis b.text
      in
      let D : List Step → Type 0 = λ done. C done b.axis q in
      let X : Axis → Type 0 = λ axis. C a.done axis q in
      let N : ℕ → Type 0 = λ n. C a.done a.axis n in
      let other = subst N (sym same.2) (subst X (sym same.1) (subst D (sym same.0) b.cyclic)) in
      let text : a.text ≡ b.text = one_text (after a.done) p a.axis a.text b.text a.cyclic other in
      let report : List Step → List ℕ = report_of tech plan masters (starts_of tech masters) in
      let says = ap (λ zs. report zs ++ a.text) same.0 ∙ ap (λ t. report b.done ++ t) text in
      (same.2, a.says ∙ says ∙ sym b.says)

  one_refusal : (axes : List Axis) (e f : PassFault) → RefusesPasses tech plan masters axes e
      → RefusesPasses tech plan masters axes f → (e ≡ OutOfMemory) ⊎ (f ≡ OutOfMemory) ⊎ (e ≡ f)
  one_refusal axes OutOfMemory f re rf = inl refl
  one_refusal axes (TooManyEdges p) OutOfMemory re rf = inr (inl refl)
  one_refusal axes (Unsatisfiable p r) OutOfMemory re rf = inr (inl refl)
  one_refusal axes (TooManyEdges p) (Unsatisfiable q s) re rf = absurd (not_both re rf)
  one_refusal axes (Unsatisfiable p r) (TooManyEdges q) re rf = absurd (not_both rf re)
  one_refusal axes (TooManyEdges p) (TooManyEdges q) re rf =
      inr (inr (ap (λ (n : ℕ). TooManyEdges n) (one_first (many_first re) (many_first rf)).2))
  one_refusal axes (Unsatisfiable p r) (Unsatisfiable q s) re rf =
      let same = one_cycle re rf in
      inr (inr (ap (λ (n : ℕ). Unsatisfiable n r) same.0 ∙ ap (λ (t : List ℕ). Unsatisfiable q t) same.1))

  pub refused_in_one_way : (axes : List Axis) → AreRefusedInOneWay tech plan masters axes
  refused_in_one_way axes = record {
    one = one_refusal axes;
    none_made = λ steps e made on.
        let L : List Axis → Type 0 = λ zs. LeadTo tech plan masters zs (starts_of tech masters) (after steps) in
        let lead = passes_lead tech plan masters (starts_of tech masters) steps made in
        not_refused tech plan masters axes (after steps) e (subst L on lead);
  }

  -- a refusal names the first pass without values
  pub stops_at_first : (axes : List Axis) (e : PassFault) → RefusesPasses tech plan masters axes e
      → StopsAtFirst tech plan masters axes e
  stops_at_first axes OutOfMemory r = tt
  stops_at_first axes (TooManyEdges p) r = many_first r
  stops_at_first axes (Unsatisfiable p t) r = cycle_first r
