-- Passes are determined by their axes and by the layout before the first of them.
use Rattle.std.proofs.Common.{◌≡◌, ℕ, ℤ, pos, List, [], ◌∷◌, length, get_or, drop, refl, sym, ap, ◌∙◌, subst, arith}
use Rattle.std.proofs.lemmas.{Int.ints, List.ext_get_or}
use Rattle.lam_geom.specs.declared.boxes.Axis.{Axis}
use Rattle.rule_table.specs.declared.technology.Tech.{Tech}
use Rattle.cons_graph.specs.{declared.edges.Edge.Edge, Solutions.{IsLeastSolution, value_of}}
use Rattle.round_log.specs.{declared.log.Entry.Entry, Looks.backward_numbers, Rounds.{schedule_of, EndsInRound}}
use Rattle.round_log.proofs.OneOutcome.{one_end}
use Rattle.liao_wong.proofs.OneOrder.{has_one_order}
use Rattle.sym_items.specs.declared.items.Coords.{Coords}
use Rattle.expand.specs.declared.master.Master.{Master}
use Rattle.plan_model.specs.declared.plan.Plan.{Plan}
use Rattle.pass_run.specs.{declared.step.{Step.Step, Walk.Walk}, Layouts.{system_values, moved_by}, Slack.HasOneMost}
use Rattle.pass_run.specs.Passes.{kept_counts, far_walks, IsLeastPass, IsRecorded, ArePasses, axes_of}
use Rattle.pitch_join.specs.Joined.{system_variables, full_system, pruned_system}

-- least values are one list
pub one_least : (vars : ℕ) (system : List Edge) (x y : List ℤ) → length x ≡ vars → length y ≡ vars
    → IsLeastSolution vars system (value_of x) → IsLeastSolution vars system (value_of y) → x ≡ y
one_least vars system x y n m a b = ext_get_or (pos 0) x y (n ∙ sym m) (λ v lt.
    let below = a.below (value_of y) b.solves v (omega (arith, n, lt)) in
    let above = b.below (value_of x) a.solves v (omega (arith, n, lt)) in
    omega (arith, ints, below, above))

-- two passes on one axis over one layout are one
pub one_pass : (tech : Tech) (plan : Plan) (masters : List Master) (c : List Coords) (s t : Step) → t.axis ≡ s.axis
    → IsLeastPass tech plan masters c s → IsLeastPass tech plan masters c t
    → IsRecorded tech plan masters c s → IsRecorded tech plan masters c t → s ≡ t
one_pass tech plan masters c s t e least_s least_t rec_s rec_t =
    let vars : Axis → ℕ = λ a. system_variables a masters in
    let system : Axis → List Edge = λ a. full_system a tech plan masters c in
    let listed : Axis → List Edge = λ a. pruned_system a tech plan masters c in
    let O : List ℕ → Type 0 = λ ns. EndsInRound (schedule_of (listed s.axis) ns) t.rounds rec_t.raises in
    let walk_by : List Entry → List Walk = far_walks s.axis masters in
    let x : s.x ≡ t.x = one_least (vars s.axis) (system s.axis) s.x t.x least_s.one_each (least_t.one_each ∙ ap vars e)
    least_s.least (rw e at least_t.least) in
    let kept : s.kept ≡ t.kept = rec_s.kept ∙ sym (rec_t.kept ∙ ap (λ (a : Axis). kept_counts a tech masters c) e) in
    let edges : s.edges ≡ t.edges = rec_s.edges ∙ sym (rec_t.edges ∙ ap (λ (a : Axis). length (listed a)) e) in
    let order : rec_s.order ≡ rec_t.order = has_one_order (vars s.axis) (value_of (system_values s.axis c)) rec_s.order
    rec_t.order rec_s.each_once rec_s.in_order (rw e at rec_t.each_once) (rw e at rec_t.in_order) in
    let backward : s.backward ≡ t.backward = rec_s.backward
    ∙ (ap (λ (ns : List ℕ). length (backward_numbers (listed s.axis) ns)) order
    ∙ sym (rec_t.backward ∙ ap (λ (a : Axis). length (backward_numbers (listed a) rec_t.order)) e)) in
    let one = one_end (schedule_of (listed s.axis) rec_s.order) s.rounds t.rounds rec_s.raises rec_t.raises rec_s.ended
    (subst O (sym order) (rw e at rec_t.ended)) in
    let walks : s.walks ≡ t.walks = rec_s.walks
    ∙ (ap walk_by one.1 ∙ sym (rec_t.walks ∙ ap (λ (a : Axis). far_walks a masters rec_t.raises) e)) in
    same_step s t (sym e) x kept edges backward one.0 walks
  where
    same_step : (s t : Step) → s.axis ≡ t.axis → s.x ≡ t.x → s.kept ≡ t.kept → s.edges ≡ t.edges
        → s.backward ≡ t.backward → s.rounds ≡ t.rounds → s.walks ≡ t.walks → s ≡ t
    same_step s t axis x kept edges backward rounds walks =
        ap (λ (z : Axis). record s { axis = z }) axis
        ∙ (ap (λ (z : List ℤ). record s { axis = t.axis; x = z }) x
        ∙ (ap (λ (z : List ℕ). record s { axis = t.axis; x = t.x; kept = z }) kept
        ∙ (ap (λ (z : ℕ). record s { axis = t.axis; x = t.x; kept = t.kept; edges = z }) edges
        ∙ (ap (λ (z : ℕ). record s { axis = t.axis; x = t.x; kept = t.kept; edges = t.edges; backward = z }) backward
        ∙ (ap (λ (z : ℕ). record t { rounds = z; walks = s.walks }) rounds
        ∙ ap (λ (z : List Walk). record t { walks = z }) walks)))))

pub passes_determined : (tech : Tech) (plan : Plan) (masters : List Master) (before : List Coords) (a b : List Step)
    → ArePasses tech plan masters before a → ArePasses tech plan masters before b → axes_of a ≡ axes_of b → a ≡ b
passes_determined tech plan masters before [] [] pa pb same = refl
passes_determined tech plan masters before [] (t ∷ b) pa pb same = let n = ap length same in absurd (omega (arith, n))
passes_determined tech plan masters before (s ∷ a) [] pa pb same = let n = ap length same in absurd (omega (arith, n))
passes_determined tech plan masters before (s ∷ a) (t ∷ b) pa pb same =
    let first : s.axis ≡ t.axis = ap (λ (axes : List Axis). get_or axes 0 s.axis) same in
    let later : axes_of a ≡ axes_of b = ap (drop 1) same in
    let step : s ≡ t = one_pass tech plan masters before s t (sym first) pa.0 pb.0 pa.1 pb.1 in
    let P : Step → Type 0 = λ z. ArePasses tech plan masters (moved_by masters before z) a in
    ap (λ (z : Step). z ∷ a) step
    ∙ ap (λ (zs : List Step). t ∷ zs)
    (passes_determined tech plan masters (moved_by masters before t) a b (subst P step pa.2) pb.2 later)

-- ---- the greatest values

pub one_most : (tech : Tech) (plan : Plan) (masters : List Master) (before : List Coords)
    → HasOneMost tech plan masters before
one_most tech plan masters before step a b one other =
    ext_get_or (pos 0) a b (one.one_each ∙ sym other.one_each) (λ v lt.
    let few = one.one_each in
    let below = other.most.above (value_of a) one.most.is_held v (omega arith) in
    let above = one.most.above (value_of b) other.most.is_held v (omega arith) in
    omega (arith, ints, below, above))
