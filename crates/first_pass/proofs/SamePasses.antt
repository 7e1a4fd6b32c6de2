-- The first pass of masters that differ from those of a first pass in their limits alone.
use Rattle.std.proofs.Common.{◌≡◌, ℕ, ◌≤◌, ℤ, List, [], ◌∷◌, ◌++◌, length, take, refl, sym, ap, ◌∙◌, subst, arith, All}
use Rattle.std.proofs.{Common.◌^◌, lemmas.List.Elements.{All-map, All-weaker}, Math.Seq.take-length}
use Rattle.lam_geom.specs.declared.boxes.Axis.{Axis}
use Rattle.rule_table.specs.declared.technology.Tech.{Tech}
use Rattle.cons_graph.specs.{declared.edges.Edge.Edge, Constraints.{Constraints, IsEdgeAmong}}
use Rattle.cons_graph.specs.Solutions.{IsLeastSolution, Meets, value_of}
use Rattle.round_log.proofs.Least.{positive_cycle_excludes}
use Rattle.sym_items.specs.declared.items.Coords.{Coords}
use Rattle.expand.specs.declared.master.Master.{Master}
use Rattle.pair_rules.specs.Clean.{IsClean}
use Rattle.plan_model.specs.declared.plan.Plan.{Plan}
use Rattle.pitch_join.specs.{Masters.ArePlanned, Joined.{bases_of, system_variables, pruned_system, full_system}}
use Rattle.pitch_join.proofs.{Bases.planned_joined, Lists.of_images}
use Rattle.pass_run.specs.{Alike.{HaveSameSolutions, most_edges}, Laid.{AreLaidOut, StartsClean}}
use Rattle.pass_run.specs.{Layouts.{start_of_master, starts_of, with_values}, Least.{AreLeastValues, LeadTo}}
use Rattle.pass_run.specs.{Least.StaySettled, Pruning.PruningLosesNothing}
use Rattle.pass_run.proofs.{Going.starts_laid, Settled.boxes_of, Pruning.least_alike}
use Rattle.first_pass.specs.{declared.first.FirstPass.FirstPass, Bare.{bare, bare_of, AskAlike}, First.AreMore}
use Rattle.first_pass.{specs.{First.IsFirstPass, Following.listed_with, Limits.system_limits}, proofs.Cells.start_kept}
use Rattle.first_pass.proofs.Masters.{bases_kept, system_kept, limits_among, list_counted, list_split, planned_kept}

-- ---- start layouts

starts_kept : (tech : Tech) (masters : List Master) → starts_of tech (bare_of masters) ≡ starts_of tech masters
starts_kept tech [] = refl
starts_kept tech (m ∷ ms) =
    ap (λ (c : Coords). c ∷ starts_of tech (bare_of ms)) (start_kept tech m.cell)
    ∙ ap (λ (cs : List Coords). start_of_master tech m ∷ cs) (starts_kept tech ms)

clean_kept : (tech : Tech) (masters : List Master) → All (StartsClean tech) masters
    → All (StartsClean tech) (bare_of masters)
clean_kept tech masters clean =
    let B : Master → Type 0 = λ m. StartsClean tech (bare m) in
    All-map (StartsClean tech) bare masters
    (All-weaker (StartsClean tech) B
    (λ m h. subst (λ (c : Coords). IsClean tech c m.items.list) (sym (start_kept tech m.cell)) h) masters clean)

clean_before : (tech : Tech) (masters : List Master) → All (StartsClean tech) (bare_of masters)
    → All (StartsClean tech) masters
clean_before tech masters clean =
    let B : Master → Type 0 = λ m. StartsClean tech (bare m) in
    All-weaker B (StartsClean tech)
    (λ m h. subst (λ (c : Coords). IsClean tech c m.items.list) (start_kept tech m.cell) h) masters
    ((of_images (StartsClean tech) bare masters).0 clean)

bare_twice : (masters : List Master) → bare_of (bare_of masters) ≡ bare_of masters
bare_twice [] = refl
bare_twice (m ∷ ms) = ap (λ (xs : List Master). bare m ∷ xs) (bare_twice ms)

-- the list, and that without limits with those of the limits, have the same solutions
split_alike : (axis : Axis) (tech : Tech) (plan p : Plan) (masters : List Master) (layouts : List Coords)
    → AskAlike axis plan p
    → HaveSameSolutions (pruned_system axis tech p (bare_of masters) layouts ++ system_limits axis masters)
    (pruned_system axis tech plan masters layouts)
split_alike axis tech plan p masters layouts ask y =
    let split = list_split (Meets y) axis tech plan p masters layouts ask in (
      λ s. record { origin = s.origin; meets = split.1 s.meets },
      λ s.
          record { origin = s.origin; meets = split.0 s.meets },
    )

-- ---- a new first pass

-- masters without their limits are planned, and their start layouts are clean, and may have a pass
pub record AreBared (tech : Tech) (plan : Plan) (bared : List Master) : Type 0 where
  pub planned : ArePlanned tech plan bared
  pub are_bare : bare_of bared ≡ bared
  pub clean : All (StartsClean tech) bared

pub are_bared : {tech : Tech} {plan : Plan} (masters bared : List Master) → bared ≡ bare_of masters
    → ArePlanned tech plan masters → All (StartsClean tech) masters → AreBared tech plan bared
are_bared {tech} {plan} masters bared is planned clean =
    subst (λ (ms : List Master). AreBared tech plan ms) (sym is) (record {
      planned = planned_kept tech plan masters planned;
      are_bare = bare_twice masters;
      clean = clean_kept tech masters clean;
    })

-- their start layouts are those of the masters with limits
pub bared_starts : (tech : Tech) (masters bared : List Master) (starts : List Coords) → bared ≡ bare_of masters
    → starts ≡ starts_of tech masters → starts ≡ starts_of tech bared
bared_starts tech masters bared starts is start =
    start ∙ (sym (starts_kept tech masters) ∙ ap (starts_of tech) (sym is))

pub bared_laid : {tech : Tech} {plan : Plan} {bared : List Master} (starts : List Coords) → AreBared tech plan bared
    → starts ≡ starts_of tech bared → AreLaidOut tech bared starts
bared_laid {tech} {plan} {bared} starts are is = rw is (starts_laid tech bared are.planned.each are.clean)

-- ---- masters with limits

module _ {tech : Tech} {plan : Plan} {masters : List Master} {first : FirstPass}
    (more : AreMore tech plan masters first) where
  abbrev axis : Axis
  axis = first.axis

  abbrev start : List Coords
  start = starts_of tech masters

  -- the joint variables are few
  pub few_joint : system_variables axis masters ≤ 2 ^ 17
  few_joint = (planned_joined tech plan masters more.planned).few axis

  pub clean_of : All (StartsClean tech) masters
  clean_of = clean_before tech masters (rw more.bared more.is_first.clean)

  pub starts_are : first.starts.items ≡ start
  starts_are = more.is_first.starts ∙ (ap (starts_of tech) (sym more.bared) ∙ starts_kept tech masters)

  pub bases_are : first.base ≡ bases_of axis masters
  bases_are = more.is_first.bases ∙ (ap (bases_of axis) (sym more.bared) ∙ bases_kept axis masters)

  vars_are : first.session.vars ≡ system_variables axis masters
  vars_are = more.is_first.vars ∙ (ap (system_variables axis) (sym more.bared) ∙ system_kept axis masters)

  pub laid_of : AreLaidOut tech masters first.starts.items
  laid_of = rw starts_are (starts_laid tech masters more.planned.each clean_of)

  -- the limits are among the variables of the session
  pub limits_fit : (limits : List Edge) → limits ≡ system_limits axis masters
      → All (IsEdgeAmong first.session.vars) limits
  limits_fit limits is = rw (vars_are, is) (limits_among axis tech plan masters more.planned)

  -- Values that are shown to be least for the session's first inequalities and the limits are the least of the pass.
  pub least_values : (limits : List Edge) (x : List ℤ) → limits ≡ system_limits axis masters
      → PruningLosesNothing tech plan masters
      → IsLeastSolution first.session.vars (listed_with first.listed first.session.edges limits) (value_of x)
      → length x ≡ first.session.vars → length (listed_with first.listed first.session.edges limits) ≤ most_edges
      → AreLeastValues tech plan masters first.starts.items axis x
  least_values limits x is pruning least counted few =
      let before : List Coords = first.starts.items in
      let both : List Edge = pruned_system axis tech first.plan (bare_of masters) before
      ++ system_limits axis masters in
      let listed : List Edge = pruned_system axis tech plan masters before in
      let system : List Edge = full_system axis tech plan masters before in
      let vars : ℕ = system_variables axis masters in
      let prefix = more.is_first.begins ∙ ap (λ (ms : List Master). pruned_system axis tech first.plan ms before)
      (sym more.bared) in
      let are : listed_with first.listed first.session.edges limits ≡ both =
      ap (λ (es : List Edge). es ++ limits) prefix ∙ ap (λ (es : List Edge). pruned_system axis tech first.plan
      (bare_of masters) before ++ es) is in
      let L : List Edge → Type 0 = λ es. IsLeastSolution first.session.vars es (value_of x) in
      let of_both : IsLeastSolution vars both (value_of x) = rw vars_are at (subst L are least) in
      let of_list = least_alike vars both listed (value_of x)
      (split_alike axis tech plan first.plan masters before more.ask) of_both in
      let same = pruning.same_solutions axis before (boxes_of tech masters before laid_of) in
      let of_system = least_alike vars listed system (value_of x) same of_list in
      let n : length (listed_with first.listed first.session.edges limits) ≡ length both = ap
      (λ (es : List Edge). length es) are in
      let counts = list_counted axis tech plan first.plan masters before more.ask in
      record {
        solvable = record {
          few = omega arith;
          acyclic = λ cycle. positive_cycle_excludes system cycle.0 (value_of x) cycle.1 of_system.solves;
        };
        one_each = counted ∙ vars_are;
        least = of_system;
      }

  -- the layouts after it
  pub leads : (x : List ℤ) (layouts : List Coords) → AreLeastValues tech plan masters first.starts.items axis x
      → layouts ≡ with_values axis masters first.starts.items x → LeadTo tech plan masters (axis ∷ []) start layouts
  leads x layouts least is =
      subst (λ (ls : List Coords). LeadTo tech plan masters (axis ∷ []) ls layouts) starts_are (x, least, is)

  pub settles : (layouts : List Coords) → StaySettled tech plan masters first.starts.items axis layouts
      → StaySettled tech plan masters start axis layouts
  settles layouts stay = subst (λ (ls : List Coords). StaySettled tech plan masters ls axis layouts) starts_are stay

-- ---- the first pass that is kept

pub first_made : (tech : Tech) (first : FirstPass) (graph : Constraints)
    → AreBared tech first.plan first.masters.items → first.starts.items ≡ starts_of tech first.masters.items
    → first.base ≡ bases_of first.axis first.masters.items → first.session ≡ graph
    → graph.vars ≡ system_variables first.axis first.masters.items
    → graph.edges ≡ pruned_system first.axis tech first.plan first.masters.items first.starts.items
    → first.listed ≡ length graph.edges → IsFirstPass tech first
first_made tech first graph are starts bases same vars edges listed =
    let n : length first.session.edges ≡ length graph.edges = ap (λ (z : Constraints). length z.edges) same in
    record {
      planned = are.planned;
      are_bare = are.are_bare;
      clean = are.clean;
      starts = starts;
      bases = bases;
      vars = ap (λ (z : Constraints). z.vars) same ∙ vars;
      within = omega arith;
      begins = ap (λ k. take k first.session.edges) (listed ∙ sym n)
          ∙ (take-length first.session.edges ∙ (ap (λ (z : Constraints). z.edges) same ∙ edges));
    }
