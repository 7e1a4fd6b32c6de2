-- What holds of the design that is made from a number, and of its masters.
use Rattle.std.proofs.Common.{◌≡◌, ℕ, ◌+◌, ◌^◌, ◌<◌, ◌≤◌, ℤ, pos, ◌+ℤ◌, ◌≤ℤ◌, List, [], ◌∷◌, length, inl, inr, refl}
use Rattle.std.proofs.{Common.{sym, ap, ◌∙◌, subst, arith}, lemmas.{Int.ints, List.length-map}}
use Rattle.std.specs.Prelude.{IsOk, All, codes, ◌-ℤ◌, ◌*ℤ◌, ◌<ℤ◌}
use Rattle.lam_geom.specs.declared.boxes.Axis.{Axis, TheVariants.{X, Y}}
use Rattle.lam_io.specs.Io.{Bytes}
use Rattle.rule_table.specs.{declared.{technology.Tech.Tech, keys.Numbers.Numbers}, Technology.widest_of}
use Rattle.cons_graph.specs.{declared.edges.Edge.Edge, Solutions.value_of}
use Rattle.design_gen.specs.Made.{made}
use Rattle.design_sizes.specs.Sizes.{names_in}
use Rattle.stick_text.specs.declared.{design.Design.Design, fault.StickFault.StickFault}
use Rattle.checked_cells.specs.{CheckedCell.{CheckedCell, cell_of, known_at}, Grids.resolved_cells}
use Rattle.expand.specs.declared.master.Master.{Master}
use Rattle.plan_model.specs.{declared.plan.Plan.Plan, Instances.{whole_width, whole_height}, Plan.AreOfMasters}
use Rattle.plan_model.specs.Plan.{grids_of}
use Rattle.grid_plan.specs.Numbered.{cell_named, master_of, masters_in, planned_rows}
use Rattle.sym_items.specs.{declared.items.Coords.Coords, Layouts.{layout_at, size_in}, Transposed.values_along}
use Rattle.pair_rules.specs.Laws.{moved}
use Rattle.pitch_join.specs.Joined.{far_of, system_variables, pruned_system}
use Rattle.pitch_join.specs.Masters.{ArePlanned, master_ports, ports_of_masters}
use Rattle.pass_run.specs.{declared.step.Step.Step, Layouts.{local_values, moved_by, starts_of, with_values}}
use Rattle.pass_run.specs.{Passes.axes_of, Theorems.{AreSound, HasCriticalPath}}
use Rattle.pass_run.proofs.{Values.{layout_with, local_at}, SlackBounds.size_under}
use Rattle.net_model.specs.declared.netlist.Netlist.{Netlist}
use Rattle.instance_laws.specs.Sticks.{IsSticksNetlist}
use Rattle.command_files.specs.declared.{status.{Status.Status, What.TheVariants.Extent}, refusal.Refusal.Refusal}
use Rattle.command_files.specs.{Refusals.Refused, Refusal.message_text}
use Rattle.design_layouts.specs.Designs.{ArePassesOn, ArePlaced, HasBothAxes, RefusesDesign, RefusesMasters}
use Rattle.design_layouts.{specs.{Designs.last_layouts, Plans.RefusesPlan}, proofs.Stopping.{no_design, no_masks}}
use Rattle.bench_command.specs.Bench.{IsBenched, IsLaidLine, IsShipped, RefusesBench, bench_line, tally_of, x_then_y}
use Rattle.extents.specs.Extents.{IsPast, most_extent, height_of_all, unit_of, width_of_all}
use Rattle.design_masters.specs.Plans.{AreMastersOf}
use Rattle.command_files.specs.declared.status.Status.TheVariants as statuses

-- ---- the design

-- its grid names its one cell, once
pub few_names : (n : ℕ) → names_in (made n) ≤ 2 ^ 19
unfolding made
few_names n = omega arith

one_chosen : (n : ℕ) (cells : List CheckedCell) → length (masters_in cells (made n).grids) ≡ 1
unfolding made
one_chosen n cells = refl

pub one_master : (tech : Tech) (n : ℕ) (plan : Plan) (masters : List Master) → AreMastersOf tech (made n) plan masters
    → length masters ≡ 1
one_master tech n plan masters are =
    let cells = ap (λ zs. length zs) are.made.are in
    let chosen = ap (λ (ks : List ℕ). length ks) are.planned.planned.masters in
    omega (
      arith,
      cells,
      chosen,
      one_chosen n are.cells,
      length-map masters (λ (m : Master). m.cell),
      length-map
          plan.masters (λ k. cell_of (known_at are.cells k)),
    )

-- ---- its masters, laid out

pub both_axes : HasBothAxes x_then_y
both_axes X = (0, omega arith, refl)
both_axes Y = (1, omega arith, refl)

pub laid_by : (n : ℕ) (tech : Tech) (plan : Plan) (masters : List Master) (steps : List Step) (layouts : List Coords)
    (list : Netlist) (output : Bytes)
    → ArePlaced tech plan masters x_then_y steps → layouts ≡ last_layouts tech masters steps
    → IsSticksNetlist tech plan masters layouts list
    → output ≡ bench_line n (tally_of masters steps layouts list) → IsLaidLine n tech plan masters output
laid_by n tech plan masters steps layouts list output placed last netlist written =
    let N : List Coords → Type 0 = λ cs. IsSticksNetlist tech plan masters cs list in
    let W : List Coords → Type 0 = λ cs. output ≡ bench_line n (tally_of masters steps cs list) in
    record {
      steps = steps;
      laid_out = placed;
      list = list;
      is_netlist = subst N last netlist;
      written = subst W last written;
    }

pub benched : (tech : Tech) (n : ℕ) (design : Design) (plan : Plan) (masters read : List Master) (output : Bytes)
    → design ≡ made n → IsShipped tech
    → AreMastersOf tech design plan masters → read ≡ masters → IsLaidLine n tech plan read output → IsBenched n output
benched tech n design plan masters read output is shipped of_design same line =
    let are : AreMastersOf tech (made n) plan masters =
    subst (λ (d : Design). AreMastersOf tech d plan masters) is of_design in
    let L : List Master → Type 0 = λ ms. IsLaidLine n tech plan ms output in
    record {
      technology = tech;
      shipped = shipped;
      plan = plan;
      masters = masters;
      are_masters = are;
      alone = one_master tech n plan masters are;
      line = subst L same line;
    }

-- ---- the extent

-- each inequality that a pass lists is short, whatever the layouts, and such a pass has few variables
pub record AreSmall (tech : Tech) (plan : Plan) (masters : List Master) : Type 0 where
  pub short : (axis : Axis) (layouts : List Coords)
      → All (λ (e : Edge). e.len ≤ℤ pos 32) (pruned_system axis tech plan masters layouts)
  pub few : (axis : Axis) → system_variables axis masters ≤ 2 ^ 13 + 2

along_moved : (axis : Axis) (c : Coords) (values : List ℤ) → values_along axis (moved axis c values) ≡ values
along_moved X c values = refl
along_moved Y c values = refl

-- a pass moves the far border of a master on its own axis
size_moved : (axis : Axis) (masters : List Master) (before : List Coords) (x : List ℤ) (m : ℕ) → m < length masters
    → size_in axis (with_values axis masters before x) m ≡ value_of x (far_of axis masters m)
size_moved axis masters before x m lt =
    ap (λ (c : Coords). value_of (values_along axis c) 1) (layout_with axis masters before x m lt)
    ∙ (ap (λ (values : List ℤ). value_of values 1)
    (along_moved axis (layout_at before m) (local_values axis masters m x))
    ∙ local_at axis masters m 1 x (omega arith))

-- and a pass on y leaves the widths
width_stays : (masters : List Master) (before : List Coords) (x : List ℤ) (m : ℕ) → m < length masters
    → size_in X (with_values Y masters before x) m ≡ size_in X before m
width_stays masters before x m lt =
    ap (λ (c : Coords). value_of (values_along X c) 1) (layout_with Y masters before x m lt)

-- what a pass comes to is not far
size_small : (tech : Tech) (plan : Plan) (masters : List Master) (before : List Coords) (step : Step) (m : ℕ)
    → ArePlanned tech plan masters → AreSmall tech plan masters
    → HasCriticalPath tech plan masters before step m → m < length masters
    → size_in step.axis (moved_by masters before step) m ≤ℤ pos (2 ^ 19)
size_small tech plan masters before step m planned small path lt =
    let at = size_under 32 tech plan masters before step m planned path (small.short step.axis before) in
    let walk = at.1 in
    let long = at.2 in
    let few = small.few step.axis in
    let size = size_moved step.axis masters before step.x m lt in
    omega (arith, ints, walk, long, few, size)

-- a pass on x and one on y leave every master small
both_small : (tech : Tech) (plan : Plan) (masters : List Master) (steps : List Step) → axes_of steps ≡ x_then_y
    → ArePlanned tech plan masters → AreSmall tech plan masters
    → AreSound tech plan masters [] (starts_of tech masters) steps → (m : ℕ) → m < length masters
    → (size_in X (last_layouts tech masters steps) m ≤ℤ pos (2 ^ 19))
    × (size_in Y (last_layouts tech masters steps) m ≤ℤ pos (2 ^ 19))
both_small tech plan masters [] on planned small sound m lt = cc
both_small tech plan masters (a ∷ []) on planned small sound m lt = cc
both_small tech plan masters (a ∷ b ∷ []) on planned small sound m lt =
    let starts : List Coords = starts_of tech masters in
    let middle : List Coords = moved_by masters starts a in
    let x : a.axis ≡ X = cc in
    let y : b.axis ≡ Y = cc in
    let wide = size_small tech plan masters starts a m planned small (sound.0.paths m lt) lt in
    let high = size_small tech plan masters middle b m planned small (sound.1.0.paths m lt) lt in
    let W : Axis → Type 0 = λ axis. size_in axis middle m ≤ℤ pos (2 ^ 19) in
    let H : Axis → Type 0 = λ axis. size_in axis (with_values axis masters middle b.x) m ≤ℤ pos (2 ^ 19) in
    let S : Axis → Type 0 = λ axis. size_in X (with_values axis masters middle b.x) m ≡ size_in X middle m in
    let L : Axis → Type 0 = λ axis. size_in Y (with_values axis masters middle b.x) m ≤ℤ pos (2 ^ 19) in
    let stays : size_in X (moved_by masters middle b) m ≡ size_in X middle m =
    subst S (sym y) (width_stays masters middle b.x m lt) in
    let small_x : size_in X middle m ≤ℤ pos (2 ^ 19) = subst W x wide in
    (omega (arith, ints, stays, small_x), subst L (sym y) (subst H y high))
both_small tech plan masters (a ∷ b ∷ c ∷ steps) on planned small sound m lt = cc

-- the one grid has one cell
one_cell : (n : ℕ) (cells : List CheckedCell)
    → planned_rows cells (made n).grids
    ≡ (((master_of (masters_in cells (made n).grids) (cell_named cells (codes "bench"))) ∷ []) ∷ []) ∷ []
unfolding made
one_cell n cells = refl

one_width : (width : ℕ → ℤ) (widest : ℤ) (m : ℕ) → whole_width width widest (((m ∷ []) ∷ []) ∷ []) ≡ width m
one_width width widest m = let sum : whole_width width widest (((m ∷ []) ∷ []) ∷ [])
    ≡ ((((width m +ℤ pos 0) +ℤ widest) +ℤ pos 0) -ℤ widest) = refl in omega (arith, ints, sum)

one_height : (height : ℕ → ℤ) (m : ℕ) (most : ℤ) → pos 0 ≤ℤ most → height m ≤ℤ most
    → whole_height height (((m ∷ []) ∷ []) ∷ []) ≤ℤ most
one_height height m most some at = grind (arith, ints)

-- So the design is within the extent.
within_extent : (tech : Tech) (n : ℕ) (plan : Plan) (masters : List Master) → IsShipped tech
    → AreMastersOf tech (made n) plan masters → ArePlanned tech plan masters → AreSmall tech plan masters
    → length masters ≡ 1 → (steps : List Step) → ArePassesOn tech plan masters x_then_y steps
    → IsPast tech plan (last_layouts tech masters steps) → ⊥
within_extent tech n plan masters shipped are planned small alone steps made_so far =
    let layouts : List Coords = last_layouts tech masters steps in
    let m : ℕ = master_of (masters_in are.cells (made n).grids) (cell_named are.cells (codes "bench")) in
    let rows : grids_of plan ≡ ((m ∷ []) ∷ []) ∷ [] = are.planned.planned.rows ∙ one_cell n are.cells in
    let of_masters : All (AreOfMasters (length (ports_of_masters masters))) (((m ∷ []) ∷ []) ∷ []) =
    subst (λ gs. All (AreOfMasters (length (ports_of_masters masters))) gs) rows planned.planned.of_masters in
    let below : m < length (ports_of_masters masters) =
    of_masters 0 [] (omega arith) 0 [] (omega arith) 0 0 (omega arith) in
    let count : length (ports_of_masters masters) ≡ length masters = length-map masters master_ports in
    let lt : m < length masters = omega (arith, below, count) in
    let sizes = both_small tech plan masters steps made_so.on_axes planned small made_so.sound m lt in
    let wide : width_of_all tech plan layouts ≤ℤ pos (2 ^ 19) =
    subst (λ gs. whole_width (size_in X layouts) (widest_of tech) gs ≤ℤ pos (2 ^ 19)) (sym rows)
    (subst (λ z. z ≤ℤ pos (2 ^ 19)) (sym (one_width (size_in X layouts) (widest_of tech) m)) sizes.0) in
    let high : height_of_all plan layouts ≤ℤ pos (2 ^ 19) =
    subst (λ gs. whole_height (size_in Y layouts) gs ≤ℤ pos (2 ^ 19)) (sym rows)
    (one_height (size_in Y layouts) m (pos (2 ^ 19)) (omega (arith, ints)) sizes.1) in
    let unit : unit_of tech ≡ pos 150 = ap (λ (it : Numbers). it.unit) shipped in
    elim far [
      | inl past ↦ not_past (unit_of tech) (width_of_all tech plan layouts) unit wide past
      | inr past ↦ not_past (unit_of tech) (height_of_all plan layouts) unit high past
    ]
  where
    not_past : (unit size : ℤ) → unit ≡ pos 150 → size ≤ℤ pos (2 ^ 19) → most_extent <ℤ (size *ℤ unit) → ⊥
    not_past unit size is small past = let P : ℤ → Type 0 =
        λ u. most_extent <ℤ (size *ℤ u) in let h : most_extent <ℤ (size *ℤ pos 150) =
        subst P is past in omega (arith, ints, small, h)

-- ---- refusals

not_faulty : (tech : Tech) (n : ℕ) (fault : StickFault) (message : Bytes) → IsOk (resolved_cells tech (made n))
    → RefusesDesign tech x_then_y (made n) (statuses.BadSticks fault) message → ⊥
not_faulty tech n fault message checked (inl none) = cc
not_faulty tech n fault message checked (inr (inl cause)) = let is = cause.1.0 in cc
not_faulty tech n fault message checked (inr (inr (plan, has, inl cause))) = cause.1
not_faulty tech n fault message checked (inr (inr (plan, has, inr (masters, are, inl cause)))) = cause.1
not_faulty tech n fault message checked (inr (inr (plan, has, inr (masters, are, inr (u, clean, inl cause))))) = cause.1
not_faulty tech n fault message checked
    (inr (inr (plan, has, inr (masters, are, inr (u, clean, inr (steps, on, inl cause)))))) = cause.1
not_faulty tech n fault message checked
    (inr (inr (plan, has, inr (masters, are, inr (u, clean, inr (steps, on, inr (v, placed, none))))))) = none

bench_refused : (tech : Tech) (n : ℕ) (status : Status) (message : Bytes) → IsShipped tech
    → IsOk (resolved_cells tech (made n)) → (status ≡ statuses.TooLarge Extent → ⊥)
    → RefusesDesign tech x_then_y (made n) status message → RefusesBench n status message
bench_refused tech n statuses.OutOfMemory message shipped checked within why = tt
bench_refused tech n (statuses.BadSticks fault) message shipped checked within why =
    not_faulty tech n fault message checked why
bench_refused tech n (statuses.TooLarge Extent) message shipped checked within why = within refl
bench_refused tech n other message shipped checked within why =
    record { technology = tech; shipped = shipped; why = why }

-- a step that refuses the design refuses the command, where it is not for the extent
step_refused : (tech : Tech) (n : ℕ) (design : Design) (r : Refusal) → design ≡ made n → IsShipped tech
    → IsOk (resolved_cells tech (made n)) → (r.status ≡ statuses.TooLarge Extent → ⊥)
    → RefusesDesign tech x_then_y design r.status (message_text r.line) → Refused (RefusesBench n) r
step_refused tech n design r is shipped checked within why =
    bench_refused tech n r.status (message_text r.line) shipped checked within
    (subst (λ (d : Design). RefusesDesign tech x_then_y d r.status (message_text r.line)) is why)

-- what has no masters is not refused for the extent
plan_within : (tech : Tech) (design : Design) (message : Bytes)
    → RefusesPlan tech design (statuses.TooLarge Extent) message → ⊥
plan_within tech design message (inl none) = cc
plan_within tech design message (inr (inl cause)) = cause.1
plan_within tech design message (inr (inr (plan, has, inl cause))) = cause.1
plan_within tech design message (inr (inr (plan, has, inr (masters, are, none)))) = none

pub plan_refused : (tech : Tech) (n : ℕ) (design : Design) (r : Refusal) → design ≡ made n → IsShipped tech
    → IsOk (resolved_cells tech (made n)) → Refused (RefusesPlan tech design) r → Refused (RefusesBench n) r
plan_refused tech n design r is shipped checked why =
    let P : Status → Type 0 = λ s. RefusesPlan tech design s (message_text r.line) in
    step_refused tech n design r is shipped checked
    (λ large. plan_within tech design (message_text r.line) (subst P large why))
    (no_design tech x_then_y design r.status (message_text r.line) why)

-- and what is laid out is not, where its inequalities are short and few
masters_within : (tech : Tech) (n : ℕ) (plan : Plan) (masters : List Master) (message : Bytes) → IsShipped tech
    → AreMastersOf tech (made n) plan masters → ArePlanned tech plan masters
    → AreSmall tech plan masters → RefusesMasters tech plan masters x_then_y (statuses.TooLarge Extent) message → ⊥
masters_within tech n plan masters message shipped are planned small (inl none) = cc
masters_within tech n plan masters message shipped are planned small (inr (inl cause)) = cause.1
masters_within tech n plan masters message shipped are planned small (inr (inr (u, clean, inl cause))) = cause.1
masters_within tech n plan masters message shipped are planned small
    (inr (inr (u, clean, inr (steps, on, inl cause)))) =
    within_extent tech n plan masters shipped are planned small (one_master tech n plan masters are) steps on cause.1
masters_within tech n plan masters message shipped are planned small
    (inr (inr (u, clean, inr (steps, on, inr (v, placed, none))))) = none

pub masters_refused : (tech : Tech) (n : ℕ) (design : Design) (plan : Plan) (masters : List Master) (r : Refusal)
    → design ≡ made n → IsShipped tech → IsOk (resolved_cells tech (made n))
    → AreMastersOf tech design plan masters → ArePlanned tech plan masters → AreSmall tech plan masters
    → Refused (RefusesMasters tech plan masters x_then_y) r → Refused (RefusesBench n) r
masters_refused tech n design plan masters r is shipped checked of_design planned small why =
    let P : Status → Type 0 = λ s. RefusesMasters tech plan masters x_then_y s (message_text r.line) in
    let are : AreMastersOf tech (made n) plan masters =
    subst (λ (d : Design). AreMastersOf tech d plan masters) is of_design in
    step_refused tech n design r is shipped checked
    (λ large. masters_within tech n plan masters (message_text r.line) shipped are planned small
    (subst P large why))
    (no_masks tech x_then_y design r.status (message_text r.line) plan masters of_design why)
