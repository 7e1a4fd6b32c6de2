-- How masters are laid out, or refused.
use Rattle.std.proofs.Common.{◌≡◌, ℕ, ◌*◌, ℤ, pos, negsuc, List, get_or, take, inl, inr, refl, sym, subst, arith, ◌<◌}
use Rattle.std.proofs.{Common.{◌≤◌, length}, Math.{IntN.pos-*ℤ-pos, Nat.le-mul_of_pos_right}, lemmas.Bool.cases_lt}
use Rattle.std.proofs.lemmas.{Int.ints, List.{get_or_default, get_or_past, Elements.All-get_or}}
use Rattle.std.specs.Prelude.{All, Contains, Option, ◌≤ℤ◌, ◌*ℤ◌, ◌^◌}
use Rattle.lam_geom.specs.declared.boxes.Axis.{Axis, TheVariants.{X, Y}}
use Rattle.lam_io.specs.Io.{Bytes}
use Rattle.rule_table.{specs.{declared.technology.Tech.Tech, Technology.numbers_of}, proofs.Sound.sound}
use Rattle.sym_items.specs.{declared.items.Coords.Coords, Boxes.HasBox, Layouts.{layout_at, no_layout, size_in}}
use Rattle.sym_items.specs.{Transposed.values_along, Values.value_of}
use Rattle.expand.specs.declared.master.Master.{Master}
use Rattle.pair_rules.specs.Bound.{item_at}
use Rattle.coarse_grid.specs.{Start.start_of, Clash.IsFirstClash, Laws.NearShareAPoint}
use Rattle.plan_model.specs.declared.plan.Plan.{Plan}
use Rattle.pitch_join.specs.{Layouts.LayoutsMeet, Masters.{master_at, no_master, ArePlanned}}
use Rattle.instance_laws.specs.{Planned.AreOfPlan, Rules.AreFinished}
use Rattle.mask_out.specs.Pictures.{HaveBoxes}
use Rattle.pass_run.specs.{Clashes.{IsStartClash, AreStartClashes}, Laid.{AreLaidOut, StartsClean}}
use Rattle.pass_run.specs.{Theorems.AreWellPlaced, declared.{step.Step.Step, passes.PassFault.PassFault}}
use Rattle.pass_run.specs.PassFaults.{RefusesPasses}
use Rattle.pass_run.specs.declared.passes.PassFault.TheVariants as stop
use Rattle.command_files.specs.{declared.status.{What.TheVariants.Extent, Status.Status}, Refusals.{Refused, plain}}
use Rattle.command_files.specs.StepLists.{ends, Stops}
use Rattle.design_layouts.specs.Designs.{refusal_of, ArePassesOn, HasBothAxes, HasClash, IsFirstUnclean, RefusesStart}
use Rattle.design_layouts.specs.Designs.{RefusesMasters, clean_starts, last_layouts}
use Rattle.fault_lines.specs.Clash.{clash_text}
use Rattle.extents.specs.Extents.{AreSizes, IsPast, IsWithinExtent}
use Rattle.command_files.specs.declared.status.Status.TheVariants as statuses

pub clash_of : (tech : Tech) (master : Master) (layout : Coords) (a b : ℕ) (line : Bytes)
    → NearShareAPoint tech master → layout ≡ start_of tech master.cell
    → IsFirstClash tech layout master.items.list a b
    → line ≡ clash_text master.cell (item_at master.items.list a).owner (item_at master.items.list b).owner
    → HasClash tech master a b line
clash_of tech master layout a b line points is first says =
    let P : Coords → Type 0 = λ c. IsFirstClash tech c master.items.list a b in
    let f : IsFirstClash tech (start_of tech master.cell) master.items.list a b = subst P is first in
    let among : a < length master.items.list = omega (arith, f.ordered, f.among) in
    record { first = f; near = points a b among f.among f.near; says = says }

-- what the code has of master m, where it reads its clash
pub own_clash : (tech : Tech) (masters : List Master) (m : ℕ) (master : Master) (clashes : List (Option (ℕ × ℕ)))
    (clash : Option (ℕ × ℕ)) → m < length masters → master ≡ master_at masters m
    → AreStartClashes tech masters clashes → clash ≡ get_or clashes m clash → IsStartClash tech master clash
own_clash tech masters m master clashes clash lt is are at =
    let C : Option (ℕ × ℕ) → Type 0 = λ k. IsStartClash tech (master_at masters m) k in
    rw is (subst C (sym at) (are.each m clash lt))

-- the first start layout that is refused refuses the masters
pub start_refused : (tech : Tech) (masters : List Master) (number : ℕ) (master : Master) (status : Status)
    (message : Bytes)
    → number < length masters → master ≡ master_at masters number → All (StartsClean tech) (take number masters)
    → RefusesStart tech master number status message → Stops (clean_starts tech masters ends) status message
start_refused tech masters number master statuses.OutOfMemory message among is before why = inl refl
start_refused tech masters number master (statuses.Clash cell a b) message among is before why =
    let C : Master → Type 0 = λ m. HasClash tech m a b message in
    let P : ℕ → Type 0 = λ k. IsFirstUnclean tech masters k a b message in
    inr (inl (tt, subst P (sym why.0) (record { among = among; before = before; clash = subst C is why.1 })))
start_refused tech masters number master other message among is before why = absurd why

pub stopped : (tech : Tech) (plan : Plan) (masters : List Master) (axes : List Axis) (fault : PassFault)
    → All (StartsClean tech) masters
    → RefusesPasses tech plan masters axes fault → Refused (RefusesMasters tech plan masters axes) (refusal_of fault)
stopped tech plan masters axes (stop.TooManyEdges pass) clean why = inr (inr (tt, clean, inl (tt, (pass, why))))
stopped tech plan masters axes (stop.Unsatisfiable pass report) clean why = inr (inr (tt, clean, inl (tt, why)))
stopped tech plan masters axes stop.OutOfMemory clean why = inl refl

pub too_large : (tech : Tech) (plan : Plan) (masters : List Master) (axes : List Axis) (steps : List Step)
    (layouts : List Coords)
    → ArePassesOn tech plan masters axes steps → layouts ≡ last_layouts tech masters steps → IsPast tech plan layouts
    → Refused (RefusesMasters tech plan masters axes) (plain (statuses.TooLarge Extent))
too_large tech plan masters axes steps layouts made is past =
    let P : List Coords → Type 0 = λ cs. IsPast tech plan cs in
    inr (inr (tt, made.clean, inr (steps, made, inl (tt, subst P is past))))

-- ---- what the passes leave

-- a value in a list of values at or above 0
above_at : (values : List ℤ) (v : ℕ) → All (λ z. pos 0 ≤ℤ z) values → pos 0 ≤ℤ get_or values v (pos 0)
above_at values v all = elim (cases_lt v (length values)) [
  | inl lt ↦ All-get_or (λ z. pos 0 ≤ℤ z) values v (pos 0) lt all
  | inr le ↦ subst (λ z. pos 0 ≤ℤ z) (sym (get_or_past values v (pos 0) le)) (omega (arith, ints))
]

-- no width or height of layouts that are these is below 0
pub sizes_above : (tech : Tech) (masters : List Master) (coords layouts : List Coords) → layouts ≡ coords
    → AreLaidOut tech masters coords → (axis : Axis) → AreSizes (size_in axis layouts)
sizes_above tech masters coords layouts is of_coords axis m =
    let L : List Coords → Type 0 = λ cs. AreLaidOut tech masters cs in
    let laid : AreLaidOut tech masters layouts = subst L (sym is) of_coords in
    elim (cases_lt m (length masters)) [
      | inl lt ↦ above_at (values_along axis (layout_at layouts m)) 1 ((laid.each m lt).of_master.values_above axis)
      | inr le ↦
          let past : length layouts ≤ m = let n = laid.counted in omega (arith, n, le) in
          subst (λ c. pos 0 ≤ℤ value_of (values_along axis c) 1) (sym (get_or_past layouts m no_layout past))
          (none_at axis)
    ]
  where
    none_at : (a : Axis) → pos 0 ≤ℤ value_of (values_along a no_layout) 1
    none_at X = omega (arith, ints)
    none_at Y = omega (arith, ints)

-- layouts that are these are finished
pub finished : (tech : Tech) (plan : Plan) (masters : List Master) (axes : List Axis) (coords layouts : List Coords)
    → layouts ≡ coords → HasBothAxes axes
    → AreWellPlaced tech masters coords axes
    → ((axis : Axis) → Contains axes axis → LayoutsMeet axis tech plan masters coords)
    → AreFinished tech plan masters layouts
finished tech plan masters axes coords layouts is both placed met =
    let F : List Coords → Type 0 = λ cs. AreFinished tech plan masters cs in
    let f : AreFinished tech plan masters coords =
    record { clean = λ m lt. (placed m lt).clean; meet = λ axis. met axis (both axis) } in
    subst F (sym is) f

pub boxed : (tech : Tech) (masters : List Master) (axes : List Axis) (layouts : List Coords)
    → AreWellPlaced tech masters layouts axes → HaveBoxes layouts masters
boxed tech masters axes layouts placed m d lt =
    subst (λ (master : Master). All (HasBox (layout_at layouts m)) master.items.list)
    (get_or_default masters m no_master d lt) ((placed m lt).boxes)

-- a length is no more than its product with a unit
under_product : (z u most : ℤ) → pos 1 ≤ℤ u → pos 0 ≤ℤ most → (z *ℤ u) ≤ℤ most → z ≤ℤ most
under_product (negsuc a) u most unit m le = omega (arith, ints, m)
under_product (pos a) (negsuc k) most unit m le = omega (arith, ints, unit)
under_product (pos a) (pos k) most unit m le =
    let product : pos a *ℤ pos k ≡ pos (a * k) = pos-*ℤ-pos a k in
    let some : 0 < k = omega (arith, ints, unit) in
    let more : a ≤ a * k = le-mul_of_pos_right a some in
    omega (arith, ints, product, more, le)

pub within_length : (tech : Tech) (z : ℤ) → IsWithinExtent tech z → z ≤ℤ pos (2 ^ 40)
within_length tech z within =
    let size = (sound _ tech.sound).unit in
    let short = under_product z (numbers_of tech).unit (pos (2 ^ 30)) (omega (arith, ints, size.low))
    (omega (arith, ints)) within in
    omega (arith, ints, short)

-- the masters of a plan, however many parts they have
pub of_plan : {tech : Tech} {plan : Plan} {masters : List Master} → ArePlanned tech plan masters
    → AreOfPlan tech plan masters
of_plan planned = record { each = planned.each; planned = planned.planned }
