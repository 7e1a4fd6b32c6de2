use Rattle.std.proofs.Common.{◌≡◌, ◌∙◌, ◌<◌, List, ℕ, None, IfErr, All, length, map, vec_len, ap, sym, subst, arith}
use Rattle.std.specs.List.{AllByRecursion}
use Rattle.stick_text.specs.{declared.design.{Design.Design, GridText.GridText}, Writable.IsGrid}
use Rattle.checked_cells.specs.Tables.{known_of}
use Rattle.plan_model.specs.Borders.{side_before}
use Rattle.lam_geom.specs.declared.boxes.Axis.TheVariants.{Y}
use Rattle.grid_plan.specs.{Faults.{plan_fault, RefusesPlan}, Numbered.numbers_in_grid}
use Rattle.grid_plan.proofs.{CellPorts.{few_known, side_count}, Judged.{passed, refused, small_numbers}}
use Rattle.grid_plan.proofs.{KnownNames.grids_known, MasterPlaces.firsts_of, Placing.few_distinct, PlanWhole.places_of}
use Rattle.grid_plan.proofs.PlanWhole.{masters_known, some_grids, grids_built, plan_built}
use Rattle.grid_plan.proofs.planning.plan.Goals as goal

pub of-requires : goal.of-requires
of-requires c =
    let cells = known_of c.args.cells.now in
    let texts = c.as_slice-texts.result.now in
    let none = passed (plan_fault cells texts) c.check_grids.result _ c.check_grids.ensures.judged
    c.in_ok-check_grids.was in
    let W : List (List (List ℕ)) → Type 0 = All (All (All (λ k. k < 256))) in
    subst W (sym (c.as_slice-2.ensures.value ∙ c.in_ok-numbers.ensures.numbers))
    (small_numbers (length cells) (map (numbers_in_grid cells) texts) (few_known c.args.cells.now c.requires.resolved)
    (grids_known cells texts none))

pub place_grids-requires : goal.place_grids-requires
place_grids-requires c =
    let cells = known_of c.args.cells.now in
    let texts = c.as_slice-texts.result.now in
    let none = passed (plan_fault cells texts) c.check_grids.result _ c.check_grids.ensures.judged
    c.in_ok-check_grids.was in
    let W : List (List (List ℕ)) → Type 0 = All (All (All (λ k. k < 256))) in
    subst W (sym (c.as_slice-3.ensures.value ∙ c.in_ok-numbers.ensures.numbers))
    (small_numbers (length cells) (map (numbers_in_grid cells) texts) (few_known c.args.cells.now c.requires.resolved)
    (grids_known cells texts none))

pub build-requires-clause-few : goal.build-requires-clause-few
build-requires-clause-few c =
    few_distinct c.in_ok-masters.masters.cells.items c.in_ok-masters.masters.apart c.in_ok-masters.masters.below

pub build-requires-clause-cells : goal.build-requires-clause-cells
build-requires-clause-cells c =
    let cells = known_of c.args.cells.now in
    let texts = c.as_slice-texts.result.now in
    let scan = c.check_grids.new.scan in
    let numbers = c.in_ok-numbers.numbers.items in
    let count = side_count cells (side_before Y) scan.beside.before.items c.check_grids.ensures.scan.beside.before in
    let many : length cells ≡ vec_len scan.beside.before = omega (arith, scan.beside.before.ok.0) in
    let none = passed (plan_fault cells texts) c.check_grids.result _ c.check_grids.ensures.judged
    c.in_ok-check_grids.was in
    let W : List (List (List ℕ)) → Type 0 = All (All (All (λ k. k < length cells))) in
    let within = subst W (sym c.in_ok-numbers.ensures.numbers) (grids_known cells texts none) in
    let made : c.in_ok-masters.masters.cells.items ≡ firsts_of numbers = c.in_ok-masters.ensures
    ∙ ap firsts_of c.as_slice-2.ensures.value in
    let P : List ℕ → Type 0 = All (λ k. k < vec_len scan.beside.before) in
    let Q : ℕ → Type 0 = λ n. All (λ k. k < n) (firsts_of numbers) in
    subst P (sym made) (subst Q many (masters_known (length cells) numbers within))

pub build-requires-clause-grids : goal.build-requires-clause-grids
build-requires-clause-grids c =
    let cells = known_of c.args.cells.now in
    let design = c.args.design.now in
    let texts = c.as_slice-texts.result.now in
    let numbers = c.in_ok-numbers.numbers.items in
    let masters = c.in_ok-masters.masters.cells.items in
    let D : Design → Type 0 = λ d. AllByRecursion IsGrid d.grids in
    let N : List GridText → Type 0 = λ grids. plan_fault cells grids ≡ None in
    let none = passed (plan_fault cells texts) c.check_grids.result _ c.check_grids.ensures.judged
    c.in_ok-check_grids.was in
    let W : List (List (List ℕ)) → Type 0 = All (All (All (λ k. k < length cells))) in
    let within = subst W (sym c.in_ok-numbers.ensures.numbers) (grids_known cells texts none) in
    let lent : numbers ≡ map (numbers_in_grid cells) design.grids = c.in_ok-numbers.ensures.numbers
    ∙ ap (map (numbers_in_grid cells)) c.as_slice-texts.ensures in
    let made : masters ≡ firsts_of numbers = c.in_ok-masters.ensures ∙ ap firsts_of c.as_slice-2.ensures.value in
    let placed : c.in_ok-grids.grids.items ≡ places_of masters numbers = c.in_ok-grids.ensures
    ∙ ap (places_of masters) c.as_slice-3.ensures.value in
    grids_built cells design.grids numbers c.in_ok-grids.grids.items masters
    (subst D c.requires.of c.requires.resolved.writable.grids) (subst N c.as_slice-texts.ensures none)
    within lent made placed

pub returns-clause-plan : goal.returns-clause-plan
returns-clause-plan c =
    let cells = known_of c.args.cells.now in
    let design = c.args.design.now in
    let texts = c.as_slice-texts.result.now in
    let numbers = c.in_ok-numbers.numbers.items in
    let masters = c.in_ok-masters.masters.cells.items in
    let D : Design → Type 0 = λ d. AllByRecursion IsGrid d.grids in
    let N : List GridText → Type 0 = λ grids. plan_fault cells grids ≡ None in
    let S : Design → Type 0 = λ d. 0 < length d.grids in
    let writable = c.requires.resolved.writable in
    let none = passed (plan_fault cells texts) c.check_grids.result _ c.check_grids.ensures.judged
    c.in_ok-check_grids.was in
    let W : List (List (List ℕ)) → Type 0 = All (All (All (λ k. k < length cells))) in
    let within = subst W (sym c.in_ok-numbers.ensures.numbers) (grids_known cells texts none) in
    let lent : numbers ≡ map (numbers_in_grid cells) design.grids = c.in_ok-numbers.ensures.numbers
    ∙ ap (map (numbers_in_grid cells)) c.as_slice-texts.ensures in
    let made : masters ≡ firsts_of numbers = c.in_ok-masters.ensures ∙ ap firsts_of c.as_slice-2.ensures.value in
    let placed : c.in_ok-grids.grids.items ≡ places_of masters numbers = c.in_ok-grids.ensures
    ∙ ap (places_of masters) c.as_slice-3.ensures.value in
    plan_built cells design.grids c.check_grids.new.scan c.in_ok-build.field-0 numbers c.in_ok-grids.grids.items
    masters (subst D c.requires.of writable.grids)
    (subst S c.requires.of
    (some_grids c.args.cells.now.design.now.version c.args.cells.now.design.now.grids writable.fits)) (subst N
    c.as_slice-texts.ensures none)
    within lent made placed (few_distinct masters c.in_ok-masters.masters.apart c.in_ok-masters.masters.below)
    c.check_grids.ensures.scan c.in_ok-build.ensures

pub returns-in_err-check_grids-clause-fault : goal.returns-in_err-check_grids-clause-fault
returns-in_err-check_grids-clause-fault c =
    let P : List GridText → Type 0 =
    λ grids. IfErr c.from_residual-in_err-check_grids.result (RefusesPlan (known_of c.args.cells.now) grids) in
    subst P c.as_slice-texts.ensures
    (refused (known_of c.args.cells.now) c.as_slice-texts.result.now c.check_grids.result
    c.in_err-check_grids.field-0.0 c.from_residual-in_err-check_grids.result c.check_grids.ensures.judged
    c.in_err-check_grids.was c.from_residual-in_err-check_grids.ensures.1)
