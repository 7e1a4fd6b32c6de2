use Rattle.std.proofs.Common.{◌≡◌, ℕ, ◌<◌, ℤ, get_or, length, map, List, [], ◌++◌, arith, ap, sym, subst, ◌∙◌}
use Rattle.std.{proofs.lemmas.{Int.ints, List.length-map}, specs.List.{flat_map, range_with_len}}
use Rattle.lam_geom.specs.declared.boxes.Axis.TheVariants.{X, Y}
use Rattle.rule_table.specs.Technology.{widest_of}
use Rattle.sym_items.specs.Layouts.{size_in}
use Rattle.list_facts.proofs.Pieces.{piece_added}
use Rattle.plan_model.specs.declared.plan.{PlanGrid.PlanGrid, PlanRow.PlanRow}
use Rattle.plan_model.specs.{Instances.{grid_at, left_of_grid}, Plan.grids_of, Rows.rows_of}
use Rattle.mask_out.{specs.{Pictures.IsGridInReach, RowCalls.calls_in_grid}, proofs.Totals.{past_grid, first_in_reach}}
use Rattle.mask_out.proofs.{CallsInOrder.{calls_of_grid, calls_in_order}, Pushed.image_at}
use Rattle.mask_out.proofs.calls.calls_in.Goals as goal

abbrev cells : PlanRow → List ℕ
cells row = row.cells

-- the rows at hand are those of the grid with this number
at_hand : (grids items : List PlanGrid) (g : ℕ) (grid : PlanGrid) (rows : List PlanRow) → items ≡ grids
    → g < length items → grid ≡ get_or items g grid → rows ≡ grid.rows
    → (g < length (map rows_of grids)) × (grid_at (map rows_of grids) g ≡ map cells rows)
at_hand grids items g grid rows all lt is own =
    let among : g < length grids = omega (arith, ap length all) in (
      omega (arith, length-map grids rows_of),
      image_at rows_of grids g grid (map cells rows) [] among
          (is ∙ ap (λ xs. get_or xs g grid) all) (ap (map cells) own),
    )

in_reach : (width height : ℕ → ℤ) (widest : ℤ) (grids : List (List (List ℕ))) (g : ℕ) (rows : List (List ℕ))
    → ((k : ℕ) → k < length grids → IsGridInReach width height (grid_at grids k))
    → (g < length grids) × (grid_at grids g ≡ rows) → IsGridInReach width height rows
in_reach width height widest grids g rows each here = subst (IsGridInReach width height) here.1 (each g here.0)

pub push_grid-requires-clause-rows : goal.push_grid-requires-clause-rows
push_grid-requires-clause-rows c =
    let here = at_hand c.args.plan.now.grids c.as_slice-grid-items.result.now c.loop-grid.grid-index
    c.grid-item.result c.as_slice-rows.result.now c.as_slice-grid-items.ensures c.loop-grid-test.true
    c.grid-item.is c.as_slice-rows.ensures in
    in_reach (size_in X c.args.coords.now) (size_in Y c.args.coords.now) (widest_of c.args.tech.now)
    (grids_of c.args.plan.now) c.loop-grid.grid-index _ c.requires.each here

pub width_of_grid-requires : goal.width_of_grid-requires
width_of_grid-requires c =
    let here = at_hand c.args.plan.now.grids c.as_slice-grid-items.result.now c.loop-grid.grid-index
    c.grid-item.result c.as_slice-rows.result.now c.as_slice-grid-items.ensures c.loop-grid-test.true
    c.grid-item.is c.as_slice-rows.ensures in
    first_in_reach (size_in X c.args.coords.now) (size_in Y c.args.coords.now) _
    (in_reach (size_in X c.args.coords.now) (size_in Y c.args.coords.now) (widest_of c.args.tech.now)
    (grids_of c.args.plan.now) c.loop-grid.grid-index _ c.requires.each here)

pub overflow_add-left : goal.overflow_add-left
overflow_add-left c =
    let here = at_hand c.args.plan.now.grids c.as_slice-grid-items.result.now c.loop-grid.grid-index
    c.grid-item.result c.as_slice-rows.result.now c.as_slice-grid-items.ensures c.loop-grid-test.true
    c.grid-item.is c.as_slice-rows.ensures in
    let step = past_grid (size_in X c.args.coords.now) (size_in Y c.args.coords.now) (widest_of c.args.tech.now)
    (grids_of c.args.plan.now) c.loop-grid.grid-index (map cells c.as_slice-rows.result.now)
    c.width_of_grid.result c.widest-widest.result c.requires here.0 here.1 c.width_of_grid.ensures
    c.widest-widest.ensures.value in
    let space = c.widest-widest.ensures.bounds in
    omega (arith, ints, space.0, space.1)

pub overflow_add-left-in-loop-grid : goal.overflow_add-left-in-loop-grid
overflow_add-left-in-loop-grid c =
    let here = at_hand c.args.plan.now.grids c.as_slice-grid-items.result.now c.loop-grid.grid-index
    c.grid-item.result c.as_slice-rows.result.now c.as_slice-grid-items.ensures c.loop-grid-test.true
    c.grid-item.is c.as_slice-rows.ensures in
    let step = past_grid (size_in X c.args.coords.now) (size_in Y c.args.coords.now) (widest_of c.args.tech.now)
    (grids_of c.args.plan.now) c.loop-grid.grid-index (map cells c.as_slice-rows.result.now)
    c.width_of_grid.result c.widest-widest.result c.requires here.0 here.1 c.width_of_grid.ensures
    c.widest-widest.ensures.value in
    let space = c.widest-widest.ensures.bounds in
    omega (arith, ints, space.0, space.1)

pub loop-grid-preserved : goal.loop-grid-preserved
loop-grid-preserved c =
    let width = size_in X c.args.coords.now in
    let height = size_in Y c.args.coords.now in
    let widest = widest_of c.args.tech.now in
    let grids = grids_of c.args.plan.now in
    let g = c.loop-grid.grid-index in
    let now = c.loop-grid.calls.items in
    let here = at_hand c.args.plan.now.grids c.as_slice-grid-items.result.now g c.grid-item.result
    c.as_slice-rows.result.now c.as_slice-grid-items.ensures c.loop-grid-test.true c.grid-item.is
    c.as_slice-rows.ensures in
    let step = past_grid width height widest grids g (map cells c.as_slice-rows.result.now) c.width_of_grid.result
    c.widest-widest.result c.requires here.0 here.1 c.width_of_grid.ensures c.widest-widest.ensures.value in
    record {
      called =
          piece_added (calls_of_grid width height widest grids) g [] now _ c.loop-grid.invariant.called
          (c.in_ok-push_grid.ensures
          ∙ (ap (λ left. now ++ calls_in_grid width height left (map cells c.as_slice-rows.result.now))
          c.loop-grid.invariant.place
          ∙ ap (λ rows. now ++ calls_in_grid width height (left_of_grid width widest grids g) rows)
          (sym here.1)));
      place = (let space = c.widest-widest.ensures.bounds in omega (arith, ints, space.0, space.1));
    }

pub returns : goal.returns
returns c =
    let calls = calls_of_grid (size_in X c.args.coords.now) (size_in Y c.args.coords.now) (widest_of c.args.tech.now)
    (grids_of c.args.plan.now) in
    let all : c.loop-grid.grid-index ≡ length (grids_of c.args.plan.now) =
    omega (arith, length-map c.args.plan.now.grids rows_of, ap length c.as_slice-grid-items.ensures) in
    c.loop-grid.invariant.called
    ∙ (ap (λ n. flat_map calls (range_with_len 0 n)) all
    ∙ sym (calls_in_order (size_in X c.args.coords.now) (size_in Y c.args.coords.now) (widest_of c.args.tech.now)
    (grids_of c.args.plan.now)))
