use Rattle.std.proofs.Common.{◌≡◌, ℕ, ◌<◌, ℤ, length, map, List, [], ◌++◌, arith, ap, subst, ◌∙◌, w64}
use Rattle.std.{proofs.lemmas.{Int.{ints, to_z-of_z}, List.length-map}, specs.List.{flat_map, range_with_len}}
use Rattle.lam_geom.specs.declared.boxes.Axis.TheVariants.{X, Y}
use Rattle.sym_items.specs.Layouts.{size_in}
use Rattle.plan_model.specs.declared.plan.PlanRow.{PlanRow}
use Rattle.mask_out.specs.{Pictures.IsRowInReach, RowCalls.calls_in_row_at}
use Rattle.mask_out.proofs.{Totals.past_row, Pushed.{image_at, row_pushed}}
use Rattle.mask_out.proofs.calls.push_grid.Goals as goal

abbrev cells : PlanRow → List ℕ
cells row = row.cells

among : (rows : List PlanRow) (i : ℕ) → i < length rows → i < length (map cells rows)
among rows i lt = omega (arith, length-map rows cells)

pub push_row-requires-clause-row : goal.push_row-requires-clause-row
push_row-requires-clause-row c =
    let i = c.loop-row.row-index in
    let here = image_at cells c.args.rows.now i c.row-item.result c.as_slice-masters.result.now []
    c.loop-row-test.true c.row-item.is c.as_slice-masters.ensures in
    subst (IsRowInReach (size_in X c.args.coords.now)) here
    (c.requires.rows.across i (among c.args.rows.now i c.loop-row-test.true))

pub overflow_add-bottom : goal.overflow_add-bottom
overflow_add-bottom c =
    let i = c.loop-row.row-index in
    let here = image_at cells c.args.rows.now i c.row-item.result c.as_slice-masters.result.now []
    c.loop-row-test.true c.row-item.is c.as_slice-masters.ensures in
    let step = past_row (size_in X c.args.coords.now) (size_in Y c.args.coords.now) (map cells c.args.rows.now) i
    c.as_slice-masters.result.now _ c.requires.rows (among c.args.rows.now i c.loop-row-test.true) here
    c.height_of_row-bottom.ensures in
    omega (arith, ints)

pub loop-row-preserved : goal.loop-row-preserved
loop-row-preserved c =
    let i = c.loop-row.row-index in
    let here = image_at cells c.args.rows.now i c.row-item.result c.as_slice-masters.result.now []
    c.loop-row-test.true c.row-item.is c.as_slice-masters.ensures in
    let step = past_row (size_in X c.args.coords.now) (size_in Y c.args.coords.now) (map cells c.args.rows.now) i
    c.as_slice-masters.result.now _ c.requires.rows (among c.args.rows.now i c.loop-row-test.true) here
    c.height_of_row-bottom.ensures in
    record {
      called =
          row_pushed (size_in X c.args.coords.now) (size_in Y c.args.coords.now) _ _ (map cells c.args.rows.now) i
          c.as_slice-masters.result.now c.args.calls.now.items c.loop-row.calls.items _
          c.loop-row.invariant.called here c.loop-row.invariant.place c.in_ok-push_row.ensures;
      place = omega (arith, ints);
    }

pub returns : goal.returns
returns c =
    let rows = map cells c.args.rows.now in
    let all : c.loop-row.row-index ≡ length rows = omega (arith, length-map c.args.rows.now cells) in
    let calls = λ (left : ℤ) (n : ℕ). c.args.calls.now.items
    ++ flat_map (calls_in_row_at (size_in X c.args.coords.now) (size_in Y c.args.coords.now) left rows)
    (range_with_len 0 n) in
    c.loop-row.invariant.called
    ∙ (ap (λ left. calls left c.loop-row.row-index) (to_z-of_z w64 c.args.left c.ranges.left)
    ∙ ap (calls c.args.left) all)
