-- The start layout is a layout of its master.
use Rattle.std.proofs.{Common.{◌≡◌, ℤ, pos, ◌≤ℤ◌, List, length, refl, sym, subst, arith}, lemmas.Int.ints}
use Rattle.std.specs.List.{AllByRecursion, All}
use Rattle.lam_geom.specs.declared.boxes.Axis.{Axis, TheVariants.{X, Y}}
use Rattle.rule_table.specs.declared.technology.Tech.{Tech}
use Rattle.sym_items.specs.declared.items.{Item.Item, Items.Items, Coords.Coords}
use Rattle.sym_items.specs.{Values.value_of, Transposed.values_along}
use Rattle.cell_model.specs.{declared.cell.{Axis2.TheVariants.{Across, Up}, Cell.Cell}, Sound.IsSound}
use Rattle.list_facts.proofs.Elements.{all_of, all_weaker}
use Rattle.expand.specs.{declared.master.Master.Master, Items.item_list, Variables.variables_of, Laws.EndsAbove}
use Rattle.expand.specs.Masters.{IsMaster}
use Rattle.coarse_grid.specs.{Near.IsNear, Extent.{half_extent_of, pitch_of}, Start.{start_values, start_of}}
use Rattle.coarse_grid.specs.Laws.{IsLayoutOf}
use Rattle.coarse_grid.proofs.{Lines.near_lines, Reaches.{coarse, coarse_pitch}, Starts.{start_near, counted_x}}
use Rattle.coarse_grid.proofs.{Starts.counted_y, Laid.IsLaid, ItemsLaid.{items_laid, has_boxes}}

counted : (tech : Tech) (cell : Cell) (axis : Axis)
    → length (values_along axis (start_of tech cell)) ≡ variables_of axis cell
counted tech cell X = counted_x (pitch_of tech cell) cell
counted tech cell Y = counted_y (pitch_of tech cell) cell

origin : (tech : Tech) (cell : Cell) (axis : Axis) → value_of (values_along axis (start_of tech cell)) 0 ≡ pos 0
origin tech cell X = refl
origin tech cell Y = refl

-- no value lies below the origin
above : (values : List ℤ) → AllByRecursion IsNear values → All (λ z. pos 0 ≤ℤ z) values
above values near = all_of (λ z. pos 0 ≤ℤ z) values (all_weaker IsNear (λ z. pos 0 ≤ℤ z) (λ z h. h.0) values near)

values_above : (tech : Tech) (cell : Cell) → IsSound tech cell → (axis : Axis)
    → All (λ z. pos 0 ≤ℤ z) (values_along axis (start_of tech cell))
values_above tech cell s X =
    let pitch = coarse_pitch tech cell (pitch_of tech cell) (half_extent_of tech cell) (coarse tech cell s) in
    above (start_values (pitch_of tech cell) Across cell)
    (start_near (pitch_of tech cell) Across cell pitch (near_lines tech cell s))
values_above tech cell s Y =
    let pitch = coarse_pitch tech cell (pitch_of tech cell) (half_extent_of tech cell) (coarse tech cell s) in
    above (start_values (pitch_of tech cell) Up cell)
    (start_near (pitch_of tech cell) Up cell pitch (near_lines tech cell s))

-- nor does the high end of an item
end_above : (tech : Tech) (cell : Cell) (axis : Axis) (item : Item)
    → IsLaid cell (pitch_of tech cell) (half_extent_of tech cell) item
    → EndsAbove axis (value_of (values_along axis (start_of tech cell))) item
end_above tech cell X item l = let low = l.x.low_inside in let ordered =
    l.x.ordered in omega (arith, ints, low, ordered)
end_above tech cell Y item l = let low = l.y.low_inside in let ordered =
    l.y.ordered in omega (arith, ints, low, ordered)

pub start_laid : (tech : Tech) (master : Master) → IsMaster tech master → IsLayoutOf master (start_of tech master.cell)
start_laid tech master m =
    let cell : Cell = master.cell in
    let c : Coords = start_of tech cell in
    let list : List Item = item_list tech cell m.items.nets in
    let L : Items → Type 0 = λ is. IsLayoutOf (record { cell = cell; items = is }) c in
    subst L (sym m.items.are) (record {
      counted = counted tech cell;
      origin = origin tech cell;
      values_above = values_above tech cell m.sound;
      ends_above =
          λ axis. all_of _ list
          (all_weaker (IsLaid cell (pitch_of tech cell) (half_extent_of tech cell)) _ (end_above tech cell axis) list
          (items_laid tech cell m.items.nets m.sound));
      boxes = has_boxes tech cell m.items.nets m.sound;
    })
