-- The items of a cell in its start layout: each has a box, and those of parts whose coarse ranges share no grid point
-- lie apart.
use Rattle.std.proofs.{Common.{ℕ, ◌<◌, ◌≤◌, max, ℤ, ◌-ℤ◌, ◌≤ℤ◌, length, sym, subst, arith}, lemmas.Int.{ints, clamps}}
use Rattle.std.specs.List.{AllByRecursion, flat_map, range_with_len}
use Rattle.rule_table.specs.{declared.technology.Tech.Tech, Technology.widest_of}
use Rattle.sym_items.specs.declared.items.{Item.Item, Items.Items}
use Rattle.sym_items.specs.{Sides.{Sides, sides_in, gap_of_sides, gap_in}, Boxes.HasBox}
use Rattle.pair_rules.specs.Bound.{item_at, no_item}
use Rattle.cell_model.specs.declared.cell.{Axis2.TheVariants.{Across, Up}, Node.Node, Wire.Wire, Cell.Cell, Nets.Nets}
use Rattle.cell_model.specs.Sound.{IsNode, IsWire, IsSound, node_at, no_node, wire_at, no_wire}
use Rattle.list_facts.proofs.Elements.{all_weaker, all_at, all_append, all_flat, all_numbers, all_of}
use Rattle.expand.specs.{Variables.half, declared.master.Master.Master, Items.{nets_at, items_of_node, items_of_wire}}
use Rattle.expand.specs.{Items.{items_of, item_list}, Masters.IsMaster}
use Rattle.coarse_grid.specs.{Extent.{reach_of, half_extent_of, pitch_of}, Start.{last_line, start_values, start_of}}
use Rattle.coarse_grid.specs.{Ranges.{Lines, lines_of, Covers}, Laws.{HasBoxes, KeepsApart, NearShareAPoint}}
use Rattle.coarse_grid.proofs.{Nears.{by_lt, near_not_wide}, Lines.near_lines, Reaches.{IsCoarse, coarse}}
use Rattle.coarse_grid.proofs.{Grid.{span_has, spans_apart}, NodesLaid.{IsRound, kind_round, half_low}, Laid.IsLaid}
use Rattle.coarse_grid.proofs.{Laid.{round_laid, wide}, WiresLaid.wire_laid}

node_laid : (tech : Tech) (cell : Cell) (nets : Nets) (pitch extent : ℤ) (k : ℕ) → IsSound tech cell
    → IsCoarse tech cell pitch extent → k < length cell.nodes
    → AllByRecursion (IsLaid cell pitch extent) (items_of_node tech cell nets k)
node_laid tech cell nets pitch extent k s c lt =
    all_weaker (IsRound k extent) (IsLaid cell pitch extent)
    (λ item round. round_laid tech cell pitch extent k item c (near_lines tech cell s) lt round)
    (items_of_node tech cell nets k)
    (kind_round tech k (node_at cell.nodes k).kind (nets_at nets.node k) extent
    (all_at (IsNode tech) cell.nodes no_node k s.nodes lt).kind
    (all_at (λ (node : Node). reach_of tech node.kind ≤ℤ extent) cell.nodes no_node k c.nodes lt))

fit_laid : (tech : Tech) (cell : Cell) (nets : Nets) (pitch extent : ℤ) (k : ℕ) → IsSound tech cell
    → IsCoarse tech cell pitch extent → k < length cell.wires
    → AllByRecursion (IsLaid cell pitch extent) (items_of_wire tech cell nets k)
fit_laid tech cell nets pitch extent k s c lt =
    let is_wire = all_at (IsWire tech cell) cell.wires no_wire k s.wires lt in
    wire_laid tech cell pitch extent _ k (record {
      sound = s;
      near = near_lines tech cell s;
      coarse = c;
      is_wire = is_wire;
      low = half_low (wire_at cell.wires k).width is_wire.size;
      high = all_at (λ (wire : Wire). half wire.width ≤ℤ extent) cell.wires no_wire k c.wires lt;
    }) lt

-- each item of a cell is laid in the start layout within what its part reaches
pub items_laid : (tech : Tech) (cell : Cell) (nets : Nets) → IsSound tech cell
    → AllByRecursion (IsLaid cell (pitch_of tech cell) (half_extent_of tech cell)) (item_list tech cell nets)
unfolding item_list
items_laid tech cell nets s =
    let P : Item → Type 0 = IsLaid cell (pitch_of tech cell) (half_extent_of tech cell) in
    let c = coarse tech cell s in
    let nodes = range_with_len 0 (length cell.nodes) in
    let wires = range_with_len 0 (length cell.wires) in
    all_append P (flat_map (items_of_node tech cell nets) nodes) (flat_map (items_of_wire tech cell nets) wires)
    (all_flat P (items_of_node tech cell nets) nodes
    (all_numbers (λ k. AllByRecursion P (items_of_node tech cell nets k)) 0 (length cell.nodes)
    (λ k ge lt. node_laid tech cell nets (pitch_of tech cell) (half_extent_of tech cell) k s c (omega arith))))
    (all_flat P (items_of_wire tech cell nets) wires
    (all_numbers (λ k. AllByRecursion P (items_of_wire tech cell nets k)) 0 (length cell.wires)
    (λ k ge lt. fit_laid tech cell nets (pitch_of tech cell) (half_extent_of tech cell) k s c (omega arith))))

laid_has_box : (tech : Tech) (cell : Cell) (item : Item)
    → IsLaid cell (pitch_of tech cell) (half_extent_of tech cell) item → HasBox (start_of tech cell) item
laid_has_box tech cell item l = record {
  x = span_has (pitch_of tech cell) (half_extent_of tech cell) (start_values (pitch_of tech cell) Across cell)
      (last_line Across cell) (lines_of Across cell item.owner) item.xl item.xh l.x;
  y = span_has (pitch_of tech cell) (half_extent_of tech cell) (start_values (pitch_of tech cell) Up cell)
      (last_line Up cell) (lines_of Up cell item.owner) item.yl item.yh l.y;
}

pub has_boxes : (tech : Tech) (cell : Cell) (nets : Nets) → IsSound tech cell → HasBoxes tech cell nets
has_boxes tech cell nets s =
    all_of (HasBox (start_of tech cell)) (item_list tech cell nets)
    (all_weaker (IsLaid cell (pitch_of tech cell) (half_extent_of tech cell)) (HasBox (start_of tech cell))
    (laid_has_box tech cell) (item_list tech cell nets) (items_laid tech cell nets s))

-- a gap on one axis, before or after, is one of the boxes
gap_right : (s : ℤ) (a b : Sides) → s ≤ℤ (b.left -ℤ a.right) → s ≤ℤ gap_of_sides a b
gap_right s a b h = omega (arith, ints, clamps, h)

gap_left : (s : ℤ) (a b : Sides) → s ≤ℤ (a.left -ℤ b.right) → s ≤ℤ gap_of_sides a b
gap_left s a b h = omega (arith, ints, clamps, h)

gap_above : (s : ℤ) (a b : Sides) → s ≤ℤ (b.bottom -ℤ a.top) → s ≤ℤ gap_of_sides a b
gap_above s a b h = omega (arith, ints, clamps, h)

gap_below : (s : ℤ) (a b : Sides) → s ≤ℤ (a.bottom -ℤ b.top) → s ≤ℤ gap_of_sides a b
gap_below s a b h = omega (arith, ints, clamps, h)

-- ranges are apart on one of the axes, or they share a grid point
on_an_axis : {P : Type 0} (cell : Cell) (a b : ℕ) → ((col row : ℕ) → Covers cell a col row → Covers cell b col row → P)
    → (lines_of Across cell a).first ≤ (lines_of Across cell a).last
    → (lines_of Across cell b).first ≤ (lines_of Across cell b).last
    → (lines_of Up cell a).first ≤ (lines_of Up cell a).last → (lines_of Up cell b).first ≤ (lines_of Up cell b).last
    → ((lines_of Across cell a).last < (lines_of Across cell b).first → P)
    → ((lines_of Across cell b).last < (lines_of Across cell a).first → P)
    → ((lines_of Up cell a).last < (lines_of Up cell b).first → P)
    → ((lines_of Up cell b).last < (lines_of Up cell a).first → P) → P
on_an_axis cell a b shared ax bx ay by right left above below =
    let x : Lines = lines_of Across cell a in
    let x2 : Lines = lines_of Across cell b in
    let y : Lines = lines_of Up cell a in
    let y2 : Lines = lines_of Up cell b in
    by_lt x.last x2.first right
    (λ no_right. by_lt x2.last x.first left
    (λ no_left. by_lt y.last y2.first above (λ no_above. by_lt y2.last y.first below (λ no_below.
    shared (max x.first x2.first) (max y.first y2.first) ((omega arith, omega arith), (omega arith, omega arith))
    ((omega arith, omega arith), (omega arith, omega arith))))))

-- two items lie the widest spacing apart, or their owners' ranges share a grid point
apart_or_shared : {P : Type 0} (tech : Tech) (cell : Cell) (a b : Item) → IsSound tech cell
    → IsLaid cell (pitch_of tech cell) (half_extent_of tech cell) a
    → IsLaid cell (pitch_of tech cell) (half_extent_of tech cell) b
    → (widest_of tech ≤ℤ gap_in (start_of tech cell) a b → P)
    → ((col row : ℕ) → Covers cell a.owner col row → Covers cell b.owner col row → P) → P
apart_or_shared tech cell a b s la lb apart shared =
    let pitch = pitch_of tech cell in
    let extent = half_extent_of tech cell in
    let c = start_of tech cell in
    let w = wide tech cell pitch extent (coarse tech cell s) in
    on_an_axis cell a.owner b.owner shared la.x.proper lb.x.proper la.y.proper lb.y.proper
    (λ lt. apart
    (gap_right (widest_of tech) (sides_in c a) (sides_in c b)
    (spans_apart pitch extent (widest_of tech) (start_values pitch Across cell) (last_line Across cell) _ _ a.xl
    a.xh b.xl b.xh w la.x lb.x lt)))
    (λ lt. apart
    (gap_left (widest_of tech) (sides_in c a) (sides_in c b)
    (spans_apart pitch extent (widest_of tech) (start_values pitch Across cell) (last_line Across cell) _ _ b.xl
    b.xh a.xl a.xh w lb.x la.x lt)))
    (λ lt. apart
    (gap_above (widest_of tech) (sides_in c a) (sides_in c b)
    (spans_apart pitch extent (widest_of tech) (start_values pitch Up cell) (last_line Up cell) _ _ a.yl a.yh b.yl
    b.yh w la.y lb.y lt)))
    (λ lt. apart
    (gap_below (widest_of tech) (sides_in c a) (sides_in c b)
    (spans_apart pitch extent (widest_of tech) (start_values pitch Up cell) (last_line Up cell) _ _ b.yl b.yh a.yl
    a.yh w lb.y la.y lt)))

pub keeps_apart : (tech : Tech) (cell : Cell) (nets : Nets) → IsSound tech cell → KeepsApart tech cell nets
keeps_apart tech cell nets s i j i_among j_among apart =
    let items = item_list tech cell nets in
    let laid = items_laid tech cell nets s in
    let P : Item → Type 0 = IsLaid cell (pitch_of tech cell) (half_extent_of tech cell) in
    apart_or_shared tech cell (item_at items i) (item_at items j) s (all_at P items no_item i laid i_among)
    (all_at P items no_item j laid j_among) (λ wide. wide) (λ col row a b. absurd (apart col row a b))

-- items that are too near one another lie less than the widest spacing apart
pub near_share : (tech : Tech) (master : Master) → IsMaster tech master → NearShareAPoint tech master
near_share tech master m =
    let N : Items → Type 0 = λ is. NearShareAPoint tech (record { cell = master.cell; items = is }) in
    subst N (sym m.items.are) (list_share tech master.cell m.items.nets m.sound)
  where
    list_share : (tech : Tech) (cell : Cell) (nets : Nets) → IsSound tech cell
        → NearShareAPoint tech (record { cell = cell; items = items_of tech cell nets })
    list_share tech cell nets s i j i_among j_among near =
        let items = item_list tech cell nets in
        let laid = items_laid tech cell nets s in
        let P : Item → Type 0 = IsLaid cell (pitch_of tech cell) (half_extent_of tech cell) in
        apart_or_shared tech cell (item_at items i) (item_at items j) s (all_at P items no_item i laid i_among)
        (all_at P items no_item j laid j_among)
        (λ wide. absurd (near_not_wide tech (start_of tech cell) (item_at items i) (item_at items j) near wide))
        (λ col row a b. (col, row, (a, b)))
