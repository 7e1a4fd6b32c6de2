-- What the steps of a cell give when it is inlined: the first of those that are left leads to the others, and what is
-- copied has room.
use Rattle.std.proofs.Common.{◌≡◌, ℕ, ◌+◌, ◌<◌, ◌≤◌, List, [], length, map, drop, fold, get_or, vec_len, sym, ap, subst}
use Rattle.std.proofs.{Common.{◌∙◌, arith}, lemmas.List.{drop_more, drop_all, length-take-le, get_or-take}}
use Rattle.std.proofs.{lemmas.List.{get_or_default, length-append, length-map}, Math.ListN.get_or-map}
use Rattle.std.specs.List.{AllByRecursion}
use Rattle.rule_table.specs.declared.technology.Tech.{Tech}
use Rattle.cell_model.specs.{declared.cell.{WireEnd.WireEnd, Cell.Cell}, Sound.{IsNode, IsEnd, IsWire, IsLimit}}
use Rattle.cell_model.specs.{Sound.IsSound, Nets.HasEnds}
use Rattle.cell_model.specs.declared.cell.WireEnd.TheVariants as ends
use Rattle.checked_cells.specs.declared.steps.Step.TheVariants as steps
use Rattle.checked_cells.specs.declared.{table.Table.Table, steps.Step.Step, cells.Cells.Cells, parts.Parts.Parts}
use Rattle.checked_cells.specs.CheckedCell.{CheckedCell, begun, known_at, cell_of, with_copy, copied_node}
use Rattle.checked_cells.specs.{Counts.weight_of, Steps.{apply, IsStep, AreStepsOf}, Tables.{known_of, steps_at}}
use Rattle.checked_cells.specs.{Tables.IsResolved, Inlining.{ArePartsOf, IsAtStep, cells_before, HasPlace, HasNumber}}
use Rattle.checked_cells.specs.{Inlining.{HasNumbers, LimitsNumbers}, Built.AreBuilt}
use Rattle.checked_cells.proofs.{Counting.weight-with_copy, Built.{light-cell_of, are_built-known_cells}}
use Rattle.checked_cells.proofs.{Stepping.weight-made, TableReads.length-tables}
use Rattle.list_facts.proofs.Elements.{all_at, all_weaker}

-- each cell of a design is built over those before it
pub built_cells : (cells : Cells) → IsResolved cells → AreBuilt cells.tech (known_of cells)
built_cells cells is = are_built-known_cells cells.tech cells.design.now.cells (known_of cells) is.writable.cells
    is.read

-- the steps of the table that is read at a cell's number
pub steps_read : (cells : Cells) (k : ℕ) (table : Table) (lent : List Step) → IsResolved cells
    → k < length (known_of cells) → table ≡ get_or cells.tables.items k table → lent ≡ table.steps.items
    → AreStepsOf (cells_before cells k) (known_at (known_of cells) k) lent
steps_read cells k table lent is lt e same =
    let there : steps_at cells.tables.items k ≡ lent =
    get_or_default (map (λ (t : Table). t.steps.items) cells.tables.items) k [] (table.steps.items)
    (omega (
      arith,
      lt,
      length-tables (known_of cells) cells.tables.items is.tables,
      length-map cells.tables.items
          (λ (t : Table). t.steps.items),
    ))
    ∙ get_or-map (λ (t : Table). t.steps.items) cells.tables.items k table ∙ ap (λ (t : Table). t.steps.items) (sym e)
    ∙ sym same in
    subst (AreStepsOf (cells_before cells k) (known_at (known_of cells) k)) there (is.steps k lt)

-- the parts are those of the steps that were read, and these are left
abbrev pub HasRead : Cells → ℕ → List Step → Parts → Type 0
HasRead cells k left parts = (known : CheckedCell) × ArePartsOf known parts
    × (fold (apply (cells_before cells k)) known left ≡ known_at (known_of cells) k)

-- before the first step
pub none_read : (cells : Cells) (k : ℕ) (lent : List Step) (parts : Parts)
    → weight_of (known_at (known_of cells) k) ≤ 65536
    → AreStepsOf (cells_before cells k) (known_at (known_of cells) k) lent
    → ((name : List ℕ) → ArePartsOf (begun name) parts) → HasRead cells k lent parts
none_read cells k lent parts light are held =
    (begun (known_at (known_of cells) k).name, held (known_at (known_of cells) k).name, are.make light)

-- the first step that is left, and those after it
one_left : (cells : Cells) (k : ℕ) (lent : List Step) (i : ℕ) (d : Step) (known : CheckedCell) → i < length lent
    → fold (apply (cells_before cells k)) known (drop i lent) ≡ known_at (known_of cells) k
    → fold (apply (cells_before cells k)) (apply (cells_before cells k) known (get_or lent i d)) (drop (i + 1) lent)
    ≡ known_at (known_of cells) k
one_left cells k lent i d known lt rest = ap (fold (apply (cells_before cells k)) known) (sym (drop_more lent i d lt))
    ∙ rest

-- before a step
pub at_step_read : (cells : Cells) (k : ℕ) (lent : List Step) (i : ℕ) (d : Step) (parts : Parts)
    → weight_of (known_at (known_of cells) k) ≤ 65536
    → AreStepsOf (cells_before cells k) (known_at (known_of cells) k) lent
    → i < length lent → HasRead cells k (drop i lent) parts → IsAtStep cells k (get_or lent i d) parts
at_step_read cells k lent i d parts light are lt (known, held, rest) =
    let before = cells_before cells k in
    let after = one_left cells k lent i d known lt rest in
    record {
      known = known;
      held = held;
      is = all_at (IsStep before) lent d i are.each lt;
      light = omega (
        arith,
        weight-made before (apply before known (get_or lent i d)) (drop (i + 1) lent),
        ap
            weight_of after,
        light,
      );
    }

-- after a step
pub step_was_read : (cells : Cells) (k : ℕ) (lent : List Step) (i : ℕ) (d : Step) (parts after : Parts)
    → i < length lent → HasRead cells k (drop i lent) parts
    → ((known : CheckedCell) → ArePartsOf known parts
    → ArePartsOf (apply (cells_before cells k) known (get_or lent i d)) after) → HasRead cells k (drop (i + 1)
    lent) after
step_was_read cells k lent i d parts after lt (known, held, rest) put =
    (apply (cells_before cells k) known (get_or lent i d), put known held, one_left cells k lent i d known lt rest)

-- after the last step
pub all_read : (cells : Cells) (k : ℕ) (lent : List Step) (i : ℕ) (parts : Parts) (name : List ℕ) (cell : Cell)
    → length lent ≤ i → HasRead cells k (drop i lent) parts → name ≡ (known_at (known_of cells) k).name
    → ((known : CheckedCell) → ArePartsOf known parts → name ≡ known.name → cell ≡ cell_of known)
    → cell ≡ cell_of (known_at (known_of cells) k)
all_read cells k lent i parts name cell le (known, held, rest) named made =
    let whole : CheckedCell = known_at (known_of cells) k in
    let last : known ≡ whole = ap (fold (apply (cells_before cells k)) known) (sym (drop_all i lent le)) ∙ rest in
    made whole (subst (λ (known : CheckedCell). ArePartsOf known parts) last held) named

-- ---- a copy

-- what a use stands for: an earlier cell, which may be inlined too, and whose nodes come to lie near
pub record IsCopyOf (cells : Cells) (k : ℕ) (known : CheckedCell) (number col row : ℕ) : Type 0 where
  pub earlier : number < k
  pub within : number < length (known_of cells)
  pub same : known_at (cells_before cells k) number ≡ known_at (known_of cells) number
  pub light : weight_of (known_at (known_of cells) number) ≤ 65536
  pub near_col : col ≤ 4095
  pub near_row : row ≤ 4095
  pub room : length known.nodes + length (known_at (known_of cells) number).nodes ≤ 65536

copy_of : (cells : Cells) (k : ℕ) (known : CheckedCell) (name : List ℕ) (number col row : ℕ)
    → k < length (known_of cells)
    → (number < length (cells_before cells k)) × (col ≤ 4095) × (row ≤ 4095)
    → weight_of (with_copy known name number (known_at (cells_before cells k) number) col row) ≤ 65536
    → IsCopyOf cells k known number col row
copy_of cells k known name number col row lt fits light =
    let before : List CheckedCell = cells_before cells k in
    let many : length before ≡ k = length-take-le k (known_of cells) (omega arith) in
    let earlier : number < k = omega (arith, fits.0, many) in
    let same : known_at before number ≡ known_at (known_of cells) number =
    get_or-take k (known_of cells) number (begun []) earlier in
    let inner : CheckedCell = known_at before number in
    record {
      earlier = earlier;
      within = omega arith;
      same = same;
      light = omega (arith, light, weight-with_copy known name number inner col row, ap weight_of same);
      near_col = fits.1;
      near_row = fits.2;
      room = omega (
        arith,
        light-cell_of (with_copy known name number inner col row) light,
        length-append known.nodes
            (map (copied_node name col row) inner.nodes),
        length-map inner.nodes (copied_node name col row),
        ap
            (λ (c : CheckedCell). length c.nodes) same,
      );
    }

-- what a step stands for, where it is a copy
abbrev pub StandsFor : Cells → ℕ → CheckedCell → Step → Type 0
StandsFor cells k known (steps.Copy name number col row) = IsCopyOf cells k known number col row
StandsFor cells k known step = Unit {0}

stands_for : (cells : Cells) (k : ℕ) (known : CheckedCell) (step : Step) → k < length (known_of cells)
    → IsStep (cells_before cells k) step → weight_of (apply (cells_before cells k) known step) ≤ 65536
    → StandsFor cells k known step
stands_for cells k known (steps.Copy name number col row) lt is light =
    copy_of cells k known name.now number col row lt is light
stands_for cells k known (steps.Node name kind col row) lt is light = tt
stands_for cells k known (steps.Port name side layer place) lt is light = tt
stands_for cells k known (steps.Wire wire) lt is light = tt
stands_for cells k known (steps.Limit limit) lt is light = tt

-- before a step
pub copy_at : (cells : Cells) (k : ℕ) (step : Step) (parts : Parts) → k < length (known_of cells)
    → (at : IsAtStep cells k step parts) → StandsFor cells k at.known step
copy_at cells k step parts lt at = stands_for cells k at.known step lt at.is at.light

-- the copied nodes stand after those that there are, and their numbers fit
pub room_for : (known inner : CheckedCell) (parts : Parts) (copied : Cell) → ArePartsOf known parts
    → copied ≡ cell_of inner → length known.nodes + length inner.nodes ≤ 65536
    → vec_len parts.nodes + length copied.nodes ≤ 65536
room_for known inner parts copied held e room =
    let many : length copied.nodes ≡ length inner.nodes = ap (λ (c : Cell). length c.nodes) e in
    omega (arith, many, room, parts.nodes.ok.0, ap length held.nodes)

pub places_fit : (tech : Tech) (copied : Cell) (col row : ℕ) → IsSound tech copied → col ≤ 4095 → row ≤ 4095
    → AllByRecursion (HasPlace col row) copied.nodes
places_fit tech copied col row sound c r =
    all_weaker (IsNode tech) (HasPlace col row) (λ node is. (omega (arith, is.col), omega (arith, is.row)))
    copied.nodes sound.nodes

number_fits : (cell : Cell) (first : ℕ) (end : WireEnd) → first + length cell.nodes ≤ 65536 → IsEnd cell end
    → HasNumber first end
number_fits cell first (ends.Node k) room is = omega arith
number_fits cell first (ends.Port k) room is = tt

pub wires_fit : (tech : Tech) (copied : Cell) (first : ℕ) → IsSound tech copied → first + length copied.nodes ≤ 65536
    → AllByRecursion (HasNumbers first) copied.wires
wires_fit tech copied first sound room =
    all_weaker (IsWire tech copied) (HasNumbers first)
    (λ wire is. (number_fits copied first wire.low room is.low, number_fits copied first wire.high room is.high))
    copied.wires sound.wires

pub limits_fit : (tech : Tech) (copied : Cell) (first : ℕ) → IsSound tech copied → first + length copied.nodes ≤ 65536
    → AllByRecursion (LimitsNumbers first) copied.limits
limits_fit tech copied first sound room =
    all_weaker (IsLimit copied) (LimitsNumbers first) (λ limit is. (omega (arith, is.a), omega (arith, is.b)))
    copied.limits sound.limits

-- the wires of a sound cell end at nodes and ports of it
pub ends_of_sound : (tech : Tech) (cell : Cell) → IsSound tech cell → AllByRecursion (HasEnds cell) cell.wires
ends_of_sound tech cell sound =
    all_weaker (IsWire tech cell) (HasEnds cell) (λ wire is. record { low = is.low; high = is.high }) cell.wires
    sound.wires
