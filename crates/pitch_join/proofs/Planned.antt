-- What a plan names among its masters: two masters whose borders are equal, and wires of ports that meet, which have
-- their cross coordinate on the axis.
use Rattle.std.proofs.Common.{◌≡◌, ◌≢◌, ℕ, zero, suc, ◌<◌, true, List, [], ◌∷◌, length, get_or, refl, sym, ap, ◌∙◌}
use Rattle.std.proofs.Common.{subst, arith, inl, inr}
use Rattle.std.proofs.lemmas.{Bool.eq-eqb, List.{length-map, Elements.recursion_from_All}}
use Rattle.std.specs.List.{AllByRecursion, All, filter, flat_map, range_with_len}
use Rattle.lam_geom.specs.declared.boxes.{Axis.{Axis, TheVariants.{X, Y}}, Side.{Side, TheVariants.{Left, Right}}}
use Rattle.lam_geom.specs.declared.boxes.Side.TheVariants.{Bottom, Top}
use Rattle.rule_table.specs.declared.technology.Tech.{Tech}
use Rattle.cell_model.specs.declared.cell.{Cell.Cell, CellPort.CellPort, Port.Port, Wire.Wire, WireEnd.WireEnd}
use Rattle.cell_model.specs.{Ports.{seen_port, ports_of_cell}, Sound.{IsSound, Takes, no_port, port_at, wire_at}}
use Rattle.cell_model.specs.Wiring.{axis_of}
use Rattle.cell_model.specs.declared.cell.WireEnd.TheVariants as ends
use Rattle.expand.{specs.{declared.master.Master.Master, Masters.IsMaster, Variables.crossing}, proofs.Cells.wire_sound}
use Rattle.list_facts.proofs.Elements.{all_at, all_flat, all_map, all_numbers, all_of, all_weaker, by_number}
use Rattle.plan_model.specs.declared.plan.{Match.Match, Plan.Plan, Same.Same}
use Rattle.plan_model.specs.Borders.{has_rank, in_order, is_on_side, is_same_side, match_of, matches_at, meeting_ports}
use Rattle.plan_model.specs.Borders.{port_ranks, ports_before, ports_after, ports_of_master, side_before, side_after}
use Rattle.plan_model.specs.{Borders.side_ports, Plan.{AreOfMasters, borders_of, grids_of, is_of_two, IsPlanOver}}
use Rattle.plan_model.specs.Plan.{matches_in, meeting, pitch_in, pitch_of, ports_matched, same_of, sharing}
use Rattle.plan_model.specs.Rows.{above, above_by_columns, beside, column_at, columns_of, first_row, firsts, is_pair}
use Rattle.plan_model.specs.Rows.{is_pair_either_way, IsRectangular, neighbours, zipped_rows}
use Rattle.pitch_join.specs.Masters.{ArePlanned, master_at, master_ports, no_master, ports_of_masters}
use Rattle.pitch_join.specs.Among.{IsCrossWire, IsMatchAmong, IsSameAmong}
use Rattle.pitch_join.proofs.Lists.{all_firsts, all_kept, all_zip}

-- ---- masters next to one another

-- two of so many masters
abbrev pub AreTwo : ℕ → ℕ × ℕ → Type 0
AreTwo count pair = (pair.0 < count) × (pair.1 < count)

abbrev IsRowOf : ℕ → List ℕ → Type 0
IsRowOf count row = AllByRecursion (λ m. m < count) row

neighbours_all : {A : Type 0} (P : A → Type 0) (xs : List A) → AllByRecursion P xs
    → AllByRecursion (λ (p : A × A). P p.0 × P p.1) (neighbours xs)
neighbours_all P [] h = tt
neighbours_all P (x ∷ []) h = tt
neighbours_all P (x ∷ y ∷ rest) h = ((h.0, h.1.0), neighbours_all P (y ∷ rest) h.1)

beside_two : (count : ℕ) (rows : List (List ℕ)) → AllByRecursion (IsRowOf count) rows
    → AllByRecursion (AreTwo count) (beside rows)
beside_two count rows h =
    all_flat (AreTwo count) neighbours rows
    (all_weaker (IsRowOf count) (λ row. AllByRecursion (AreTwo count) (neighbours row))
    (λ row of. neighbours_all (λ m. m < count) row of) rows h)

zipped_two : (count : ℕ) (pair : List ℕ × List ℕ) → IsRowOf count pair.0 × IsRowOf count pair.1
    → AllByRecursion (AreTwo count) (zipped_rows pair)
zipped_two count pair h = all_zip (λ m. m < count) (λ m. m < count) pair.0 pair.1 h.0 h.1

above_two : (count : ℕ) (rows : List (List ℕ)) → AllByRecursion (IsRowOf count) rows
    → AllByRecursion (AreTwo count) (above rows)
above_two count rows h =
    let P : List ℕ × List ℕ → Type 0 = λ pair. IsRowOf count pair.0 × IsRowOf count pair.1 in
    all_flat (AreTwo count) zipped_rows (neighbours rows)
    (all_weaker P (λ pair. AllByRecursion (AreTwo count) (zipped_rows pair)) (λ pair. zipped_two count pair)
    (neighbours rows) (neighbours_all (IsRowOf count) rows h))

-- the rows of a grid are as long as the first, so its columns are of masters too
abbrev IsLongRow : ℕ → ℕ → List ℕ → Type 0
IsLongRow count width row = IsRowOf count row × (length row ≡ width)

both_hold : {A : Type 0} (P Q : A → Type 0) (xs : List A) → AllByRecursion P xs → AllByRecursion Q xs
    → AllByRecursion (λ x. P x × Q x) xs
both_hold P Q [] h g = tt
both_hold P Q (x ∷ xs) h g = ((h.0, g.0), both_hold P Q xs h.1 g.1)

column_of : (count width c : ℕ) (rows : List (List ℕ)) → c < width → AllByRecursion (IsLongRow count width) rows
    → IsRowOf count (column_at rows c)
column_of count width c rows lt h =
    all_map (λ m. m < count) (λ row. get_or row c 0) rows
    (all_weaker (IsLongRow count width) (λ row. get_or row c 0 < count)
    (λ row both. let n = both.1 in all_at (λ m. m < count) row 0 c both.0 (omega arith)) rows h)

columns_two : (count : ℕ) (rows : List (List ℕ)) → IsRectangular rows → AllByRecursion (IsRowOf count) rows
    → AllByRecursion (AreTwo count) (above_by_columns rows)
columns_two count rows r h =
    let width : ℕ = length (first_row rows) in
    let E : List ℕ → Type 0 = λ row. length row ≡ width in
    let long = both_hold (IsRowOf count) E rows h (recursion_from_All E rows r.equal) in
    beside_two count (columns_of rows)
    (all_map (IsRowOf count) (column_at rows) (range_with_len 0 width)
    (all_numbers (λ c. IsRowOf count (column_at rows c)) 0 width
    (λ c ge lt. column_of count width c rows (omega arith) long)))

rows_of_masters : (count : ℕ) (rows : List (List ℕ)) → AreOfMasters count rows → AllByRecursion (IsRowOf count) rows
rows_of_masters count rows h =
    let A : List ℕ → Type 0 = λ row. All (λ m. m < count) row in
    all_weaker A (IsRowOf count) (λ row of. recursion_from_All (λ m. m < count) row of) rows
    (recursion_from_All A rows h)

-- a grid of a plan
abbrev IsGridOf : ℕ → List (List ℕ) → Type 0
IsGridOf count rows = IsRectangular rows × AreOfMasters count rows

sharing_two : (axis : Axis) (count : ℕ) (rows : List (List ℕ)) → IsGridOf count rows
    → AllByRecursion (AreTwo count) (sharing axis rows)
sharing_two X count rows h = columns_two count rows h.0 (rows_of_masters count rows h.1)
sharing_two Y count rows h = beside_two count rows (rows_of_masters count rows h.1)

meeting_two : (axis : Axis) (count : ℕ) (rows : List (List ℕ)) → IsGridOf count rows
    → AllByRecursion (AreTwo count) (meeting axis rows)
meeting_two X count rows h = above_two count rows (rows_of_masters count rows h.1)
meeting_two Y count rows h = beside_two count rows (rows_of_masters count rows h.1)

-- ---- masters whose borders are equal

two_apart : (a b : ℕ) → is_of_two (a, b) ≡ true → a ≢ b
two_apart a b t same = let e = eq-eqb a b same in cc

same_among : (count : ℕ) (pair : ℕ × ℕ) → AreTwo count pair → is_of_two pair ≡ true → IsSameAmong count (same_of pair)
same_among count (a, b) h t = record { a = h.0; b = h.1; apart = two_apart a b t }

pitch_of_among : (axis : Axis) (count : ℕ) (grids : List (List (List ℕ))) → AllByRecursion (IsGridOf count) grids
    → AllByRecursion (IsSameAmong count) (pitch_of axis grids)
pitch_of_among axis count grids h =
    let P : ℕ × ℕ → Type 0 = λ pair. IsSameAmong count (same_of pair) in
    let pairs = flat_map (sharing axis) grids in
    let two = all_flat (AreTwo count) (sharing axis) grids
    (all_weaker (IsGridOf count) (λ rows. AllByRecursion (AreTwo count) (sharing axis rows))
    (sharing_two axis count) grids h) in
    all_map (IsSameAmong count) same_of (firsts is_pair_either_way (filter is_of_two pairs))
    (all_firsts P is_pair_either_way (filter is_of_two pairs)
    (all_kept (AreTwo count) P is_of_two pairs (same_among count) two))

planned_grids : (ports : List (List CellPort)) (plan : Plan) → IsPlanOver ports plan
    → AllByRecursion (IsGridOf (length ports)) (grids_of plan)
planned_grids ports plan planned =
    both_hold IsRectangular (AreOfMasters (length ports)) (grids_of plan)
    (recursion_from_All IsRectangular (grids_of plan) planned.rectangular)
    (recursion_from_All (AreOfMasters (length ports)) (grids_of plan) planned.of_masters)

pub master_count : (masters : List Master) → length (ports_of_masters masters) ≡ length masters
master_count masters = length-map masters master_ports

pub pitch_of_plan : (axis : Axis) (plan : Plan) (masters : List Master) → IsPlanOver (ports_of_masters masters) plan
    → All (IsSameAmong (length masters)) (pitch_in axis plan)
pitch_of_plan axis plan masters planned =
    let ports = ports_of_masters masters in
    let N : ℕ → Type 0 = λ n. All (IsSameAmong n) (pitch_in axis plan) in
    let S : List Same → Type 0 = All (IsSameAmong (length ports)) in
    subst N (master_count masters)
    (subst S (sym (planned.pitch axis))
    (all_of (IsSameAmong (length ports)) (pitch_of axis (grids_of plan))
    (pitch_of_among axis (length ports) (grids_of plan) (planned_grids ports plan planned))))

pub pitch_among : (axis : Axis) (tech : Tech) (plan : Plan) (masters : List Master) → ArePlanned tech plan masters
    → All (IsSameAmong (length masters)) (pitch_in axis plan)
pitch_among axis tech plan masters planned = pitch_of_plan axis plan masters planned.planned

-- ---- ports that meet

-- a port of a cell has a wire, which runs as it reaches the port's side
abbrev pub IsWired : Cell → CellPort → Type 0
IsWired cell port = (port.wire < length cell.wires) × ((wire_at cell.wires port.wire).along ≡ axis_of port.side)

takes_along : (cell : Cell) (k : ℕ) (wire : Wire) (end : WireEnd) → end ≡ ends.Port k
    → Takes cell wire.layer wire.along end → axis_of (port_at cell.ports k).side ≡ wire.along
takes_along cell k wire end e takes =
    let T : WireEnd → Type 0 = Takes cell wire.layer wire.along in
    let t : Takes cell wire.layer wire.along (ends.Port k) = subst T e takes in
    t.1

ends_along : (tech : Tech) (cell : Cell) (k : ℕ) → IsSound tech cell → k < length cell.ports
    → axis_of (port_at cell.ports k).side ≡ (wire_at cell.wires (port_at cell.ports k).wire).along
ends_along tech cell k sound lt =
    let port = sound.ports k lt in
    let wire : Wire = wire_at cell.wires (port_at cell.ports k).wire in
    let is = wire_sound tech cell (port_at cell.ports k).wire sound port.wire in
    elim port.wired [
      | inl low ↦ takes_along cell k wire wire.low low is.takes_low
      | inr high ↦ takes_along cell k wire wire.high high is.takes_high
    ]

cell_wired : (tech : Tech) (cell : Cell) → IsSound tech cell → AllByRecursion (IsWired cell) (ports_of_cell cell)
cell_wired tech cell sound =
    all_map (IsWired cell) (seen_port cell.wires) cell.ports
    (by_number (λ (port : Port). IsWired cell (seen_port cell.wires port)) cell.ports no_port
    (λ k lt. ((sound.ports k lt).wire, sym (ends_along tech cell k sound lt))))

in_order_all : (P : CellPort → Type 0) (ports : List CellPort) → AllByRecursion P ports
    → AllByRecursion P (in_order ports)
unfolding in_order
in_order_all P ports h =
    all_flat P (λ rank. filter (has_rank rank) ports) port_ranks
    (all_numbers (λ rank. AllByRecursion P (filter (has_rank rank) ports)) 0 12288
    (λ rank ge lt. all_kept P P (has_rank rank) ports (λ port h t. h) h))

pub same_side : (a b : Side) → is_same_side a b ≡ true → a ≡ b
same_side Left Left t = refl
same_side Right Right t = refl
same_side Bottom Bottom t = refl
same_side Top Top t = refl
same_side _ _ t = absurd cc

-- the wires of a side's ports run as they reach it
abbrev IsCrossing : Axis → Cell → CellPort → Type 0
IsCrossing axis cell port = (port.wire < length cell.wires) × ((wire_at cell.wires port.wire).along ≡ crossing axis)

side_crossing : (axis : Axis) (side : Side) (cell : Cell) (ports : List CellPort) → axis_of side ≡ crossing axis
    → AllByRecursion (IsWired cell) ports → AllByRecursion (IsCrossing axis cell) (side_ports side ports)
side_crossing axis side cell ports across h =
    in_order_all (IsCrossing axis cell) (filter (is_on_side side) ports)
    (all_kept (IsWired cell) (IsCrossing axis cell) (is_on_side side) ports
    (λ port wired t. (wired.0, wired.1 ∙ (ap axis_of (same_side port.side side t) ∙ across))) h)

before_across : (axis : Axis) → axis_of (side_before axis) ≡ crossing axis
before_across X = refl
before_across Y = refl

after_across : (axis : Axis) → axis_of (side_after axis) ≡ crossing axis
after_across X = refl
after_across Y = refl

-- the ports of master m are its cell's
pub ports_at : (masters : List Master) (m : ℕ) → m < length masters
    → ports_of_master (ports_of_masters masters) m ≡ ports_of_cell (master_at masters m).cell
ports_at [] m lt = absurd (omega arith)
ports_at (x ∷ xs) zero lt = refl
ports_at (x ∷ xs) (suc m) lt = ports_at xs m (omega arith)

master_crossing : (axis : Axis) (side : Side) (tech : Tech) (masters : List Master) (m : ℕ)
    → axis_of side ≡ crossing axis → All (IsMaster tech) masters → m < length masters
    → AllByRecursion (λ port. IsCrossWire axis masters m port.wire)
    (side_ports side (ports_of_master (ports_of_masters masters) m))
master_crossing axis side tech masters m across each lt =
    let cell : Cell = (master_at masters m).cell in
    let W : CellPort → Type 0 = λ port. IsCrossWire axis masters m port.wire in
    let P : List CellPort → Type 0 = λ ports. AllByRecursion W (side_ports side ports) in
    subst P (sym (ports_at masters m lt))
    (all_weaker (IsCrossing axis cell) W (λ port h. record { master = lt; wire_among = h.0; along = h.1 })
    (side_ports side (ports_of_cell cell))
    (side_crossing axis side cell (ports_of_cell cell) across (cell_wired tech cell (each m no_master lt).sound)))

border_among : (axis : Axis) (tech : Tech) (masters : List Master) (pair : ℕ × ℕ) → All (IsMaster tech) masters
    → AreTwo (length masters) pair
    → AllByRecursion (IsMatchAmong axis masters) (matches_at axis (ports_of_masters masters) pair)
border_among axis tech masters pair each two =
    let A : CellPort → Type 0 = λ port. IsCrossWire axis masters pair.0 port.wire in
    let B : CellPort → Type 0 = λ port. IsCrossWire axis masters pair.1 port.wire in
    let ports = ports_of_masters masters in
    let before = master_crossing axis (side_before axis) tech masters pair.0 (before_across axis) each two.0 in
    let after = master_crossing axis (side_after axis) tech masters pair.1 (after_across axis) each two.1 in
    let P : CellPort × CellPort → Type 0 = λ met. A met.0 × B met.1 in
    all_map (IsMatchAmong axis masters) (match_of pair) (meeting_ports axis ports pair)
    (all_weaker P (λ met. IsMatchAmong axis masters (match_of pair met)) (λ met h. record { a = h.0; b = h.1 })
    (meeting_ports axis ports pair)
    (all_zip A B (ports_before axis ports pair) (ports_after axis ports pair) before after))

pub matches_of_plan : (axis : Axis) (tech : Tech) (plan : Plan) (masters : List Master) → All (IsMaster tech) masters
    → IsPlanOver (ports_of_masters masters) plan
    → All (IsMatchAmong axis masters) (matches_in axis plan)
matches_of_plan axis tech plan masters masters_are planned =
    let ports = ports_of_masters masters in
    let grids = grids_of plan in
    let count : ℕ = length ports in
    let M : Match → Type 0 = IsMatchAmong axis masters in
    let P : ℕ × ℕ → Type 0 = λ pair. AllByRecursion M (matches_at axis ports pair) in
    let L : List Match → Type 0 = All M in
    let n = master_count masters in
    let two = all_flat (AreTwo count) (meeting axis) grids
    (all_weaker (IsGridOf count) (λ rows. AllByRecursion (AreTwo count) (meeting axis rows)) (meeting_two axis count)
    grids (planned_grids ports plan planned)) in
    let each =
    all_weaker (AreTwo count) P
    (λ pair h. let a = h.0 in let b = h.1 in border_among axis tech masters pair masters_are
    (omega arith, omega arith)) (borders_of axis grids) two in
    subst L (sym (planned.matched axis))
    (all_of M (ports_matched axis ports grids)
    (all_flat M (matches_at axis ports) (firsts is_pair (borders_of axis grids))
    (all_firsts P is_pair (borders_of axis grids) each)))

pub matches_among : (axis : Axis) (tech : Tech) (plan : Plan) (masters : List Master) → ArePlanned tech plan masters
    → All (IsMatchAmong axis masters) (matches_in axis plan)
matches_among axis tech plan masters planned = matches_of_plan axis tech plan masters planned.each planned.planned
