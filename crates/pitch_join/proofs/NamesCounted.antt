-- There is a name for each joint variable.
use Rattle.std.proofs.Common.{◌≡◌, ℕ, suc, ◌+◌, ◌<◌, cond, List, [], ◌∷◌, ◌++◌, length, map, refl, sym, ap, ◌∙◌, arith}
use Rattle.std.proofs.lemmas.List.{length-append, length-map, Sums.sum_by-cons}
use Rattle.std.specs.List.{flat_map, range_with_len, sum_by}
use Rattle.lam_geom.specs.declared.boxes.Axis.{Axis, TheVariants.{X, Y}}
use Rattle.cell_model.specs.declared.cell.{Axis2.{Axis2, TheVariants.{Across, Up}}, Node.Node, Wire.Wire, Cell.Cell}
use Rattle.cell_model.specs.{Wiring.is_same_axis, Sound.wire_at}
use Rattle.expand.specs.{Variables.{running, crossing}, declared.master.Master.Master}
use Rattle.pitch_join.specs.Joined.{own_variables, system_variables}
use Rattle.pitch_join.specs.Names.{within_cell, cross_name_along, cross_name, names_of_master, system_names}

name_count : (axis : Axis) (cell : Cell) (k : ℕ) (along : Axis2)
    → length (cross_name_along axis cell k along) ≡ cond (is_same_axis along (crossing axis)) 1 0
name_count X cell k Across = refl
name_count X cell k Up = refl
name_count Y cell k Across = refl
name_count Y cell k Up = refl

-- those of wires from number a on, of which ws is the list
crosses_count : (axis : Axis) (cell : Cell) (a : ℕ) (ws : List Wire)
    → ((j : ℕ) → j < length ws → (wire_at cell.wires (a + j)).along ≡ (wire_at ws j).along)
    → length (flat_map (cross_name axis cell) (range_with_len a (length ws))) ≡ running (crossing axis) ws
crosses_count axis cell a [] same = refl
crosses_count axis cell a (w ∷ ws) same =
    let f : Wire → ℕ = λ v. cond (is_same_axis v.along (crossing axis)) 1 0 in
    let rest =
    crosses_count axis cell (a + 1) ws
    (λ j lt. let e : (a + 1) + j ≡ a + suc j = omega arith in ap (λ (k : ℕ). (wire_at cell.wires k).along) e
    ∙ same (suc j) (omega arith)) in
    let at : a + 0 ≡ a = omega arith in
    let first : (wire_at cell.wires a).along ≡ w.along = ap (λ (k : ℕ). (wire_at cell.wires k).along) (sym at)
    ∙ same 0 (omega arith) in
    let one : length (cross_name axis cell a) ≡ f w = name_count axis cell a (wire_at cell.wires a).along
    ∙ ap (λ (x : Axis2). cond (is_same_axis x (crossing axis)) 1 0) first in
    let total : running (crossing axis) (w ∷ ws) ≡ f w + running (crossing axis) ws = sum_by-cons f w ws in
    let parts : length (flat_map (cross_name axis cell) (range_with_len a (suc (length ws))))
    ≡ length (cross_name axis cell a) + length
    (flat_map (cross_name axis cell) (range_with_len (a + 1) (length ws))) =
    length-append (cross_name axis cell a)
    (flat_map (cross_name axis cell) (range_with_len (a + 1) (length ws))) in
    omega arith

own_counted : (axis : Axis) (master : Master) → length (names_of_master axis master) ≡ own_variables axis master
own_counted axis master =
    let cell : Cell = master.cell in
    let nodes = map (λ (node : Node). within_cell cell node.name) cell.nodes in
    let wires = flat_map (cross_name axis cell) (range_with_len 0 (length cell.wires)) in
    let a : length nodes ≡ length cell.nodes = length-map cell.nodes (λ (node : Node). within_cell cell node.name) in
    let b : length wires ≡ running (crossing axis) cell.wires =
    crosses_count axis cell 0 cell.wires
    (λ j lt. let e : 0 + j ≡ j = omega arith in ap (λ (k : ℕ). (wire_at cell.wires k).along) e) in
    let d : length (nodes ++ wires) ≡ length nodes + length wires = length-append nodes wires in
    omega arith

masters_counted : (axis : Axis) (masters : List Master)
    → length (flat_map (names_of_master axis) masters) ≡ sum_by (own_variables axis) masters
masters_counted axis [] = refl
masters_counted axis (m ∷ ms) =
    let parts : length (flat_map (names_of_master axis) (m ∷ ms))
    ≡ length (names_of_master axis m) + length (flat_map (names_of_master axis) ms) =
    length-append (names_of_master axis m) (flat_map (names_of_master axis) ms) in
    let total : sum_by (own_variables axis) (m ∷ ms) ≡ own_variables axis m + sum_by (own_variables axis) ms =
    sum_by-cons (own_variables axis) m ms in
    let first = own_counted axis m in
    let rest = masters_counted axis ms in
    omega arith

pub names_counted : (axis : Axis) (masters : List Master)
    → length (system_names axis masters) ≡ system_variables axis masters
names_counted axis masters = let h = masters_counted axis masters in omega arith
