-- The start values of the borders, of the nodes' centres and of the wires' cross coordinates.
use Rattle.std.proofs.Common.{◌≡◌, ℕ, zero, suc, ◌+◌, ◌<◌, false, cond, ℤ, pos, List, [], ◌∷◌, ◌++◌, length, map}
use Rattle.std.proofs.{Common.{get_or, take, refl, sym, ◌∙◌, subst, inl, inr, arith}, lemmas.Bool.cases_Bool}
use Rattle.std.proofs.lemmas.List.{length-append, length-map, get_or-map, get_or_append_left, get_or-append-add}
use Rattle.std.{proofs.lemmas.List.Sums.sum_by-cons, specs.{Prelude.not, List.flat_map}}
use Rattle.sym_items.specs.Values.{value_of}
use Rattle.cell_model.specs.declared.cell.{Axis2.{Axis2, TheVariants.{Across, Up}}, Node.Node, Wire.Wire, Cell.Cell}
use Rattle.cell_model.specs.{Wiring.is_same_axis, Sound.{no_node, node_at, wire_at, line_at}}
use Rattle.expand.specs.Variables.{centre, running, cross_of}
use Rattle.coarse_grid.specs.Start.{node_line, place, far_border, cross_places, start_values}
use Rattle.coarse_grid.proofs.Starts.{cross_there, cross_missing, none_more, one_more}

past_two : (a b : ℤ) (xs : List ℤ) (k : ℕ) → get_or (a ∷ b ∷ xs) (2 + k) (pos 0) ≡ get_or xs k (pos 0)
past_two a b xs k = let e : 2 + k ≡ suc (suc k) = omega arith in rw e refl

pub centre_value : (pitch : ℤ) (axis : Axis2) (cell : Cell) (k : ℕ) → k < length cell.nodes
    → (value_of (start_values pitch axis cell) (centre k) ≡ place pitch (node_line axis (node_at cell.nodes k)))
    × (centre k < length (start_values pitch axis cell))
centre_value pitch axis cell k lt =
    let at = λ (node : Node). place pitch (node_line axis node) in
    let centres = map at cell.nodes in
    let crosses = flat_map (cross_places pitch axis cell) cell.wires in
    let a : length (centres ++ crosses) ≡ length centres + length crosses = length-append centres crosses in
    let b : length centres ≡ length cell.nodes = length-map cell.nodes at in (
      past_two (pos 0) (far_border pitch axis cell) (centres ++ crosses) k
          ∙ (get_or_append_left centres crosses (pos 0) k (omega arith)
          ∙ get_or-map at cell.nodes k no_node (pos 0) lt),
      omega arith,
    )

-- the cross coordinate of wire k stands after those of the wires before it that run the same way
crosses_at : (pitch : ℤ) (axis other : Axis2) (cell : Cell) (wires : List Wire) (k : ℕ)
    → ((along : Axis2) → is_same_axis along other ≡ not (is_same_axis axis along))
    → k < length wires → is_same_axis axis (wire_at wires k).along ≡ false
    → (get_or (flat_map (cross_places pitch axis cell) wires) (running other (take k wires)) (pos 0)
    ≡ place pitch (line_at cell (wire_at wires k).along (wire_at wires k).low))
    × (running other (take k wires) < length (flat_map (cross_places pitch axis cell) wires))
crosses_at pitch axis other cell [] k e lt differ = absurd (omega arith)
crosses_at pitch axis other cell (wire ∷ wires) zero e lt differ =
    let crosses = flat_map (cross_places pitch axis cell) wires in
    let P : List ℤ → Type 0 =
    λ zs. (get_or (zs ++ crosses) 0 (pos 0) ≡ place pitch (line_at cell wire.along wire.low))
    × (0 < length (zs ++ crosses)) in
    subst P (sym (cross_there pitch axis cell wire differ)) (refl, omega arith)
crosses_at pitch axis other cell (wire ∷ wires) (suc k) e lt differ =
    let crosses = flat_map (cross_places pitch axis cell) wires in
    let value = place pitch (line_at cell (wire_at wires k).along (wire_at wires k).low) in
    let rest = crosses_at pitch axis other cell wires k e (omega arith) differ in
    let before = running other (take k wires) in
    let total : running other (wire ∷ take k wires) ≡ cond (is_same_axis wire.along other) 1 0 + before =
    sum_by-cons (λ (w : Wire). cond (is_same_axis w.along other) 1 0) wire (take k wires) in
    let P : List ℤ → ℕ → Type 0 = λ zs n. (get_or (zs ++ crosses) n (pos 0) ≡ value) × (n < length (zs ++ crosses)) in
    let N : List ℤ → Type 0 = λ zs. P zs (running other (wire ∷ take k wires)) in
    elim (cases_Bool (is_same_axis axis wire.along)) [
      | inl same ↦
          let here : running other (wire ∷ take k wires) ≡ before = total
          ∙ rw (e wire.along, same) (none_more before) in
          let M : ℕ → Type 0 = λ n. P [] n in
          subst N (sym (cross_missing pitch axis cell wire same)) (subst M (sym here) rest)
      | inr apart ↦
          let here : running other (wire ∷ take k wires) ≡ suc before = total
          ∙ rw (e wire.along, apart) (one_more before) in
          let first = place pitch (line_at cell wire.along wire.low) in
          let M : ℕ → Type 0 = λ n. P (first ∷ []) n in
          let less : before < length crosses = rest.1 in
          subst N (sym (cross_there pitch axis cell wire apart)) (subst M (sym here) (rest.0, omega arith))
    ]

-- of two axes that differ, the one is not the other
other_is : (axis other : Axis2) → is_same_axis axis other ≡ false → (along : Axis2)
    → is_same_axis along other ≡ not (is_same_axis axis along)
other_is Across Across e along = absurd cc
other_is Across Up e Across = refl
other_is Across Up e Up = refl
other_is Up Across e Across = refl
other_is Up Across e Up = refl
other_is Up Up e along = absurd cc

pub cross_value : (pitch : ℤ) (axis : Axis2) (cell : Cell) (k : ℕ) → k < length cell.wires
    → is_same_axis axis (wire_at cell.wires k).along ≡ false
    → (value_of (start_values pitch axis cell) (cross_of cell k)
    ≡ place pitch (line_at cell (wire_at cell.wires k).along (wire_at cell.wires k).low)) × (cross_of cell k <
    length (start_values pitch axis cell))
cross_value pitch axis cell k lt differ =
    let at = λ (node : Node). place pitch (node_line axis node) in
    let centres = map at cell.nodes in
    let crosses = flat_map (cross_places pitch axis cell) cell.wires in
    let other = (wire_at cell.wires k).along in
    let c = crosses_at pitch axis other cell cell.wires k (other_is axis other differ) lt differ in
    let n = running other (take k cell.wires) in
    let less : n < length crosses = c.1 in
    let a : length (centres ++ crosses) ≡ length centres + length crosses = length-append centres crosses in
    let b : length centres ≡ length cell.nodes = length-map cell.nodes at in
    let place_of : cross_of cell k ≡ 2 + (length centres + n) = omega arith in
    let P : ℕ → Type 0 =
    λ v. (value_of (start_values pitch axis cell) v ≡ place pitch (line_at cell other (wire_at cell.wires k).low))
    × (v < length (start_values pitch axis cell)) in
    subst P (sym place_of) (
      past_two (pos 0) (far_border pitch axis cell) (centres ++ crosses) (length centres + n)
          ∙ (get_or-append-add centres crosses n (pos 0) ∙ c.0),
      omega arith,
    )
