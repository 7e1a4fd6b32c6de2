-- Cross coordinates, one wire at a time.
use Rattle.std.proofs.Common.{◌≡◌, ℕ, ◌+◌, ◌<◌, List, [], ◌∷◌, ◌++◌, length, get_or, take, cond, refl, sym, ap, ◌∙◌}
use Rattle.std.proofs.{Common.{subst, arith, inl, inr, ◌⊎◌}, lemmas.List.{take_more, get_or_default, length_push}}
use Rattle.std.{proofs.lemmas.List.{get_or_append_left, get_or_push, Sums.sum_by_push}, specs.Prelude.slice_index}
use Rattle.cell_model.specs.declared.cell.{Axis2.{Axis2, TheVariants.{Across, Up}}, Wire.Wire, Cell.Cell}
use Rattle.cell_model.specs.{Wiring.is_same_axis, Sound.{wire_at, no_wire}}
use Rattle.expand.specs.{Variables.{running, cross_of}, Bounds.AreCrosses}

-- one more wire runs along an axis, or does not
pub running_more : (along : Axis2) (wires : List Wire) (k : ℕ) → k < length wires
    → running along (take (k + 1) wires) ≡ running along (take k wires) + cond
    (is_same_axis (wire_at wires k).along along) 1 0
running_more along wires k lt =
    ap (running along) (take_more wires k no_wire lt)
    ∙ sum_by_push (λ (w : Wire). cond (is_same_axis w.along along) 1 0) (take k wires) (wire_at wires k)

-- an index below k + 1 is below k, or k
below_cases : (j k : ℕ) → j < k + 1 → (j < k) ⊎ (j ≡ k)
below_cases j k lt = grind arith

-- one more cross coordinate
crosses_push : (cell : Cell) (k v : ℕ) (xs : List ℕ) → AreCrosses cell k xs → v ≡ cross_of cell k
    → AreCrosses cell (k + 1) (xs ++ v ∷ [])
crosses_push cell k v xs h e =
    let n = h.counted in
    let l = length_push xs v in
    record {
      counted = omega arith;
      each = λ j lt. elim (below_cases j k lt) [
        | inl b ↦ get_or_append_left xs (v ∷ []) 0 j (omega arith) ∙ h.each j b
        | inr same ↦
            (let P : ℕ → Type 0 = λ i. slice_index (xs ++ v ∷ []) i
            ≡ cross_of cell i in subst P (sym same) (get_or_push xs v 0 k n ∙ e))
      ];
    }

-- the next variable of the axis that a wire crosses
next_is : (cell : Cell) (k across up v : ℕ) (along : Axis2)
    → (along ≡ Across → v ≡ across) → (along ≡ Up → v ≡ up)
    → across ≡ 2 + length cell.nodes + running Across (take k cell.wires)
    → up ≡ 2 + length cell.nodes + running Up (take k cell.wires)
    → v ≡ 2 + length cell.nodes + running along (take k cell.wires)
next_is cell k across up v Across a u ea eu = a refl ∙ ea
next_is cell k across up v Up a u ea eu = u refl ∙ eu

-- what the loop over the wires knows
pub record CrossesSoFar (cell : Cell) (k across up : ℕ) (crosses : List ℕ) : Type 0 where
  pub across_is : across ≡ 2 + length cell.nodes + running Across (take k cell.wires)
  pub up_is : up ≡ 2 + length cell.nodes + running Up (take k cell.wires)
  pub are : AreCrosses cell k crosses

pub crosses_more : (cell : Cell) (k across up da du v : ℕ) (along : Axis2) (xs ys : List ℕ) → k < length cell.wires
    → along ≡ (wire_at cell.wires k).along
    → (along ≡ Across → v ≡ across) → (along ≡ Up → v ≡ up) → da ≡ cond (is_same_axis along Across) 1 0
    → du ≡ cond (is_same_axis along Up) 1 0
    → CrossesSoFar cell k across up xs → ys ≡ xs ++ v ∷ []
    → CrossesSoFar cell (k + 1) (across + da) (up + du) ys
crosses_more cell k across up da du v along xs ys lt is a u ea eu h e =
    let P : List ℕ → Type 0 = AreCrosses cell (k + 1) in
    let wire : Axis2 = (wire_at cell.wires k).along in
    let v_is : v ≡ cross_of cell k = next_is cell k across up v along a u h.across_is h.up_is
    ∙ ap (λ (x : Axis2). 2 + length cell.nodes + running x (take k cell.wires)) is in
    let ra = running_more Across cell.wires k lt in
    let ru = running_more Up cell.wires k lt in
    let da_is : da ≡ cond (is_same_axis wire Across) 1 0 = ea
    ∙ ap (λ (x : Axis2). cond (is_same_axis x Across) 1 0) is in
    let du_is : du ≡ cond (is_same_axis wire Up) 1 0 = eu ∙ ap (λ (x : Axis2). cond (is_same_axis x Up) 1 0) is in
    let ha = h.across_is in
    let hu = h.up_is in
    record { across_is = omega arith; up_is = omega arith; are = subst P (sym e) (crosses_push cell k v xs h.are v_is) }

-- the run of the wire that a loop reads
pub along_read : (ws wires : List Wire) (k : ℕ) (d : Wire) → ws ≡ wires → k < length ws
    → (get_or ws k d).along ≡ (wire_at wires k).along
along_read ws wires k d e lt =
    ap (λ (w : Wire). w.along) (get_or_default ws k d no_wire lt) ∙ ap (λ (vs : List Wire). (wire_at vs k).along) e

-- the wire that a loop reads
pub wire_read : (ws wires : List Wire) (k : ℕ) (d : Wire) → ws ≡ wires → k < length ws → get_or ws k d ≡ wire_at wires k
wire_read ws wires k d e lt = get_or_default ws k d no_wire lt ∙ ap (λ (vs : List Wire). wire_at vs k) e
