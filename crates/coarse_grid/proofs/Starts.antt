-- The start values of a cell: near ones, one for each variable.
use Rattle.std.proofs.Common.{◌≡◌, ℕ, suc, ◌+◌, ◌*◌, ◌≤◌, true, false, cond, ℤ, pos, negsuc, to_z, of_z, w64, List, []}
use Rattle.std.proofs.{Common.{◌∷◌, ◌++◌, length, map, refl, sym, ap, ◌∙◌, inl, inr, arith}, Math.Nat.mul-le-mul}
use Rattle.std.proofs.lemmas.{Bool.cases_Bool, Int.ints, List.{length-append, length-map, Sums.sum_by-cons}}
use Rattle.std.specs.{Prelude.not, List.{AllByRecursion, flat_map}}
use Rattle.lam_geom.specs.declared.boxes.Axis.TheVariants.{X, Y}
use Rattle.cell_model.specs.declared.cell.{Axis2.{Axis2, TheVariants.{Across, Up}}, Node.Node, Wire.Wire}
use Rattle.cell_model.specs.declared.cell.{WireEnd.WireEnd, Cell.Cell}
use Rattle.cell_model.specs.{Wiring.is_same_axis, Sound.{IsEnd, no_node, line_at}}
use Rattle.cell_model.specs.declared.cell.WireEnd.TheVariants as ends
use Rattle.list_facts.proofs.Elements.{all_weaker, all_at, all_append, all_map, all_flat}
use Rattle.expand.specs.Variables.{running, variables_of}
use Rattle.coarse_grid.specs.{Near.{HasLines, StartsIn, AreLinesNear, IsNear, IsPitch}, Start.{node_line, last_line}}
use Rattle.coarse_grid.{specs.Start.{place, cross_places, start_values}, proofs.Lines.{line_near, last_near}}

-- a near number, as 64 bits hold it
pub holds_near : (z : ℤ) → IsNear z → to_z w64 (of_z w64 z) ≡ z
holds_near z h = let low = h.0 in let high = h.1 in omega (arith, ints)

pub holds_pitch : (z : ℤ) → IsPitch z → to_z w64 (of_z w64 z) ≡ z
holds_pitch z h = let low = h.0 in let high = h.1 in omega (arith, ints)

-- a line starts near
pub place_near : (pitch : ℤ) (line : ℕ) → IsPitch pitch → line ≤ 4096 → IsNear (place pitch line)
unfolding place
place_near (pos p) line h le =
    let small : p ≤ 16384 = omega (arith, ints, h.1) in
    let more : line + 1 ≤ 4097 = omega arith in
    let product : p * (line + 1) ≤ 16384 * 4097 = mul-le-mul small more in
    (omega (arith, ints), omega (arith, ints, product))
place_near (negsuc p) line h le = absurd (omega (arith, ints, h.0))

-- the row or column of a terminal
pub end_line_near : (cell : Cell) (along : Axis2) (end : WireEnd) → AreLinesNear cell → IsEnd cell end
    → line_at cell along end ≤ 4095
end_line_near cell Across (ends.Node k) h lt = (all_at HasLines cell.nodes no_node k h.nodes lt).1
end_line_near cell Up (ends.Node k) h lt = (all_at HasLines cell.nodes no_node k h.nodes lt).0
end_line_near cell Across (ends.Port k) h lt = h.ports k lt
end_line_near cell Up (ends.Port k) h lt = h.ports k lt

cross_near : (pitch : ℤ) (axis : Axis2) (cell : Cell) (wire : Wire) → IsPitch pitch → AreLinesNear cell
    → StartsIn cell wire → AllByRecursion IsNear (cross_places pitch axis cell wire)
cross_near pitch axis cell wire p h starts =
    let from = place pitch (line_at cell wire.along wire.low) in
    let near = place_near pitch (line_at cell wire.along wire.low) p
    (let le = end_line_near cell wire.along wire.low h starts in omega arith) in
    let P : List ℤ → Type 0 = λ zs. AllByRecursion IsNear zs in
    elim (is_same_axis axis wire.along) as (λ b. P (cond b [] (from ∷ []))) [ true ↦ tt | false ↦ (near, tt) ]

pub start_near : (pitch : ℤ) (axis : Axis2) (cell : Cell) → IsPitch pitch → AreLinesNear cell
    → AllByRecursion IsNear (start_values pitch axis cell)
start_near pitch axis cell p h =
    let far = place_near pitch (last_line axis cell + 1) p (let le = last_near axis cell h in omega arith) in
    let centres = all_map IsNear (λ (node : Node). place pitch (node_line axis node)) cell.nodes
    (all_weaker HasLines (λ (node : Node). IsNear (place pitch (node_line axis node)))
    (λ node lines. place_near pitch (node_line axis node) p (let le = line_near axis node lines in omega arith))
    cell.nodes h.nodes) in
    let crosses = all_flat IsNear (cross_places pitch axis cell) cell.wires
    (all_weaker (StartsIn cell) (λ (wire : Wire). AllByRecursion IsNear (cross_places pitch axis cell wire))
    (λ wire starts. cross_near pitch axis cell wire p h starts) cell.wires h.wires) in (
      (omega (arith, ints), omega (arith, ints)),
      (
        far,
        all_append IsNear (map (λ (node : Node). place pitch (node_line axis node)) cell.nodes)
            (flat_map (cross_places pitch axis cell) cell.wires) centres crosses,
      ),
    )

-- the cross coordinate of a wire on an axis, where it has one and where it has none
pub cross_there : (pitch : ℤ) (axis : Axis2) (cell : Cell) (wire : Wire) → is_same_axis axis wire.along ≡ false
    → cross_places pitch axis cell wire ≡ place pitch (line_at cell wire.along wire.low) ∷ []
cross_there pitch axis cell wire e = rw e refl

pub cross_missing : (pitch : ℤ) (axis : Axis2) (cell : Cell) (wire : Wire) → is_same_axis axis wire.along ≡ true
    → cross_places pitch axis cell wire ≡ []
cross_missing pitch axis cell wire e = rw e refl

-- none and one, with a sum
pub none_more : (n : ℕ) → 0 + n ≡ n
none_more n = omega arith

pub one_more : (n : ℕ) → 1 + n ≡ suc n
one_more n = omega arith

-- how many start values there are
crosses_counted : (pitch : ℤ) (axis other : Axis2) (cell : Cell) (wires : List Wire)
    → ((along : Axis2) → is_same_axis along other ≡ not (is_same_axis axis along))
    → length (flat_map (cross_places pitch axis cell) wires) ≡ running other wires
crosses_counted pitch axis other cell [] e = refl
crosses_counted pitch axis other cell (wire ∷ wires) e =
    let crosses = flat_map (cross_places pitch axis cell) wires in
    let rest : length crosses ≡ running other wires = crosses_counted pitch axis other cell wires e in
    let total : running other (wire ∷ wires) ≡ cond (is_same_axis wire.along other) 1 0 + running other wires =
    sum_by-cons (λ (w : Wire). cond (is_same_axis w.along other) 1 0) wire wires in
    elim (cases_Bool (is_same_axis axis wire.along)) [
      | inl same ↦
          let here : length (flat_map (cross_places pitch axis cell) (wire ∷ wires)) ≡ length crosses =
          ap (λ zs. length (zs ++ crosses)) (cross_missing pitch axis cell wire same) in
          let apart : cond (is_same_axis wire.along other) 1 0 ≡ 0 = rw (e wire.along, same) refl in
          here ∙ (rest ∙ sym (total ∙ (ap (λ n. n + running other wires) apart ∙ none_more (running other wires))))
      | inr differ ↦
          let here : length (flat_map (cross_places pitch axis cell) (wire ∷ wires)) ≡ suc (length crosses) =
          ap (λ zs. length (zs ++ crosses)) (cross_there pitch axis cell wire differ) in
          let along : cond (is_same_axis wire.along other) 1 0 ≡ 1 = rw (e wire.along, differ) refl in
          here ∙ (ap (λ n. suc n) rest
          ∙ sym (total ∙ (ap (λ n. n + running other wires) along ∙ one_more (running other wires))))
    ]

across_is : (along : Axis2) → is_same_axis along Up ≡ not (is_same_axis Across along)
across_is Across = refl
across_is Up = refl

up_is : (along : Axis2) → is_same_axis along Across ≡ not (is_same_axis Up along)
up_is Across = refl
up_is Up = refl

counted : (pitch : ℤ) (axis other : Axis2) (cell : Cell)
    → ((along : Axis2) → is_same_axis along other ≡ not (is_same_axis axis along))
    → length (start_values pitch axis cell) ≡ 2 + length cell.nodes + running other cell.wires
counted pitch axis other cell e =
    let centres = map (λ (node : Node). place pitch (node_line axis node)) cell.nodes in
    let crosses = flat_map (cross_places pitch axis cell) cell.wires in
    let a : length (centres ++ crosses) ≡ length centres + length crosses = length-append centres crosses in
    let b : length centres ≡ length cell.nodes =
    length-map cell.nodes (λ (node : Node). place pitch (node_line axis node)) in
    let d : length crosses ≡ running other cell.wires = crosses_counted pitch axis other cell cell.wires e in
    omega arith

pub counted_x : (pitch : ℤ) (cell : Cell) → length (start_values pitch Across cell) ≡ variables_of X cell
counted_x pitch cell = counted pitch Across Up cell across_is

pub counted_y : (pitch : ℤ) (cell : Cell) → length (start_values pitch Up cell) ≡ variables_of Y cell
counted_y pitch cell = counted pitch Up Across cell up_is
