use Rattle.std.proofs.Common.{List, ℤ, ◌≡◌, ◌∙◌, ◌++◌, ◌∷◌, [], ap, map, pos, sym, to_z, of_z, w64, get_or, true, false}
use Rattle.std.{proofs.lemmas.List.append-nil, specs.List.flat_map}
use Rattle.rule_table.specs.declared.classes.Layer.TheVariants.{Diffusion}
use Rattle.cell_model.specs.{declared.cell.{Axis2.TheVariants.Across, Node.Node, Wire.Wire}, Wiring.is_same_axis}
use Rattle.cell_model.specs.declared.cell.WireEnd.TheVariants as ends
use Rattle.coarse_grid.specs.Start.{node_line, place, far_border, cross_places, start_values}
use Rattle.coarse_grid.proofs.{Folds.{all_read, list_map_on, list_flat_on}, Starts.{holds_near, holds_pitch}}
use Rattle.coarse_grid.proofs.{Starts.{cross_there, cross_missing}, layout.values.Goals.then-not-is_same+in_ok-push-4}
use Rattle.coarse_grid.proofs.layout.values.Goals.{else-not-is_same}
use Rattle.coarse_grid.proofs.layout.values.Goals as goal

-- what a wire past the end would be read as
abbrev read_wire : Wire
read_wire = record { layer = Diffusion; width = pos 0; low = ends.Node 0; high = ends.Node 0; along = Across }

pub loop-node-preserved : goal.loop-node-preserved
loop-node-preserved c =
    let cell = c.args.cell.now in
    let pitch = to_z w64 (of_z w64 c.args.pitch) in
    let next : to_z w64 (of_z w64 c.place-in-loop-node.result)
    ≡ place pitch
    (node_line c.args.axis (get_or c.as_slice-node-items.result.now c.loop-node.node-index c.node-item.result)) =
    holds_near c.place-in-loop-node.result c.place-in-loop-node.ensures.near
    ∙ (c.place-in-loop-node.ensures.value
    ∙ (ap (place pitch) c.node_line.ensures
    ∙ ap (λ (node : Node). place pitch (node_line c.args.axis node)) c.node-item.is)) in
    list_map_on (λ (node : Node). place pitch (node_line c.args.axis node))
    (pos 0 ∷ far_border pitch c.args.axis cell ∷ []) c.as_slice-node-items.result.now cell.nodes
    c.loop-node.node-index
    c.node-item.result _ _ c.as_slice-node-items.ensures c.loop-node-test.true c.loop-node.invariant
    (◌∙◌ {A = List ℤ} c.in_ok-push-3.ensures.items (ap (λ z. c.loop-node.values.items ++ z ∷ []) next))

pub loop-wire-preserved : goal.loop-wire-preserved
loop-wire-preserved c =
    let cell = c.args.cell.now in
    let pitch = to_z w64 (of_z w64 c.args.pitch) in
    let read = c.as_slice-wire-items.result.now in
    let wire : Wire = get_or read c.loop-wire.wire-index read_wire in
    let now = c.loop-wire.values.items in
    let next = list_flat_on (cross_places pitch c.args.axis cell)
    (pos 0 ∷ far_border pitch c.args.axis cell ∷ map (λ (node : Node). place pitch (node_line c.args.axis node))
    cell.nodes) read cell.wires
    c.loop-wire.wire-index read_wire now c.if-not-is_same.values.items c.as_slice-wire-items.ensures
    c.loop-wire-test.true c.loop-wire.invariant in
    elim c.if-not-is_same.branch [
      | then-not-is_same+in_ok-push-4 w ↦
          let apart : is_same_axis c.args.axis wire.along ≡ false = sym c.is_same.ensures ∙ w.if-not-is_same.true in
          let at = w.place-then-not-is_same in
          let value = holds_near at.result at.ensures.near
          ∙ (at.ensures.value ∙ ap (place pitch) w.line.ensures.value) in
          next (ap (λ v. v.items) w.values-is
          ∙ (w.in_ok-push-4.ensures.items
          ∙ ap (λ zs. now ++ zs) (ap (λ z. z ∷ []) value ∙ sym (cross_there pitch c.args.axis cell wire apart))))
      | else-not-is_same w ↦
          let same : is_same_axis c.args.axis wire.along ≡ true = sym c.is_same.ensures ∙ w.if-not-is_same.false in
          next (ap (λ v. v.items) w.values-is
          ∙ (sym (append-nil now) ∙ ap (λ zs. now ++ zs) (sym (cross_missing pitch c.args.axis cell wire same))))
    ]

pub returns : goal.returns
returns c =
    let cell = c.args.cell.now in
    let pitch = to_z w64 (of_z w64 c.args.pitch) in
    record {
      value = c.loop-wire.invariant
          ∙ (ap (λ wires. pos 0 ∷ far_border pitch c.args.axis cell ∷
          (map (λ (node : Node). place pitch (node_line c.args.axis node)) cell.nodes
          ++ flat_map (cross_places pitch c.args.axis cell) wires))
          (all_read c.as_slice-wire-items.result.now cell.wires c.loop-wire.wire-index c.as_slice-wire-items.ensures
          c.loop-wire-test.false)
          ∙ ap (λ p. start_values p c.args.axis cell) (holds_pitch c.args.pitch c.requires.pitch));
    }
