-- The nodes and the wires of a cell with a jog, and their parts, under the new numbers.
use Rattle.std.proofs.Common.{◌≡◌, ◌≢◌, ℕ, suc, ◌+◌, ◌-◌, ◌<◌, ◌≤◌, List, ◌∷◌, length, inl, inr, refl, sym, ap, subst}
use Rattle.std.proofs.{Common.{◌∙◌, arith}, lemmas.List.{length-append, get_or_append_left, get_or-append_right}}
use Rattle.std.proofs.lemmas.{List.{Elements.{length_all_zip, AllZip-get_or}, Sums.sum_by-take-le}, Bool.cases_lt}
use Rattle.std.{proofs.lemmas.Bool.Decides.nat_tests, specs.List.AllZip}
use Rattle.cell_model.specs.{declared.cell.{Node.Node, WireEnd.WireEnd, Wire.Wire}, Sound.{node_at, wire_at, no_wire}}
use Rattle.cell_model.specs.Nets.{kind_parts, node_parts, first_part}
use Rattle.cell_model.specs.declared.cell.WireEnd.TheVariants as ends
use Rattle.checked_cells.specs.CheckedCell.{CheckedCell, cell_of}
use Rattle.jog_insert.specs.Bends.{Bend}
use Rattle.jog_nets.specs.Parts.{node_after, wire_after, IsEndAfter, IsWireAfter, KeepsParts}
use Rattle.jog_nets.proofs.{Turned.{moved_node, IsMovedEnd}, Parts.{AreInserted, length_new, node_moved, part_moved}}
use Rattle.jog_nets.proofs.Parts.{parts_before, node_parts_inserted, moved_number, moved_between, moved_above}
use Rattle.jog_nets.proofs.Moved.{IsMovedWire, AreWiresBent}

after_few : (k j : ℕ) → j ≤ k → wire_after k j ≡ j
after_few k j le = grind (arith, nat_tests)

after_more : (k j : ℕ) → k < j → wire_after k j ≡ j + 2
after_more k j lt = grind (arith, nat_tests)

end_after : (at : ℕ) (old new : CheckedCell) (end its : WireEnd) → IsMovedEnd at old new end its → IsEndAfter at end its
end_after at old new (ends.Node i) (ends.Node j) e = ap (λ n. ends.Node n) e.1
end_after at old new (ends.Port i) (ends.Port j) e = (j, refl)
end_after at old new (ends.Node i) (ends.Port j) e = absurd e
end_after at old new (ends.Port i) (ends.Node j) e = absurd e

-- each wire but the bent one
wire_kept : (at k : ℕ) (old new : CheckedCell) → AreWiresBent at k old new → (j : ℕ) → j < length old.wires → j ≢ k
    → IsWireAfter at (wire_at old.wires j) (wire_at new.wires (wire_after k j))
wire_kept at k old new h j lt other = elim (cases_lt j k) [
  | inl less ↦ is_after (wire_at old.wires j) (wire_at new.wires (wire_after k j)) (at_before less)
  | inr le ↦ is_after (wire_at old.wires j) (wire_at new.wires (wire_after k j)) (at_after (omega (arith, le, other)))
]
  where
    is_after : (wire its : Wire) → IsMovedWire at old new wire its → IsWireAfter at wire its
    is_after wire its moved =
        record {
          layer = moved.layer;
          low = end_after at old new wire.low its.low moved.low;
          high = end_after at old new wire.high its.high moved.high;
        }

    moved_at : (wires its_wires : List Wire) (i : ℕ) (wire its : Wire)
        → AllZip (IsMovedWire at old new) wires its_wires → i < length wires → wire ≡ wire_at wires i
        → its ≡ wire_at its_wires i
        → IsMovedWire at old new wire its
    moved_at wires its_wires i wire its zip less e g =
        subst (λ (w : Wire). IsMovedWire at old new w its) (sym e)
        (subst (λ (w : Wire). IsMovedWire at old new (wire_at wires i) w) (sym g)
        (AllZip-get_or (IsMovedWire at old new) wires its_wires i no_wire no_wire zip less))

    at_before : j < k → IsMovedWire at old new (wire_at old.wires j) (wire_at new.wires (wire_after k j))
    at_before less =
        let prefix : j < length h.before = omega (arith, less, h.count) in
        let its_prefix : j < length h.its_before =
        omega (arith, prefix, length_all_zip (IsMovedWire at old new) h.before h.its_before h.before_moved) in
        moved_at h.before h.its_before j (wire_at old.wires j) (wire_at new.wires (wire_after k j)) h.before_moved
        prefix
        (ap (λ (wires : List Wire). wire_at wires j) h.old_wires
        ∙ get_or_append_left h.before (h.wire ∷ h.after) no_wire j prefix)
        (ap (wire_at new.wires) (after_few k j (omega arith)) ∙ ap (λ (wires : List Wire). wire_at wires j) h.new_wires
        ∙ get_or_append_left h.its_before (h.first ∷ h.middle ∷ h.last ∷ h.its_after) no_wire j its_prefix)

    at_after : k < j → IsMovedWire at old new (wire_at old.wires j) (wire_at new.wires (wire_after k j))
    at_after more =
        let i : ℕ = j - k - 1 in
        let count : length old.wires ≡ length h.before + suc (length h.after) = ap length h.old_wires
        ∙ length-append h.before (h.wire ∷ h.after) in
        let its_count : length h.its_before ≡ k =
        sym (length_all_zip (IsMovedWire at old new) h.before h.its_before h.before_moved) ∙ h.count in
        let place : j - k ≡ suc i = omega arith in
        let its_place : (j + 2) - k ≡ suc (suc (suc i)) = omega arith in
        moved_at h.after h.its_after i (wire_at old.wires j) (wire_at new.wires (wire_after k j)) h.after_moved
        (omega (arith, count, h.count, lt))
        (ap (λ (wires : List Wire). wire_at wires j) h.old_wires
        ∙ get_or-append_right h.before (h.wire ∷ h.after) k j no_wire h.count (omega arith)
        ∙ ap (wire_at (h.wire ∷ h.after)) place)
        (ap (wire_at new.wires) (after_more k j more) ∙ ap (λ (wires : List Wire). wire_at wires (j + 2)) h.new_wires
        ∙ get_or-append_right h.its_before (h.first ∷ h.middle ∷ h.last ∷ h.its_after) k (j + 2) no_wire its_count
        (omega arith) ∙ ap (wire_at (h.first ∷ h.middle ∷ h.last ∷ h.its_after)) its_place)

-- the nodes and the wires, with their parts
pub parts_kept : (bend : Bend) (prefix back : List Node) (lower upper : Node) (old new : CheckedCell)
    → AreInserted bend prefix back lower upper old.nodes new.nodes → (k : ℕ)
    → AreWiresBent (length prefix) k old new → KeepsParts (cell_of old) (cell_of new) (length prefix) k
parts_kept bend prefix back lower upper old new are k h =
    let at : ℕ = length prefix in
    let place : ℕ = first_part old.nodes at in
    let n : ℕ = node_parts old.nodes in
    let few : place ≤ n = sum_by-take-le (λ (node : Node). kind_parts node.kind) old.nodes at in
    let more : node_parts new.nodes ≡ n + 2 =
    node_parts_inserted bend prefix back lower upper old.nodes new.nodes are in
    let joints = parts_before bend prefix back lower upper old.nodes new.nodes are in
    let there : (i : ℕ) → i < length old.nodes → (node_after at i < length new.nodes)
    × (node_at new.nodes (node_after at i) ≡ moved_node bend (node_at old.nodes i)) =
    node_moved bend prefix back lower upper old.nodes new.nodes are in
    let old_count : length old.wires ≡ length h.before + suc (length h.after) = ap length h.old_wires
    ∙ length-append h.before (h.wire ∷ h.after) in
    let new_count : length new.wires ≡ length h.its_before + suc (suc (suc (length h.its_after))) =
    ap length h.new_wires ∙ length-append h.its_before (h.first ∷ h.middle ∷ h.last ∷ h.its_after) in
    let same_before : length h.before ≡ length h.its_before =
    length_all_zip (IsMovedWire at old new) h.before h.its_before h.before_moved in
    let same_after : length h.after ≡ length h.its_after =
    length_all_zip (IsMovedWire at old new) h.after h.its_after h.after_moved in
    let part : (j : ℕ) → node_parts new.nodes + wire_after k j ≡ moved_number place n k (n + j) =
    λ j. elim (cases_lt k j) [
      | inl lt ↦ omega (arith, more, after_more k j lt, moved_above place n k (n + j) few (omega arith))
      | inr le ↦
          omega (arith, more, after_few k j le, moved_between place n k (n + j) (omega (arith, few)) (omega arith))
    ] in
    record {
      nodes = ap length are.new_nodes ∙ length_new bend prefix back lower upper
          ∙ omega (arith, ap length are.old_nodes, length-append prefix back);
      name = λ i lt. ap (λ (node : Node). node.name) (there i lt).1;
      kind = λ i lt. ap (λ (node : Node). node.kind) (there i lt).1;
      parts = λ i d lt less. part_moved bend prefix back lower upper old.nodes new.nodes are k i d lt less;
      joints = (joints.1 ∙ sym joints.0, joints.2 ∙ ap (λ x. x + 1) (sym joints.0));
      wires = omega (arith, old_count, new_count, same_before, same_after);
      wire = λ j lt other. wire_kept at k old new h j lt other;
      part = λ j lt. part j;
    }
