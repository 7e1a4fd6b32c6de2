use Rattle.std.proofs.Common.{◌≡◌, ℕ, ◌+◌, ◌≤◌, length, vec_len, Some, sym, ap, subst, ◌∙◌, arith}
use Rattle.checked_cells.specs.CheckedCell.{known_at, cell_of}
use Rattle.checked_cells.specs.{Tables.known_of, Inlining.{cells_before, IsKept}}
use Rattle.checked_cells.proofs.{Built.{sound-known_at, light-cell_of}, Stepping.weight-apply}
use Rattle.checked_cells.proofs.{TableReads.{vec_len-tables, table_read}, StepsInlined.{built_cells, steps_read}}
use Rattle.checked_cells.proofs.StepsInlined.{none_read, at_step_read, step_was_read, all_read, IsCopyOf, StandsFor}
use Rattle.checked_cells.proofs.StepsInlined.{copy_at, room_for, places_fit, wires_fit, limits_fit, ends_of_sound}
use Rattle.cell_model.specs.Sound.{IsSound, IsLight}
use Rattle.checked_cells.proofs.cells.Cells.+inlining.Goals as goal

-- ---- one more line

pub add_step-take_or_inline-requires : goal.add_step-take_or_inline-requires
add_step-take_or_inline-requires t c =
    let cells = c.args.self.now in
    let copy : IsCopyOf cells c.args.cell c.requires.at.known c.in-Copy.used c.in-Copy.col c.in-Copy.row =
    subst (StandsFor cells c.args.cell c.requires.at.known) c.in-Copy.is
    (copy_at cells c.args.cell c.args.step.now c.args.parts.now c.requires.within c.requires.at) in
    (omega (arith, copy.earlier, c.decreases), (c.requires.resolved, (copy.within, (copy.light, c.requires.kept))))

-- the copy that a step stands for
copy_here : (t : ℕ) (c : goal.add_step-After-copied-in-Copy-1 t)
    → IsCopyOf c.args.self.now c.args.cell c.requires.at.known c.in-Copy.used c.in-Copy.col c.in-Copy.row
copy_here t c =
    let cells = c.args.self.now in
    subst (StandsFor cells c.args.cell c.requires.at.known) c.in-Copy.is
    (copy_at cells c.args.cell c.args.step.now c.args.parts.now c.requires.within c.requires.at)

room_here : (t : ℕ) (c : goal.add_step-After-copied-in-Copy-1 t)
    → vec_len c.args.parts.now.nodes + length c.in_ok-copied-in-Copy.copied.nodes ≤ 65536
room_here t c =
    let at = c.requires.at in
    room_for at.known (known_at (known_of c.args.self.now) c.in-Copy.used) c.args.parts.now
    c.in_ok-copied-in-Copy.copied at.held c.in_ok-copied-in-Copy.ensures.value (copy_here t c).room

pub add_step-add_copy-requires-clause-first : goal.add_step-add_copy-requires-clause-first
add_step-add_copy-requires-clause-first t c =
    omega (arith, (copy_here t c).room, c.args.parts.now.nodes.ok.0, ap length c.requires.at.held.nodes)

pub add_step-add_copy-requires-clause-nodes : goal.add_step-add_copy-requires-clause-nodes
add_step-add_copy-requires-clause-nodes t c =
    let copy = copy_here t c in places_fit c.args.self.now.tech c.in_ok-copied-in-Copy.copied c.in-Copy.col
    c.in-Copy.row c.in_ok-copied-in-Copy.ensures.sound copy.near_col copy.near_row

pub add_step-add_copy-requires-clause-wires : goal.add_step-add_copy-requires-clause-wires
add_step-add_copy-requires-clause-wires t c =
    wires_fit c.args.self.now.tech c.in_ok-copied-in-Copy.copied (vec_len c.args.parts.now.nodes)
    c.in_ok-copied-in-Copy.ensures.sound (room_here t c)

pub add_step-add_copy-requires-clause-limits : goal.add_step-add_copy-requires-clause-limits
add_step-add_copy-requires-clause-limits t c =
    limits_fit c.args.self.now.tech c.in_ok-copied-in-Copy.copied (vec_len c.args.parts.now.nodes)
    c.in_ok-copied-in-Copy.ensures.sound (room_here t c)

pub add_step-add_wire-requires : goal.add_step-add_wire-requires
add_step-add_wire-requires t c =
    let at = c.requires.at in
    let lighter = weight-apply (cells_before c.args.self.now c.args.cell) at.known c.args.step.now in
    omega (
      arith,
      light-cell_of at.known (omega (arith, lighter, at.light)),
      c.args.parts.now.wires.ok.0,
      ap length
          at.held.wires,
    )

pub add_step-returns-in-Node-clause-parts : goal.add_step-returns-in-Node-clause-parts
add_step-returns-in-Node-clause-parts t c = λ known held. rw c.in-Node.is (c.add_node.ensures known held)

pub add_step-returns-in-Port-clause-parts : goal.add_step-returns-in-Port-clause-parts
add_step-returns-in-Port-clause-parts t c = λ known held. rw c.in-Port.is (c.add_port.ensures known held)

pub add_step-returns-in_ok-add_copy-in-Copy-clause-parts : goal.add_step-returns-in_ok-add_copy-in-Copy-clause-parts
add_step-returns-in_ok-add_copy-in-Copy-clause-parts t c =
    let cells = c.args.self.now in
    let copy : IsCopyOf cells c.args.cell c.requires.at.known c.in-Copy.used c.in-Copy.col c.in-Copy.row =
    subst (StandsFor cells c.args.cell c.requires.at.known) c.in-Copy.is
    (copy_at cells c.args.cell c.args.step.now c.args.parts.now c.requires.within c.requires.at) in
    λ known held. rw c.in-Copy.is
    (c.in_ok-add_copy-in-Copy.ensures known (known_at (cells_before cells c.args.cell) c.in-Copy.used) c.in-Copy.used
    held (c.in_ok-copied-in-Copy.ensures.value ∙ ap cell_of (sym copy.same)))

pub add_step-returns-in-Wire-clause-parts : goal.add_step-returns-in-Wire-clause-parts
add_step-returns-in-Wire-clause-parts t c = λ known held. rw c.in-Wire.is (c.add_wire.ensures known held)

pub add_step-returns-in-Limit-clause-parts : goal.add_step-returns-in-Limit-clause-parts
add_step-returns-in-Limit-clause-parts t c = λ known held. rw c.in-Limit.is (c.add_limit.ensures known held)

-- ---- the whole cell

pub inline-index-table-requires : goal.inline-index-table-requires
inline-index-table-requires t c = omega (arith, vec_len-tables c.args.self.now c.requires.resolved, c.requires.within)

pub inline-loop-step-init : goal.inline-loop-step-init
inline-loop-step-init t c = record {
  read =
      none_read c.args.self.now c.args.cell c.as_slice-step-items.result.now c.new-parts.result c.requires.light
      (steps_read c.args.self.now c.args.cell c.index-table.result.now c.as_slice-step-items.result.now
      c.requires.resolved c.requires.within c.index-table.ensures
      c.as_slice-step-items.ensures.value) c.new-parts.ensures;
  kept = tt;
}

pub inline-add_step-requires : goal.inline-add_step-requires
inline-add_step-requires t c = (
  omega (arith, c.decreases),
  (
    c.requires.resolved,
    (
      c.requires.within,
      (
        at_step_read c.args.self.now c.args.cell c.as_slice-step-items.result.now c.loop-step.step-index _
            c.loop-step.parts c.requires.light
            (steps_read c.args.self.now c.args.cell c.index-table.result.now c.as_slice-step-items.result.now
            c.requires.resolved c.requires.within c.index-table.ensures c.as_slice-step-items.ensures.value)
            c.loop-step-test.true c.loop-step.invariant.read,
        c.loop-step.invariant.kept,
      ),
    ),
  ),
)

pub inline-loop-step-preserved : goal.inline-loop-step-preserved
inline-loop-step-preserved t c = record {
  read =
      step_was_read c.args.self.now c.args.cell c.as_slice-step-items.result.now c.loop-step.step-index _
      c.loop-step.parts c.add_step.new.parts c.loop-step-test.true
      c.loop-step.invariant.read c.in_ok-add_step.ensures.parts;
  kept = c.in_ok-add_step.ensures.kept;
}

-- the parts of all steps are those of the whole cell
whole : (t : ℕ) (c : goal.inline-Joined-last-3 t)
    → c.into_cell.result ≡ cell_of (known_at (known_of c.args.self.now) c.args.cell)
whole t c =
    all_read c.args.self.now c.args.cell c.as_slice-step-items.result.now c.loop-step.step-index c.loop-step.parts
    c.in_ok-name.name c.into_cell.result (omega arith) c.loop-step.invariant.read
    (c.in_ok-name.ensures
    ∙ (table_read c.args.self.now c.args.cell c.index-table.result.now c.requires.resolved c.requires.within
    c.index-table.ensures).tells.name) c.into_cell.ensures

-- and the cell is sound
sound : (t : ℕ) (c : goal.inline-Joined-last-3 t) → IsSound c.args.self.now.tech c.into_cell.result
sound t c =
    let cells = c.args.self.now in
    subst (IsSound cells.tech) (sym (whole t c))
    (sound-known_at cells.tech (known_of cells) c.args.cell (built_cells cells c.requires.resolved)
    c.requires.within)

pub inline-returns-clause-value : goal.inline-returns-clause-value
inline-returns-clause-value t c = whole t c

pub inline-returns-clause-sound : goal.inline-returns-clause-sound
inline-returns-clause-sound t c = sound t c

pub inline-returns-clause-light : goal.inline-returns-clause-light
inline-returns-clause-light t c =
    subst IsLight (sym (whole t c)) (light-cell_of (known_at (known_of c.args.self.now) c.args.cell) c.requires.light)

pub inline-returns-clause-ends : goal.inline-returns-clause-ends
inline-returns-clause-ends t c = ends_of_sound c.args.self.now.tech c.into_cell.result (sound t c)

-- ---- a cell that is kept

-- what was kept, and is the same cell, is what is asked for
kept_here : (t : ℕ) (c : goal.take_or_inline-Then-kept-number t)
    → c.in-Some.kept.cell ≡ cell_of (known_at (known_of c.args.self.now) c.args.number)
kept_here t c =
    let cells = c.args.self.now in
    let is : IsKept cells (Some c.in-Some.kept) =
    subst (IsKept cells) (sym c.take.ensures.value ∙ c.in-Some.is) c.requires.kept in
    is ∙ ap (λ k. cell_of (known_at (known_of cells) k)) c.if-kept-number.true

pub take_or_inline-returns-then-kept-number-clause-value : goal.take_or_inline-returns-then-kept-number-clause-value
take_or_inline-returns-then-kept-number-clause-value t c = kept_here t c

pub take_or_inline-returns-then-kept-number-clause-sound : goal.take_or_inline-returns-then-kept-number-clause-sound
take_or_inline-returns-then-kept-number-clause-sound t c =
    let cells = c.args.self.now in
    subst (IsSound cells.tech) (sym (kept_here t c))
    (sound-known_at cells.tech (known_of cells) c.args.number (built_cells cells c.requires.resolved)
    c.requires.within)
