use Rattle.std.proofs.Common.{◌≡◌, List, Ok, sym, ap, subst, ◌∙◌}
use Rattle.stick_text.specs.{Reading.◌>>=◌, Writable.IsPath}
use Rattle.rule_table.specs.declared.classes.Layer.{Layer}
use Rattle.cell_model.specs.declared.cell.Wire.{Wire}
use Rattle.checked_cells.specs.{declared.{names.Run.Run, sides.SideMap.SideMap}, Checks.layer_of, Wires.are_sides_free}
use Rattle.checked_cells.specs.{Wires.wire_where, Lines.{wired_of, after_wire}, CheckedCell.{CheckedCell, with_wire}}
use Rattle.checked_cells.specs.{Kept.capped_wire, Sides.{side_entries, AreSidesOf, HaveSides, AreMarked}, Built.IsBuilt}
use Rattle.checked_cells.specs.{Built.AreBuilt, Tables.AreTables}
use Rattle.checked_cells.proofs.{BuiltForms.wire_built, BuiltRuns.{IsRunBetween, checks_met}, Made.wire_made}
use Rattle.stick_cell.specs.CellBuilder.{IsCellBuilder}
use Rattle.stick_cell.proofs.{KeptWires.{result_map, capped_run}, SidesFree.{open-free, sides_marked}}
use Rattle.stick_cell.proofs.WireSteps.{wire-unknown, wire-unknown_end, wire-run, wire-along, wired_along, other_sides}
use Rattle.stick_cell.proofs.WireSteps.{with-memory, with-residual, ends_of_added, result_map-err, result_map-ok}
use Rattle.stick_cell.proofs.builder.CellBuilder.wire.Goals.{After-wire_where}
use Rattle.stick_cell.proofs.builder.CellBuilder.wire.Goals as goal

pub returns-in_err-from : goal.returns-in_err-from
returns-in_err-from c = λ cells known are tables have path_a path_b built is sides.
    let a = c.args in
    let k = c.in_err-from.field-0.0 in
    with-residual cells c.from_residual.result a.self.now _ k c.from_residual.ensures.1
    (wire-unknown a.tech.now cells known a.layer a.a.now a.b.now a.width k
    (sym (c.found.ensures cells known tables is) ∙ c.in_err-from.was))

pub returns-in_err-to : goal.returns-in_err-to
returns-in_err-to c = λ cells known are tables have path_a path_b built is sides.
    let a = c.args in
    let k = c.in_err-to.field-0.0 in
    with-residual cells c.from_residual-in_err-to.result a.self.now _ k c.from_residual-in_err-to.ensures.1
    (wire-unknown_end a.tech.now cells known a.layer a.a.now a.b.now a.width c.in_ok-from.from k
    (sym (c.found.ensures cells known tables is) ∙ c.in_ok-from.was)
    (sym (c.found-2.ensures cells known tables is) ∙ c.in_err-to.was))

pub returns-in_err-run : goal.returns-in_err-run
returns-in_err-run c = λ cells known are tables have path_a path_b built is sides.
    let a = c.args in
    let k = c.in_err-run.field-0.0 in
    let run = wire-run a.tech.now cells known a.layer a.a.now a.b.now a.width c.in_ok-from.from c.in_ok-to.to
    c.run_of.result are path_a path_b built
    (sym (c.found.ensures cells known tables is) ∙ c.in_ok-from.was)
    (sym (c.found-2.ensures cells known tables is) ∙ c.in_ok-to.was) c.run_of.ensures in
    with-residual cells c.from_residual-in_err-run.result a.self.now _ k c.from_residual-in_err-run.ensures.1
    (run.1 ∙ ap (λ r. r >>= wired_along a.tech.now known (layer_of a.layer) a.width)
    (result_map-err capped_run run.0 k (sym run.2 ∙ c.in_err-run.was)))

-- the wire along what is kept of the run is what is kept of the wire along the run
along : (c : After-wire_where) (cells : List CheckedCell) (known : CheckedCell) → AreBuilt c.args.tech.now cells
    → AreTables cells c.args.tables.now → HaveSides cells c.args.tables.now → IsPath c.args.a.now
    → IsPath c.args.b.now
    → IsBuilt c.args.tech.now cells known → IsCellBuilder cells known c.args.self.now
    → AreSidesOf cells known (side_entries c.args.self.now.table.sides)
    → (real : Run)
    × (after_wire c.args.tech.now cells known c.args.layer c.args.a.now c.args.b.now c.args.width
    ≡ wired_along c.args.tech.now known (layer_of c.args.layer) c.args.width real)
    × (c.in_ok-run.run' ≡ capped_run real) × IsRunBetween known c.args.a.now c.args.b.now real
    × (c.wire_where.result ≡ result_map capped_wire
    (wire_where (are_sides_free known.wires (layer_of c.args.layer) real) c.args.tech.now (wired_of known)
    (layer_of c.args.layer) c.args.width real))
along c cells known are tables have path_a path_b built is sides =
    let a = c.args in
    let layer : Layer = layer_of a.layer in
    let run = wire-run a.tech.now cells known a.layer a.a.now a.b.now a.width c.in_ok-from.from c.in_ok-to.to
    c.run_of.result are path_a path_b built
    (sym (c.found.ensures cells known tables is) ∙ c.in_ok-from.was)
    (sym (c.found-2.ensures cells known tables is) ∙ c.in_ok-to.was) c.run_of.ensures in
    let real = result_map-ok capped_run run.0 c.in_ok-run.run' (sym run.2 ∙ c.in_ok-run.was) in
    let between = run.3 real.0 real.1 in
    let free : c.are_open-are_free.result ≡ are_sides_free known.wires layer real.0 =
    c.are_open-are_free.ensures cells known tables have is.tells.names sides
    ∙ open-free a.tech.now cells known a.a.now a.b.now c.paths_of.result.0.now c.paths_of.result.1.now
    c.layer_of-layer.result real.0 c.in_ok-run.run' built between real.2 c.paths_of.ensures.low
    c.paths_of.ensures.high
    ∙ ap (λ l. are_sides_free known.wires l real.0) c.layer_of-layer.ensures in (
      real.0,
      run.1 ∙ ap (λ r. r >>= wired_along a.tech.now known layer a.width) real.1,
      real.2,
      between,
      wire-along a.tech.now known layer c.layer_of-layer.result a.width real.0 c.in_ok-run.run'
          c.are_open-are_free.result c.as_slice.result.now c.wire_where.result real.2 free
          (c.as_slice.ensures.value ∙ is.wired) c.layer_of-layer.ensures c.wire_where.ensures,
    )

pub returns-in_err-wire : goal.returns-in_err-wire
returns-in_err-wire c = λ cells known are tables have path_a path_b built is sides.
    let a = c.args in
    let k = c.in_err-wire.field-0.0 in
    let (real, read, kept, between, seen) =
    along ((goal.at.returns-in_err-wire c).After-wire_where) cells known are tables have path_a path_b built is
    sides in
    with-residual cells c.from_residual-in_err-wire.result a.self.now _ k c.from_residual-in_err-wire.ensures.1
    (read ∙ ap (λ r. r >>= (λ wire. Ok (with_wire known wire)))
    (result_map-err capped_wire
    (wire_where (are_sides_free known.wires (layer_of a.layer) real) a.tech.now (wired_of known)
    (layer_of a.layer) a.width real) k (sym seen ∙ c.in_err-wire.was)))

pub returns-in_err-add_wire : goal.returns-in_err-add_wire
returns-in_err-add_wire c = λ cells known are tables have path_a path_b built is sides.
    let a = c.args in
    let layer : Layer = layer_of a.layer in
    let (real, read, kept, between, seen) =
    along ((goal.at.returns-in_err-add_wire c).After-wire_where) cells known are tables have path_a path_b built
    is sides in
    let made = wire_where (are_sides_free known.wires layer real) a.tech.now (wired_of known) layer a.width real in
    let next = result_map-ok capped_wire made c.in_ok-wire.wire (sym seen ∙ c.in_ok-wire.was) in
    with-memory cells c.from_residual-in_err-add_wire.result c.add_wire.new.self _ (with_wire known next.0)
    c.from_residual-in_err-add_wire.ensures.1
    (read ∙ ap (λ r. r >>= (λ wire. Ok (with_wire known wire))) next.1)

pub returns-in_err-mark_ends : goal.returns-in_err-mark_ends
returns-in_err-mark_ends c = λ cells known are tables have path_a path_b built is sides.
    let a = c.args in
    let layer : Layer = layer_of a.layer in
    let (real, read, kept, between, seen) =
    along ((goal.at.returns-in_err-mark_ends c).After-wire_where) cells known are tables have path_a path_b built
    is sides in
    let made = wire_where (are_sides_free known.wires layer real) a.tech.now (wired_of known) layer a.width real in
    let next = result_map-ok capped_wire made c.in_ok-wire.wire (sym seen ∙ c.in_ok-wire.was) in
    with-memory cells c.from_residual-in_err-mark_ends.result
    (record c.add_wire.new.self { table = record c.add_wire.new.self.table { sides = c.mark_ends.new.sides } }) _
    (with_wire known next.0) c.from_residual-in_err-mark_ends.ensures.1
    (read ∙ ap (λ r. r >>= (λ wire. Ok (with_wire known wire))) next.1)

pub returns : goal.returns
returns c = λ cells known are tables have path_a path_b built is sides.
    let a = c.args in
    let layer : Layer = layer_of a.layer in
    let (real, read, kept, between, seen) =
    along ((goal.at.returns c).After-wire_where) cells known are tables have path_a path_b built is sides in
    let made = wire_where (are_sides_free known.wires layer real) a.tech.now (wired_of known) layer a.width real in
    let next = result_map-ok capped_wire made c.in_ok-wire.wire (sym seen ∙ c.in_ok-wire.was) in
    let after = read ∙ ap (λ r. r >>= (λ wire. Ok (with_wire known wire))) next.1 in
    let met = checks_met a.tech.now (wired_of known) (are_sides_free known.wires layer real) layer a.width real next.0
    next.1 in
    let ends = ends_of_added a.tech.now cells known next.0
    (wire_built a.tech.now cells known a.layer a.a.now a.b.now a.width (with_wire known next.0) are built
    (wire_made a.tech.now cells known a.layer a.a.now a.b.now a.width (with_wire known next.0) after)) in
    let M : Layer → Type 0 = λ l. AreMarked (side_entries c.add_wire.new.self.table.sides)
    (side_entries c.mark_ends.new.sides) c.in_ok-run.run' c.paths_of.result.0.now c.paths_of.result.1.now l in
    let P : SideMap → Type 0 = λ map. AreSidesOf cells known (side_entries map) in
    let Q : Wire → Type 0 = λ wire. AreSidesOf cells (with_wire known wire) (side_entries c.mark_ends.new.sides) in (
      with_wire known next.0,
      after,
      other_sides cells (with_wire known next.0) c.add_wire.new.self c.mark_ends.new.sides
          (c.in_ok-add_wire.ensures.grows cells known next.0 is ends next.2),
      subst Q met.same
          (sides_marked cells known a.a.now a.b.now c.paths_of.result.0.now c.paths_of.result.1.now layer real
          c.in_ok-run.run' next.0.width (side_entries c.add_wire.new.self.table.sides)
          (side_entries c.mark_ends.new.sides)
          between kept c.paths_of.ensures.low c.paths_of.ensures.high
          (subst M c.layer_of-layer.ensures c.in_ok-mark_ends.ensures)
          (subst P (sym c.in_ok-add_wire.ensures.sides) sides)),
    )
