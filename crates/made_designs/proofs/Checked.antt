-- The checks find no fault in the whole design.
use Rattle.std.proofs.Common.{◌≡◌, ℕ, ◌+◌, ◌*◌, ◌≤◌, true, [], ◌∷◌, length, map, Result, Ok, ap, subst, ◌∙◌, zero-add}
use Rattle.std.{proofs.Common.arith, specs.{Prelude.{IsOk, is_ok, codes}, List.{filter_map, list_all}}}
use Rattle.rule_table.specs.declared.technology.Tech.{Tech}
use Rattle.stick_text.specs.{declared.fault.{StickFault.StickFault, StickKind.TheVariants.PortWires}, Reading.◌>>=◌}
use Rattle.stick_text.specs.{Reading.demand, Order.at_line}
use Rattle.checked_cells.specs.{CheckedCell.{CheckedCell, begun, cell_of}, Lines.{after_lines, after_cell, known_cells}}
use Rattle.checked_cells.specs.{Lines.is_wired, Grids.resolved_cells}
use Rattle.design_gen.specs.{Draws.points, Made.{wire_at, forms_of, lines_from, made}}
use Rattle.made_designs.proofs.{Nodes.{IsAfter, all_nodes, none_before}, Plain.IsPlain, Wires.{HasJoints, has_joints}}
use Rattle.made_designs.proofs.Wires.{all_wires}

-- the lines of the cell are accepted
all_lines : (tech : Tech) (n : ℕ) → n ≤ 64 → (known : CheckedCell) × HasJoints tech n (n * n) known
    × (after_lines tech [] (begun (codes "bench")) (lines_from 3 (forms_of n)) ≡ Ok known)
unfolding forms_of
all_lines tech n few =
    let nodes = all_nodes tech n (n * n) 0 (begun (codes "bench")) few (omega arith)
    (none_before tech n (codes "bench")) in
    let wires = all_wires tech n (n * n) 0 nodes.last few (omega arith)
    (has_joints tech n nodes.last (subst (λ i. IsAfter tech n i nodes.last) (zero-add (n * n)) nodes.after)) in
    let on = nodes.on (filter_map (wire_at n) (points n)) 3 in
    (wires.last, subst (λ i. HasJoints tech n i wires.last) (zero-add (n * n)) wires.has, on.1 ∙ wires.on on.0)

-- so the cell is, after no other one
cell_accepted : (tech : Tech) (n end : ℕ) → n ≤ 64
    → (known : CheckedCell) × HasJoints tech n (n * n) known
    × (after_cell tech []
    (record { name = codes "bench"; line = 2; end_line = end; lines = lines_from 3 (forms_of n) }) ≡ Ok known)
unfolding after_cell
cell_accepted tech n end few =
    let lines = all_lines tech n few in
    let wired : is_wired lines.0 ≡ true =
    ap (λ plugs. list_all (λ wired. wired) (map (λ plug. plug.wired) plugs)) lines.1.closed in (
      lines.0,
      lines.1,
      ap (λ read. read >>= λ known. at_line end (demand (is_wired known) PortWires) >>= λ done.
          Ok known) lines.2 ∙ ap (λ b. at_line end (demand b PortWires) >>= λ done. Ok lines.0) wired,
    )

-- and the design, whose one grid has no name; its one cell has plain nodes and wires
pub design_read : (tech : Tech) (n : ℕ) → n ≤ 64 → (known : CheckedCell)
    × IsPlain tech (n * n) (n * n) (cell_of known) × (resolved_cells tech (made n) ≡ Ok (known ∷ []))
unfolding made known_cells resolved_cells
design_read tech n few =
    let cell = cell_accepted tech n (3 + length (forms_of n)) few in (
      cell.0,
      cell.1.plain,
      ap
          (λ (read : Result CheckedCell StickFault). (read >>= λ known. Ok (known ∷ [])) >>= λ cells. Ok cells) cell.2,
    )

pub design_accepted : (tech : Tech) (n : ℕ) → n ≤ 64 → IsOk (resolved_cells tech (made n))
design_accepted tech n few = ap is_ok (design_read tech n few).2
