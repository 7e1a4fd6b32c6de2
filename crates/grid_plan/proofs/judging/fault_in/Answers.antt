use Rattle.std.proofs.Common.{◌≡◌, ◌<◌, ◌∙◌, List, ℕ, None, length, map, vec_len, ap, sym, subst, arith}
use Rattle.std.specs.List.{All}
use Rattle.checked_cells.specs.Tables.{known_of}
use Rattle.plan_model.specs.{Borders.side_before, Rows.first_row}
use Rattle.lam_geom.specs.declared.boxes.Axis.TheVariants.{Y}
use Rattle.grid_plan.specs.{Faults.{unknown_in, ragged_in}, Numbered.numbers_in_row, Small.AreFewCells}
use Rattle.grid_plan.proofs.{CellPorts.side_count, GridsRead.equal_rows, KnownNames.{rows_known, few_cells}}
use Rattle.grid_plan.proofs.judging.fault_in.Goals as goal

pub misfit-requires : goal.misfit-requires
misfit-requires c =
    let cells = known_of c.args.cells.now in
    let texts = c.args.grid.now.rows in
    let scan = c.args.scan.now in
    let count = side_count cells (side_before Y) scan.beside.before.items c.requires.scan.beside.before in
    let many : length cells ≡ vec_len scan.beside.before = omega (arith, scan.beside.before.ok.0) in
    let read : c.args.numbers.now ≡ map (numbers_in_row cells) texts = c.requires.numbers in
    let known : unknown_in cells texts ≡ None = ap (unknown_in cells) (sym c.as_slice-rows.ensures)
    ∙ sym c.unknown_in.ensures ∙ c.in_default.is in
    let none : ragged_in texts ≡ None = ap ragged_in (sym c.as_slice-rows.ensures) ∙ sym c.ragged.ensures
    ∙ c.in_default-ragged.is in
    let P : ℕ → Type 0 = λ n. All (All (λ k. k < n)) (map (numbers_in_row cells) texts) in
    let Q : List (List ℕ) → Type 0 = All (All (λ k. k < vec_len scan.beside.before)) in
    let E : List (List ℕ) → Type 0 = λ rows. All (λ row. length row ≡ length (first_row rows)) rows in
    record {
      rows = record {
        within = subst Q (sym read) (subst P many (rows_known cells texts known));
        equal = subst E (sym read) (equal_rows cells texts none);
      };
      few = subst AreFewCells (sym read) (few_cells cells texts c.requires.few);
    }
