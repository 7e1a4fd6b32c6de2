-- The lines of a cell, one by one.
use Rattle.std.proofs.Common.{◌≡◌, ℕ, ◌+◌, ◌<◌, ◌≤◌, Bool, true, not, is_none, is_some, List, ◌∷◌, length, get_or, drop}
use Rattle.std.proofs.{Common.{Option, Some, None, Result, Ok, Err, refl, sym, ap, subst, ◌∙◌}, lemmas.List.drop_more}
use Rattle.std.{proofs.lemmas.List.drop_all, specs.{Prelude.{bytes_eq, position}, List.AllByRecursion, Result.IsErrAnd}}
use Rattle.rule_table.specs.declared.technology.Tech.{Tech}
use Rattle.stick_text.specs.declared.fault.{StickFault.StickFault, LineFault.LineFault, ParseFault.ParseFault}
use Rattle.stick_text.specs.declared.fault.ParseFault.TheVariants.{Stick, OutOfMemory}
use Rattle.stick_text.specs.declared.{fault.StickKind.TheVariants.{RepeatedName, PortWires}, design.Line.Line}
use Rattle.stick_text.specs.{declared.design.CellText.CellText, Reading.{◌>>=◌, Fails, demand}, Order.at_line}
use Rattle.stick_text.specs.Writable.{IsForm, IsLine}
use Rattle.stick_text.specs.declared.fault.LineFault.TheVariants as line_faults
use Rattle.list_facts.proofs.Elements.{all_at}
use Rattle.checked_cells.specs.{CheckedCell.{CheckedCell, begun}, Lines.{after_form, after_lines, is_wired}}
use Rattle.checked_cells.specs.{Lines.{is_new_cell, after_cell}, declared.table.Table.Table, Tables.AreTables}
use Rattle.checked_cells.proofs.TableReads.{position-name}
use Rattle.stick_cell.{specs.{CellBuilder.RefusesLine, Resolving.{fault_at_line, TellsTable}}, proofs.LineSteps.is_err}

-- the lines from one on: that line, and the lines after it
pub lines-at : (tech : Tech) (cells : List CheckedCell) (known : CheckedCell) (lines : List Line) (i : ℕ)
    (line : Line) → i < length lines → line ≡ get_or lines i line
    → after_lines tech cells known (drop i lines)
    ≡ (at_line line.number (after_form tech cells known line.form)
    >>= (λ next. after_lines tech cells next (drop (i + 1) lines)))
lines-at tech cells known lines i line lt e =
    ap (after_lines tech cells known) (drop_more lines i line lt
    ∙ ap (λ (one : Line). one ∷ drop (i + 1) lines) (sym e))

-- a line that gives what is known next
pub lines-next : (tech : Tech) (cells : List CheckedCell) (known next : CheckedCell) (lines : List Line) (i : ℕ)
    (line : Line) → i < length lines → line ≡ get_or lines i line
    → after_form tech cells known line.form ≡ Ok next
    → after_lines tech cells known (drop i lines) ≡ after_lines tech cells next (drop (i + 1) lines)
lines-next tech cells known next lines i line lt e ok =
    lines-at tech cells known lines i line lt e
    ∙ ap (λ r. at_line line.number r >>= (λ next. after_lines tech cells next (drop (i + 1) lines))) ok

-- a line that is refused
pub lines-refused : (tech : Tech) (cells : List CheckedCell) (known : CheckedCell) (lines : List Line) (i : ℕ)
    (line : Line) (fault : LineFault) (r : ParseFault) (whole : Result CheckedCell StickFault)
    → i < length lines → line ≡ get_or lines i line → RefusesLine fault (after_form tech cells known line.form)
    → r ≡ fault_at_line line.number fault
    → after_lines tech cells known (drop i lines) ≡ whole → Fails r whole
lines-refused tech cells known lines i line fault r whole lt e fails is same =
    let P : ParseFault → Type 0 = λ fault. Fails fault whole in
    subst P (sym is) (by fault fails)
  where
    by : (fault : LineFault) → RefusesLine fault (after_form tech cells known line.form)
        → Fails (fault_at_line line.number fault) whole
    by (line_faults.Kind kind) refused = sym same ∙ lines-at tech cells known lines i line lt e
        ∙ ap (λ r. at_line line.number r >>= (λ next. after_lines tech cells next (drop (i + 1) lines))) refused
    by line_faults.OutOfMemory refused = tt

-- no line is left
pub lines-end : (tech : Tech) (cells : List CheckedCell) (known : CheckedCell) (lines : List Line) (i : ℕ)
    → length lines ≤ i → after_lines tech cells known (drop i lines) ≡ Ok known
lines-end tech cells known lines i le = ap (after_lines tech cells known) (drop_all i lines le)

-- each line's form is one
pub form-at : (lines : List Line) (i : ℕ) (line : Line) → AllByRecursion IsLine lines → i < length lines
    → line ≡ get_or lines i line → IsForm line.form
form-at lines i line all lt e = subst IsLine (sym e) (all_at IsLine lines line i all lt)

-- ---- a cell

-- a cell by whether its name is new, and what its lines give
pub cell-by : (tech : Tech) (cells : List CheckedCell) (text : CellText) (fresh : Bool)
    (r : Result CheckedCell StickFault)
    → is_new_cell cells text.name ≡ fresh → after_lines tech cells (begun text.name) text.lines ≡ r
    → after_cell tech cells text
    ≡ (at_line text.line (demand fresh RepeatedName)
    >>= (λ _. r >>= (λ known. at_line text.end_line (demand (is_wired known) PortWires) >>= (λ _. Ok known))))
unfolding after_cell
cell-by tech cells text fresh r is_new lines = rw (is_new, lines) refl

not_some : (o : Option ℕ) → is_none o ≡ not (is_some o)
not_some None = refl
not_some (Some k) = refl

-- a cell's name is new where no table has it
pub new-cell : (cells : List CheckedCell) (tables : List Table) {name lent : List ℕ} {place : Option ℕ}
    {found : Bool} → AreTables cells tables → lent ≡ name
    → place ≡ position (λ (table : Table). bytes_eq lent table.name.now) tables → found ≡ is_some place
    → is_new_cell cells name ≡ not found
new-cell cells tables {name} {place} are same e is =
    ap is_none (sym (position-name cells tables name are)
    ∙ ap (λ text. position (λ (table : Table). bytes_eq text table.name.now) tables) (sym same) ∙ sym e)
    ∙ not_some place ∙ ap not (sym is)

-- a fault that is told
pub fails-at : (r : ParseFault) (fault : StickFault) (whole : Result CheckedCell StickFault) → r ≡ Stick fault
    → whole ≡ Err fault → Fails r whole
fails-at r fault whole is e = let P : ParseFault → Type 0 = λ fault. Fails fault whole in subst P (sym is) e

-- the fault of a cell's lines is the cell's
pub fails-lines : (tech : Tech) (cells : List CheckedCell) (text : CellText) (fault : ParseFault)
    → is_new_cell cells text.name ≡ true
    → Fails fault (after_lines tech cells (begun text.name) text.lines) → Fails fault (after_cell tech cells text)
fails-lines tech cells text (Stick fault) fresh e = cell-by tech cells text true (Err fault) fresh e
fails-lines tech cells text OutOfMemory fresh e = tt

-- the fault of a cell, passed on
pub tells-residual : (cells : List CheckedCell) (result : Result Table ParseFault) (fault : ParseFault)
    (read : Result CheckedCell StickFault) → IsErrAnd result (λ e. e ≡ fault) → Fails fault read
    → TellsTable cells result read
tells-residual cells result fault read is fails =
    subst (λ one. TellsTable cells one read) (sym (is_err result fault is)) fails
