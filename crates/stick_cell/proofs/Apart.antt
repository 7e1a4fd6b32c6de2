-- Lines without a use give over all cells before them what they give over none.
use Rattle.std.proofs.Common.{◌≡◌, ℕ, suc, ◌<◌, true, Bool, ℤ, List, [], ◌∷◌, map, fold, Option, Some, None, Result, Ok}
use Rattle.std.{proofs.Common.{Err, refl, sym, ap, ◌∙◌, arith}, specs.{Prelude.option_and_then, List.AllByRecursion}}
use Rattle.rule_table.specs.declared.technology.Tech.{Tech}
use Rattle.stick_text.specs.declared.fault.ParseFault.{ParseFault, TheVariants.{Stick, OutOfMemory}}
use Rattle.stick_text.specs.declared.{fault.StickKind.StickKind, design.{Layer.Layer as DrawnLayer, Form.Form}}
use Rattle.stick_text.specs.{declared.design.{Line.Line, CellText.CellText}, Reading.◌>>=◌, Order.at_line}
use Rattle.stick_text.specs.Writable.{IsLine, IsCell}
use Rattle.stick_text.specs.declared.design.Form.TheVariants as forms
use Rattle.checked_cells.specs.declared.{names.{Copied.Copied, Binding.Binding}, steps.Step.Step, table.Table.Table}
use Rattle.checked_cells.specs.{CheckedCell.{CheckedCell, begun}, Built.IsBuilt, Paths.{Names, named, names_at}}
use Rattle.checked_cells.specs.{Paths.{walk_on, walk, found_at}, Sides.side_entries, Lines.{after_form, after_wire}}
use Rattle.checked_cells.specs.{Lines.{after_limit, after_lines, after_cell, is_new_cell}, Steps.{apply, IsStep}}
use Rattle.checked_cells.{specs.Steps.AreStepsOf, proofs.BuiltNames.{AreRight, MoreCells, right_named}}
use Rattle.checked_cells.proofs.Built.{are_built-none, built-begun, built-after_form, built-after_cell}
use Rattle.checked_cells.specs.declared.names.Binding.TheVariants as bindings
use Rattle.checked_cells.specs.declared.steps.Step.TheVariants as steps
use Rattle.stick_lex.specs.Tokens.{names}
use Rattle.stick_cell.specs.{Ready.{IsUse, HasNoUse}, Resolving.TellsTable}
use Rattle.stick_cell.proofs.{LineLoop.cell-by, SidesLoop.sides_more_cells}

-- ---- names

-- over no cells a name stands for no copy
no_copy : (known : CheckedCell) (name : List ℕ) (copy : Copied) → AreRight [] known.nodes known.plugs known.names
    → named known.names name ≡ Some (bindings.Copy copy) → ⊥
no_copy known name copy right is =
    let earlier : copy.cell < 0 =
    (right_named [] known.nodes known.plugs name (bindings.Copy copy) known.names right is).earlier in
    absurd (omega (arith, earlier))

-- and what stands for no copy asks no cell
walk_apart : (tables : List Names) (found : Option Binding) (path : List (List ℕ))
    → ((copy : Copied) → found ≡ Some (bindings.Copy copy) → ⊥)
    → option_and_then (λ binding. walk_on binding path (λ k. walk tables (names_at tables k) path)) found
    ≡ option_and_then (λ binding. walk_on binding path (λ k. walk [] (names_at [] k) path)) found
walk_apart tables None path plain = refl
walk_apart tables (Some (bindings.Node node_place)) [] plain = refl
walk_apart tables (Some (bindings.Node node_place)) (name ∷ path) plain = refl
walk_apart tables (Some (bindings.Port pin)) [] plain = refl
walk_apart tables (Some (bindings.Port pin)) (name ∷ path) plain = refl
walk_apart tables (Some (bindings.Copy copy)) path plain = absurd (plain copy refl)

names_apart : (tables : List Names) (known : CheckedCell) (parts : List (List ℕ))
    → AreRight [] known.nodes known.plugs known.names → walk tables known.names parts ≡ walk [] known.names parts
names_apart tables known [] right = refl
names_apart tables known (name ∷ path) right =
    walk_apart tables (named known.names name) path (λ copy is. no_copy known name copy right is)

found_apart : (cells : List CheckedCell) (known : CheckedCell) (path : List ℕ)
    → AreRight [] known.nodes known.plugs known.names → found_at cells known path ≡ found_at [] known path
unfolding found_at
found_apart cells known path right =
    names_apart (map (λ (cell : CheckedCell). cell.names) cells) known (names path) right

-- ---- lines

wire_apart : (tech : Tech) (cells : List CheckedCell) (known : CheckedCell) (layer : DrawnLayer) (a b : List ℕ)
    (width : Option ℕ) → AreRight [] known.nodes known.plugs known.names
    → after_wire tech cells known layer a b width ≡ after_wire tech [] known layer a b width
unfolding after_wire
wire_apart tech cells known layer a b width right =
    rw (found_apart cells known a right, found_apart cells known b right) refl

limit_apart : (cells : List CheckedCell) (known : CheckedCell) (vertical : Bool) (a b : List ℕ) (at_most : Bool)
    (n : ℤ) → AreRight [] known.nodes known.plugs known.names
    → after_limit cells known vertical a b at_most n ≡ after_limit [] known vertical a b at_most n
unfolding after_limit
limit_apart cells known vertical a b at_most n right =
    rw (found_apart cells known a right, found_apart cells known b right) refl

form_apart : (tech : Tech) (cells : List CheckedCell) (known : CheckedCell) (form : Form) → (IsUse form → ⊥)
    → AreRight [] known.nodes known.plugs known.names
    → after_form tech cells known form ≡ after_form tech [] known form
form_apart tech cells known (forms.Joint name layer col row width) plain right = refl
form_apart tech cells known (forms.Contact name lower col row) plain right = refl
form_apart tech cells known (forms.Buried name col row) plain right = refl
form_apart tech cells known (forms.Fet name depletion vertical col row w l) plain right = refl
form_apart tech cells known (forms.Port name side layer place) plain right = refl
form_apart tech cells known (forms.Inst name cell col row) plain right = absurd (plain tt)
form_apart tech cells known (forms.Wire layer a b width) plain right = wire_apart tech cells known layer a b width right
form_apart tech cells known (forms.Limit vertical a b at_most n) plain right =
    limit_apart cells known vertical a b at_most n right

next_apart : (tech : Tech) (cells : List CheckedCell) (number : ℕ) (r : Result CheckedCell StickKind)
    (lines : List Line)
    → ((next : CheckedCell) → r ≡ Ok next → after_lines tech cells next lines ≡ after_lines tech [] next lines)
    → (at_line number r >>= (λ next. after_lines tech cells next lines))
    ≡ (at_line number r >>= (λ next. after_lines tech [] next lines))
next_apart tech cells number (Ok next) lines same = same next refl
next_apart tech cells number (Err kind) lines same = refl

lines_apart : (tech : Tech) (cells : List CheckedCell) (known : CheckedCell) (lines : List Line)
    → AllByRecursion IsLine lines → HasNoUse lines → IsBuilt tech [] known
    → after_lines tech cells known lines ≡ after_lines tech [] known lines
lines_apart tech cells known [] are plain built = refl
lines_apart tech cells known (line ∷ lines) are plain built =
    ap (λ r. at_line line.number r >>= (λ next. after_lines tech cells next lines))
    (form_apart tech cells known line.form (plain 0 line (omega arith)) built.names)
    ∙ next_apart tech cells line.number (after_form tech [] known line.form) lines (λ next e.
    lines_apart tech cells next lines are.1 (λ k d lt. plain (suc k) d (omega (arith, lt)))
    (built-after_form tech [] known line.form next (are_built-none tech) are.0 built e))

-- ---- steps

step_apart : (cells : List CheckedCell) (known : CheckedCell) (step : Step) → IsStep [] step
    → apply cells known step ≡ apply [] known step
step_apart cells known (steps.Node name kind col row) is = refl
step_apart cells known (steps.Port name side layer place) is = refl
step_apart cells known (steps.Copy name k col row) is = absurd (omega (arith, is.0))
step_apart cells known (steps.Wire wire) is = refl
step_apart cells known (steps.Limit limit) is = refl

is_step_apart : (cells : List CheckedCell) (step : Step) → IsStep [] step → IsStep cells step
is_step_apart cells (steps.Node name kind col row) is = tt
is_step_apart cells (steps.Port name side layer place) is = tt
is_step_apart cells (steps.Copy name k col row) is = absurd (omega (arith, is.0))
is_step_apart cells (steps.Wire wire) is = tt
is_step_apart cells (steps.Limit limit) is = tt

are_steps_apart : (cells : List CheckedCell) (added : List Step) → AllByRecursion (IsStep []) added
    → AllByRecursion (IsStep cells) added
are_steps_apart cells [] are = tt
are_steps_apart cells (step ∷ added) are = (is_step_apart cells step are.0, are_steps_apart cells added are.1)

made_apart : (cells : List CheckedCell) (known : CheckedCell) (added : List Step) → AllByRecursion (IsStep []) added
    → fold (apply cells) known added ≡ fold (apply []) known added
made_apart cells known [] are = refl
made_apart cells known (step ∷ added) are =
    made_apart cells (apply cells known step) added are.1
    ∙ ap (λ k. fold (apply []) k added) (step_apart cells known step are.0)

steps_apart : (cells : List CheckedCell) (known : CheckedCell) (added : List Step) → AreStepsOf [] known added
    → AreStepsOf cells known added
steps_apart cells known added are =
    record {
      each = are_steps_apart cells added are.each;
      make = λ light. made_apart cells (begun known.name) added are.each ∙ are.make light;
    }

-- ---- cells

more_than_none : (cells : List CheckedCell) → MoreCells [] cells
more_than_none cells = record { long = omega arith; same = λ k lt. absurd (omega (arith, lt)) }

cell_apart : (tech : Tech) (cells : List CheckedCell) (text : CellText) → IsCell text → HasNoUse text.lines
    → is_new_cell cells text.name ≡ true → after_cell tech cells text ≡ after_cell tech [] text
cell_apart tech cells text is plain fresh =
    let alone = after_lines tech [] (begun text.name) text.lines in
    cell-by tech cells text true alone fresh
    (lines_apart tech cells (begun text.name) text.lines is.1 plain (built-begun tech [] text.name))
    ∙ sym (cell-by tech [] text true alone refl refl)

-- what is told of a cell over no cells is told over all before it
pub tells_apart : (tech : Tech) (cells : List CheckedCell) (text : CellText) (result : Result Table ParseFault)
    → IsCell text → HasNoUse text.lines → is_new_cell cells text.name ≡ true
    → TellsTable [] result (after_cell tech [] text) → TellsTable cells result (after_cell tech cells text)
tells_apart tech cells text (Ok table) is plain fresh told =
    let built = (built-after_cell tech [] text told.0 (are_built-none tech) is told.1).0 in (
      told.0,
      cell_apart tech cells text is plain fresh ∙ told.1,
      told.2,
      steps_apart cells told.0 table.steps.items told.3,
      sides_more_cells [] cells told.0 (side_entries table.sides) (more_than_none cells) built.names told.4,
    )
tells_apart tech cells text (Err (Stick fault)) is plain fresh told = cell_apart tech cells text is plain fresh ∙ told
tells_apart tech cells text (Err OutOfMemory) is plain fresh told = tt
