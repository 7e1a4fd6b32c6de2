-- No check of a line asks for the limits of a cell.
use Rattle.std.proofs.Common.{◌≡◌, ℕ, zero, suc, ◌+◌, List, [], ◌∷◌, map, Option, Result, Ok, Err, refl, sym, ap, ◌∙◌}
use Rattle.std.{proofs.Common.arith, specs.Prelude.{◌&&◌, ◌==◌, not, nat_lt, is_none, bytes_eq}}
use Rattle.rule_table.specs.{declared.technology.Tech.Tech, Technology.has_buried_of}
use Rattle.stick_text.specs.declared.fault.StickKind.{StickKind, TheVariants.{RepeatedName, UseCycle, UseDepth}}
use Rattle.stick_text.specs.declared.fault.StickKind.TheVariants.{UsedPorts, FarPlace, BadSize, PortWires, BadLimit}
use Rattle.stick_text.specs.declared.{fault.StickKind.TheVariants.NoBuried, design.Form.{Form, TheVariants.Joint}}
use Rattle.stick_text.specs.declared.design.Form.TheVariants.{Contact, Buried, Fet, Port, Inst, Wire, Limit}
use Rattle.stick_text.specs.{declared.design.{Line.Line, CellText.CellText}, Reading.{◌>>=◌, demand}, Order.at_line}
use Rattle.stick_lex.specs.Tokens.{names}
use Rattle.checked_cells.specs.{CheckedCell.{CheckedCell, begun, known_at, greatest_col, greatest_row}, Paths.Names}
use Rattle.checked_cells.specs.{Paths.{walk, found_at}, Checks.{layer_of, is_fresh, is_place, sized, is_channel}}
use Rattle.checked_cells.specs.{Wires.{known_name, wire_between, limited}, Lines.{number_of, known_number, wired_of}}
use Rattle.checked_cells.specs.Lines.{is_empty, after_joint, after_contact, after_buried, after_fet, after_port}
use Rattle.checked_cells.specs.Lines.{with_use, after_use, after_wire, after_limit, after_form, after_lines, is_wired}
use Rattle.checked_cells.specs.Lines.{is_new_cell, after_cell}

-- what is known of a cell, limits aside
abbrev pub limitless : CheckedCell → CheckedCell
limitless known = record known { limits = [] }

-- what is read, limits aside
abbrev pub bare : {E : Type 0} → Result CheckedCell E → Result CheckedCell E
bare (Ok known) = Ok (limitless known)
bare (Err fault) = Err fault

-- ---- step by step

same_then : {A E : Type 0} (r : Result A E) (f g : A → Result CheckedCell E) → ((a : A) → bare (f a) ≡ bare (g a))
    → bare (r >>= f) ≡ bare (r >>= g)
same_then (Ok a) f g h = h a
same_then (Err fault) f g h = refl

other_then : {A E : Type 0} (r s : Result A E) (f g : A → Result CheckedCell E) → r ≡ s
    → ((a : A) → bare (f a) ≡ bare (g a)) → bare (r >>= f) ≡ bare (s >>= g)
other_then r s f g e h = same_then r f g h ∙ ap (λ x. bare (x >>= g)) e

same_ok : {E : Type 0} (a b : CheckedCell) → ◌≡◌ {A = Result CheckedCell E} (Ok (limitless a)) (Ok (limitless b))
    → limitless a ≡ limitless b
same_ok a b e = cc

no_ok : {E : Type 0} (a : CheckedCell) (fault : E) → ◌≡◌ {A = Result CheckedCell E} (Ok (limitless a)) (Err fault) → ⊥
no_ok a fault e = cc

same_fault : {E : Type 0} (a b : E) → ◌≡◌ {A = Result CheckedCell E} (Err a) (Err b) → a ≡ b
same_fault a b e = cc

known_then : {E : Type 0} (r s : Result CheckedCell E) (f g : CheckedCell → Result CheckedCell E) → bare r ≡ bare s
    → ((a b : CheckedCell) → limitless a ≡ limitless b → bare (f a) ≡ bare (g b)) → bare (r >>= f) ≡ bare (s >>= g)
known_then (Ok a) (Ok b) f g e h = h a b (same_ok a b e)
known_then (Ok a) (Err fault) f g e h = absurd (no_ok a fault e)
known_then (Err fault) (Ok b) f g e h = absurd (no_ok b fault (sym e))
known_then (Err fault) (Err other) f g e h = e

bare_at_line : (number : ℕ) (r s : Result CheckedCell StickKind) → bare r ≡ bare s
    → bare (at_line number r) ≡ bare (at_line number s)
bare_at_line number (Ok a) (Ok b) e = ap (λ (k : CheckedCell). Ok k) (same_ok a b e)
bare_at_line number (Ok a) (Err fault) e = absurd (no_ok a fault e)
bare_at_line number (Err fault) (Ok b) e = absurd (no_ok b fault (sym e))
bare_at_line number (Err fault) (Err other) e =
    ap (λ (k : StickKind). Err (record { line = number; kind = k })) (same_fault fault other e)

-- ---- what a line asks of the cells before

names_limitless : (cells : List CheckedCell)
    → map (λ cell. cell.names) cells ≡ map (λ cell. cell.names) (map limitless cells)
names_limitless [] = refl
names_limitless (cell ∷ cells) = ap (λ (l : List Names). cell.names ∷ l) (names_limitless cells)

found_limitless : (cells : List CheckedCell) (known : CheckedCell) (path : List ℕ)
    → found_at cells known path ≡ found_at (map limitless cells) (limitless known) path
unfolding found_at
found_limitless cells known path = ap (λ (t : List Names). walk t known.names (names path)) (names_limitless cells)

number_limitless : (cells : List CheckedCell) (name : List ℕ)
    → number_of cells name ≡ number_of (map limitless cells) name
number_limitless [] name = refl
number_limitless (cell ∷ cells) name = grind (arith, number_limitless cells name)

known_limitless : (cells : List CheckedCell) (k : ℕ) → known_at (map limitless cells) k ≡ limitless (known_at cells k)
known_limitless [] k = refl
known_limitless (cell ∷ cells) zero = refl
known_limitless (cell ∷ cells) (suc k) = known_limitless cells k

-- ---- the lines of a cell

use_limitless : (known : CheckedCell) (name : List ℕ) (k : ℕ) (used : CheckedCell) (col row : ℕ)
    → bare (with_use known name k used col row) ≡ bare (with_use (limitless known) name k (limitless used) col row)
unfolding with_use
use_limitless known name k used col row =
    same_then (demand (is_empty used.plugs) UsedPorts) _ _
    (λ closed. same_then (demand (nat_lt used.depth 16) UseDepth) _ _ (λ shallow.
    same_then (demand (is_place (col + greatest_col used.nodes) && is_place (row + greatest_row used.nodes)) FarPlace)
    _ _ (λ near. refl)))

form_limitless : (tech : Tech) (cells : List CheckedCell) (known : CheckedCell) (form : Form)
    → bare (after_form tech cells known form) ≡ bare (after_form tech (map limitless cells) (limitless known) form)
unfolding after_joint after_contact after_buried after_fet after_port after_use after_wire after_limit
form_limitless tech cells known (Joint name layer col row width) =
    same_then (demand (is_fresh known.names name) RepeatedName) _ _
    (λ fresh. same_then (demand (is_place col && is_place row) FarPlace) _ _
    (λ near. same_then (sized tech (layer_of layer) width) _ _ (λ size. refl)))
form_limitless tech cells known (Contact name lower col row) =
    same_then (demand (is_fresh known.names name) RepeatedName) _ _
    (λ fresh. same_then (demand (is_place col && is_place row) FarPlace) _ _ (λ near. refl))
form_limitless tech cells known (Buried name col row) =
    same_then (demand (is_fresh known.names name) RepeatedName) _ _
    (λ fresh. same_then (demand (is_place col && is_place row) FarPlace) _ _
    (λ near. same_then (demand (has_buried_of tech) NoBuried) _ _ (λ there. refl)))
form_limitless tech cells known (Fet name depletion vertical col row w l) =
    same_then (demand (is_fresh known.names name) RepeatedName) _ _
    (λ fresh. same_then (demand (is_place col && is_place row) FarPlace) _ _
    (λ near. same_then (demand (is_channel tech w l) BadSize) _ _ (λ channel. refl)))
form_limitless tech cells known (Port name side layer place) =
    same_then (demand (is_fresh known.names name) RepeatedName) _ _
    (λ fresh. same_then (demand (is_place place) FarPlace) _ _ (λ near. refl))
form_limitless tech cells known (Inst name cell col row) =
    same_then (demand (is_fresh known.names name) RepeatedName) _ _
    (λ fresh. same_then (demand (not (bytes_eq cell known.name)) UseCycle) _ _ (λ other.
    other_then (known_number (number_of cells cell)) (known_number (number_of (map limitless cells) cell)) _ _
    (ap known_number (number_limitless cells cell))
    (λ k. use_limitless known name k (known_at cells k) col row
    ∙ ap (λ (used : CheckedCell). bare (with_use (limitless known) name k used col row))
    (sym (known_limitless cells k)))))
form_limitless tech cells known (Wire layer a b width) =
    other_then (known_name (found_at cells known a)) (known_name (found_at (map limitless cells) (limitless known) a))
    _ _ (ap known_name (found_limitless cells known a)) (λ from.
    other_then (known_name (found_at cells known b)) (known_name (found_at (map limitless cells) (limitless known) b))
    _ _ (ap known_name (found_limitless cells known b)) (λ to.
    same_then (wire_between tech (wired_of known) known.wires (layer_of layer) from to width) _ _ (λ wire. refl)))
form_limitless tech cells known (Limit vertical a b at_most n) =
    other_then (known_name (found_at cells known a)) (known_name (found_at (map limitless cells) (limitless known) a))
    _ _ (ap known_name (found_limitless cells known a)) (λ from.
    other_then (known_name (found_at cells known b)) (known_name (found_at (map limitless cells) (limitless known) b))
    _ _ (ap known_name (found_limitless cells known b)) (λ to.
    same_then (limited from) _ _
    (λ first. same_then (limited to) _ _
    (λ second. same_then (demand (not (first.number == second.number)) BadLimit) _ _ (λ apart. refl)))))

-- ---- cells that are the same but for their limits

abbrev pub AreSame : List CheckedCell → List CheckedCell → Type 0
AreSame cells others = map limitless cells ≡ map limitless others

form_same : (tech : Tech) (cells others : List CheckedCell) (known other : CheckedCell) (form : Form)
    → AreSame cells others → limitless known ≡ limitless other
    → bare (after_form tech cells known form) ≡ bare (after_form tech others other form)
form_same tech cells others known other form all e =
    form_limitless tech cells known form
    ∙ ap (λ (l : List CheckedCell). bare (after_form tech l (limitless known) form)) all
    ∙ ap (λ (k : CheckedCell). bare (after_form tech (map limitless others) k form)) e
    ∙ sym (form_limitless tech others other form)

pub lines_same : (tech : Tech) (cells others : List CheckedCell) (known other : CheckedCell) (lines : List Line)
    → AreSame cells others → limitless known ≡ limitless other
    → bare (after_lines tech cells known lines) ≡ bare (after_lines tech others other lines)
lines_same tech cells others known other [] all e = ap (λ (k : CheckedCell). Ok k) e
lines_same tech cells others known other (line ∷ lines) all e =
    known_then (at_line line.number (after_form tech cells known line.form))
    (at_line line.number (after_form tech others other line.form)) _ _
    (bare_at_line line.number (after_form tech cells known line.form) (after_form tech others other line.form)
    (form_same tech cells others known other line.form all e))
    (λ a b h. lines_same tech cells others a b lines all h)

pub cell_same : (tech : Tech) (cells others : List CheckedCell) (text : CellText) → AreSame cells others
    → bare (after_cell tech cells text) ≡ bare (after_cell tech others text)
unfolding after_cell
cell_same tech cells others text all =
    let number : number_of cells text.name ≡ number_of others text.name =
    number_limitless cells text.name ∙ ap (λ (l : List CheckedCell). number_of l text.name) all
    ∙ sym (number_limitless others text.name) in
    other_then (at_line text.line (demand (is_new_cell cells text.name) RepeatedName))
    (at_line text.line (demand (is_new_cell others text.name) RepeatedName)) _ _
    (ap (λ (o : Option ℕ). at_line text.line (demand (is_none o) RepeatedName)) number)
    (λ fresh. known_then (after_lines tech cells (begun text.name) text.lines)
    (after_lines tech others (begun text.name) text.lines) _ _
    (lines_same tech cells others (begun text.name) (begun text.name) text.lines all refl)
    (λ a b h. other_then (at_line text.end_line (demand (is_wired a) PortWires))
    (at_line text.end_line (demand (is_wired b) PortWires)) _ _
    (ap (λ (k : CheckedCell). at_line text.end_line (demand (is_wired k) PortWires)) h)
    (λ wired. ap (λ (k : CheckedCell). Ok k) h)))

-- what is read where the same is read, limits aside
pub read_same : {E : Type 0} (r : Result CheckedCell E) (known : CheckedCell) → bare r ≡ Ok (limitless known)
    → (other : CheckedCell) × (r ≡ Ok other) × (limitless other ≡ limitless known)
read_same (Ok other) known e = (other, refl, same_ok other known e)
read_same (Err fault) known e = absurd (no_ok known fault (sym e))
