-- The nodes of a cell without uses have the names of its lines.
use Rattle.std.proofs.Common.{◌≡◌, ℕ, zero, suc, ◌+◌, ◌<◌, List, [], ◌∷◌, ◌++◌, length, get_or, Result, Ok, refl, sym}
use Rattle.std.proofs.{Common.{ap, subst, ◌∙◌, arith}, lemmas.List.{length-append, get_or_push, get_or_append_left}}
use Rattle.std.specs.{Prelude.All, List.AllByRecursion}
use Rattle.list_facts.proofs.Elements.{all_append}
use Rattle.rule_table.specs.declared.technology.Tech.{Tech}
use Rattle.stick_text.specs.declared.fault.{StickKind.TheVariants.{RepeatedName, PortWires}, StickFault.StickFault}
use Rattle.stick_text.specs.declared.design.Form.{Form, TheVariants.{Joint, Contact, Buried, Fet, Port, Inst, Wire}}
use Rattle.stick_text.specs.{declared.design.{Form.TheVariants.Limit, Line.Line, CellText.CellText}, Reading.◌>>=◌}
use Rattle.stick_text.specs.{Reading.demand, Order.at_line, Writable.{IsName, IsPath, IsForm, IsLine, IsCell}}
use Rattle.stick_print.proofs.Spelled.{name_is_path}
use Rattle.cell_model.specs.declared.cell.Node.{Node}
use Rattle.checked_cells.specs.{CheckedCell.{CheckedCell, begun, known_at}, Lines.{after_form, after_lines, after_cell}}
use Rattle.checked_cells.specs.Lines.{is_new_cell, cells_after, is_wired, known_cells}
use Rattle.checked_cells.proofs.{Accepted.{bound, two_bound, ok_same, at_line_ok}, Made.{IsWithNode, joint_made}}
use Rattle.checked_cells.proofs.Made.{contact_made, buried_made, fet_made, port_made, wire_made, limit_made}
use Rattle.jog_insert.{proofs.Alls.by_all, specs.Jogs.IsCopy}

abbrev pub AreNamed : CheckedCell → Type 0
AreNamed known = AllByRecursion (λ (node : Node). IsPath node.name) known.nodes

-- ---- line by line

node_named : (tech : Tech) (known : CheckedCell) (name : List ℕ) (col row : ℕ) (next : CheckedCell) → IsName name
    → AreNamed known → IsWithNode tech known name col row next → AreNamed next
node_named tech known name col row next is are made =
    subst AreNamed made.same
    (all_append (λ (node : Node). IsPath node.name) known.nodes
    (record { name = name; kind = made.kind; col = col; row = row } ∷ []) are (name_is_path name is, tt))

form_named : (tech : Tech) (cells : List CheckedCell) (known : CheckedCell) (form : Form) (next : CheckedCell)
    → IsForm form → (IsCopy form → ⊥) → AreNamed known → after_form tech cells known form ≡ Ok next → AreNamed next
form_named tech cells known (Joint name layer col row width) next is whole are e =
    node_named tech known name col row next is.0 are (joint_made tech known name layer col row width next e)
form_named tech cells known (Contact name lower col row) next is whole are e =
    node_named tech known name col row next is.0 are (contact_made tech known name lower col row next is.1 e)
form_named tech cells known (Buried name col row) next is whole are e =
    node_named tech known name col row next is.0 are (buried_made tech known name col row next e)
form_named tech cells known (Fet name depletion vertical col row w l) next is whole are e =
    node_named tech known name col row next is.0 are (fet_made tech known name depletion vertical col row w l next e)
form_named tech cells known (Port name side layer place) next is whole are e =
    subst AreNamed (port_made known name side layer place next e).same are
form_named tech cells known (Inst name cell col row) next is whole are e = absurd (whole tt)
form_named tech cells known (Wire layer a b width) next is whole are e =
    subst AreNamed (wire_made tech cells known layer a b width next e).same are
form_named tech cells known (Limit vertical a b at_most n) next is whole are e =
    subst AreNamed (limit_made cells known vertical a b at_most n next e).same are

lines_named : (tech : Tech) (cells : List CheckedCell) (known : CheckedCell) (lines : List Line) (last : CheckedCell)
    → AllByRecursion IsLine lines → AllByRecursion (λ (line : Line). IsCopy line.form → ⊥) lines → AreNamed known
    → after_lines tech cells known lines ≡ Ok last → AreNamed last
lines_named tech cells known [] last is whole are e = subst AreNamed (ok_same known last e) are
lines_named tech cells known (line ∷ lines) last is whole are e =
    let first : (next : CheckedCell) × (at_line line.number (after_form tech cells known line.form) ≡ Ok next)
    × (after_lines tech cells next lines ≡ Ok last) =
    bound (at_line line.number (after_form tech cells known line.form)) (λ next. after_lines tech cells next lines)
    last e in
    lines_named tech cells first.0 lines last is.1 whole.1
    (form_named tech cells known line.form first.0 is.0 whole.0 are
    (at_line_ok line.number (after_form tech cells known line.form) first.0 first.1))
    first.2

cell_named : (tech : Tech) (cells : List CheckedCell) (text : CellText) (known : CheckedCell) → IsCell text
    → AllByRecursion (λ (line : Line). IsCopy line.form → ⊥) text.lines → after_cell tech cells text ≡ Ok known
    → AreNamed known
unfolding after_cell
cell_named tech cells text known is whole e =
    let ended : CheckedCell → Result CheckedCell StickFault =
    λ last. at_line text.end_line (demand (is_wired last) PortWires) >>= λ wired. Ok last in
    let read : (u : Unit {0}) × (last : CheckedCell)
    × (at_line text.line (demand (is_new_cell cells text.name) RepeatedName) ≡ Ok u)
    × (after_lines tech cells (begun text.name) text.lines ≡ Ok last) × (ended last ≡ Ok known) =
    two_bound (at_line text.line (demand (is_new_cell cells text.name) RepeatedName))
    (after_lines tech cells (begun text.name) text.lines) (λ fresh last. ended last) known e in
    let last : CheckedCell = read.1 in
    let closed : (u : Unit {0}) × (at_line text.end_line (demand (is_wired last) PortWires) ≡ Ok u)
    × (◌≡◌ {A = Result CheckedCell StickFault} (Ok last) (Ok known)) =
    bound (at_line text.end_line (demand (is_wired last) PortWires)) (λ wired. Ok last) known read.4 in
    subst AreNamed (ok_same last known closed.2)
    (lines_named tech cells (begun text.name) text.lines last is.1 whole tt read.3)

-- ---- the cell of a design

-- what stood before stays
kept_cells : (tech : Tech) (cells : List CheckedCell) (texts : List CellText) (all : List CheckedCell) (k : ℕ)
    → cells_after tech cells texts ≡ Ok all → k < length cells → known_at all k ≡ known_at cells k
kept_cells tech cells [] all k e lt = ap (λ (l : List CheckedCell). known_at l k) (sym (ok_same cells all e))
kept_cells tech cells (text ∷ texts) all k e lt =
    let first : (known : CheckedCell) × (after_cell tech cells text ≡ Ok known)
    × (cells_after tech (cells ++ known ∷ []) texts ≡ Ok all) =
    bound (after_cell tech cells text) (λ known. cells_after tech (cells ++ known ∷ []) texts) all e in
    kept_cells tech (cells ++ first.0 ∷ []) texts all k first.2
    (omega (arith, lt, length-append cells (first.0 ∷ [])))
    ∙ get_or_append_left cells (first.0 ∷ []) (begun []) k lt

-- cell number k is read over some cells before it
read_cell : (tech : Tech) (cells : List CheckedCell) (texts : List CellText) (all : List CheckedCell) (k : ℕ)
    (d : CellText) → cells_after tech cells texts ≡ Ok all → k < length texts
    → (before : List CheckedCell) × (after_cell tech before (get_or texts k d) ≡ Ok (known_at all (length cells + k)))
read_cell tech cells [] all k d e lt = absurd (omega (arith, lt))
read_cell tech cells (text ∷ texts) all zero d e lt =
    let first : (known : CheckedCell) × (after_cell tech cells text ≡ Ok known)
    × (cells_after tech (cells ++ known ∷ []) texts ≡ Ok all) =
    bound (after_cell tech cells text) (λ known. cells_after tech (cells ++ known ∷ []) texts) all e in
    let here : known_at all (length cells + 0) ≡ first.0 =
    ap (known_at all) (omega arith)
    ∙ kept_cells tech (cells ++ first.0 ∷ []) texts all (length cells) first.2
    (omega (arith, length-append cells (first.0 ∷ [])))
    ∙ get_or_push cells first.0 (begun []) (length cells) refl in
    (cells, first.1 ∙ ap (λ (known : CheckedCell). Ok known) (sym here))
read_cell tech cells (text ∷ texts) all (suc k) d e lt =
    let first : (known : CheckedCell) × (after_cell tech cells text ≡ Ok known)
    × (cells_after tech (cells ++ known ∷ []) texts ≡ Ok all) =
    bound (after_cell tech cells text) (λ known. cells_after tech (cells ++ known ∷ []) texts) all e in
    let rest = read_cell tech (cells ++ first.0 ∷ []) texts all k d first.2 (omega (arith, lt)) in
    let same : length (cells ++ first.0 ∷ []) + k ≡ length cells + suc k =
    omega (arith, length-append cells (first.0 ∷ [])) in
    (rest.0, rest.1 ∙ ap (λ (j : ℕ). Ok (known_at all j)) same)

pub nodes_named : (tech : Tech) (texts : List CellText) (cells : List CheckedCell) (k : ℕ) (d : CellText)
    → known_cells tech texts ≡ Ok cells → k < length texts → IsCell (get_or texts k d)
    → All (λ (line : Line). IsCopy line.form → ⊥) (get_or texts k d).lines → AreNamed (known_at cells k)
unfolding known_cells
nodes_named tech texts cells k d e lt is whole =
    let read = read_cell tech [] texts cells k d e lt in
    let same : known_at cells (0 + k) ≡ known_at cells k = ap (known_at cells) (omega arith) in
    subst AreNamed same
    (cell_named tech read.0 (get_or texts k d) _ is
    (by_all (λ (line : Line). IsCopy line.form → ⊥) (get_or texts k d).lines whole) read.1)
