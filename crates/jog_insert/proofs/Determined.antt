-- A jog leads to one design.
use Rattle.std.proofs.Common.{◌≡◌, ℕ, Bool, true, List, ◌++◌, map, refl, sym, ap, subst, ◌∙◌, arith}
use Rattle.std.specs.Prelude.{pos, slice_set}
use Rattle.stick_text.specs.declared.design.{Layer.Layer, Form.{Form, TheVariants.{Joint, Contact, Buried, Fet, Port}}}
use Rattle.stick_text.specs.declared.design.{Form.TheVariants.{Inst, Wire, Limit}, Line.Line, CellText.CellText}
use Rattle.stick_text.specs.declared.design.Design.{Design}
use Rattle.stick_print.specs.ReadBack.{laid_out}
use Rattle.cell_model.specs.{declared.cell.Cell.Cell, Sound.node_at}
use Rattle.jog_insert.proofs.Bendable.{same_node}
use Rattle.jog_insert.specs.Jogs.{moved_line, bent_forms, is_wire, IsWireOf, bend_at, IsJogNumber, IsBent, IsJogged}
use Rattle.design_edits.{specs.Cells.{unnumbered, cell_text_at}, proofs.Splits.same_split}

-- ---- the parts of a jog

same_number : (lines : List Line) (n m : ℕ) → IsJogNumber lines n → IsJogNumber lines m → n ≡ m
same_number lines n m a b = omega (arith, a.least m b.free, b.least n a.free)

same_layer : (a b : Layer) (form : Form) → IsWireOf a form → IsWireOf b form → a ≡ b
same_layer a b (Wire layer p q width) h k = sym h ∙ k
same_layer a b (Joint name layer col row width) h k = absurd h
same_layer a b (Contact name lower col row) h k = absurd h
same_layer a b (Buried name col row) h k = absurd h
same_layer a b (Fet name depletion vertical col row w l) h k = absurd h
same_layer a b (Port name side layer place) h k = absurd h
same_layer a b (Inst name cell col row) h k = absurd h
same_layer a b (Limit vertical p q at_most n) h k = absurd h

pub wire_of : (layer : Layer) (form : Form) → IsWireOf layer form → is_wire form ≡ true
wire_of own (Wire layer p q width) h = refl
wire_of own (Joint name layer col row width) h = absurd h
wire_of own (Contact name lower col row) h = absurd h
wire_of own (Buried name col row) h = absurd h
wire_of own (Fet name depletion vertical col row w l) h = absurd h
wire_of own (Port name side layer place) h = absurd h
wire_of own (Inst name cell col row) h = absurd h
wire_of own (Limit vertical p q at_most n) h = absurd h

-- ---- the lines of the bent cell

bent_of : Cell → ℕ → Bool → ℕ → ℕ → ℕ → Layer → ℕ → List Line → List Line → List Line
bent_of cell row left low high number layer width prefix back =
    map (moved_line (bend_at cell low row left)) prefix
    ++ (map unnumbered
    (bent_forms (bend_at cell low row left) number layer (node_at cell.nodes low).name
    (node_at cell.nodes high).name width)
    ++ map (moved_line (bend_at cell low row left)) back)

bent_lines : (text : CellText) (cell : Cell) (k row : ℕ) (left : Bool) (lines : List Line)
    (b : IsBent text cell k row left lines)
    → lines ≡ bent_of cell row left b.bendable.low b.bendable.high b.number b.layer b.width b.prefix b.back
unfolding bent_of
bent_lines text cell k row left lines b = b.bent

same_width : (a b : ℕ) → pos a ≡ pos b → a ≡ b
same_width a b e = cc

pub bent_is_determined : (text : CellText) (cell : Cell) (k row : ℕ) (left : Bool) (lines others : List Line)
    → IsBent text cell k row left lines → IsBent text cell k row left others → lines ≡ others
bent_is_determined text cell k row left lines others a b =
    let one = bent_lines text cell k row left lines a in
    let two = bent_lines text cell k row left others b in
    let low = same_node a.bendable.low b.bendable.low _ a.bendable.from b.bendable.from in
    let high = same_node a.bendable.high b.bendable.high _ a.bendable.to b.bendable.to in
    let number = same_number text.lines a.number b.number a.is_number b.is_number in
    let width = same_width a.width b.width (sym a.is_width ∙ b.is_width) in
    let parts = same_split (λ line. is_wire line.form) a.prefix b.prefix a.wire b.wire a.back b.back
    (sym a.split ∙ b.split) (a.count ∙ sym b.count) (wire_of a.layer a.wire.form a.of_wire)
    (wire_of b.layer b.wire.form b.of_wire) in
    let prefixes = parts.prefixes in
    let backs = parts.backs in
    let layer =
    same_layer a.layer b.layer b.wire.form
    (let P : Line → Type 0 = λ l. IsWireOf a.layer l.form in subst P parts.lines a.of_wire) b.of_wire in
    cc (one, two, low, high, number, width, prefixes, backs, layer)

-- ---- the design

pub jogged_is_determined : (design : Design) (content : Cell) (masters : List ℕ) (cell k row : ℕ) (left : Bool)
    (new other : Design)
    → IsJogged design content masters cell k row left new → IsJogged design content masters cell k row left other
    → new ≡ other
jogged_is_determined design content masters cell k row left new other a b =
    a.made
    ∙ ap (λ (l : List Line).
    laid_out
    (record design { cells = slice_set design.cells cell (record (cell_text_at design cell) { lines = l }) }))
    (bent_is_determined (cell_text_at design cell) content k row left a.lines b.lines a.bent b.bent)
    ∙ sym b.made
