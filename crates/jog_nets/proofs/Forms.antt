-- What moved lines bring, and the lines of a design that has been laid out.
use Rattle.std.proofs.Common.{◌≡◌, ℕ, zero, suc, ◌+◌, cond, List, [], ◌∷◌, ◌++◌, length, map, get_or, Option, refl, sym}
use Rattle.std.proofs.{Common.{ap, ◌∙◌, arith}, lemmas.List.{map-append, length-append, Sums.sum_by-cons}}
use Rattle.std.specs.List.{AllByRecursion, flat_map}
use Rattle.rule_table.specs.declared.technology.Tech.{Tech}
use Rattle.stick_text.specs.declared.design.{Layer.Layer, Form.{Form, TheVariants.{Joint, Contact, Buried, Fet, Port}}}
use Rattle.stick_text.specs.declared.design.{Form.TheVariants.{Inst, Wire, Limit}, Line.Line, CellText.CellText}
use Rattle.stick_print.specs.ReadBack.{lines_from, cells_from}
use Rattle.cell_model.specs.declared.cell.Node.{Node}
use Rattle.jog_insert.specs.{Bends.{Bend, moved_form}, Jogs.{moved_line, is_wire, IsWireOf, wires_in, IsCopy}}
use Rattle.jog_insert.specs.Nets.{nodes_from, nodes_before}
use Rattle.design_edits.specs.Cells.{unnumbered, no_cell}
use Rattle.jog_nets.proofs.{Lines.{nodes_in, sides_in, joins_in, IsNoUse}, Turned.moved_node}

-- the forms of some lines
abbrev pub forms_of : List Line → List Form
forms_of lines = map (λ line. line.form) lines

-- ---- moved forms

nodes_of_form : (tech : Tech) (bend : Bend) (form : Form)
    → nodes_in tech (moved_form bend form) ≡ map (moved_node bend) (nodes_in tech form)
nodes_of_form tech bend (Joint name layer col row width) = refl
nodes_of_form tech bend (Contact name lower col row) = refl
nodes_of_form tech bend (Buried name col row) = refl
nodes_of_form tech bend (Fet name depletion vertical col row w l) = refl
nodes_of_form tech bend (Port name side layer place) = refl
nodes_of_form tech bend (Inst name cell col row) = refl
nodes_of_form tech bend (Wire layer a b width) = refl
nodes_of_form tech bend (Limit vertical a b at_most n) = refl

-- the nodes are moved
pub nodes_of_moved : (tech : Tech) (bend : Bend) (forms : List Form)
    → flat_map (nodes_in tech) (map (moved_form bend) forms) ≡ map (moved_node bend) (flat_map (nodes_in tech) forms)
nodes_of_moved tech bend [] = refl
nodes_of_moved tech bend (form ∷ forms) =
    ap (λ (nodes : List Node). nodes ++ flat_map (nodes_in tech) (map (moved_form bend) forms))
    (nodes_of_form tech bend form)
    ∙ ap (λ (nodes : List Node). map (moved_node bend) (nodes_in tech form) ++ nodes) (nodes_of_moved tech bend forms)
    ∙ sym (map-append (moved_node bend) (nodes_in tech form) (flat_map (nodes_in tech) forms))

-- a function that tells moved forms from others by nothing
same_of_moved : {X : Type 0} (f : Form → List X) (bend : Bend) → ((form : Form) → f (moved_form bend form) ≡ f form)
    → (forms : List Form) → flat_map f (map (moved_form bend) forms) ≡ flat_map f forms
same_of_moved f bend each [] = refl
same_of_moved f bend each (form ∷ forms) =
    ap (λ xs. xs ++ flat_map f (map (moved_form bend) forms)) (each form)
    ∙ ap (λ xs. f form ++ xs) (same_of_moved f bend each forms)

sides_of_form : (bend : Bend) (form : Form) → sides_in (moved_form bend form) ≡ sides_in form
sides_of_form bend (Joint name layer col row width) = refl
sides_of_form bend (Contact name lower col row) = refl
sides_of_form bend (Buried name col row) = refl
sides_of_form bend (Fet name depletion vertical col row w l) = refl
sides_of_form bend (Port name side layer place) = refl
sides_of_form bend (Inst name cell col row) = refl
sides_of_form bend (Wire layer a b width) = refl
sides_of_form bend (Limit vertical a b at_most n) = refl

-- names stay on their sides
pub sides_of_moved : (bend : Bend) (forms : List Form)
    → flat_map sides_in (map (moved_form bend) forms) ≡ flat_map sides_in forms
sides_of_moved bend forms = same_of_moved sides_in bend (sides_of_form bend) forms

joins_of_form : (bend : Bend) (form : Form) → joins_in (moved_form bend form) ≡ joins_in form
joins_of_form bend (Joint name layer col row width) = refl
joins_of_form bend (Contact name lower col row) = refl
joins_of_form bend (Buried name col row) = refl
joins_of_form bend (Fet name depletion vertical col row w l) = refl
joins_of_form bend (Port name side layer place) = refl
joins_of_form bend (Inst name cell col row) = refl
joins_of_form bend (Wire layer a b width) = refl
joins_of_form bend (Limit vertical a b at_most n) = refl

-- wires run between the same names
pub joins_of_moved : (bend : Bend) (forms : List Form)
    → flat_map joins_in (map (moved_form bend) forms) ≡ flat_map joins_in forms
joins_of_moved bend forms = same_of_moved joins_in bend (joins_of_form bend) forms

no_use_moved : (bend : Bend) (form : Form) → IsNoUse form → IsNoUse (moved_form bend form)
no_use_moved bend (Joint name layer col row width) h = tt
no_use_moved bend (Contact name lower col row) h = tt
no_use_moved bend (Buried name col row) h = tt
no_use_moved bend (Fet name depletion vertical col row w l) h = tt
no_use_moved bend (Port name side layer place) h = tt
no_use_moved bend (Inst name cell col row) h = absurd h
no_use_moved bend (Wire layer a b width) h = tt
no_use_moved bend (Limit vertical a b at_most n) h = tt

-- there are still no uses
pub no_uses_moved : (bend : Bend) (forms : List Form) → AllByRecursion IsNoUse forms
    → AllByRecursion IsNoUse (map (moved_form bend) forms)
no_uses_moved bend [] h = tt
no_uses_moved bend (form ∷ forms) h = (no_use_moved bend form h.0, no_uses_moved bend forms h.1)

pub no_use_of : (form : Form) → (IsCopy form → ⊥) → IsNoUse form
no_use_of (Joint name layer col row width) h = tt
no_use_of (Contact name lower col row) h = tt
no_use_of (Buried name col row) h = tt
no_use_of (Fet name depletion vertical col row w l) h = tt
no_use_of (Port name side layer place) h = tt
no_use_of (Inst name cell col row) h = absurd (h tt)
no_use_of (Wire layer a b width) h = tt
no_use_of (Limit vertical a b at_most n) h = tt

-- the forms of moved lines
pub forms_of_moved : (bend : Bend) (lines : List Line)
    → forms_of (map (moved_line bend) lines) ≡ map (moved_form bend) (forms_of lines)
forms_of_moved bend [] = refl
forms_of_moved bend (line ∷ lines) =
    ap (λ (forms : List Form). moved_form bend line.form ∷ forms) (forms_of_moved bend lines)

pub forms_of_unnumbered : (forms : List Form) → forms_of (map unnumbered forms) ≡ forms
forms_of_unnumbered [] = refl
forms_of_unnumbered (form ∷ forms) = ap (λ (others : List Form). form ∷ others) (forms_of_unnumbered forms)

-- ---- a design that has been laid out

forms_of_numbered : (number : ℕ) (lines : List Line) → forms_of (lines_from number lines) ≡ forms_of lines
forms_of_numbered number [] = refl
forms_of_numbered number (line ∷ lines) =
    ap (λ (forms : List Form). line.form ∷ forms) (forms_of_numbered (number + 1) lines)

-- each cell has the forms that it had
pub forms_laid_out : (number : ℕ) (cells : List CellText) (k : ℕ)
    → forms_of (get_or (cells_from number cells) k no_cell).lines ≡ forms_of (get_or cells k no_cell).lines
forms_laid_out number [] k = refl
forms_laid_out number (cell ∷ cells) zero = forms_of_numbered (number + 1) cell.lines
forms_laid_out number (cell ∷ cells) (suc k) = forms_laid_out (number + 1 + length cell.lines + 1) cells k

-- there are as many
pub length_laid_out : (number : ℕ) (cells : List CellText) → length (cells_from number cells) ≡ length cells
length_laid_out number [] = refl
length_laid_out number (cell ∷ cells) = ap suc (length_laid_out (number + 1 + length cell.lines + 1) cells)

-- ---- the line of a wire

pub wire_form : (layer : Layer) (form : Form) → IsWireOf layer form
    → (a : List ℕ) × (b : List ℕ) × (width : Option ℕ) × (form ≡ Wire layer a b width)
wire_form layer (Joint name own col row width) h = absurd h
wire_form layer (Contact name lower col row) h = absurd h
wire_form layer (Buried name col row) h = absurd h
wire_form layer (Fet name depletion vertical col row w l) h = absurd h
wire_form layer (Port name side own place) h = absurd h
wire_form layer (Inst name cell col row) h = absurd h
wire_form layer (Wire own a b width) h = (a, b, width, ap (λ (l : Layer). Wire l a b width) h)
wire_form layer (Limit vertical a b at_most n) h = absurd h

-- wires are counted by their lines
one_join : (form : Form) → length (joins_in form) ≡ cond (is_wire form) 1 0
one_join (Joint name layer col row width) = refl
one_join (Contact name lower col row) = refl
one_join (Buried name col row) = refl
one_join (Fet name depletion vertical col row w l) = refl
one_join (Port name side layer place) = refl
one_join (Inst name cell col row) = refl
one_join (Wire layer a b width) = refl
one_join (Limit vertical a b at_most n) = refl

pub length_joins : (lines : List Line) → length (flat_map joins_in (forms_of lines)) ≡ wires_in lines
length_joins [] = refl
length_joins (line ∷ lines) =
    omega (
      arith,
      length-append (joins_in line.form) (flat_map joins_in (forms_of lines)),
      one_join
          line.form,
      length_joins lines,
      sum_by-cons (λ (l : Line). cond (is_wire l.form) 1 0) line lines,
    )

-- as many nodes come before a wire as the lines before its line bring
nodes_after : (tech : Tech) (form : Form) (k j : ℕ) (after : ℕ → ℕ) (rest : List Node)
    → k ≡ cond (is_wire form) 1 0 + j → after j ≡ length rest
    → nodes_from form k after ≡ length (nodes_in tech form ++ rest)
nodes_after tech (Joint name layer col row width) k j after rest e g = let same : k ≡ j =
    omega arith in ap (λ n. suc (after n)) same ∙ ap suc g
nodes_after tech (Contact name lower col row) k j after rest e g = let same : k ≡ j =
    omega arith in ap (λ n. suc (after n)) same ∙ ap suc g
nodes_after tech (Buried name col row) k j after rest e g = let same : k ≡ j =
    omega arith in ap (λ n. suc (after n)) same ∙ ap suc g
nodes_after tech (Fet name depletion vertical col row w l) k j after rest e g = let same : k ≡ j =
    omega arith in ap (λ n. suc (after n)) same ∙ ap suc g
nodes_after tech (Port name side layer place) k j after rest e g = let same : k ≡ j = omega arith in ap after same ∙ g
nodes_after tech (Inst name cell col row) k j after rest e g = let same : k ≡ j = omega arith in ap after same ∙ g
nodes_after tech (Wire layer a b width) zero j after rest e g = absurd (omega (arith, e))
nodes_after tech (Wire layer a b width) (suc k) j after rest e g = let same : k ≡ j =
    omega (arith, e) in ap after same ∙ g
nodes_after tech (Limit vertical a b at_most n) k j after rest e g = let same : k ≡ j = omega arith in ap after same ∙ g

none_before : (layer : Layer) (form : Form) (k : ℕ) (after : ℕ → ℕ) → IsWireOf layer form → k ≡ 0
    → nodes_from form k after ≡ 0
none_before layer (Joint name own col row width) k after h e = absurd h
none_before layer (Contact name lower col row) k after h e = absurd h
none_before layer (Buried name col row) k after h e = absurd h
none_before layer (Fet name depletion vertical col row w l) k after h e = absurd h
none_before layer (Port name side own place) k after h e = absurd h
none_before layer (Inst name cell col row) k after h e = absurd h
none_before layer (Wire own a b width) zero after h e = refl
none_before layer (Wire own a b width) (suc k) after h e = absurd (omega (arith, e))
none_before layer (Limit vertical a b at_most n) k after h e = absurd h

pub nodes_before_wire : (tech : Tech) (prefix : List Line) (layer : Layer) (wire : Line) (back : List Line) (k : ℕ)
    → IsWireOf layer wire.form → wires_in prefix ≡ k
    → nodes_before k (prefix ++ wire ∷ back) ≡ length (flat_map (nodes_in tech) (forms_of prefix))
nodes_before_wire tech [] layer wire back k is e = none_before layer wire.form k (λ j. nodes_before j back) is (sym e)
nodes_before_wire tech (line ∷ prefix) layer wire back k is e =
    let count : wires_in (line ∷ prefix) ≡ cond (is_wire line.form) 1 0 + wires_in prefix =
    sum_by-cons (λ (l : Line). cond (is_wire l.form) 1 0) line prefix in
    nodes_after tech line.form k (wires_in prefix) (λ j. nodes_before j (prefix ++ wire ∷ back))
    (flat_map (nodes_in tech) (forms_of prefix)) (sym e ∙ count)
    (nodes_before_wire tech prefix layer wire back (wires_in prefix) is refl)
