-- A jog in a design keeps the nets and the parts of its cell.
use Rattle.std.proofs.Common.{◌≡◌, ℕ, ◌<◌, Bool, List, ◌∷◌, ◌++◌, length, map, get_or, sym, ap, subst, ◌∙◌, arith}
use Rattle.std.proofs.lemmas.List.{map-append, length-set, get_or-set_same, Elements.recursion_from_All}
use Rattle.std.specs.{Prelude.slice_set, List.{AllByRecursion, flat_map}}
use Rattle.list_facts.proofs.Elements.{all_append, all_weaker, all_map, all_unmap, all_parts}
use Rattle.rule_table.specs.declared.technology.Tech.{Tech}
use Rattle.stick_text.specs.declared.design.{Form.{Form, TheVariants.Wire}, Line.Line, CellText.CellText, Design.Design}
use Rattle.stick_print.specs.ReadBack.{cells_from}
use Rattle.cell_model.specs.Sound.{node_at}
use Rattle.checked_cells.specs.{declared.cells.Cells.Cells, CheckedCell.{CheckedCell, cell_of, known_at}}
use Rattle.checked_cells.{specs.Tables.{known_of, IsResolved}, proofs.TableReads.length-known_cells}
use Rattle.jog_insert.specs.{Bends.{Bend, moved_form}, Jogs.{moved_line, IsCopy, bend_at, bent_forms, IsBent, IsJogged}}
use Rattle.jog_insert.specs.Nets.{nodes_before, KeepsNets}
use Rattle.design_edits.specs.Cells.{unnumbered, no_cell, cell_text_at}
use Rattle.jog_nets.{specs.Parts.KeepsParts, proofs.{Lines.{nodes_in, IsNoUse}, Told.{IsCellTold, told_at}}}
use Rattle.jog_nets.proofs.Forms.{forms_of, no_use_of, no_uses_moved, forms_of_moved, forms_of_unnumbered}
use Rattle.jog_nets.proofs.Forms.{forms_laid_out, length_laid_out, wire_form, length_joins, nodes_before_wire}
use Rattle.jog_nets.proofs.Jogged.{new_forms, kept_of_forms}

-- the forms of lines in two parts, with another between them
forms_split : (lines prefix back : List Line) (line : Line) (form : Form) → lines ≡ prefix ++ line ∷ back
    → line.form ≡ form → forms_of lines ≡ forms_of prefix ++ form ∷ forms_of back
forms_split lines prefix back line form split e =
    ap forms_of split ∙ map-append (λ (l : Line). l.form) prefix (line ∷ back)
    ∙ ap (λ (f : Form). forms_of prefix ++ f ∷ forms_of back) e

-- the forms of the new cell
forms_bent : (bend : Bend) (lines prefix back : List Line) (five : List Form)
    → lines ≡ map (moved_line bend) prefix ++ (map unnumbered five ++ map (moved_line bend) back)
    → forms_of lines ≡ map (moved_form bend) (forms_of prefix) ++ (five ++ map (moved_form bend) (forms_of back))
forms_bent bend lines prefix back five e =
    ap forms_of e ∙ map-append (λ (l : Line). l.form) (map (moved_line bend) prefix)
    (map unnumbered five ++ map (moved_line bend) back)
    ∙ ap (λ (forms : List Form). forms ++ forms_of (map unnumbered five ++ map (moved_line bend) back))
    (forms_of_moved bend prefix)
    ∙ ap (λ (forms : List Form). map (moved_form bend) (forms_of prefix) ++ forms)
    (map-append (λ (l : Line). l.form) (map unnumbered five) (map (moved_line bend) back)
    ∙ ap (λ (forms : List Form). forms ++ forms_of (map (moved_line bend) back)) (forms_of_unnumbered five)
    ∙ ap (λ (forms : List Form). five ++ forms) (forms_of_moved bend back))

-- the new cell in the new design
forms_put : (design new : Design) (cell : ℕ) (text : CellText) → cell < length design.cells
    → new.cells ≡ cells_from 2 (slice_set design.cells cell text)
    → (forms_of (cell_text_at new cell).lines ≡ forms_of text.lines) × (length new.cells ≡ length design.cells)
forms_put design new cell text lt made = (
  ap (λ (cells : List CellText). forms_of (get_or cells cell no_cell).lines) made
      ∙ forms_laid_out 2 (slice_set design.cells cell text) cell
      ∙ ap (λ (there : CellText). forms_of there.lines) (get_or-set_same design.cells cell text no_cell lt),
  ap length made ∙ length_laid_out 2 (slice_set design.cells cell text) ∙ length-set design.cells cell text,
)

pub jog_kept : (before after : Cells) (masters : List ℕ) (cell k row : ℕ) (left : Bool) → IsResolved before
    → IsResolved after → after.tech ≡ before.tech → cell < length (known_of before)
    → IsJogged before.design.now (cell_of (known_at (known_of before) cell)) masters cell k row left after.design.now
    → KeepsNets (cell_of (known_at (known_of before) cell)) (cell_of (known_at (known_of after) cell))
    (nodes_before k (cell_text_at before.design.now cell).lines) k
    × KeepsParts (cell_of (known_at (known_of before) cell)) (cell_of (known_at (known_of after) cell))
    (nodes_before k (cell_text_at before.design.now cell).lines) k
jog_kept before after masters cell k row left resolved its_resolved same_tech lt jogged =
    let tech : Tech = before.tech in
    let design : Design = before.design.now in
    let text : CellText = cell_text_at design cell in
    let old : CheckedCell = known_at (known_of before) cell in
    let new : CheckedCell = known_at (known_of after) cell in
    let bent : IsBent text (cell_of old) k row left jogged.lines = jogged.bent in
    let bend : Bend = bend_at (cell_of old) bent.bendable.low row left in
    let low : List ℕ = (node_at old.nodes bent.bendable.low).name in
    let high : List ℕ = (node_at old.nodes bent.bendable.high).name in
    let prefix : List Form = forms_of bent.prefix in
    let back : List Form = forms_of bent.back in
    let (a, b, own, form) = wire_form bent.layer bent.wire.form bent.of_wire in
    let wire : Form = Wire bent.layer a b own in
    let split : forms_of text.lines ≡ prefix ++ wire ∷ back =
    forms_split text.lines bent.prefix bent.back bent.wire wire bent.split form in
    let whole : AllByRecursion (λ (line : Line). IsNoUse line.form) text.lines =
    all_weaker (λ (line : Line). IsCopy line.form → ⊥) (λ line. IsNoUse line.form) (λ line. no_use_of line.form)
    text.lines (recursion_from_All (λ (line : Line). IsCopy line.form → ⊥) text.lines jogged.whole) in
    let parts =
    all_parts IsNoUse prefix (wire ∷ back)
    (subst (AllByRecursion IsNoUse) split (all_map IsNoUse (λ (line : Line). line.form) text.lines whole)) in
    let told : IsCellTold tech (prefix ++ wire ∷ back) old =
    subst (λ (forms : List Form). IsCellTold tech forms old) split (told_at before cell resolved lt whole) in
    let count_old : length (known_of before) ≡ length design.cells =
    length-known_cells tech design.cells (known_of before) resolved.read in
    let put = forms_put design after.design.now cell (record text { lines = jogged.lines })
    (omega (arith, lt, count_old)) (ap (λ (d : Design). d.cells) jogged.made) in
    let five : List Form = bent_forms bend bent.number bent.layer low high bent.width in
    let forms : List Form = new_forms bend bent.number bent.layer low high bent.width prefix back in
    let new_split : forms_of (cell_text_at after.design.now cell).lines ≡ forms = put.0
    ∙ forms_bent bend jogged.lines bent.prefix bent.back five bent.bent in
    let its_whole : AllByRecursion IsNoUse forms =
    all_append IsNoUse (map (moved_form bend) prefix) (five ++ map (moved_form bend) back)
    (no_uses_moved bend prefix parts.0) (tt, (tt, (tt, (tt, (tt, no_uses_moved bend back parts.1.1))))) in
    let count_new : length (known_of after) ≡ length after.design.now.cells =
    length-known_cells after.tech after.design.now.cells (known_of after) its_resolved.read in
    let its_told : IsCellTold tech forms new =
    subst (λ (t : Tech). IsCellTold t forms new) same_tech
    (subst (λ (its_forms : List Form). IsCellTold after.tech its_forms new) new_split
    (told_at after cell its_resolved (omega (arith, lt, count_old, count_new, put.1))
    (all_unmap IsNoUse (λ (line : Line). line.form) (cell_text_at after.design.now cell).lines
    (subst (AllByRecursion IsNoUse) (sym new_split) its_whole)))) in
    let at : nodes_before k text.lines ≡ length (flat_map (nodes_in tech) prefix) = ap (nodes_before k) bent.split
    ∙ nodes_before_wire tech bent.prefix bent.layer bent.wire bent.back k bent.of_wire bent.count in
    subst (λ (n : ℕ). KeepsNets (cell_of old) (cell_of new) n k × KeepsParts (cell_of old) (cell_of new) n k) (sym at)
    (kept_of_forms tech bend bent.number bent.layer a b own bent.width k bent.bendable.low bent.bendable.high
    text.lines prefix back old new split bent.is_number.free told its_told
    (length_joins bent.prefix ∙ bent.count) bent.bendable.from bent.bendable.to bent.bendable.below bent.bendable.above)
