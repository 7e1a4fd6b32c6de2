-- The lines that are put together are those of the bent cell, and have a text.
use Rattle.std.proofs.Common.{◌≡◌, ℕ, ◌+◌, ◌<◌, ◌≤◌, Bool, true, false, List, [], ◌∷◌, ◌++◌, map, take, drop, Some, sym}
use Rattle.std.proofs.{Common.{ap, subst, ◌∙◌, append_assoc, arith}, lemmas.List.{take_at, drop_at, take-append-drop}}
use Rattle.std.{proofs.lemmas.List.length-append, specs.{Prelude.All, List.AllByRecursion}}
use Rattle.list_facts.proofs.Elements.{all_append, all_parts}
use Rattle.stick_text.specs.declared.design.{Layer.Layer, Form.{Form, TheVariants.{Joint, Contact, Buried, Fet, Port}}}
use Rattle.stick_text.specs.declared.design.{Form.TheVariants.{Inst, Wire, Limit}, Line.Line, CellText.CellText}
use Rattle.stick_text.specs.Writable.{IsPath, IsForm, IsLine}
use Rattle.stick_print.proofs.Spelled.{name_is_path}
use Rattle.cell_model.specs.{declared.cell.Cell.Cell, Sound.node_at}
use Rattle.jog_insert.specs.{declared.runs.Run.Run, Bends.{Bend, part_col, moved_form}, Jogs.{lower_name, upper_name}}
use Rattle.jog_insert.specs.{Jogs.{moved_line, bent_forms, bend_at, IsJogNumber, IsNearForm, IsBent}, Building.IsRun}
use Rattle.jog_insert.{specs.Building.IsWireAt, proofs.{Alls.by_all, JogNames.{lower_is_name, upper_is_name}}}
use Rattle.design_edits.specs.Cells.{unnumbered}

-- the lines, given the bend and the names of the nodes at the wire's ends
made_of : Bend → ℕ → Layer → List ℕ → List ℕ → ℕ → List Line → List Line → List Line
made_of bend number layer low high width prefix back =
    map (moved_line bend) prefix
    ++ (map unnumbered (bent_forms bend number layer low high width) ++ map (moved_line bend) back)

bend_same : (cell : Cell) (low own col row : ℕ) (left : Bool) → low ≡ own → (node_at cell.nodes own).col ≡ col
    → ◌≡◌ {A = Bend} (record { col = col; row = row; left = left }) (bend_at cell low row left)
bend_same cell low own col row left e is =
    ap (λ (c : ℕ). record { col = c; row = row; left = left })
    (sym is ∙ ap (λ (i : ℕ). (node_at cell.nodes i).col) (sym e))

name_same : (cell : Cell) (i own : ℕ) (name : List ℕ) → i ≡ own → (node_at cell.nodes own).name ≡ name
    → name ≡ (node_at cell.nodes i).name
name_same cell i own name e is = sym is ∙ ap (λ (j : ℕ). (node_at cell.nodes j).name) (sym e)

pub bent_made : (text : CellText) (cell : Cell) (k row at number : ℕ) (left : Bool) (layer : Layer) (run : Run)
    (low high : List ℕ) (lines : List Line)
    → IsRun cell k row run → IsJogNumber text.lines number → IsWireAt text.lines k at layer
    → (node_at cell.nodes run.low).name ≡ low → (node_at cell.nodes run.high).name ≡ high
    → lines ≡ map (moved_line (record { col = run.col; row = row; left = left })) (take at text.lines)
    ++ (map unnumbered (bent_forms (record { col = run.col; row = row; left = left }) number layer low high run.width)
    ++ map (moved_line (record { col = run.col; row = row; left = left })) (drop (at + 1) text.lines))
    → IsBent text cell k row left lines
unfolding made_of
bent_made text cell k row at number left layer run low high lines is is_number line low_is high_is e =
    let bend : Bend = record { col = run.col; row = row; left = left } in
    let own : Bend = bend_at cell is.bendable.low row left in
    let one : made_of bend number layer low high run.width (take at text.lines) (drop (at + 1) text.lines)
    ≡ made_of own number layer low high run.width (take at text.lines) (drop (at + 1) text.lines) =
    ap (λ (b : Bend). made_of b number layer low high run.width (take at text.lines) (drop (at + 1) text.lines))
    (bend_same cell is.bendable.low run.low run.col row left is.low is.col) in
    let prefixes : take at text.lines ≡ line.prefix = ap (take at) line.split
    ∙ take_at line.prefix (line.wire ∷ line.back) at line.place in
    let apart : line.prefix ++ line.wire ∷ line.back ≡ (line.prefix ++ line.wire ∷ []) ++ line.back =
    sym (append_assoc line.prefix (line.wire ∷ []) line.back) in
    let backs : drop (at + 1) text.lines ≡ line.back =
    ap (drop (at + 1)) (line.split ∙ apart)
    ∙ drop_at (line.prefix ++ line.wire ∷ []) line.back (at + 1)
    (omega (arith, length-append line.prefix (line.wire ∷ []), line.place)) in
    let names : made_of own number layer low high run.width (take at text.lines) (drop (at + 1) text.lines)
    ≡ made_of own number layer (node_at cell.nodes is.bendable.low).name (node_at cell.nodes is.bendable.high).name
    run.width line.prefix line.back =
    ap (λ (a : List ℕ). made_of own number layer a high run.width (take at text.lines) (drop (at + 1) text.lines))
    (name_same cell is.bendable.low run.low low is.low low_is)
    ∙ ap (λ (b : List ℕ). made_of own number layer (node_at cell.nodes is.bendable.low).name b run.width
    (take at text.lines) (drop (at + 1) text.lines)) (name_same cell is.bendable.high run.high high is.high
    high_is)
    ∙ ap (λ (f : List Line). made_of own number layer (node_at cell.nodes is.bendable.low).name
    (node_at cell.nodes is.bendable.high).name run.width f (drop (at + 1) text.lines)) prefixes
    ∙ ap (made_of own number layer (node_at cell.nodes is.bendable.low).name
    (node_at cell.nodes is.bendable.high).name run.width line.prefix) backs in
    record {
      bendable = is.bendable;
      number = number;
      is_number = is_number;
      width = run.width;
      is_width = is.width;
      prefix = line.prefix;
      wire = line.wire;
      back = line.back;
      split = line.split;
      count = line.count;
      layer = layer;
      of_wire = line.of_wire;
      bent = e ∙ one ∙ names;
    }

-- ---- they have a text

moved_has_text : (bend : Bend) (form : Form) → IsForm form → IsNearForm (moved_form bend form)
    → IsForm (moved_form bend form)
moved_has_text bend (Joint name layer col row width) is near =
    (is.0, omega (arith, near.0), omega (arith, near.1), is.3)
moved_has_text bend (Contact name lower col row) is near = (is.0, is.1, omega (arith, near.0), omega (arith, near.1))
moved_has_text bend (Buried name col row) is near = (is.0, omega (arith, near.0), omega (arith, near.1))
moved_has_text bend (Fet name depletion vertical col row w l) is near =
    (is.0, omega (arith, near.0), omega (arith, near.1), is.3, is.4)
moved_has_text bend (Port name side layer place) is near = (is.0, omega (arith, near))
moved_has_text bend (Inst name cell col row) is near = is
moved_has_text bend (Wire layer a b width) is near = is
moved_has_text bend (Limit vertical a b at_most n) is near = is

moved_have_text : (bend : Bend) (lines : List Line) → AllByRecursion IsLine lines
    → AllByRecursion (λ (line : Line). IsNearForm line.form) (map (moved_line bend) lines)
    → AllByRecursion IsLine (map (moved_line bend) lines)
moved_have_text bend [] is near = tt
moved_have_text bend (line ∷ lines) is near =
    (moved_has_text bend line.form is.0 near.0, moved_have_text bend lines is.1 near.1)

joints_have_text : (bend : Bend) (number : ℕ) (layer : Layer) (low high : List ℕ) (width : ℕ) → number < 4294967296
    → IsPath low → IsPath high → width ≤ 4096
    → AllByRecursion (λ (line : Line). IsNearForm line.form)
    (map unnumbered (bent_forms bend number layer low high width))
    → AllByRecursion IsLine (map unnumbered (bent_forms bend number layer low high width))
joints_have_text bend number layer low high width few is_low is_high small near =
    let lower = lower_is_name number few in
    let upper = upper_is_name number few in
    let wide : width ≤ 1000000 = omega arith in
    let first : IsForm (Joint (lower_name number) layer (part_col bend false) (bend.row + 1) (Some width)) =
    (lower, omega (arith, near.0.0), omega (arith, near.0.1), wide) in
    let second : IsForm (Joint (upper_name number) layer (part_col bend true) (bend.row + 1) (Some width)) =
    (upper, omega (arith, near.1.0.0), omega (arith, near.1.0.1), wide) in
    let below : IsForm (Wire layer low (lower_name number) (Some width)) =
    (is_low, name_is_path (lower_name number) lower, wide) in
    let between : IsForm (Wire layer (lower_name number) (upper_name number) (Some width)) =
    (name_is_path (lower_name number) lower, name_is_path (upper_name number) upper, wide) in
    let above : IsForm (Wire layer (upper_name number) high (Some width)) =
    (name_is_path (upper_name number) upper, is_high, wide) in
    (first, (second, (below, (between, (above, tt)))))

pub bent_have_text : (bend : Bend) (number : ℕ) (layer : Layer) (low high : List ℕ) (width at : ℕ)
    (old lines : List Line) → number < 4294967296 → IsPath low → IsPath high → width ≤ 4096
    → AllByRecursion IsLine old
    → lines ≡ map (moved_line bend) (take at old)
    ++ (map unnumbered (bent_forms bend number layer low high width) ++ map (moved_line bend) (drop (at + 1) old))
    → All (λ (line : Line). IsNearForm line.form) lines
    → AllByRecursion IsLine lines
bent_have_text bend number layer low high width at old lines few is_low is_high small is e all =
    let near = all_parts (λ (line : Line). IsNearForm line.form) (map (moved_line bend) (take at old))
    (map unnumbered (bent_forms bend number layer low high width) ++ map (moved_line bend) (drop (at + 1) old))
    (subst (AllByRecursion (λ (line : Line). IsNearForm line.form)) e
    (by_all (λ (line : Line). IsNearForm line.form) lines all)) in
    let far = all_parts (λ (line : Line). IsNearForm line.form)
    (map unnumbered (bent_forms bend number layer low high width)) (map (moved_line bend) (drop (at + 1) old))
    near.1 in
    let before = all_parts IsLine (take at old) (drop at old)
    (subst (AllByRecursion IsLine) (sym (take-append-drop at old)) is) in
    let after = all_parts IsLine (take (at + 1) old) (drop (at + 1) old)
    (subst (AllByRecursion IsLine) (sym (take-append-drop (at + 1) old)) is) in
    subst (AllByRecursion IsLine) (sym e)
    (all_append IsLine (map (moved_line bend) (take at old))
    (map unnumbered (bent_forms bend number layer low high width) ++ map (moved_line bend) (drop (at + 1) old))
    (moved_have_text bend (take at old) before.0 near.0)
    (all_append IsLine (map unnumbered (bent_forms bend number layer low high width))
    (map (moved_line bend) (drop (at + 1) old))
    (joints_have_text bend number layer low high width few is_low is_high small far.0)
    (moved_have_text bend (drop (at + 1) old) after.1 far.1)))
