-- What is known of a cell without uses in a design that has been checked.
use Rattle.std.proofs.Common.{◌≡◌, ℕ, zero, suc, ◌+◌, ◌<◌, ◌≤◌, List, [], ◌∷◌, ◌++◌, length, map, take, get_or, Result}
use Rattle.std.proofs.{Common.{Ok, sym, ap, subst, ◌∙◌, arith}, lemmas.List.{append-nil, append_assoc, length-append}}
use Rattle.std.proofs.lemmas.List.{length-take, take_at, get_or_at, get_or-take, take-take}
use Rattle.std.specs.{Prelude.IsTrue, List.{AllByRecursion, AllZip, flat_map}}
use Rattle.list_facts.proofs.Elements.{all_at}
use Rattle.rule_table.specs.declared.technology.Tech.{Tech}
use Rattle.stick_text.specs.declared.fault.{StickKind.TheVariants.{RepeatedName, PortWires}, StickFault.StickFault}
use Rattle.stick_text.specs.{declared.design.{Form.Form, Line.Line, CellText.CellText}, Writable.{IsCell, IsLine}}
use Rattle.stick_text.specs.{Reading.{◌>>=◌, demand}, Order.at_line}
use Rattle.cell_model.specs.Sound.{node_at, IsWire}
use Rattle.checked_cells.specs.{declared.cells.Cells.Cells, CheckedCell.{CheckedCell, begun, cell_of, known_at}}
use Rattle.checked_cells.specs.Lines.{after_lines, after_cell, is_new_cell, is_wired, cells_after, known_cells}
use Rattle.checked_cells.specs.{Built.{IsBuilt, AreBuilt}, Tables.{known_of, IsResolved}}
use Rattle.checked_cells.proofs.{Accepted.{bound, two_bound, ok_same}, Built.{are_built-known_cells, built-begun}}
use Rattle.checked_cells.proofs.TableReads.{length-known_cells}
use Rattle.design_edits.specs.Cells.{no_cell, cell_text_at}
use Rattle.jog_nets.proofs.{Lines.{nodes_in, sides_in, joins_in, IsNoUse, sides, IsJoined, Grew}, Grew.grew_lines}

-- ---- a cell of a design

-- these cells come first
abbrev Begins : List CheckedCell → List CheckedCell → Type 0
Begins before all = (more : List CheckedCell) × (all ≡ before ++ more)

begins_with : (tech : Tech) (before : List CheckedCell) (texts : List CellText) (all : List CheckedCell)
    → cells_after tech before texts ≡ Ok all → Begins before all
begins_with tech before [] all e = ([], sym (ok_same before all e) ∙ sym (append-nil before))
begins_with tech before (text ∷ texts) all e =
    let (known, read, rest) =
    bound (after_cell tech before text) (λ known. cells_after tech (before ++ known ∷ []) texts) all e in
    let (more, same) = begins_with tech (before ++ known ∷ []) texts all rest in
    (known ∷ more, same ∙ append_assoc before (known ∷ []) more)

-- cell number k is read over those before it
cell_read : (tech : Tech) (before : List CheckedCell) (texts : List CellText) (all : List CheckedCell) (k at : ℕ)
    → cells_after tech before texts ≡ Ok all → k < length texts → at ≡ length before + k
    → after_cell tech (take at all) (get_or texts k no_cell) ≡ Ok (known_at all at)
cell_read tech before [] all k at e lt is = absurd (omega (arith, lt))
cell_read tech before (text ∷ texts) all zero at e lt is =
    let (known, read, rest) =
    bound (after_cell tech before text) (λ known. cells_after tech (before ++ known ∷ []) texts) all e in
    let (more, same) = begins_with tech (before ++ known ∷ []) texts all rest in
    let whole : all ≡ before ++ known ∷ more = same ∙ append_assoc before (known ∷ []) more in
    let prefix : take at all ≡ before = ap (take at) whole ∙ take_at before (known ∷ more) at (omega arith) in
    let here : known_at all at ≡ known = ap (λ (cells : List CheckedCell). known_at cells at) whole
    ∙ get_or_at before known more (begun []) at (omega arith) in
    ap (λ (cells : List CheckedCell). after_cell tech cells text) prefix ∙ read
    ∙ ap (λ (cell : CheckedCell). Ok cell) (sym here)
cell_read tech before (text ∷ texts) all (suc k) at e lt is =
    let (known, read, rest) =
    bound (after_cell tech before text) (λ known. cells_after tech (before ++ known ∷ []) texts) all e in
    cell_read tech (before ++ known ∷ []) texts all k at rest (omega (arith, lt))
    (omega (arith, is, length-append before (known ∷ [])))

-- its lines give it
lines_read : (tech : Tech) (cells : List CheckedCell) (text : CellText) (known : CheckedCell)
    → after_cell tech cells text ≡ Ok known → after_lines tech cells (begun text.name) text.lines ≡ Ok known
unfolding after_cell
lines_read tech cells text known e =
    let ended : CheckedCell → Result CheckedCell StickFault =
    λ last. at_line text.end_line (demand (is_wired last) PortWires) >>= λ wired. Ok last in
    let read : (u : Unit {0}) × (last : CheckedCell)
    × (at_line text.line (demand (is_new_cell cells text.name) RepeatedName) ≡ Ok u)
    × (after_lines tech cells (begun text.name) text.lines ≡ Ok last) × (ended last ≡ Ok known) =
    two_bound (at_line text.line (demand (is_new_cell cells text.name) RepeatedName))
    (after_lines tech cells (begun text.name) text.lines) (λ fresh last. ended last) known e in
    let last : CheckedCell = read.1 in
    let closed : (u : Unit {0}) × (at_line text.end_line (demand (is_wired last) PortWires) ≡ Ok u)
    × (◌≡◌ {A = Result CheckedCell StickFault} (Ok last) (Ok known)) =
    bound (at_line text.end_line (demand (is_wired last) PortWires)) (λ wired. Ok last) known read.4 in
    read.3 ∙ closed.2

-- the cells before a cell are built too
built_before : (tech : Tech) (cells : List CheckedCell) (n : ℕ) → AreBuilt tech cells → n ≤ length cells
    → AreBuilt tech (take n cells)
built_before tech cells n are le =
    record {
      built = λ k lt.
          let less : k < n = omega (arith, lt, length-take n cells) in
          subst (λ (prefix : List CheckedCell). IsBuilt tech prefix (known_at (take n cells) k))
          (sym (take-take k n cells (omega arith)))
          (subst (IsBuilt tech (take k cells)) (sym (get_or-take n cells k (begun []) less))
          (are.built k (omega arith)));
      wired = λ k lt.
          let less : k < n = omega (arith, lt, length-take n cells) in
          subst (λ (cell : CheckedCell). IsTrue (is_wired cell)) (sym (get_or-take n cells k (begun []) less))
          (are.wired k (omega arith));
    }

-- ---- what is known of it

-- A cell has what its forms bring; its wires are wires, and its nodes have names of their own.
pub record IsCellTold (tech : Tech) (forms : List Form) (known : CheckedCell) : Type 0 where
  pub nodes : known.nodes ≡ flat_map (nodes_in tech) forms
  pub names : sides known.names ≡ flat_map sides_in forms
  pub joins : AllZip (IsJoined known) (flat_map joins_in forms) known.wires
  pub wires : AllByRecursion (IsWire tech (cell_of known)) known.wires
  pub apart : (j k : ℕ) → j < length known.nodes → k < length known.nodes
      → (node_at known.nodes j).name ≡ (node_at known.nodes k).name → j ≡ k

told_of_lines : (tech : Tech) (cells : List CheckedCell) (text : CellText) (known : CheckedCell) → AreBuilt tech cells
    → IsBuilt tech cells known → AllByRecursion IsLine text.lines
    → AllByRecursion (λ line. IsNoUse line.form) text.lines → after_cell tech cells text ≡ Ok known
    → IsCellTold tech (map (λ line. line.form) text.lines) known
told_of_lines tech cells text known are built is whole e =
    let forms : List Form = map (λ (line : Line). line.form) text.lines in
    let grew : Grew tech (begun text.name) forms known =
    grew_lines tech cells (begun text.name) text.lines known are is whole (built-begun tech cells text.name) tt
    (lines_read tech cells text known e) in
    record {
      nodes = grew.nodes;
      names = grew.names;
      joins = subst (AllZip (IsJoined known) (flat_map joins_in forms)) (sym grew.wired) grew.joins;
      wires = built.wires;
      apart = built.apart.apart;
    }

-- a cell without uses in a design that has been checked
pub told_at : (cells : Cells) (k : ℕ) → IsResolved cells → k < length (known_of cells)
    → AllByRecursion (λ line. IsNoUse line.form) (cell_text_at cells.design.now k).lines
    → IsCellTold cells.tech (map (λ line. line.form) (cell_text_at cells.design.now k).lines)
    (known_at (known_of cells) k)
unfolding known_cells
told_at cells k resolved lt whole =
    let tech : Tech = cells.tech in
    let texts : List CellText = cells.design.now.cells in
    let all : List CheckedCell = known_of cells in
    let within : k < length texts = omega (arith, lt, length-known_cells tech texts all resolved.read) in
    let are : AreBuilt tech all = are_built-known_cells tech texts all resolved.writable.cells resolved.read in
    let text : CellText = cell_text_at cells.design.now k in
    let is : IsCell text = all_at IsCell texts no_cell k resolved.writable.cells within in
    told_of_lines tech (take k all) text (known_at all k) (built_before tech all k are (omega arith)) (are.built k lt)
    is.1 whole
    (cell_read tech [] texts all k k resolved.read within (omega arith))
