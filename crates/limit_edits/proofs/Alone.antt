-- In a design without fault only the limit that an edit adds can have one.
use Rattle.std.proofs.Common.{◌≡◌, ℕ, ◌<◌, ℤ, Bool, List, [], ◌∷◌, ◌++◌, length, take, get_or, set, Some, Result, Ok}
use Rattle.std.proofs.{Common.{Err, refl, sym, ap, subst, ◌∙◌}, lemmas.List.Quantifiers.position-Some}
use Rattle.std.specs.{Prelude.slice_set, Str.bytes_eq}
use Rattle.rule_table.specs.declared.technology.Tech.{Tech}
use Rattle.stick_text.specs.declared.{fault.{StickKind.StickKind, StickFault.StickFault}, design.Form.Form}
use Rattle.stick_text.specs.declared.design.{Form.TheVariants.Limit, Line.Line, CellText.CellText, Design.Design}
use Rattle.stick_text.specs.{Reading.◌>>=◌, Order.at_line}
use Rattle.checked_cells.specs.{CheckedCell.{CheckedCell, begun, known_at}, Lines.{after_form, after_lines}}
use Rattle.checked_cells.specs.{Lines.{cells_after, known_cells}, Grids.{grids_after, resolved_cells}}
use Rattle.checked_cells.proofs.{Accepted.{two_bound, ok_same}, Made.limit_made}
use Rattle.design_edits.specs.Cells.{unnumbered, no_cell, cell_text_at}
use Rattle.edit_lines.specs.{declared.script.EditLine.{EditLine, TheVariants.{Add, Take}}, Scripts.cell_in}
use Rattle.limit_edits.specs.{Edits.{number_named, ChangesTo, IsWithoutLimit, IsEdited}, Faults.HasLimitFault}
use Rattle.limit_edits.specs.Faults.{HasFaultOf, IsAtFaultAlone}
use Rattle.limit_edits.proofs.{Limitless.limitless, Renumbered.{kinded, resolved_renumbered, read_of, fault_of}}
use Rattle.limit_edits.proofs.Judged.{IsRead, with_lines, lines_read, lines_refused, line_more, line_less, cells_read}
use Rattle.limit_edits.proofs.{Judged.{cells_refused, old_read}, Designs.same_some}

-- ---- the cells and the grids of a design

record HasParts (tech : Tech) (design : Design) (cells : List CheckedCell) : Type 0 where
  cells_read : cells_after tech [] design.cells ≡ Ok cells
  grids_read : grids_after [] design.grids ≡ Ok tt

parts : (tech : Tech) (design : Design) (cells : List CheckedCell) → resolved_cells tech design ≡ Ok cells
    → HasParts tech design cells
unfolding resolved_cells known_cells
parts tech design cells e =
    let both : (all : List CheckedCell) × (u : Unit {0}) × (cells_after tech [] design.cells ≡ Ok all)
    × (grids_after [] design.grids ≡ Ok u)
    × (◌≡◌ {A = Result (List CheckedCell) StickFault} (Ok all) (Ok cells)) =
    two_bound (cells_after tech [] design.cells) (grids_after [] design.grids) (λ all apart. Ok all) cells e in
    record {
      cells_read = both.2 ∙ ap (λ (l : List CheckedCell). Ok l) (ok_same both.0 cells both.4);
      grids_read = both.3;
    }

-- with other lines in a cell
changed : Design → ℕ → List Line → Design
changed design k lines = record design { cells = set design.cells k (with_lines (get_or design.cells k no_cell) lines) }

design_read : (tech : Tech) (design : Design) (k : ℕ) (lines : List Line) (news : List CheckedCell)
    → cells_after tech [] (set design.cells k (with_lines (get_or design.cells k no_cell) lines)) ≡ Ok news
    → grids_after [] design.grids ≡ Ok tt
    → resolved_cells tech (changed design k lines) ≡ Ok news
unfolding resolved_cells known_cells changed
design_read tech design k lines news e f =
    ap (λ r. r >>= λ cells. grids_after [] design.grids >>= λ apart. Ok cells) e ∙ ap (λ r. r >>= λ apart. Ok news) f

design_refused : (tech : Tech) (design : Design) (k : ℕ) (lines : List Line) (fault : StickFault)
    → cells_after tech [] (set design.cells k (with_lines (get_or design.cells k no_cell) lines)) ≡ Err fault
    → resolved_cells tech (changed design k lines) ≡ Err fault
unfolding resolved_cells known_cells changed
design_refused tech design k lines fault e =
    ap (λ r. r >>= λ cells. grids_after [] design.grids >>= λ apart. Ok cells) e

-- ---- a limit more

add_refused : (tech : Tech) (design : Design) (cells : List CheckedCell) (k : ℕ) (form : Form) (kind : StickKind)
    → HasParts tech design cells → k < length design.cells
    → after_form tech (take k cells) (known_at cells k) form ≡ Err kind
    → resolved_cells tech (changed design k ((get_or design.cells k no_cell).lines ++ unnumbered form ∷ []))
    ≡ Err (record { line = 0; kind = kind })
add_refused tech design cells k form kind has lt bad =
    let old = get_or design.cells k no_cell in
    let fault : StickFault = record { line = 0; kind = kind } in
    let is : IsRead tech (take k cells) old (known_at cells k) = old_read tech design.cells cells k has.cells_read lt in
    let line : after_lines tech (take k cells) (begun old.name) (old.lines ++ unnumbered form ∷ []) ≡ Err fault =
    line_more tech (take k cells) (begun old.name) (known_at cells k) old.lines form is.lines
    ∙ ap (λ r. at_line 0 r >>= λ next. Ok next) bad in
    let cell = lines_refused tech (take k cells) old (known_at cells k) fault (old.lines ++ unnumbered form ∷ []) is
    line in
    design_refused tech design k (old.lines ++ unnumbered form ∷ []) fault
    (cells_refused tech design.cells cells k (with_lines old (old.lines ++ unnumbered form ∷ [])) fault
    has.cells_read lt cell)

add_read : (tech : Tech) (design : Design) (cells : List CheckedCell) (k : ℕ) (vertical : Bool) (a b : List ℕ)
    (at_most : Bool) (n : ℤ) (next : CheckedCell) → HasParts tech design cells → k < length design.cells
    → after_form tech (take k cells) (known_at cells k) (Limit vertical a b at_most n) ≡ Ok next
    → (news : List CheckedCell)
    × (resolved_cells tech
    (changed design k ((get_or design.cells k no_cell).lines ++ unnumbered (Limit vertical a b at_most n) ∷ []))
    ≡ Ok news)
add_read tech design cells k vertical a b at_most n next has lt good =
    let old = get_or design.cells k no_cell in
    let lines : List Line = old.lines ++ unnumbered (Limit vertical a b at_most n) ∷ [] in
    let is : IsRead tech (take k cells) old (known_at cells k) = old_read tech design.cells cells k has.cells_read lt in
    let same : limitless next ≡ limitless (known_at cells k) =
    ap limitless (sym (limit_made (take k cells) (known_at cells k) vertical a b at_most n next good).same) in
    let line : after_lines tech (take k cells) (begun old.name) lines ≡ Ok next =
    line_more tech (take k cells) (begun old.name) (known_at cells k) old.lines (Limit vertical a b at_most n)
    is.lines ∙ ap (λ r. at_line 0 r >>= λ next. Ok next) good in
    let cell = lines_read tech (take k cells) old (known_at cells k) next lines is line same in
    let all = cells_read tech design.cells cells k (with_lines old lines) next has.cells_read lt cell same in
    (all.0, design_read tech design k lines all.0 all.1 has.grids_read)

-- ---- a limit less

take_read : (tech : Tech) (design : Design) (cells : List CheckedCell) (k j : ℕ) (lines : List Line)
    → HasParts tech design cells → k < length design.cells
    → IsWithoutLimit (get_or design.cells k no_cell).lines j lines
    → (news : List CheckedCell) × (resolved_cells tech (changed design k lines) ≡ Ok news)
take_read tech design cells k j lines has lt without =
    let old = get_or design.cells k no_cell in
    let is : IsRead tech (take k cells) old (known_at cells k) = old_read tech design.cells cells k has.cells_read lt in
    let line = line_less tech (take k cells) (begun old.name) (known_at cells k) old.lines lines j without is.lines in
    let cell = lines_read tech (take k cells) old (known_at cells k) line.0 lines is line.1 line.2 in
    let all = cells_read tech design.cells cells k (with_lines old lines) line.0 has.cells_read lt cell line.2 in
    (all.0, design_read tech design k lines all.0 all.1 has.grids_read)

-- ---- an edit

-- the new design, on its own lines
new_kinds : (tech : Tech) (design : Design) (masters : List ℕ) (edit : EditLine) (new : Design) (k : ℕ)
    (is : IsEdited design masters edit new) → is.cell ≡ k
    → kinded (resolved_cells tech new) ≡ kinded (resolved_cells tech (changed design k is.lines))
unfolding changed with_lines
new_kinds tech design masters edit new k is same =
    ap (λ (d : Design). kinded (resolved_cells tech d)) is.made
    ∙ resolved_renumbered tech
    (record design {
      cells = slice_set design.cells is.cell
          (record (cell_text_at design is.cell) { lines = is.lines });
    })
    ∙ ap (λ (i : ℕ).
    kinded (resolved_cells tech
    (record design {
      cells = slice_set design.cells i
          (record (cell_text_at design i) { lines = is.lines });
    }))) same

within : (design : Design) (name : List ℕ) (k : ℕ) → number_named design.cells name ≡ Some k → k < length design.cells
within design name k e = (position-Some (λ (text : CellText). bytes_eq name text.name) design.cells k no_cell e).0

lines_here : (design : Design) (masters : List ℕ) (edit : EditLine) (new : Design) (k : ℕ)
    (is : IsEdited design masters edit new) → is.cell ≡ k
    → ChangesTo edit (get_or design.cells k no_cell).lines is.lines
lines_here design masters edit new k is same = let P : ℕ → Type 0 =
    λ i. ChangesTo edit (cell_text_at design i).lines is.lines in subst P same is.changed

at_fault : (tech : Tech) (design : Design) (masters : List ℕ) (edit : EditLine) (new : Design)
    → IsEdited design masters edit new → (cells : List CheckedCell) (k : ℕ) (kind : StickKind)
    → resolved_cells tech design ≡ Ok cells
    → number_named design.cells (cell_in edit) ≡ Some k → HasLimitFault cells k edit kind → HasFaultOf tech new kind
at_fault tech design masters (Add cell vertical a b at_most n) new is cells k kind e named bad =
    let same : is.cell ≡ k = same_some is.cell k (sym is.named ∙ named) in
    let lines = lines_here design masters (Add cell vertical a b at_most n) new k is same in
    let refused = add_refused tech design cells k (Limit vertical a b at_most n) kind (parts tech design cells e)
    (within design cell k named) bad in
    fault_of (resolved_cells tech new) (resolved_cells tech (changed design k is.lines))
    (record { line = 0; kind = kind })
    (new_kinds tech design masters (Add cell vertical a b at_most n) new k is same)
    (ap (λ (l : List Line). resolved_cells tech (changed design k l)) lines ∙ refused)
at_fault tech design masters (Take cell j) new is cells k kind e named bad = absurd bad

-- a limit without fault
read_or : (r : Result CheckedCell StickKind) → ((kind : StickKind) → r ≡ Err kind → ⊥)
    → (next : CheckedCell) × (r ≡ Ok next)
read_or (Ok next) none = (next, refl)
read_or (Err kind) none = absurd (none kind refl)

without : (tech : Tech) (design : Design) (masters : List ℕ) (edit : EditLine) (new : Design)
    → IsEdited design masters edit new → (cells : List CheckedCell) (k : ℕ) → resolved_cells tech design ≡ Ok cells
    → number_named design.cells (cell_in edit) ≡ Some k → ((kind : StickKind) → HasLimitFault cells k edit kind → ⊥)
    → (others : List CheckedCell) × (resolved_cells tech new ≡ Ok others)
without tech design masters (Add cell vertical a b at_most n) new is cells k e named none =
    let same : is.cell ≡ k = same_some is.cell k (sym is.named ∙ named) in
    let lines = lines_here design masters (Add cell vertical a b at_most n) new k is same in
    let next = read_or (after_form tech (take k cells) (known_at cells k) (Limit vertical a b at_most n)) none in
    let read = add_read tech design cells k vertical a b at_most n next.0 (parts tech design cells e)
    (within design cell k named) next.1 in (
      read.0,
      read_of (resolved_cells tech new) (resolved_cells tech (changed design k is.lines)) read.0
          (new_kinds tech design masters (Add cell vertical a b at_most n) new k is same)
          (ap (λ (l : List Line). resolved_cells tech (changed design k l)) lines ∙ read.1),
    )
without tech design masters (Take cell j) new is cells k e named none =
    let same : is.cell ≡ k = same_some is.cell k (sym is.named ∙ named) in
    let read = take_read tech design cells k j is.lines (parts tech design cells e) (within design cell k named)
    (lines_here design masters (Take cell j) new k is same) in (
      read.0,
      read_of (resolved_cells tech new) (resolved_cells tech (changed design k is.lines)) read.0
          (new_kinds tech design masters (Take cell j) new k is same) read.1,
    )

pub alone : (tech : Tech) (design : Design) (masters : List ℕ) (edit : EditLine) (new : Design)
    → IsEdited design masters edit new → IsAtFaultAlone tech design edit new
alone tech design masters edit new is =
    record { at_fault = at_fault tech design masters edit new is; without = without tech design masters edit new is }
