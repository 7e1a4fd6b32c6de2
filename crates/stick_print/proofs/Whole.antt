-- The whole canonical text says the design again, each line after the one before it.
use Rattle.std.proofs.Common.{◌≡◌, inl, inr, ℕ, suc, ◌+◌, ◌-◌, ◌<◌, ◌≤◌, false, eqb, List, [], ◌∷◌, ◌++◌, length}
use Rattle.std.proofs.Common.{get_or, take, map, Option, Result, Ok, refl, sym, ap, subst, ◌∙◌, append_assoc, arith}
use Rattle.std.proofs.lemmas.List.{length-append, Elements.All-from_recursion, Splits.slice_split_at}
use Rattle.std.{proofs.lemmas.{List.Splits.length-slice_split, Bool.Decides.nat_tests}, specs.List.slice_split}
use Rattle.std.specs.{List.{flat_map, AllByRecursion}, Str.Lines.{lines, lines_of_parts, strip_carriage_return}}
use Rattle.stick_text.specs.declared.{fault.StickKind.StickKind, design.{Line.Line, CellText.CellText, RowText.RowText}}
use Rattle.stick_text.specs.declared.design.{GridText.GridText, Design.Design, Statement.Statement}
use Rattle.stick_text.specs.{declared.design.Statement.TheVariants.{Version, Cell, Item, Grid, Row, End}, Lines.Entry}
use Rattle.stick_text.specs.{Lines.{with_entry, entries}, Says.{saying, form_line, cell_part, AreGridParts, AreLinesOf}}
use Rattle.stick_text.specs.{Says.{said_lines, SaysDesign}, Writable.{IsCount, IsLine, IsRow, IsStatement, IsCell}}
use Rattle.stick_text.specs.Writable.{IsGrid, HasName, AreGridsOf, IsWritable}
use Rattle.stick_text.proofs.{FirstLine.line_of_parts, Shapes.{regroup, design_read}}
use Rattle.stick_print.specs.Canonical.{keyword_of, words_of, spaced, line_of, item_line, row_line, cell_lines}
use Rattle.stick_print.specs.{Canonical.{grid_lines, canonical}, ReadBack.{without_number, without_numbers}}
use Rattle.stick_print.specs.ReadBack.{without_line, lines_from, cells_from, line_after_cells, grids_from, laid_out}
use Rattle.stick_print.{specs.ReadBack.ReadsAs, proofs.{Spelled.else_branch, Split.{IsInner, inner_line, inner_at}}}
use Rattle.stick_print.proofs.Statements.{body, line_again, plain_words, plain_keyword, some_keyword}

-- ---- the lines of the text

inner_body : (s : Statement) → IsStatement s → AllByRecursion IsInner (body s)
inner_body s h = inner_line (keyword_of s) (words_of s) (plain_keyword s) (plain_words s h)

no_end : (b : ℕ) → IsInner b → eqb b 10 ≡ false
no_end b h = let low : 32 ≤ b = h.0 in grind (arith, nat_tests)

no_ends : (bs : List ℕ) → AllByRecursion IsInner bs → AllByRecursion (λ b. eqb b 10 ≡ false) bs
no_ends [] h = tt
no_ends (b ∷ bs) h = (no_end b h.0, no_ends bs h.1)

no_return : (b : ℕ) → IsInner b → eqb b 13 ≡ false
no_return b h = let low : 32 ≤ b = h.0 in grind (arith, nat_tests)

kept_whole : (line : List ℕ) → 0 < length line → AllByRecursion IsInner line → strip_carriage_return line ≡ line
kept_whole line some h = else_branch (eqb (get_or line (length line - 1) 0) 13) (take (length line - 1) line) line
    (no_return (get_or line (length line - 1) 0) (inner_at line (length line - 1) h (omega arith)))

body_line : (s : Statement) (rest : List ℕ) → line_of s ++ rest ≡ body s ++ 10 ∷ rest
unfolding line_of
body_line s rest = append_assoc (keyword_of s) (spaced (words_of s) ++ 10 ∷ []) rest
    ∙ ap (λ (x : List ℕ). keyword_of s ++ x) (append_assoc (spaced (words_of s)) (10 ∷ []) rest)
    ∙ sym (append_assoc (keyword_of s) (spaced (words_of s)) (10 ∷ rest))

some_body : (s : Statement) → 0 < length (body s)
some_body s = omega (arith, some_keyword s, length-append (keyword_of s) (spaced (words_of s)))

lines_again : (ss : List Statement) → AllByRecursion IsStatement ss → lines (flat_map line_of ss) ≡ map body ss
lines_again [] h = refl
lines_again (s ∷ ss) h =
    let rest : List ℕ = flat_map line_of ss in
    let inner = inner_body s h.0 in
    let split : slice_split (λ b. eqb b 10) (body s ++ 10 ∷ rest) ≡ body s ∷ slice_split (λ b. eqb b 10) rest =
    slice_split_at (λ b. eqb b 10) (body s) 10 rest
    (All-from_recursion (λ b. eqb b 10 ≡ false) (body s) (no_ends (body s) inner)) refl in
    ap lines (body_line s rest) ∙ ap lines_of_parts split
    ∙ line_of_parts (body s) (slice_split (λ b. eqb b 10) rest)
    (omega (arith, length-slice_split (λ b. eqb b 10) rest))
    ∙ ap (λ (l : List ℕ). l ∷ lines rest) (kept_whole (body s) (some_body s) inner)
    ∙ ap (λ (ls : List (List ℕ)). body s ∷ ls) (lines_again ss h.1)

-- ---- the entries

abbrev numbered : ℕ → List Statement → List Entry
numbered k [] = []
numbered k (s ∷ ss) = record { number = k; said = Ok s } ∷ numbered (k + 1) ss

entries_again : (k : ℕ) (ss : List Statement) → AllByRecursion IsStatement ss → entries k (map body ss) ≡ numbered k ss
entries_again k [] h = refl
entries_again k (s ∷ ss) h =
    ap (λ (r : Result (Option Statement) StickKind). with_entry k r (entries (k + 1) (map body ss))) (line_again s h.0)
    ∙ ap (λ (es : List Entry). record { number = k; said = Ok s } ∷ es) (entries_again (k + 1) ss h.1)

-- ---- the statements of a design

abbrev after_lines : List Line → List Statement → List Statement
after_lines [] rest = rest
after_lines (l ∷ ls) rest = Item l.form ∷ after_lines ls rest

abbrev after_cells : List CellText → List Statement → List Statement
after_cells [] rest = rest
after_cells (c ∷ cs) rest = Cell c.name ∷ after_lines c.lines (End ∷ after_cells cs rest)

abbrev grid_rows : List RowText → List Statement → List Statement
grid_rows [] rest = End ∷ rest
grid_rows (r ∷ rs) rest = Row r ∷ grid_rows rs rest

abbrev after_grids : List GridText → List Statement
after_grids [] = []
after_grids (g ∷ gs) = Grid g.name ∷ grid_rows g.rows (after_grids gs)

abbrev statements : Design → List Statement
statements d = Version d.version ∷ after_cells d.cells (after_grids d.grids)

text_of_lines : (ls : List Line) (rest : List Statement)
    → flat_map line_of (after_lines ls rest) ≡ flat_map item_line ls ++ flat_map line_of rest
text_of_lines [] rest = refl
text_of_lines (l ∷ ls) rest = ap (λ (t : List ℕ). item_line l ++ t) (text_of_lines ls rest)
    ∙ sym (append_assoc (item_line l) (flat_map item_line ls) (flat_map line_of rest))

text_of_cells : (cs : List CellText) (rest : List Statement)
    → flat_map line_of (after_cells cs rest) ≡ flat_map cell_lines cs ++ flat_map line_of rest
unfolding cell_lines
text_of_cells [] rest = refl
text_of_cells (c ∷ cs) rest =
    let name = line_of (Cell c.name) in
    let items = flat_map item_line c.lines in
    let others = flat_map line_of (after_cells cs rest) in
    ap (λ (t : List ℕ). name ++ t) (text_of_lines c.lines (End ∷ after_cells cs rest))
    ∙ ap (λ (t : List ℕ). name ++ (items ++ (line_of End ++ t))) (text_of_cells cs rest)
    ∙ ap (λ (t : List ℕ). name ++ t)
    (sym (append_assoc items (line_of End) (flat_map cell_lines cs ++ flat_map line_of rest)))
    ∙ sym (append_assoc name (items ++ line_of End) (flat_map cell_lines cs ++ flat_map line_of rest))
    ∙ sym (append_assoc (name ++ (items ++ line_of End)) (flat_map cell_lines cs) (flat_map line_of rest))

text_of_rows : (rs : List RowText) (rest : List Statement)
    → flat_map line_of (grid_rows rs rest) ≡ flat_map row_line rs ++ (line_of End ++ flat_map line_of rest)
text_of_rows [] rest = refl
text_of_rows (r ∷ rs) rest = ap (λ (t : List ℕ). row_line r ++ t) (text_of_rows rs rest)
    ∙ sym (append_assoc (row_line r) (flat_map row_line rs) (line_of End ++ flat_map line_of rest))

text_of_grids : (gs : List GridText) → flat_map line_of (after_grids gs) ≡ flat_map grid_lines gs
unfolding grid_lines
text_of_grids [] = refl
text_of_grids (g ∷ gs) =
    let name = line_of (Grid g.name) in
    let rows = flat_map row_line g.rows in
    ap (λ (t : List ℕ). name ++ t) (text_of_rows g.rows (after_grids gs))
    ∙ ap (λ (t : List ℕ). name ++ (rows ++ (line_of End ++ t))) (text_of_grids gs)
    ∙ ap (λ (t : List ℕ). name ++ t) (sym (append_assoc rows (line_of End) (flat_map grid_lines gs)))
    ∙ sym (append_assoc name (rows ++ line_of End) (flat_map grid_lines gs))

text_of_design : (d : Design) → flat_map line_of (statements d) ≡ canonical d
unfolding canonical
text_of_design d = ap (λ (t : List ℕ). line_of (Version d.version) ++ t)
    (text_of_cells d.cells (after_grids d.grids)
    ∙ ap (λ (t : List ℕ). flat_map cell_lines d.cells ++ t) (text_of_grids d.grids))

are_lines : (ls : List Line) (rest : List Statement) → AllByRecursion IsLine ls → AllByRecursion IsStatement rest
    → AllByRecursion IsStatement (after_lines ls rest)
are_lines [] rest h k = k
are_lines (l ∷ ls) rest h k = (h.0, are_lines ls rest h.1 k)

are_cells : (cs : List CellText) (rest : List Statement) → AllByRecursion IsCell cs → AllByRecursion IsStatement rest
    → AllByRecursion IsStatement (after_cells cs rest)
are_cells [] rest h k = k
are_cells (c ∷ cs) rest h k = (h.0.0, are_lines c.lines (End ∷ after_cells cs rest) h.0.1 (tt, are_cells cs rest h.1 k))

are_rows : (rs : List RowText) (rest : List Statement) → AllByRecursion IsRow rs → AllByRecursion IsStatement rest
    → AllByRecursion IsStatement (grid_rows rs rest)
are_rows [] rest h k = (tt, k)
are_rows (r ∷ rs) rest h k = (h.0, are_rows rs rest h.1 k)

are_grids : (gs : List GridText) → AllByRecursion IsGrid gs → AllByRecursion IsStatement (after_grids gs)
are_grids [] h = tt
are_grids (g ∷ gs) h = (h.0.0, are_rows g.rows (after_grids gs) h.0.1 (are_grids gs h.1))

is_version : (version : ℕ) (gs : List GridText) → AreGridsOf version gs → IsCount version
is_version version gs (inl h) = omega (arith, h.0)
is_version version gs (inr h) = omega (arith, h.0)

are_statements : (d : Design) → IsWritable d → AllByRecursion IsStatement (statements d)
are_statements d h =
    (is_version d.version d.grids h.fits, are_cells d.cells (after_grids d.grids) h.cells (are_grids d.grids h.grids))

-- ---- the design that the statements are lines of

lines_shape : (k : ℕ) (ls : List Line) (rest : List Statement)
    → numbered k (after_lines ls rest) ≡ map form_line (lines_from k ls) ++ numbered (k + length ls) rest
lines_shape k [] rest = ap (λ (n : ℕ). numbered n rest) (omega arith)
lines_shape k (l ∷ ls) rest =
    let on : k + 1 + length ls ≡ k + length (l ∷ ls) = omega arith in
    ap (λ (es : List Entry). saying k (Item l.form) ∷ es)
    (lines_shape (k + 1) ls rest ∙ ap (λ (n : ℕ). map form_line (lines_from (k + 1) ls) ++ numbered n rest) on)

-- after the cells stands the rest
cells_shape : (k : ℕ) (cs : List CellText) (rest : List Statement)
    → numbered k (after_cells cs rest) ≡ flat_map cell_part (cells_from k cs) ++ numbered (line_after_cells k cs) rest
cells_shape k [] rest = refl
cells_shape k (c ∷ cs) rest =
    let end : ℕ = k + 1 + length c.lines in
    let made : CellText = record { name = c.name; line = k; end_line = end; lines = lines_from (k + 1) c.lines } in
    ap (λ (es : List Entry). saying k (Cell c.name) ∷ es) (lines_shape (k + 1) c.lines (End ∷ after_cells cs rest)
    ∙ ap (λ (es : List Entry). map form_line (lines_from (k + 1) c.lines) ++ saying end End ∷ es)
    (cells_shape (end + 1) cs rest))
    ∙ sym (regroup made (flat_map cell_part (cells_from (end + 1) cs)) (numbered (line_after_cells (end + 1) cs) rest))

rows_shape : (k : ℕ) (rs : List RowText) (rest : List Statement)
    → (inner : List Entry) × (last : ℕ)
    × (numbered k (grid_rows rs rest) ≡ inner ++ saying last End ∷ numbered (k + length rs + 1) rest)
    × (map (λ entry. entry.said) inner ≡ map (λ row. Ok (Row row)) rs)
rows_shape k [] rest =
    let none : k + 1 ≡ k + 0 + 1 = omega arith in
    ([], k, ap (λ (n : ℕ). saying k End ∷ numbered n rest) none, refl)
rows_shape k (r ∷ rs) rest =
    let others = rows_shape (k + 1) rs rest in
    let on : k + 1 + length rs + 1 ≡ k + length (r ∷ rs) + 1 = omega arith in (
      saying k (Row r) ∷ others.0,
      others.1,
      ap (λ (es : List Entry). saying k (Row r) ∷ es)
          (others.2 ∙ ap (λ (n : ℕ). others.0 ++ saying others.1 End ∷ numbered n rest) on),
      ap (λ (said : List (Result Statement StickKind)). Ok (Row r) ∷ said) others.3,
    )

grids_shape : (k : ℕ) (gs : List GridText) → AreGridParts (grids_from k gs) (numbered k (after_grids gs))
grids_shape k [] = refl
grids_shape k (g ∷ gs) =
    let rows = rows_shape (k + 1) g.rows (after_grids gs) in
    let next : ℕ = k + 1 + length g.rows + 1 in
    let end : List Entry = saying rows.1 End ∷ [] in
    let part : List Entry = saying k (Grid g.name) ∷ (rows.0 ++ end) in (
      part,
      numbered next (after_grids gs),
      ap (λ (es : List Entry). saying k (Grid g.name) ∷ es)
          (rows.2 ∙ sym (append_assoc rows.0 end (numbered next (after_grids gs)))),
      record { inner = rows.0; last = rows.1; parts = refl; each = rows.3 },
      grids_shape next gs,
    )

-- the grids have the names that they had
same_grid_count : (k : ℕ) (gs : List GridText) → length (grids_from k gs) ≡ length gs
same_grid_count k [] = refl
same_grid_count k (g ∷ gs) = ap suc (same_grid_count (k + 1 + length g.rows + 1) gs)

same_names : (k : ℕ) (gs : List GridText) → AllByRecursion HasName gs → AllByRecursion HasName (grids_from k gs)
same_names k [] h = tt
same_names k (g ∷ gs) h = (h.0, same_names (k + 1 + length g.rows + 1) gs h.1)

still_fit : (version k : ℕ) (gs : List GridText) → AreGridsOf version gs → AreGridsOf version (grids_from k gs)
still_fit version k gs (inl h) =
    inl (h.0, (record { name = h.1.0.name; line = k; rows = h.1.0.rows }, ap (grids_from k) h.1.1, h.1.2))
still_fit version k gs (inr h) = inr (h.0, (omega (arith, same_grid_count k gs, h.1.0), same_names k gs h.1.1))

design_shape : (d : Design) → IsWritable d → AreLinesOf (laid_out d) (numbered 1 (statements d))
design_shape d h =
    let after : ℕ = line_after_cells 2 d.cells in
    record {
      first = 1;
      grids = numbered after (after_grids d.grids);
      parts = ap (λ (es : List Entry). saying 1 (Version d.version) ∷ es) (cells_shape 2 d.cells (after_grids d.grids));
      grid_parts = grids_shape after d.grids;
      fits = still_fit d.version after d.grids h.fits;
    }

same_count : (k : ℕ) (cs : List CellText) → length (cells_from k cs) ≡ length cs
same_count k [] = refl
same_count k (c ∷ cs) = ap suc (same_count (k + 1 + length c.lines + 1) cs)

pub said_by_canonical : (d : Design) → IsWritable d → SaysDesign (canonical d) (laid_out d)
said_by_canonical d h =
    let ss = statements d in
    let all = are_statements d h in
    let in_lines : lines (canonical d) ≡ map body ss = ap lines (sym (text_of_design d)) ∙ lines_again ss all in
    let in_entries : said_lines (canonical d) ≡ numbered 1 ss = ap (entries 1) in_lines ∙ entries_again 1 ss all in
    record {
      has_lines = subst (AreLinesOf (laid_out d)) (sym in_entries) (design_shape d h);
      few_cells = omega (arith, same_count 2 d.cells, h.few_cells);
    }

-- ---- line numbers aside

same_lines : (k : ℕ) (ls : List Line) → map without_number (lines_from k ls) ≡ map without_number ls
same_lines k [] = refl
same_lines k (l ∷ ls) = ap (λ (x : List Line). without_number l ∷ x) (same_lines (k + 1) ls)

same_cells : (k : ℕ) (cs : List CellText) → map without_numbers (cells_from k cs) ≡ map without_numbers cs
same_cells k [] = refl
same_cells k (c ∷ cs) =
    let next : ℕ = k + 1 + length c.lines + 1 in
    ap (λ (x : List Line). record { name = c.name; line = 0; end_line = 0; lines = x } ∷ map without_numbers
    (cells_from next cs)) (same_lines (k + 1) c.lines) ∙ ap (λ (x : List CellText).
    without_numbers c ∷ x) (same_cells next cs)

same_grids : (k : ℕ) (gs : List GridText) → map without_line (grids_from k gs) ≡ map without_line gs
same_grids k [] = refl
same_grids k (g ∷ gs) = ap (λ (x : List GridText). without_line g ∷ x) (same_grids (k + 1 + length g.rows + 1) gs)

pub reads_back : (d : Design) → IsWritable d → ReadsAs (canonical d) d
reads_back d h = (
  laid_out d,
  design_read (canonical d) (laid_out d) (said_by_canonical d h),
  ap (λ (x : List CellText).
      record {
        version = d.version;
        cells = x;
        grids = map without_line (grids_from (line_after_cells 2 d.cells) d.grids);
      }) (same_cells 2 d.cells)
      ∙ ap (λ (x : List GridText). record { version = d.version; cells = map without_numbers d.cells; grids = x })
      (same_grids (line_after_cells 2 d.cells) d.grids),
)
