-- A cell whose limits are others is read as before, and so are the cells after it.
use Rattle.std.proofs.Common.{◌≡◌, ℕ, zero, suc, ◌+◌, ◌<◌, true, List, [], ◌∷◌, ◌++◌, length, map, take, drop, get_or}
use Rattle.std.proofs.Common.{set, Result, Ok, Err, refl, sym, ap, subst, ◌∙◌, append_assoc, arith}
use Rattle.std.proofs.Math.Seq.{take-append_seam, get_or-append_seam}
use Rattle.std.proofs.lemmas.List.{append-nil, length-append, map-append}
use Rattle.rule_table.specs.declared.technology.Tech.{Tech}
use Rattle.stick_text.specs.declared.fault.StickKind.{StickKind, TheVariants.{RepeatedName, PortWires}}
use Rattle.stick_text.specs.declared.{fault.StickFault.StickFault, design.Form.{Form, TheVariants.{Joint, Contact}}}
use Rattle.stick_text.specs.declared.design.{Form.TheVariants.{Buried, Fet, Port, Inst, Wire, Limit}, Line.Line}
use Rattle.stick_text.specs.{declared.design.CellText.CellText, Reading.{◌>>=◌, demand}, Order.at_line}
use Rattle.checked_cells.specs.{CheckedCell.{CheckedCell, begun, known_at}, Lines.{after_form, after_lines, is_wired}}
use Rattle.checked_cells.specs.Lines.{is_new_cell, after_cell, cells_after}
use Rattle.checked_cells.proofs.{Accepted.{bound, two_bound, ok_same}, Made.limit_made}
use Rattle.design_edits.specs.Cells.{unnumbered, no_cell}
use Rattle.limit_edits.specs.Edits.{is_limit, IsWithoutLimit}
use Rattle.limit_edits.proofs.Limitless.{limitless, bare, AreSame, lines_same, cell_same, read_same}

-- ---- lines, one after the other

then_equal : {A B E : Type 0} (r : Result A E) (f g : A → Result B E) → ((a : A) → f a ≡ g a) → (r >>= f) ≡ (r >>= g)
then_equal (Ok a) f g h = h a
then_equal (Err fault) f g h = refl

then_then : {A B C E : Type 0} (r : Result A E) (f : A → Result B E) (g : B → Result C E)
    → (r >>= λ a. f a >>= g) ≡ ((r >>= f) >>= g)
then_then (Ok a) f g = refl
then_then (Err fault) f g = refl

lines_append : (tech : Tech) (cells : List CheckedCell) (known : CheckedCell) (xs ys : List Line)
    → after_lines tech cells known (xs ++ ys)
    ≡ (after_lines tech cells known xs >>= λ next. after_lines tech cells next ys)
lines_append tech cells known [] ys = refl
lines_append tech cells known (x ∷ xs) ys =
    then_equal (at_line x.number (after_form tech cells known x.form)) _ _ (λ next. lines_append tech cells next xs ys)
    ∙ then_then (at_line x.number (after_form tech cells known x.form)) (λ next. after_lines tech cells next xs)
    (λ next. after_lines tech cells next ys)

-- ---- a cell

-- the text of a cell is read without fault
pub record IsRead (tech : Tech) (cells : List CheckedCell) (text : CellText) (known : CheckedCell) : Type 0 where
  pub fresh : at_line text.line (demand (is_new_cell cells text.name) RepeatedName) ≡ Ok tt
  pub lines : after_lines tech cells (begun text.name) text.lines ≡ Ok known
  pub wired : at_line text.end_line (demand (is_wired known) PortWires) ≡ Ok tt

ended : CellText → CheckedCell → Result CheckedCell StickFault
ended text last = at_line text.end_line (demand (is_wired last) PortWires) >>= λ wired. Ok last

is_read : (tech : Tech) (cells : List CheckedCell) (text : CellText) (known : CheckedCell)
    → after_cell tech cells text ≡ Ok known → IsRead tech cells text known
unfolding after_cell ended
is_read tech cells text known e =
    let read : (u : Unit {0}) × (last : CheckedCell)
    × (at_line text.line (demand (is_new_cell cells text.name) RepeatedName) ≡ Ok u)
    × (after_lines tech cells (begun text.name) text.lines ≡ Ok last) × (ended text last ≡ Ok known) =
    two_bound (at_line text.line (demand (is_new_cell cells text.name) RepeatedName))
    (after_lines tech cells (begun text.name) text.lines) (λ fresh last. ended text last) known e in
    let closed : (u : Unit {0}) × (at_line text.end_line (demand (is_wired read.1) PortWires) ≡ Ok u)
    × (◌≡◌ {A = Result CheckedCell StickFault} (Ok read.1) (Ok known)) =
    bound (at_line text.end_line (demand (is_wired read.1) PortWires)) (λ wired. Ok read.1) known read.4 in
    let same : read.1 ≡ known = ok_same read.1 known closed.2 in
    record {
      fresh = read.2;
      lines = read.3 ∙ ap (λ (k : CheckedCell). Ok k) same;
      wired = let P : CheckedCell → Type 0 = λ k. at_line text.end_line (demand (is_wired k) PortWires)
          ≡ Ok tt in subst P same closed.1;
    }

-- with other lines, which come to the same but for limits
unfoldable pub with_lines : CellText → List Line → CellText
with_lines text lines = record text { lines = lines }

pub lines_read : (tech : Tech) (cells : List CheckedCell) (text : CellText) (known new : CheckedCell)
    (lines : List Line) → IsRead tech cells text known → after_lines tech cells (begun text.name) lines ≡ Ok new
    → limitless new ≡ limitless known
    → after_cell tech cells (with_lines text lines) ≡ Ok new
unfolding after_cell with_lines
lines_read tech cells text known new lines is e same =
    let wired : at_line text.end_line (demand (is_wired new) PortWires) ≡ Ok tt =
    ap (λ (k : CheckedCell). at_line text.end_line (demand (is_wired k) PortWires)) same ∙ is.wired in
    ap (λ r. r >>= λ fresh. after_lines tech cells (begun text.name) lines >>= λ last.
    at_line text.end_line (demand (is_wired last) PortWires) >>= λ w. Ok last) is.fresh
    ∙ ap (λ r. r >>= λ last. at_line text.end_line (demand (is_wired last) PortWires) >>= λ w. Ok last) e
    ∙ ap (λ r. r >>= λ w. Ok new) wired

pub lines_refused : (tech : Tech) (cells : List CheckedCell) (text : CellText) (known : CheckedCell)
    (fault : StickFault) (lines : List Line) → IsRead tech cells text known
    → after_lines tech cells (begun text.name) lines ≡ Err fault
    → after_cell tech cells (with_lines text lines) ≡ Err fault
unfolding after_cell with_lines
lines_refused tech cells text known fault lines is e =
    ap (λ r. r >>= λ fresh. after_lines tech cells (begun text.name) lines >>= λ last.
    at_line text.end_line (demand (is_wired last) PortWires) >>= λ w. Ok last) is.fresh
    ∙ ap (λ r. r >>= λ last. at_line text.end_line (demand (is_wired last) PortWires) >>= λ w. Ok last) e

-- one more line
pub line_more : (tech : Tech) (cells : List CheckedCell) (first known : CheckedCell) (lines : List Line) (form : Form)
    → after_lines tech cells first lines ≡ Ok known
    → after_lines tech cells first (lines ++ unnumbered form ∷ [])
    ≡ (at_line 0 (after_form tech cells known form) >>= λ next. Ok next)
line_more tech cells first known lines form e = lines_append tech cells first lines (unnumbered form ∷ [])
    ∙ ap (λ r. r >>= λ next. after_lines tech cells next (unnumbered form ∷ [])) e

-- one line less, which was a limit
limit_passed : (tech : Tech) (cells : List CheckedCell) (known next : CheckedCell) (form : Form)
    → is_limit form ≡ true → after_form tech cells known form ≡ Ok next → limitless known ≡ limitless next
limit_passed tech cells known next (Limit vertical a b at_most n) is e =
    ap limitless (limit_made cells known vertical a b at_most n next e).same
limit_passed tech cells known next (Joint name layer col row width) is e = absurd cc
limit_passed tech cells known next (Contact name lower col row) is e = absurd cc
limit_passed tech cells known next (Buried name col row) is e = absurd cc
limit_passed tech cells known next (Fet name depletion vertical col row w l) is e = absurd cc
limit_passed tech cells known next (Port name side layer place) is e = absurd cc
limit_passed tech cells known next (Inst name cell col row) is e = absurd cc
limit_passed tech cells known next (Wire layer a b width) is e = absurd cc

line_ok : (n : ℕ) (r : Result CheckedCell StickKind) (known : CheckedCell) → at_line n r ≡ Ok known → r ≡ Ok known
line_ok n (Ok a) known e = ap (λ (k : CheckedCell). Ok k) (ok_same a known e)
line_ok n (Err kind) known e = absurd cc

pub line_less : (tech : Tech) (cells : List CheckedCell) (first known : CheckedCell) (lines new : List Line) (k : ℕ)
    → IsWithoutLimit lines k new → after_lines tech cells first lines ≡ Ok known
    → (other : CheckedCell) × (after_lines tech cells first new ≡ Ok other) × (limitless other ≡ limitless known)
line_less tech cells first known lines new k is e =
    let apart : (after_lines tech cells first is.prefix >>= λ next. after_lines tech cells next (is.limit ∷ is.back))
    ≡ Ok known =
    sym (lines_append tech cells first is.prefix (is.limit ∷ is.back))
    ∙ ap (after_lines tech cells first) (sym is.split) ∙ e in
    let prefix : (at : CheckedCell) × (after_lines tech cells first is.prefix ≡ Ok at)
    × (after_lines tech cells at (is.limit ∷ is.back) ≡ Ok known) =
    bound (after_lines tech cells first is.prefix) (λ next. after_lines tech cells next (is.limit ∷ is.back)) known
    apart in
    let passed : (next : CheckedCell)
    × (at_line is.limit.number (after_form tech cells prefix.0 is.limit.form) ≡ Ok next)
    × (after_lines tech cells next is.back ≡ Ok known) =
    bound (at_line is.limit.number (after_form tech cells prefix.0 is.limit.form))
    (λ next. after_lines tech cells next is.back) known prefix.2 in
    let same : limitless prefix.0 ≡ limitless passed.0 =
    limit_passed tech cells prefix.0 passed.0 is.limit.form is.of_limit
    (line_ok is.limit.number (after_form tech cells prefix.0 is.limit.form) passed.0 passed.1) in
    let bares : bare (after_lines tech cells prefix.0 is.back) ≡ Ok (limitless known) =
    lines_same tech cells cells prefix.0 passed.0 is.back refl same ∙ ap bare passed.2 in
    let back = read_same (after_lines tech cells prefix.0 is.back) known bares in
    let all : after_lines tech cells first new ≡ Ok back.0 =
    ap (after_lines tech cells first) is.kept ∙ lines_append tech cells first is.prefix is.back
    ∙ ap (λ r. r >>= λ next. after_lines tech cells next is.back) prefix.1 ∙ back.1 in
    (back.0, all, back.2)

-- ---- the cells

cells_grow : (tech : Tech) (cells : List CheckedCell) (texts : List CellText) (all : List CheckedCell)
    → cells_after tech cells texts ≡ Ok all → (more : List CheckedCell) × (all ≡ cells ++ more)
cells_grow tech cells [] all e = ([], sym (ok_same cells all e) ∙ sym (append-nil cells))
cells_grow tech cells (text ∷ texts) all e =
    let first : (known : CheckedCell) × (after_cell tech cells text ≡ Ok known)
    × (cells_after tech (cells ++ known ∷ []) texts ≡ Ok all) =
    bound (after_cell tech cells text) (λ known. cells_after tech (cells ++ known ∷ []) texts) all e in
    let rest = cells_grow tech (cells ++ first.0 ∷ []) texts all first.2 in
    (first.0 ∷ rest.0, rest.1 ∙ append_assoc cells (first.0 ∷ []) rest.0)

-- cell number k is read over the cells before it, and so is another cell in its place
record IsPlaced (tech : Tech) (cells : List CheckedCell) (texts : List CellText) (all : List CheckedCell) (k : ℕ)
    (text : CellText) (before : List CheckedCell) (known : CheckedCell) : Type 0 where
  is_before : take (length cells + k) all ≡ before
  is_known : known_at all (length cells + k) ≡ known
  read : after_cell tech before (get_or texts k no_cell) ≡ Ok known
  rest : cells_after tech (before ++ known ∷ []) (drop (suc k) texts) ≡ Ok all
  other : cells_after tech cells (set texts k text)
      ≡ (after_cell tech before text >>= λ new. cells_after tech (before ++ new ∷ []) (drop (suc k) texts))

placed : (tech : Tech) (cells : List CheckedCell) (texts : List CellText) (all : List CheckedCell) (k : ℕ)
    (text : CellText) → cells_after tech cells texts ≡ Ok all → k < length texts
    → (before : List CheckedCell) × (known : CheckedCell) × IsPlaced tech cells texts all k text before known
placed tech cells [] all k text e lt = absurd (omega (arith, lt))
placed tech cells (first ∷ texts) all zero text e lt =
    let one : (known : CheckedCell) × (after_cell tech cells first ≡ Ok known)
    × (cells_after tech (cells ++ known ∷ []) texts ≡ Ok all) =
    bound (after_cell tech cells first) (λ known. cells_after tech (cells ++ known ∷ []) texts) all e in
    let more = cells_grow tech (cells ++ one.0 ∷ []) texts all one.2 in
    let whole : all ≡ cells ++ one.0 ∷ more.0 = more.1 ∙ append_assoc cells (one.0 ∷ []) more.0 in
    let here : length cells + 0 ≡ length cells = omega arith in (
      cells,
      one.0,
      record {
        is_before = ap (λ (n : ℕ). take n all) here ∙ ap (take (length cells)) whole
            ∙ take-append_seam cells (one.0 ∷ more.0);
        is_known = ap (known_at all) here ∙ ap (λ (l : List CheckedCell). known_at l (length cells)) whole
            ∙ get_or-append_seam cells one.0 more.0 (begun []);
        read = one.1;
        rest = one.2;
        other = refl;
      },
    )
placed tech cells (first ∷ texts) all (suc k) text e lt =
    let one : (known : CheckedCell) × (after_cell tech cells first ≡ Ok known)
    × (cells_after tech (cells ++ known ∷ []) texts ≡ Ok all) =
    bound (after_cell tech cells first) (λ known. cells_after tech (cells ++ known ∷ []) texts) all e in
    let rest = placed tech (cells ++ one.0 ∷ []) texts all k text one.2 (omega (arith, lt)) in
    let same : length cells + suc k ≡ length (cells ++ one.0 ∷ []) + k =
    omega (arith, length-append cells (one.0 ∷ [])) in (
      rest.0,
      rest.1,
      record {
        is_before = ap (λ (n : ℕ). take n all) same ∙ rest.2.is_before;
        is_known = ap (known_at all) same ∙ rest.2.is_known;
        read = rest.2.read;
        rest = rest.2.rest;
        other = ap (λ r. r >>= λ known. cells_after tech (cells ++ known ∷ []) (set texts k text)) one.1 ∙ rest.2.other;
      },
    )

-- cells over others that are the same but for their limits
cells_same : (tech : Tech) (cells others : List CheckedCell) (texts : List CellText) (all : List CheckedCell)
    → AreSame cells others → cells_after tech cells texts ≡ Ok all
    → (news : List CheckedCell) × (cells_after tech others texts ≡ Ok news)
cells_same tech cells others [] all same e = (others, refl)
cells_same tech cells others (text ∷ texts) all same e =
    let first : (known : CheckedCell) × (after_cell tech cells text ≡ Ok known)
    × (cells_after tech (cells ++ known ∷ []) texts ≡ Ok all) =
    bound (after_cell tech cells text) (λ known. cells_after tech (cells ++ known ∷ []) texts) all e in
    let other = read_same (after_cell tech others text) first.0
    (sym (cell_same tech cells others text same) ∙ ap bare first.1) in
    let longer : AreSame (cells ++ first.0 ∷ []) (others ++ other.0 ∷ []) =
    map-append limitless cells (first.0 ∷ []) ∙ ap (λ (l : List CheckedCell). l ++ limitless first.0 ∷ []) same
    ∙ ap (λ (known : CheckedCell). map limitless others ++ known ∷ []) (sym other.2)
    ∙ sym (map-append limitless others (other.0 ∷ [])) in
    let rest = cells_same tech (cells ++ first.0 ∷ []) (others ++ other.0 ∷ []) texts all longer first.2 in
    (rest.0, ap (λ r. r >>= λ known. cells_after tech (others ++ known ∷ []) texts) other.1 ∙ rest.1)

last_same : (before : List CheckedCell) (known new : CheckedCell) → limitless new ≡ limitless known
    → AreSame (before ++ known ∷ []) (before ++ new ∷ [])
last_same before known new e =
    map-append limitless before (known ∷ []) ∙ ap (λ (k : CheckedCell). map limitless before ++ k ∷ []) (sym e)
    ∙ sym (map-append limitless before (new ∷ []))

-- another cell in the place of one, which is the same but for its limits
pub cells_read : (tech : Tech) (texts : List CellText) (all : List CheckedCell) (k : ℕ) (text : CellText)
    (new : CheckedCell) → cells_after tech [] texts ≡ Ok all → k < length texts
    → after_cell tech (take k all) text ≡ Ok new → limitless new ≡ limitless (known_at all k)
    → (news : List CheckedCell) × (cells_after tech [] (set texts k text) ≡ Ok news)
cells_read tech texts all k text new e lt read same =
    let at = placed tech [] texts all k text e lt in
    let here : 0 + k ≡ k = omega arith in
    let before : take k all ≡ at.0 = ap (λ (n : ℕ). take n all) (sym here) ∙ at.2.is_before in
    let known : known_at all k ≡ at.1 = ap (known_at all) (sym here) ∙ at.2.is_known in
    let rest = cells_same tech (at.0 ++ at.1 ∷ []) (at.0 ++ new ∷ []) (drop (suc k) texts) all
    (last_same at.0 at.1 new (same ∙ ap limitless known)) at.2.rest in (
      rest.0,
      at.2.other ∙ ap (λ r. r >>= λ known. cells_after tech (at.0 ++ known ∷ []) (drop (suc k) texts))
          (ap (λ (l : List CheckedCell). after_cell tech l text) (sym before) ∙ read) ∙ rest.1,
    )

pub cells_refused : (tech : Tech) (texts : List CellText) (all : List CheckedCell) (k : ℕ) (text : CellText)
    (fault : StickFault) → cells_after tech [] texts ≡ Ok all → k < length texts
    → after_cell tech (take k all) text ≡ Err fault
    → cells_after tech [] (set texts k text) ≡ Err fault
cells_refused tech texts all k text fault e lt read =
    let at = placed tech [] texts all k text e lt in
    let here : 0 + k ≡ k = omega arith in
    let before : take k all ≡ at.0 = ap (λ (n : ℕ). take n all) (sym here) ∙ at.2.is_before in
    at.2.other ∙ ap (λ r. r >>= λ known. cells_after tech (at.0 ++ known ∷ []) (drop (suc k) texts))
    (ap (λ (l : List CheckedCell). after_cell tech l text) (sym before) ∙ read)

-- the cell as it was
pub old_read : (tech : Tech) (texts : List CellText) (all : List CheckedCell) (k : ℕ)
    → cells_after tech [] texts ≡ Ok all → k < length texts
    → IsRead tech (take k all) (get_or texts k no_cell) (known_at all k)
old_read tech texts all k e lt =
    let at = placed tech [] texts all k no_cell e lt in
    let here : 0 + k ≡ k = omega arith in
    let before : take k all ≡ at.0 = ap (λ (n : ℕ). take n all) (sym here) ∙ at.2.is_before in
    let known : known_at all k ≡ at.1 = ap (known_at all) (sym here) ∙ at.2.is_known in
    is_read tech (take k all) (get_or texts k no_cell) (known_at all k)
    (ap (λ (l : List CheckedCell). after_cell tech l (get_or texts k no_cell)) before ∙ at.2.read
    ∙ ap (λ (a : CheckedCell). Ok a) (sym known))
