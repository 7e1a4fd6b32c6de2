-- What a text gives line by line is the design whose lines it has.
use Rattle.std.proofs.Common.{◌≡◌, ◌⊎◌, inl, inr, ℕ, ◌+◌, ◌≤◌, ◌<◌, Bool, true, false, cond, eqb, List, [], ◌∷◌, ◌++◌}
use Rattle.std.proofs.Common.{length, map, Option, Some, None, Result, Ok, Err, refl, sym, ap, subst, ◌∙◌, append_assoc}
use Rattle.std.proofs.{Common.arith, lemmas.Bool.Decides.nat_tests}
use Rattle.std.specs.{Prelude.{IfSome, flat_map, IfOk}, List.AllByRecursion}
use Rattle.stick_text.specs.declared.fault.StickKind.{StickKind, TheVariants.{BadLine, TooManyCells}}
use Rattle.stick_text.specs.declared.{fault.{StickFault.StickFault, ParseFault.ParseFault}, design.Line.Line}
use Rattle.stick_text.specs.declared.design.{CellText.CellText, RowText.RowText, GridText.GridText, Design.Design}
use Rattle.stick_text.specs.declared.design.Statement.{Statement, TheVariants.{Version, Cell, Item, Grid, Row, End}}
use Rattle.stick_text.specs.{Reading.{◌>>=◌, Gives}, Lines.Entry, Order.{Place, AtHead, AfterCells, InCell, InGrid}}
use Rattle.stick_text.specs.Order.{AtEnd, place_after, Rest, with_line, at_line, at_end, rest_from, design_in}
use Rattle.stick_text.specs.{Order.{last_line, design_of}, Writable.{IsWritable, AreGridsOf, IsOneUnnamed}}
use Rattle.stick_text.specs.{Writable.{AreSomeNamed, HasName}, Says.{saying, form_line, cell_part, IsGridPart}}
use Rattle.stick_text.specs.Says.{AreGridParts, AreLinesOf, said_lines, SaysDesign}
use Rattle.stick_text.proofs.Written.{Holds, then_holds, at_line_holds, IsMadeOf, design_holds}

-- ---- the shape of what stands from some place on

-- where a line stands, however many cells stand in front
pub data LineState : Type 0 where
  Head : LineState
  Between : Bool → LineState
  Inside : Bool → LineState
  Rows : Bool → LineState
  Done : Bool → LineState

abbrev pub state_of : Place → LineState
state_of AtHead = Head
state_of (AfterCells named n) = Between named
state_of (InCell named n) = Inside named
state_of (InGrid named) = Rows named
state_of (AtEnd named) = Done named

abbrev pub turn_head : Bool → Bool → Option LineState
turn_head first second = cond first (Some (Between false)) (cond second (Some (Between true)) None)

abbrev pub turn : LineState → Statement → Option LineState
turn Head (Version version) = turn_head (eqb version 1) (eqb version 2)
turn (Between named) (Cell name) = Some (Inside named)
turn (Inside named) (Item form) = Some (Inside named)
turn (Inside named) End = Some (Between named)
turn (Between false) (Grid None) = Some (Rows false)
turn (Between true) (Grid (Some name)) = Some (Rows true)
turn (Rows named) (Row row) = Some (Rows named)
turn (Rows named) End = Some (Done named)
turn (Done true) (Grid (Some name)) = Some (Rows true)
turn state statement = None

-- the grids after one
abbrev pub MoreGrids : Bool → List GridText → Type 0
MoreGrids false gs = gs ≡ []
MoreGrids true gs = AllByRecursion HasName gs

-- the grids after the cells
abbrev pub AllGrids : Bool → List GridText → Type 0
AllGrids false gs = IsOneUnnamed gs
AllGrids true gs = AreSomeNamed gs

abbrev pub GridsPart : Bool → List GridText → List Entry → Type 0
GridsPart named gs es = MoreGrids named gs × AreGridParts gs es

abbrev pub CellsPart : Bool → List CellText → List GridText → List Entry → Type 0
CellsPart named cs gs es = (grids : List Entry) × (es ≡ flat_map cell_part cs ++ grids) × AllGrids named gs
    × AreGridParts gs grids

abbrev pub RowsPart : Bool → List RowText → List GridText → List Entry → Type 0
RowsPart named rs gs es =
    (inner : List Entry) × (last : ℕ) × (more : List Entry) × (es ≡ inner ++ saying last End ∷ more)
    × (map (λ entry. entry.said) inner ≡ map (λ row. Ok (Row row)) rs) × GridsPart named gs more

abbrev VersionPart : Rest → List Entry → Type 0
VersionPart r es = ((r.version ≡ 1) × CellsPart false r.cells r.grids es)
    ⊎ ((r.version ≡ 2) × CellsPart true r.cells r.grids es)

abbrev pub From : LineState → List Entry → Rest → Type 0
From Head es r = (k : ℕ) × (more : List Entry) × (es ≡ saying k (Version r.version) ∷ more) × VersionPart r more
From (Between named) es r = CellsPart named r.cells r.grids es
From (Inside named) es r = (more : List Entry) × (es ≡ map form_line r.lines ++ saying r.end_line End ∷ more)
    × CellsPart named r.cells r.grids more
From (Rows named) es r = (r.cells ≡ []) × RowsPart named r.rows r.grids es
From (Done named) es r = (r.cells ≡ []) × GridsPart named r.grids es

-- the lines of a cell, in front of others
pub regroup : (c : CellText) (others grid : List Entry)
    → (cell_part c ++ others) ++ grid ≡ saying c.line (Cell c.name) ∷
    (map form_line c.lines ++ saying c.end_line End ∷ (others ++ grid))
regroup c others grid =
    ap (λ (es : List Entry). saying c.line (Cell c.name) ∷ es)
    (append_assoc (map form_line c.lines ++ saying c.end_line End ∷ []) others grid
    ∙ append_assoc (map form_line c.lines) (saying c.end_line End ∷ []) (others ++ grid))

cell_before : (named : Bool) (name : List ℕ) (k : ℕ) (es : List Entry) (r : Rest) → From (Inside named) es r
    → From (Between named) (saying k (Cell name) ∷ es) (with_line k (Cell name) r)
cell_before named name k es r f =
    let made : CellText = record { name = name; line = k; end_line = r.end_line; lines = r.lines } in (
      f.2.0,
      ap (λ (x : List Entry). saying k (Cell name) ∷ x)
          (f.1 ∙ ap (λ (x : List Entry). map form_line r.lines ++ saying r.end_line End ∷ x) f.2.1)
          ∙ sym (regroup made (flat_map cell_part r.cells) f.2.0),
      f.2.2,
      f.2.3,
    )

-- the first line of a grid, in front of its rows and the grids after it
grid_parts : (named : Bool) (name : Option (List ℕ)) (k : ℕ) (es : List Entry) (r : Rest) → From (Rows named) es r
    → AreGridParts (record { name = name; line = k; rows = r.rows } ∷ r.grids) (saying k (Grid name) ∷ es)
grid_parts named name k es r f =
    let parts = f.1 in
    let part : List Entry = saying k (Grid name) ∷ (parts.0 ++ saying parts.1 End ∷ []) in (
      part,
      parts.2,
      ap (λ (x : List Entry). saying k (Grid name) ∷ x)
          (parts.3 ∙ sym (append_assoc parts.0 (saying parts.1 End ∷ []) parts.2)),
      record { inner = parts.0; last = parts.1; parts = refl; each = parts.4 },
      parts.5.1,
    )

grid_before : (named : Bool) (name : Option (List ℕ)) (k : ℕ) (es : List Entry) (r : Rest) → From (Rows named) es r
    → AllGrids named (record { name = name; line = k; rows = r.rows } ∷ r.grids)
    → From (Between named) (saying k (Grid name) ∷ es) (with_line k (Grid name) r)
grid_before named name k es r f all =
    let no_cells : flat_map cell_part r.cells ≡ [] = ap (flat_map cell_part) f.0 in (
      saying k (Grid name) ∷ es,
      ap (λ (x : List Entry). x ++ saying k (Grid name) ∷ es)
          (sym no_cells),
      all,
      grid_parts named name k es r f,
    )

head_before : (first second : Bool) (version k : ℕ) (es : List Entry) (r : Rest) → eqb version 1 ≡ first
    → eqb version 2 ≡ second
    → IfSome (turn_head first second) (λ next. From next es r
    → From Head (saying k (Version version) ∷ es) (with_line k (Version version) r))
head_before true second version k es r one two = λ f. (k, es, refl, inl (borrow.Author.Tests.eqb-true _ _ one, f))
head_before false true version k es r one two = λ f. (k, es, refl, inr (borrow.Author.Tests.eqb-true _ _ two, f))
head_before false false version k es r one two = tt

pub step : (p : LineState) (s : Statement) (k : ℕ) (es : List Entry) (r : Rest)
    → IfSome (turn p s) (λ next. From next es r → From p (saying k s ∷ es) (with_line k s r))
step Head (Version version) k es r = head_before (eqb version 1) (eqb version 2) version k es r refl refl
step (Between named) (Cell name) k es r = cell_before named name k es r
step (Inside named) (Item form) k es r = λ f. (f.0, ap (λ (x : List Entry). saying k (Item form) ∷ x) f.1, f.2)
step (Inside named) End k es r = λ f. (es, refl, f)
step (Between false) (Grid None) k es r =
    let made : GridText = record { name = None; line = k; rows = r.rows } in
    λ f. grid_before false None k es r f (made, ap (λ (gs : List GridText). made ∷ gs) f.1.5.0, refl)
step (Between true) (Grid (Some name)) k es r =
    λ f. grid_before true (Some name) k es r f (omega arith, ((name, refl), f.1.5.0))
step (Rows named) (Row row) k es r =
    λ f. (
      f.0,
      (
        saying k (Row row) ∷ f.1.0,
        f.1.1,
        f.1.2,
        ap (λ (x : List Entry). saying k (Row row) ∷ x) f.1.3,
        ap
            (λ (x : List (Result Statement StickKind)). Ok (Row row) ∷ x) f.1.4,
        f.1.5,
      ),
    )
step (Rows named) End k es r = λ f. (f.0, ([], k, es, refl, refl, f.1))
step (Done true) (Grid (Some name)) k es r = λ f. (f.0, (((name, refl), f.1.5.0), grid_parts true (Some name) k es r f))
step p s k es r = tt

-- the line of an entry that can be read
pub entry_is : (e : Entry) (s : Statement) → e.said ≡ Ok s → e ≡ saying e.number s
entry_is e s h = ap (λ (x : Result Statement StickKind). record { number = e.number; said = x }) h

pub step_on : (p next : LineState) (e : Entry) (s : Statement) (es : List Entry) (r : Rest) → e.said ≡ Ok s
    → turn p s ≡ Some next → From next es r → From p (e ∷ es) (with_line e.number s r)
step_on p next e s es r said to f =
    let before : From p (saying e.number s ∷ es) (with_line e.number s r) =
    subst (λ (o : Option LineState).
    IfSome o (λ m. From m es r → From p (saying e.number s ∷ es) (with_line e.number s r))) to (step p s e.number
    es r) f in
    subst (λ (x : Entry). From p (x ∷ es) (with_line e.number s r)) (sym (entry_is e s said)) before

-- ---- what is read has the shape

cell_turn : (b named : Bool) (n : ℕ)
    → Holds {E = StickKind} (λ next. Some (Inside named) ≡ Some (state_of next))
    (cond b (Err TooManyCells) (Ok (InCell named (n + 1))))
cell_turn true named n = tt
cell_turn false named n = refl

head_turn : (first second : Bool)
    → Holds {E = StickKind} (λ next. turn_head first second ≡ Some (state_of next))
    (cond first (Ok (AfterCells false 0)) (cond second (Ok (AfterCells true 0)) (Err BadLine)))
head_turn true second = refl
head_turn false true = refl
head_turn false false = tt

pub turns : (p : Place) (s : Statement) → Holds (λ next. turn (state_of p) s ≡ Some (state_of next)) (place_after p s)
turns AtHead (Version version) = head_turn (eqb version 1) (eqb version 2)
turns (AfterCells named n) (Cell name) = cell_turn (eqb n 256) named n
turns (InCell named n) (Item form) = refl
turns (InCell named n) End = refl
turns (AfterCells false n) (Grid None) = refl
turns (AfterCells true n) (Grid (Some name)) = refl
turns (InGrid named) (Row row) = refl
turns (InGrid named) End = refl
turns (AtEnd true) (Grid (Some name)) = refl
turns p s = tt

said_as : (r : Result Statement StickKind) → Holds (λ s. r ≡ Ok s) r
said_as (Ok s) = refl
said_as (Err kind) = tt

end_shape : (last : ℕ) (p : Place) → Holds (From (state_of p) []) (at_end last p)
end_shape last AtHead = tt
end_shape last (AfterCells named n) = tt
end_shape last (InCell named n) = tt
end_shape last (InGrid named) = tt
end_shape last (AtEnd false) = (refl, (refl, refl))
end_shape last (AtEnd true) = (refl, (tt, refl))

pub shape_of : (last : ℕ) (p : Place) (es : List Entry) → Holds (From (state_of p) es) (rest_from last p es)
shape_of last p [] = end_shape last p
shape_of last p (e ∷ es) =
    then_holds (λ s. e.said ≡ Ok s) (From (state_of p) (e ∷ es)) (at_line e.number e.said) _
    (at_line_holds (λ s. e.said ≡ Ok s) e.number e.said (said_as e.said)) (λ s said.
    then_holds (λ next. turn (state_of p) s ≡ Some (state_of next)) (From (state_of p) (e ∷ es))
    (at_line e.number (place_after p s)) _
    (at_line_holds (λ next. turn (state_of p) s ≡ Some (state_of next)) e.number (place_after p s) (turns p s))
    (λ next to.
    then_holds (From (state_of next) es) (From (state_of p) (e ∷ es)) (rest_from last next es) _
    (shape_of last next es) (λ rest f.
    step_on (state_of p) (state_of next) e s es rest said to f)))

by_version : (es more : List Entry) (k : ℕ) (r : Rest) → es ≡ saying k (Version r.version) ∷ more → VersionPart r more
    → AreLinesOf (design_in r) es
by_version es more k r e (inl f) =
    record {
      first = k;
      grids = f.1.0;
      parts = e ∙ ap (λ (x : List Entry). saying k (Version r.version) ∷ x) f.1.1;
      grid_parts = f.1.3;
      fits = inl (f.0, f.1.2);
    }
by_version es more k r e (inr f) =
    record {
      first = k;
      grids = f.1.0;
      parts = e ∙ ap (λ (x : List Entry). saying k (Version r.version) ∷ x) f.1.1;
      grid_parts = f.1.3;
      fits = inr (f.0, f.1.2);
    }

pub lines_of : (es : List Entry) (r : Rest) → From Head es r → AreLinesOf (design_in r) es
lines_of es r f = by_version es f.1 f.0 r f.2 f.3

pub design_said : (text : List ℕ) (design : Design) → design_of text ≡ Ok design → SaysDesign text design
unfolding design_of
design_said text design e =
    let found : Holds (λ d. AreLinesOf d (said_lines text)) (design_of text) =
    then_holds (From Head (said_lines text)) (λ d. AreLinesOf d (said_lines text))
    (rest_from (last_line text) AtHead (said_lines text)) _ (shape_of (last_line text) AtHead (said_lines text))
    (λ rest f. lines_of (said_lines text) rest f) in
    let made : IsMadeOf design = subst (Holds IsMadeOf) e (design_holds text) in
    record { has_lines = subst (Holds (λ d. AreLinesOf d (said_lines text))) e found; few_cells = made.few_cells }

-- a design that is read can be written
pub read_is_writable : (text : List ℕ) (r : Result Design ParseFault) → Gives (λ design. design) r (design_of text)
    → IfOk r IsWritable
read_is_writable text (Ok design) e =
    let made : IsMadeOf design = subst (Holds IsMadeOf) e (design_holds text) in
    let said = design_said text design e in
    record { cells = made.cells; few_cells = made.few_cells; grids = made.grids; fits = said.has_lines.fits }
read_is_writable text (Err fault) e = tt

-- ---- what has the shape is read

abbrev then_line : ℕ → Statement → Result Rest StickFault → Result Rest StickFault
then_line k s read = read >>= λ rest. Ok (with_line k s rest)

rows_read : (last : ℕ) (named : Bool) (inner : List Entry) (rs : List RowText) (end : ℕ) (more : List Entry)
    (r : Rest) → map (λ entry. entry.said) inner ≡ map (λ row. Ok (Row row)) rs
    → rest_from last (AtEnd named) more ≡ Ok r
    → rest_from last (InGrid named) (inner ++ saying end End ∷ more)
    ≡ Ok (record r { lines = []; end_line = end; rows = rs })
rows_read last named [] [] end more r e after = ap (then_line end End) after
rows_read last named [] (x ∷ rs) end more r e after = absurd cc
rows_read last named (x ∷ xs) [] end more r e after = absurd cc
rows_read last named (x ∷ xs) (row ∷ rs) end more r e after =
    let here : x.said ≡ Ok (Row row) = cc in
    let others : map (λ entry. entry.said) xs ≡ map (λ row. Ok (Row row)) rs = cc in
    ap (λ (y : Entry). rest_from last (InGrid named) (y ∷ (xs ++ saying end End ∷ more))) (entry_is x (Row row) here)
    ∙ ap (then_line x.number (Row row)) (rows_read last named xs rs end more r others after)

-- what grids give
abbrev gridded : ℕ → List GridText → Rest
gridded end gs = record { version = 0; lines = []; end_line = end; cells = []; rows = []; grids = gs }

-- a grid after a place where its first line may stand
grid_read : (last : ℕ) (p : Place) (named : Bool) (g : GridText) (gs : List GridText) (end : ℕ)
    (es part others : List Entry) → place_after p (Grid g.name) ≡ Ok (InGrid named) → es ≡ part ++ others
    → IsGridPart g part
    → rest_from last (AtEnd named) others ≡ Ok (gridded end gs)
    → (to : ℕ) × (rest_from last p es ≡ Ok (gridded to (g ∷ gs)))
grid_read last p named g gs end es part others may parts is after =
    let lines : es ≡ saying g.line (Grid g.name) ∷ (is.inner ++ saying is.last End ∷ others) =
    parts ∙ ap (λ (x : List Entry). x ++ others) is.parts
    ∙ ap (λ (x : List Entry). saying g.line (Grid g.name) ∷ x)
    (append_assoc is.inner (saying is.last End ∷ []) others) in
    let inside : List Entry = is.inner ++ saying is.last End ∷ others in (
      is.last,
      ap (rest_from last p) lines
          ∙ ap (λ (next : Result Place StickKind). at_line g.line next >>= λ q.
          then_line g.line (Grid g.name) (rest_from last q inside)) may
          ∙ ap (then_line g.line (Grid g.name))
          (rows_read last named is.inner g.rows is.last others (gridded end gs) is.each after),
    )

may_follow : (name : Option (List ℕ)) → ((n : List ℕ) × (name ≡ Some n))
    → place_after (AtEnd true) (Grid name) ≡ Ok (InGrid true)
may_follow name h = ap (λ (x : Option (List ℕ)). place_after (AtEnd true) (Grid x)) h.1

more_read : (last : ℕ) (named : Bool) (gs : List GridText) (es : List Entry) → MoreGrids named gs → AreGridParts gs es
    → (end : ℕ) × (rest_from last (AtEnd named) es ≡ Ok (gridded end gs))
more_read last named [] es h parts = (0, ap (rest_from last (AtEnd named)) parts)
more_read last false (g ∷ gs) es h parts = absurd cc
more_read last true (g ∷ gs) es h parts =
    let others = more_read last true gs parts.1 h.1 parts.4 in
    grid_read last (AtEnd true) true g gs others.0 es parts.0 parts.1 (may_follow g.name h.0) parts.2 parts.3 others.1

all_read : (last n : ℕ) (named : Bool) (gs : List GridText) (es : List Entry) → AllGrids named gs → AreGridParts gs es
    → (end : ℕ) × (rest_from last (AfterCells named n) es ≡ Ok (gridded end gs))
all_read last n false [] es h parts = absurd cc
all_read last n true [] es h parts = absurd (omega (arith, h.0))
all_read last n false (g ∷ gs) es h parts =
    let alone : gs ≡ [] = cc in
    let same : g ≡ h.0 = cc in
    let no_name : g.name ≡ None = ap (λ (x : GridText). x.name) same ∙ h.2 in
    let others = more_read last false gs parts.1 alone parts.4 in
    grid_read last (AfterCells false n) false g gs others.0 es parts.0 parts.1
    (ap (λ (x : Option (List ℕ)). place_after (AfterCells false n) (Grid x)) no_name) parts.2 parts.3 others.1
all_read last n true (g ∷ gs) es h parts =
    let others = more_read last true gs parts.1 h.1.1 parts.4 in
    grid_read last (AfterCells true n) true g gs others.0 es parts.0 parts.1
    (ap (λ (x : Option (List ℕ)). place_after (AfterCells true n) (Grid x)) h.1.0.1) parts.2 parts.3 others.1

lines_read : (last n : ℕ) (named : Bool) (ls : List Line) (end : ℕ) (more : List Entry) (r : Rest)
    → rest_from last (AfterCells named n) more ≡ Ok r
    → rest_from last (InCell named n) (map form_line ls ++ saying end End ∷ more)
    ≡ Ok (record r { lines = ls; end_line = end; rows = [] })
lines_read last n named [] end more r e = ap (then_line end End) e
lines_read last n named (l ∷ ls) end more r e =
    ap (then_line l.number (Item l.form)) (lines_read last n named ls end more r e)

pub room_left : (n : ℕ) (named : Bool) → n < 256
    → cond (eqb n 256) (Err TooManyCells) (Ok (InCell named (n + 1))) ≡ Ok (InCell named (n + 1))
room_left n named h = ap (λ b. cond b (Err TooManyCells) (Ok (InCell named (n + 1))))
    (let differs : eqb n 256 ≡ false = grind (arith, nat_tests) in differs)

cells_read : (last n : ℕ) (named : Bool) (cs : List CellText) (gs : List GridText) (grids : List Entry)
    → n + length cs ≤ 256 → AllGrids named gs → AreGridParts gs grids
    → (end : ℕ)
    × (rest_from last (AfterCells named n) (flat_map cell_part cs ++ grids)
    ≡ Ok (record { version = 0; lines = []; end_line = end; cells = cs; rows = []; grids = gs }))
cells_read last n named [] gs grids few all parts = all_read last n named gs grids all parts
cells_read last n named (c ∷ cs) gs grids few all parts =
    let others = cells_read last (n + 1) named cs gs grids (omega arith) all parts in
    let inside : List Entry = map form_line c.lines ++ saying c.end_line End ∷ (flat_map cell_part cs ++ grids) in (
      0,
      ap (rest_from last (AfterCells named n)) (regroup c (flat_map cell_part cs) grids)
          ∙ ap (λ (next : Result Place StickKind). at_line c.line next >>= λ p.
          then_line c.line (Cell c.name) (rest_from last p inside)) (room_left n named (omega arith))
          ∙ ap (then_line c.line (Cell c.name))
          (lines_read last (n + 1) named c.lines c.end_line (flat_map cell_part cs ++ grids)
          (record { version = 0; lines = []; end_line = others.0; cells = cs; rows = []; grids = gs }) others.1),
    )

-- the header of one version, and what stands after it
whole_read : (last k : ℕ) (named : Bool) (d : Design) (after : List Entry) → length d.cells ≤ 256
    → place_after AtHead (Version d.version) ≡ Ok (AfterCells named 0) → AllGrids named d.grids
    → AreGridParts d.grids after
    → (rest_from last AtHead (saying k (Version d.version) ∷ (flat_map cell_part d.cells ++ after)) >>= λ rest.
    Ok (design_in rest)) ≡ Ok d
whole_read last k named d after few may all parts =
    let cells = cells_read last 0 named d.cells d.grids after (omega (arith, few)) all parts in
    let entries : List Entry = flat_map cell_part d.cells ++ after in
    ap (λ (next : Result Place StickKind).
    (at_line k next >>= λ q. then_line k (Version d.version) (rest_from last q entries)) >>= λ rest.
    Ok (design_in rest)) may
    ∙ ap (λ (read : Result Rest StickFault). then_line k (Version d.version) read >>= λ rest. Ok (design_in rest))
    cells.1

by_fits : (last k : ℕ) (d : Design) (after : List Entry) → length d.cells ≤ 256 → AreGridsOf d.version d.grids
    → AreGridParts d.grids after
    → (rest_from last AtHead (saying k (Version d.version) ∷ (flat_map cell_part d.cells ++ after)) >>= λ rest.
    Ok (design_in rest)) ≡ Ok d
by_fits last k d after few (inl h) parts =
    whole_read last k false d after few (ap (λ v. place_after AtHead (Version v)) h.0) h.1 parts
by_fits last k d after few (inr h) parts =
    whole_read last k true d after few (ap (λ v. place_after AtHead (Version v)) h.0) h.1 parts

pub design_read : (text : List ℕ) (design : Design) → SaysDesign text design → design_of text ≡ Ok design
unfolding design_of
design_read text design h =
    let has = h.has_lines in
    ap (λ (es : List Entry). rest_from (last_line text) AtHead es >>= λ rest. Ok (design_in rest)) has.parts
    ∙ by_fits (last_line text) has.first design has.grids h.few_cells has.fits has.grid_parts
