-- Lines that a design begins with, as a walk from state to state.
use Rattle.std.proofs.Common.{◌≡◌, inl, inr, ℕ, Bool, true, false, cond, List, [], ◌∷◌, ◌++◌, map, Option, Some, None}
use Rattle.std.proofs.Common.{Result, Ok, Err, refl, sym, ap, subst, ◌∙◌, append_assoc, arith}
use Rattle.std.specs.{Prelude.{IfSome, flat_map}, Option.option_and_then}
use Rattle.stick_text.specs.declared.{fault.StickKind.StickKind, design.{Line.Line, CellText.CellText, RowText.RowText}}
use Rattle.stick_text.specs.declared.design.{GridText.GridText, Design.Design, Statement.Statement}
use Rattle.stick_text.specs.{declared.design.Statement.TheVariants.{Version, Row, Grid, End}, Lines.Entry, Order.Rest}
use Rattle.stick_text.specs.{Order.{nothing, with_line, design_in}, Says.{saying, form_line, cell_part, IsGridPart}}
use Rattle.stick_text.specs.{Says.AreGridParts, Writable.AreGridsOf, FirstFault.BeginDesign}
use Rattle.stick_text.proofs.Shapes.{LineState, Head, Between, Inside, Rows, Done, turn, From, MoreGrids, AllGrids}
use Rattle.stick_text.proofs.Shapes.{CellsPart, regroup, step_on, lines_of}

abbrev pub turn_on : LineState → Result Statement StickKind → Option LineState
turn_on p (Ok s) = turn p s
turn_on p (Err kind) = None

abbrev pub walk : LineState → List Entry → Option LineState
walk p [] = Some p
walk p (e ∷ es) = option_and_then (λ m. walk m es) (turn_on p e.said)

pub turned : (p : LineState) (said : Result Statement StickKind) (m : LineState) → turn_on p said ≡ Some m
    → (s : Statement) × (said ≡ Ok s) × (turn p s ≡ Some m)
turned p (Ok s) m e = (s, refl, e)
turned p (Err kind) m e = absurd cc

pub then_some : {A B : Type 0} (P : B → Type 0) (o : Option A) (f : A → Option B)
    → ((x : A) → o ≡ Some x → IfSome (f x) P) → IfSome (option_and_then f o) P
then_some P None f k = tt
then_some P (Some x) f k = k x refl

pub some_mono : {A : Type 0} (o : Option A) (P Q : A → Type 0) → ((x : A) → P x → Q x) → IfSome o P → IfSome o Q
some_mono None P Q k h = tt
some_mono (Some x) P Q k h = k x h

by_turn : (o : Option LineState) (xs ys : List Entry)
    → ((m : LineState) → walk m (xs ++ ys) ≡ option_and_then (λ n. walk n ys) (walk m xs))
    → option_and_then (λ m. walk m (xs ++ ys)) o ≡ option_and_then (λ n. walk n ys) (option_and_then (λ m. walk m xs) o)
by_turn None xs ys k = refl
by_turn (Some m) xs ys k = k m

pub walk-append : (p : LineState) (xs ys : List Entry)
    → walk p (xs ++ ys) ≡ option_and_then (λ m. walk m ys) (walk p xs)
walk-append p [] ys = refl
walk-append p (x ∷ xs) ys = by_turn (turn_on p x.said) xs ys (λ m. walk-append m xs ys)

-- ---- a whole design

rows_walk : (named : Bool) (inner : List Entry) (rs : List RowText) (end : ℕ) (more : List Entry)
    → map (λ entry. entry.said) inner ≡ map (λ row. Ok (Row row)) rs
    → walk (Rows named) (inner ++ saying end End ∷ more) ≡ walk (Done named) more
rows_walk named [] rs end more e = refl
rows_walk named (x ∷ xs) [] end more e = absurd cc
rows_walk named (x ∷ xs) (r ∷ rs) end more e =
    let here : x.said ≡ Ok (Row r) = cc in
    let others : map (λ entry. entry.said) xs ≡ map (λ row. Ok (Row row)) rs = cc in
    ap (λ (said : Result Statement StickKind). option_and_then (λ m. walk m (xs ++ saying end End ∷ more))
    (turn_on (Rows named) said)) here ∙ rows_walk named xs rs end more others

grid_walk : (p : LineState) (named : Bool) (g : GridText) (es part others : List Entry)
    → turn p (Grid g.name) ≡ Some (Rows named) → es ≡ part ++ others → IsGridPart g part
    → walk p es ≡ walk (Done named) others
grid_walk p named g es part others to parts is =
    let inside : List Entry = is.inner ++ saying is.last End ∷ others in
    ap (walk p) (parts ∙ ap (λ (x : List Entry). x ++ others) is.parts
    ∙ ap (λ (x : List Entry). saying g.line (Grid g.name) ∷ x)
    (append_assoc is.inner (saying is.last End ∷ []) others))
    ∙ ap (option_and_then (λ m. walk m inside)) to
    ∙ rows_walk named is.inner g.rows is.last others is.each

more_walk : (named : Bool) (gs : List GridText) (es : List Entry) → MoreGrids named gs → AreGridParts gs es
    → walk (Done named) es ≡ Some (Done named)
more_walk named [] es h parts = ap (walk (Done named)) parts
more_walk false (g ∷ gs) es h parts = absurd cc
more_walk true (g ∷ gs) es h parts =
    grid_walk (Done true) true g es parts.0 parts.1 (ap (λ (x : Option (List ℕ)). turn (Done true) (Grid x)) h.0.1)
    parts.2 parts.3 ∙ more_walk true gs parts.1 h.1 parts.4

all_walk : (named : Bool) (gs : List GridText) (es : List Entry) → AllGrids named gs → AreGridParts gs es
    → walk (Between named) es ≡ Some (Done named)
all_walk false [] es h parts = absurd cc
all_walk true [] es h parts = absurd (omega (arith, h.0))
all_walk false (g ∷ gs) es h parts =
    let alone : gs ≡ [] = cc in
    let same : g ≡ h.0 = cc in
    grid_walk (Between false) false g es parts.0 parts.1
    (ap (λ (x : Option (List ℕ)). turn (Between false) (Grid x)) (ap (λ (x : GridText). x.name) same ∙ h.2))
    parts.2 parts.3
    ∙ more_walk false gs parts.1 alone parts.4
all_walk true (g ∷ gs) es h parts =
    grid_walk (Between true) true g es parts.0 parts.1
    (ap (λ (x : Option (List ℕ)). turn (Between true) (Grid x)) h.1.0.1) parts.2 parts.3
    ∙ more_walk true gs parts.1 h.1.1 parts.4

lines_walk : (named : Bool) (ls : List Line) (end : ℕ) (more : List Entry)
    → walk (Inside named) (map form_line ls ++ saying end End ∷ more) ≡ walk (Between named) more
lines_walk named [] end more = refl
lines_walk named (l ∷ ls) end more = lines_walk named ls end more

cells_walk : (named : Bool) (cs : List CellText) (gs : List GridText) (grids : List Entry) → AllGrids named gs
    → AreGridParts gs grids → walk (Between named) (flat_map cell_part cs ++ grids) ≡ Some (Done named)
cells_walk named [] gs grids all parts = all_walk named gs grids all parts
cells_walk named (c ∷ cs) gs grids all parts =
    ap (walk (Between named)) (regroup c (flat_map cell_part cs) grids)
    ∙ lines_walk named c.lines c.end_line (flat_map cell_part cs ++ grids)
    ∙ cells_walk named cs gs grids all parts

head_walk : (d : Design) (k : ℕ) (grids : List Entry) → AreGridsOf d.version d.grids → AreGridParts d.grids grids
    → (m : LineState) × (walk Head (saying k (Version d.version) ∷ (flat_map cell_part d.cells ++ grids)) ≡ Some m)
head_walk d k grids (inl h) parts = (
  Done false,
  ap (λ v. walk Head (saying k (Version v) ∷ (flat_map cell_part d.cells ++ grids))) h.0
      ∙ cells_walk false d.cells d.grids grids h.1 parts,
)
head_walk d k grids (inr h) parts = (
  Done true,
  ap (λ v. walk Head (saying k (Version v) ∷ (flat_map cell_part d.cells ++ grids))) h.0
      ∙ cells_walk true d.cells d.grids grids h.1 parts,
)

-- ---- the beginning of one

first_some : {A B : Type 0} (o : Option A) (f : A → Option B) (y : B) → option_and_then f o ≡ Some y
    → (x : A) × (o ≡ Some x)
first_some None f y e = absurd cc
first_some (Some x) f y e = (x, refl)

pub begun_walks : (es : List Entry) → BeginDesign es → (m : LineState) × (walk Head es ≡ Some m)
begun_walks es b =
    let lines = b.2 in
    let to = head_walk b.1 lines.first lines.grids lines.fits lines.grid_parts in
    let whole : walk Head (es ++ b.0) ≡ Some to.0 = ap (walk Head) lines.parts ∙ to.1 in
    first_some (walk Head es) (λ m. walk m b.0) to.0 (sym (walk-append Head es b.0) ∙ whole)

abbrev Leads : LineState → List Entry → List Entry → Rest → LineState → Type 0
Leads p es more r m = From m more r → (all : Rest) × From p (es ++ more) all

back : (p : LineState) (es more : List Entry) (r : Rest) → IfSome (walk p es) (Leads p es more r)
back p [] more r = λ f. (r, f)
back p (e ∷ es) more r = then_some (Leads p (e ∷ es) more r) (turn_on p e.said) (λ m. walk m es) (λ m to.
    let t = turned p e.said m to in
    some_mono (walk m es) (Leads m es more r) (Leads p (e ∷ es) more r)
    (λ q k f.
    let inner =
    k f in (with_line e.number t.0 inner.0, step_on p m e t.0 (es ++ more) inner.0 t.1 t.2 inner.1)) (back m es
    more r))

-- a grid without rows, as the version has it
abbrev some_name : Bool → Option (List ℕ)
some_name named = cond named (Some []) None

abbrev empty_grid : Bool → GridText
empty_grid named = record { name = some_name named; line = 0; rows = [] }

abbrev empty_lines : Bool → List Entry
empty_lines named = saying 0 (Grid (some_name named)) ∷ saying 0 End ∷ []

-- what such a grid gives under a version
abbrev end_of : Bool → Rest
end_of named = record nothing { version = cond named 2 1; grids = empty_grid named ∷ [] }

some_all : (named : Bool) → AllGrids named (empty_grid named ∷ [])
some_all false = (empty_grid false, refl, refl)
some_all true = (omega arith, (([], refl), tt))

some_parts : (named : Bool) → AreGridParts (empty_grid named ∷ []) (empty_lines named)
some_parts named = (empty_lines named, [], refl, record { inner = []; last = 0; parts = refl; each = refl }, refl)

no_more : (named : Bool) → MoreGrids named []
no_more false = refl
no_more true = tt

no_cells : (named : Bool) → CellsPart named [] (empty_grid named ∷ []) (empty_lines named)
no_cells named = (empty_lines named, refl, some_all named, some_parts named)

-- from each state on something can make a design whole
some_rest : (m : LineState) → (more : List Entry) × (r : Rest) × From m more r
some_rest Head =
    (saying 0 (Version 1) ∷ empty_lines false, end_of false, (0, empty_lines false, refl, inl (refl, no_cells false)))
some_rest (Between named) = (empty_lines named, end_of named, no_cells named)
some_rest (Inside named) = (saying 0 End ∷ empty_lines named, end_of named, (empty_lines named, refl, no_cells named))
some_rest (Rows named) = (saying 0 End ∷ [], nothing, (refl, ([], 0, [], refl, refl, (no_more named, refl))))
some_rest (Done named) = ([], nothing, (refl, (no_more named, refl)))

pub walk_begins : (es : List Entry) (m : LineState) → walk Head es ≡ Some m → BeginDesign es
walk_begins es m e =
    let more = some_rest m in
    let all = subst (λ (o : Option LineState). IfSome o (Leads Head es more.0 more.1)) e (back Head es more.0 more.1)
    more.2 in
    (more.0, design_in all.0, lines_of (es ++ more.0) all.0 all.1)
