-- The cells of a design, one by one.
use Rattle.std.proofs.Common.{◌≡◌, ℕ, ◌+◌, ◌<◌, ◌≤◌, ◌≢◌, List, [], ◌∷◌, ◌++◌, length, map, take, get_or, drop, Result}
use Rattle.std.proofs.{Common.{Ok, Err, sym, ap, subst, inl, inr, ◌∙◌, arith}, lemmas.List.{drop_more, drop_all}}
use Rattle.std.proofs.lemmas.List.{map-append, length-map, get_or_push, get_or_append_left, take_at, take-append-le}
use Rattle.std.{proofs.lemmas.Bool.cases_eq, specs.{Prelude.◌⊎◌, List.AllByRecursion, Result.IsErrAnd}}
use Rattle.rule_table.specs.declared.technology.Tech.{Tech}
use Rattle.stick_text.specs.declared.fault.{StickFault.StickFault, ParseFault.{ParseFault, TheVariants.Stick}}
use Rattle.stick_text.specs.declared.{fault.ParseFault.TheVariants.OutOfMemory, design.CellText.CellText}
use Rattle.stick_text.specs.{Reading.{◌>>=◌, Fails, Gives}, Writable.IsCell}
use Rattle.list_facts.proofs.Elements.{all_at}
use Rattle.checked_cells.specs.declared.{table.Table.Table, steps.Step.Step, cells.Cells.Cells}
use Rattle.checked_cells.specs.{CheckedCell.{CheckedCell, known_at}, Steps.AreStepsOf, Lines.{after_cell, cells_after}}
use Rattle.checked_cells.specs.{Tables.{IsTableOf, AreTables, steps_at, HaveSteps, known_of}, Sides.HaveSides}
use Rattle.checked_cells.proofs.{TableReads.length-tables, Built.{k_within, known_before, known_last}}
use Rattle.stick_cell.proofs.LineSteps.{is_err}

-- the cells from one on: that cell, and the cells after it
cells_at : (tech : Tech) (cells : List CheckedCell) (texts : List CellText) (i : ℕ) (text : CellText)
    (r : Result CheckedCell StickFault) → i < length texts → text ≡ get_or texts i text
    → after_cell tech cells text ≡ r
    → cells_after tech cells (drop i texts)
    ≡ (r >>= (λ known. cells_after tech (cells ++ known ∷ []) (drop (i + 1) texts)))
cells_at tech cells texts i text r lt e is =
    ap (cells_after tech cells) (drop_more texts i text lt ∙ ap (λ (one : CellText). one ∷ drop (i + 1) texts) (sym e))
    ∙ ap (λ r. r >>= (λ known. cells_after tech (cells ++ known ∷ []) (drop (i + 1) texts))) is

-- a cell that is known
pub cells-next : (tech : Tech) (cells : List CheckedCell) (texts : List CellText) (i : ℕ) (text : CellText)
    (known : CheckedCell) → i < length texts → text ≡ get_or texts i text
    → after_cell tech cells text ≡ Ok known
    → cells_after tech cells (drop i texts) ≡ cells_after tech (cells ++ known ∷ []) (drop (i + 1) texts)
cells-next tech cells texts i text known lt e is = cells_at tech cells texts i text (Ok known) lt e is

-- a cell that is refused
pub cells-refused : (tech : Tech) (cells : List CheckedCell) (texts : List CellText) (i : ℕ) (text : CellText)
    (fault : ParseFault) (whole : Result (List CheckedCell) StickFault)
    → i < length texts → text ≡ get_or texts i text → Fails fault (after_cell tech cells text)
    → cells_after tech cells (drop i texts) ≡ whole → Fails fault whole
cells-refused tech cells texts i text (Stick fault) whole lt e fails same = sym same
    ∙ cells_at tech cells texts i text (Err fault) lt e fails
cells-refused tech cells texts i text OutOfMemory whole lt e fails same = tt

-- the tables that are lent
pub lent_tables : (cells : List CheckedCell) (tables lent : List Table) → lent ≡ tables → AreTables cells tables
    → HaveSides cells tables → AreTables cells lent × HaveSides cells lent
lent_tables cells tables lent same are have = let P : List Table
    → Type 0 = λ l. AreTables cells l × HaveSides cells l in subst P (sym same) (are, have)

-- the fault of a design, passed on
pub gives-residual : (result : Result Cells ParseFault) (fault : ParseFault)
    (read : Result (List CheckedCell) StickFault) → IsErrAnd result (λ e. e ≡ fault) → Fails fault read
    → Gives known_of result read
gives-residual result fault read is fails = subst (λ one. Gives known_of one read) (sym (is_err result fault is)) fails

-- no cell is left
pub cells-end : (tech : Tech) (cells : List CheckedCell) (texts : List CellText) (i : ℕ) → length texts ≤ i
    → cells_after tech cells (drop i texts) ≡ Ok cells
cells-end tech cells texts i le = ap (cells_after tech cells) (drop_all i texts le)

-- each text is a cell
pub cell-at : (texts : List CellText) (i : ℕ) (text : CellText) → AllByRecursion IsCell texts → i < length texts
    → text ≡ get_or texts i text → IsCell text
cell-at texts i text all lt e = subst IsCell (sym e) (all_at IsCell texts text i all lt)

-- the tables with one more
pub tables-push : (cells : List CheckedCell) (tables : List Table) (known : CheckedCell) (table : Table)
    → AreTables cells tables → IsTableOf known table → AreTables (cells ++ known ∷ []) (tables ++ table ∷ [])
tables-push [] [] known table are is = (is, tt)
tables-push [] (first ∷ tables) known table are is = absurd are
tables-push (first ∷ cells) [] known table are is = absurd are
tables-push (first ∷ cells) (one ∷ tables) known table are is = (are.0, tables-push cells tables known table are.1 is)

-- ---- the steps that are kept

-- the same steps of the same cell
same_steps : (a b : List CheckedCell) (known other : CheckedCell) (one two : List Step) → a ≡ b → known ≡ other
    → one ≡ two → AreStepsOf b other two → AreStepsOf a known one
same_steps a b known other one two e f g are =
    subst (λ (l : List CheckedCell). AreStepsOf l known one) (sym e)
    (subst (λ (k : CheckedCell). AreStepsOf b k one) (sym f) (subst (AreStepsOf b other) (sym g) are))

steps_of : Table → List Step
steps_of table = table.steps.items

steps_before : (tables : List Table) (table : Table) (k : ℕ) → k < length tables
    → steps_at (tables ++ table ∷ []) k ≡ steps_at tables k
unfolding steps_of
steps_before tables table k lt =
    ap (λ (l : List (List Step)). get_or l k []) (map-append steps_of tables (table ∷ []))
    ∙ get_or_append_left (map steps_of tables) (steps_of table ∷ []) [] k
    (omega (arith, lt, length-map tables steps_of))

steps_last : (tables : List Table) (table : Table) (k : ℕ) → k ≡ length tables
    → steps_at (tables ++ table ∷ []) k ≡ table.steps.items
unfolding steps_of
steps_last tables table k e =
    ap (λ (l : List (List Step)). get_or l k []) (map-append steps_of tables (table ∷ []))
    ∙ get_or_push (map steps_of tables) (steps_of table) [] k (length-map tables steps_of ∙ sym e)

steps_each : (cells : List CheckedCell) (tables : List Table) (known : CheckedCell) (table : Table)
    → length tables ≡ length cells → HaveSteps cells tables → AreStepsOf cells known table.steps.items
    → (k : ℕ) → k ≤ length cells → (k ≡ length cells) ⊎ (k ≢ length cells)
    → AreStepsOf (take k (cells ++ known ∷ [])) (known_at (cells ++ known ∷ []) k) (steps_at (tables ++ table ∷ []) k)
steps_each cells tables known table many have are k le (inl e) =
    same_steps (take k (cells ++ known ∷ [])) cells (known_at (cells ++ known ∷ []) k) known
    (steps_at (tables ++ table ∷ []) k) table.steps.items
    (take_at cells (known ∷ []) k (sym e)) (known_last cells known k e) (steps_last tables table k (e ∙ sym many)) are
steps_each cells tables known table many have are k le (inr ne) =
    let lt : k < length cells = omega (arith, le, ne) in
    same_steps (take k (cells ++ known ∷ [])) (take k cells) (known_at (cells ++ known ∷ []) k) (known_at cells k)
    (steps_at (tables ++ table ∷ []) k) (steps_at tables k)
    (take-append-le k cells (known ∷ []) le) (known_before cells known k lt)
    (steps_before tables table k (omega (arith, lt, many))) (have k lt)

-- the steps with those of one more cell
pub have_steps-push : (cells : List CheckedCell) (tables : List Table) (known : CheckedCell) (table : Table)
    → AreTables cells tables → HaveSteps cells tables → AreStepsOf cells known table.steps.items
    → HaveSteps (cells ++ known ∷ []) (tables ++ table ∷ [])
have_steps-push cells tables known table tell have are =
    λ k lt. steps_each cells tables known table (length-tables cells tables tell) have are k
    (k_within cells known k lt) (cases_eq k (length cells))
