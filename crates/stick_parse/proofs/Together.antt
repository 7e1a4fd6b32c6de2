-- The parts of a text, read one after the other, give its design, or its fault.
use Rattle.std.proofs.Common.{◌≡◌, ℕ, ◌+◌, List, [], ◌∷◌, ◌++◌, length, Option, Result, Ok, Err, sym, ap, subst, ◌∙◌, map, refl}
use Rattle.std.{proofs.{Common.arith, lemmas.List.{append-nil, length-map}}, specs.{Prelude.max, Str.Lines.lines}}
use Rattle.stick_text.specs.declared.{fault.{StickFault.StickFault, ParseFault.ParseFault}, design.CellText.CellText}
use Rattle.stick_text.specs.{declared.design.{GridText.GridText, Design.Design}, Reading.{◌>>=◌, Fails}, Lines.{Entry, entries, with_entry, said_by}}
use Rattle.stick_text.{specs.Order.{AtHead, Rest, nothing, rest_from, design_in, design_of}, proofs.Failing.fails_on}
use Rattle.stick_parse.specs.declared.cursor.Lines.{Lines}
use Rattle.stick_text.specs.declared.{design.Statement.Statement, fault.StickKind.StickKind}
use Rattle.stick_parse.specs.LinesLeft.{entries_said}
use Rattle.stick_parse.specs.Parts.{rest_at, with_version, with_cells, with_grid, with_grids, grids_alone}
use Rattle.stick_text.specs.declared.fault.ParseFault.TheVariants as faults

abbrev pub design_from : Result Rest StickFault → Result Design StickFault
design_from read = read >>= λ rest. Ok (design_in rest)

entries_read : (n : ℕ) (ls : List (List ℕ)) → entries_said n (map said_by ls) ≡ entries n ls
entries_read n [] = refl
entries_read n (l ∷ ls) = ap (with_entry n (said_by l)) (entries_read (n + 1) ls)

-- all lines of the text
pub from_head : (text : List ℕ) (l : Lines) → l.number ≡ 0 → l.said.items ≡ map said_by (lines text)
    → design_of text ≡ design_from (rest_at AtHead l)
unfolding design_of
from_head text l number said =
    let said_all : List (Result (Option Statement) StickKind) = map said_by (lines text) in
    let many : length said_all ≡ length (lines text) = length-map _ _ in
    let count : length (lines text) ≡ 0 + length said_all = omega arith in
    ap (λ (n : ℕ). design_from (rest_from (max 1 n) AtHead (entries 1 (lines text)))) count
    ∙ (ap (λ (es : List Entry). design_from (rest_from (max 1 (0 + length said_all)) AtHead es))
    (sym (entries_read 1 (lines text)))
    ∙ (ap (λ (ss : List (Result (Option Statement) StickKind)).
    design_from (rest_from (max 1 (0 + length ss)) AtHead (entries_said 1 ss))) (sym said)
    ∙ ap (λ (n : ℕ).
    design_from (rest_from (max 1 (n + length l.said.items)) AtHead (entries_said (n + 1) l.said.items)))
    (sym number)))

abbrev rest_of : Result Rest StickFault → Rest
rest_of (Ok rest) = rest
rest_of (Err fault) = nothing

pub whole_design : (version : ℕ) (cells : List CellText) (line : ℕ) (name : Option (List ℕ)) (grids : List GridText)
    (head after inside : Result Rest StickFault) → head ≡ with_version version after
    → with_cells [] after ≡ with_cells cells (with_grid line name inside)
    → with_grids [] (with_grid line name inside) ≡ Ok (grids_alone grids)
    → design_from head ≡ Ok (record { version = version; cells = cells; grids = grids })
whole_design version cells line name grids head (Ok b) (Ok r) e f g =
    let no_cells : r.cells ≡ [] = ap (λ (read : Result Rest StickFault). (rest_of read).cells) g in
    let its_grids : record { name = name; line = line; rows = r.rows } ∷ r.grids ≡ grids =
    ap (λ (read : Result Rest StickFault). (rest_of read).grids) g in
    let its_cells : b.cells ≡ cells ++ r.cells = ap (λ (read : Result Rest StickFault). (rest_of read).cells) f in
    let same_grids : b.grids ≡ record { name = name; line = line; rows = r.rows } ∷ r.grids =
    ap (λ (read : Result Rest StickFault). (rest_of read).grids) f in
    let only_cells : b.cells ≡ cells = its_cells ∙ ap (λ (cs : List CellText). cells ++ cs) no_cells
    ∙ append-nil cells in
    ap design_from e
    ∙ ap (λ (cs : List CellText). Ok (record { version = version; cells = cs; grids = b.grids })) only_cells
    ∙ ap (λ (gs : List GridText). Ok (record { version = version; cells = cells; grids = gs })) (same_grids ∙ its_grids)
whole_design version cells line name grids head (Ok b) (Err k) e f g = absurd cc
whole_design version cells line name grids head (Err k) (Ok r) e f g = absurd cc
whole_design version cells line name grids head (Err k) (Err n) e f g = absurd cc

-- ---- faults

fails_back : {A B : Type 0} (fault : ParseFault) (read : Result A StickFault) (f : A → B)
    → Fails fault (read >>= λ x. Ok (f x)) → Fails fault read
fails_back faults.OutOfMemory read f h = tt
fails_back (faults.Stick k) (Ok x) f h = absurd cc
fails_back (faults.Stick k) (Err e) f h = cc

pub fails_in_cells : (fault : ParseFault) (version : ℕ) (head after : Result Rest StickFault)
    → head ≡ with_version version after → Fails fault (with_cells [] after) → Fails fault (design_from head)
fails_in_cells fault version head after e h =
    let here : Fails fault head =
    subst (Fails fault) (sym e)
    (fails_on fault after (λ rest. Ok (record rest { version = version }))
    (fails_back fault after
    (λ rest. record rest { lines = []; end_line = 0; rows = []; cells = [] ++ rest.cells }) h)) in
    fails_on fault head (λ rest. Ok (design_in rest)) here

pub fails_in_grids : (fault : ParseFault) (version : ℕ) (cells : List CellText) (line : ℕ) (name : Option (List ℕ))
    (head after inside : Result Rest StickFault) → head ≡ with_version version after
    → with_cells [] after ≡ with_cells cells (with_grid line name inside)
    → Fails fault (with_grids [] (with_grid line name inside)) → Fails fault (design_from head)
fails_in_grids fault version cells line name head after inside e f h =
    let first = fails_back fault (with_grid line name inside)
    (λ rest. record rest { lines = []; end_line = 0; rows = []; grids = [] ++ rest.grids }) h in
    let past_cells = fails_on fault (with_grid line name inside)
    (λ rest. Ok (record rest { lines = []; end_line = 0; rows = []; cells = cells ++ rest.cells })) first in
    fails_in_cells fault version head after e (subst (Fails fault) (sym f) past_cells)
