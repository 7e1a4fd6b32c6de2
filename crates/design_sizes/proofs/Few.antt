-- The names in the grids of a design stand in lines of its text.
use Rattle.std.proofs.Common.{◌≡◌, ℕ, ◌+◌, ◌*◌, ◌≤◌, List, [], ◌∷◌, length, map, Option, Some, None, Result, Ok, Err}
use Rattle.std.proofs.{Common.{refl, ap, subst, arith}, lemmas.List.{length-map, Sums.sum_by-cons}}
use Rattle.std.specs.{List.sum_by, Str.Lines.lines}
use Rattle.stick_lex.specs.{declared.token.{Token.Token, LexFault.LexFault}, Tokens.tokens_of}
use Rattle.stick_text.specs.declared.{fault.StickKind.StickKind, design.{Design.Design, Statement.Statement}}
use Rattle.stick_text.specs.{declared.design.Statement.TheVariants.{Grid, Row}, Reading.◌>>=◌, Words.{Word, Path}}
use Rattle.stick_text.specs.{Words.word_of, Forms.statement_of, Lines.{tokens_or_kind, said_by_words, said_by, Entry}}
use Rattle.stick_text.specs.{Lines.{with_entry, entries}, Order.{Place, AtHead, AtEnd, place_after, Rest, with_line}}
use Rattle.stick_text.specs.Order.{at_line, at_end, rest_from, design_in, last_line, design_of}
use Rattle.stick_text.proofs.Written.{Holds, then_holds}
use Rattle.stick_print.{specs.Said.said, proofs.Taken.only_words}
use Rattle.design_sizes.specs.Sizes.{names_in_row, names_in_grid, names_in}
use Rattle.design_sizes.proofs.{Tokens.{AreFew, few_tokens}, Lines.{bytes_of, lines_fit}}

-- ---- one line

-- the names that a line says for a row of a grid
abbrev names_of : Statement → ℕ
names_of (Row row) = length row.names
names_of statement = 0

names_are_words : (statement : Statement) → names_of statement ≤ length (said statement)
names_are_words (Row row) = omega (arith, length-map row.names (λ name. Path name))
names_are_words statement = omega arith

-- twice the names that a line says, if it says anything, are at most n
abbrev SaysFew : ℕ → Result (Option Statement) StickKind → Type 0
SaysFew n (Ok (Some statement)) = 2 * names_of statement ≤ n
SaysFew n said = Unit {0}

few_in_statement : (n : ℕ) (words : List Word) (read : Result Statement StickKind) → statement_of words ≡ read
    → 2 * length words ≤ n + 1 → SaysFew n (read >>= λ statement. Ok (Some statement))
few_in_statement n words (Ok statement) e few =
    omega (arith, few, names_are_words statement, ap length (only_words statement words e))
few_in_statement n words (Err kind) e few = tt

few_in_words : (n : ℕ) (words : List Word) → 2 * length words ≤ n + 1 → SaysFew n (said_by_words words)
unfolding said_by_words
few_in_words n [] few = tt
few_in_words n (word ∷ words) few = few_in_statement n (word ∷ words) (statement_of (word ∷ words)) refl few

few_in_tokens : (line : List ℕ) (n : ℕ) (read : Result (List Token) LexFault) → AreFew (n + 1) read
    → SaysFew n (tokens_or_kind read >>= λ tokens. said_by_words (map (word_of line) tokens))
few_in_tokens line n (Ok tokens) few =
    few_in_words n (map (word_of line) tokens) (omega (arith, few, length-map tokens (word_of line)))
few_in_tokens line n (Err fault) few = tt

few_in_line : (line : List ℕ) → SaysFew (length line) (said_by line)
unfolding said_by
few_in_line line = few_in_tokens line (length line) (tokens_of line) (few_tokens line)

-- ---- all lines

abbrev names_by : Result Statement StickKind → ℕ
names_by (Ok statement) = names_of statement
names_by (Err kind) = 0

-- the names that these lines say
abbrev names_at : List Entry → ℕ
names_at [] = 0
names_at (entry ∷ entries) = names_by entry.said + names_at entries

few_with_entry : (number n m : ℕ) (said : Result (Option Statement) StickKind) (after : List Entry) → SaysFew n said
    → 2 * names_at after ≤ m → 2 * names_at (with_entry number said after) ≤ n + m
few_with_entry number n m (Ok (Some statement)) after few rest = omega arith
few_with_entry number n m (Ok None) after few rest = omega arith
few_with_entry number n m (Err kind) after few rest = omega arith

few_in_lines : (number : ℕ) (ls : List (List ℕ)) → 2 * names_at (entries number ls) ≤ bytes_of ls
few_in_lines number [] = omega arith
few_in_lines number (line ∷ ls) =
    few_with_entry number (length line) (bytes_of ls) (said_by line) (entries (number + 1) ls) (few_in_line line)
    (few_in_lines (number + 1) ls)

-- ---- the design that the lines give

-- the names in rows and grids from some place on
abbrev names_held : Rest → ℕ
names_held rest = sum_by names_in_row rest.rows + sum_by names_in_grid rest.grids

-- at most n
abbrev HoldsFew : ℕ → Rest → Type 0
HoldsFew n rest = names_held rest ≤ n

few_with_line : (number : ℕ) (statement : Statement) (rest : Rest)
    → names_held (with_line number statement rest) ≤ names_of statement + names_held rest
few_with_line number (Row row) rest = omega (arith, sum_by-cons names_in_row row rest.rows)
few_with_line number (Grid name) rest =
    omega (arith, sum_by-cons names_in_grid (record { name = name; line = number; rows = rest.rows }) rest.grids)
few_with_line number statement rest = omega arith

few_at_end : (last : ℕ) (place : Place) → Holds (HoldsFew 0) (at_end last place)
few_at_end last (AtEnd named) = omega arith
few_at_end last place = tt

-- what stands after a line, with the line in front
few_after : (n : ℕ) (number : ℕ) (statement : Statement) (next : Result Place StickKind) (last : ℕ)
    (after : List Entry) → ((place : Place) → Holds (HoldsFew n) (rest_from last place after))
    → Holds (HoldsFew (names_of statement + n))
    (at_line number next >>= λ place. rest_from last place after >>= λ rest. Ok (with_line number statement rest))
few_after n number statement (Ok place) last after few =
    then_holds (HoldsFew n) (HoldsFew (names_of statement + n)) (rest_from last place after) _ (few place)
    (λ rest held. omega (arith, held, few_with_line number statement rest))
few_after n number statement (Err kind) last after few = tt

few_from_line : (n number : ℕ) (read : Result Statement StickKind) (last : ℕ) (place : Place) (after : List Entry)
    → ((next : Place) → Holds (HoldsFew n) (rest_from last next after))
    → Holds (HoldsFew (names_by read + n))
    (at_line number read >>= λ statement. at_line number (place_after place statement) >>= λ next.
    rest_from last next after >>= λ rest. Ok (with_line number statement rest))
few_from_line n number (Ok statement) last place after few =
    few_after n number statement (place_after place statement) last after few
few_from_line n number (Err kind) last place after few = tt

few_from : (last : ℕ) (place : Place) (es : List Entry) → Holds (HoldsFew (names_at es)) (rest_from last place es)
few_from last place [] = few_at_end last place
few_from last place (e ∷ es) = few_from_line (names_at es) e.number e.said last place es (λ next. few_from last next es)

few_in_design : (text : List ℕ) → Holds (λ design. 2 * names_in design ≤ length text) (design_of text)
unfolding design_of
few_in_design text =
    let said_names = few_in_lines 1 (lines text) in
    let fit = lines_fit text in
    then_holds (HoldsFew (names_at (entries 1 (lines text)))) (λ design. 2 * names_in design ≤ length text)
    (rest_from (last_line text) AtHead (entries 1 (lines text))) (λ rest. Ok (design_in rest))
    (few_from (last_line text) AtHead (entries 1 (lines text)))
    (λ rest held. omega (arith, held, said_names, fit))

pub half_as_many : (text : List ℕ) (design : Design) → design_of text ≡ Ok design → 2 * names_in design ≤ length text
half_as_many text design e = subst (Holds (λ d. 2 * names_in d ≤ length text)) e (few_in_design text)
