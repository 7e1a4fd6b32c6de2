-- A line that says something has three bytes or more: those of its keyword.
use Rattle.std.proofs.Common.{◌≡◌, ℕ, ◌-◌, ◌≤◌, ℤ, List, [], ◌∷◌, length, drop, map, Option, Some, Result, Ok, Err}
use Rattle.std.proofs.{Common.{refl, ap, arith}, lemmas.List.{length-take, length-drop}}
use Rattle.stick_lex.specs.declared.token.{Token.Token, TokenKind.TokenKind, LexFault.LexFault}
use Rattle.stick_lex.specs.Tokens.{text_of, tokens_of}
use Rattle.stick_lex.specs.declared.token.TokenKind.TheVariants as kinds
use Rattle.stick_text.specs.declared.{fault.StickKind.StickKind, design.Form.{Form, TheVariants.{Joint, Contact}}}
use Rattle.stick_text.specs.declared.design.Form.TheVariants.{Buried, Fet, Port, Inst, Wire, Limit}
use Rattle.stick_text.specs.declared.design.Statement.{Statement, TheVariants.{Version, Cell, Item, Grid, Row, End}}
use Rattle.stick_text.specs.{Reading.◌>>=◌, Words.{Word, Path, word_by, word_of}, Forms.statement_of}
use Rattle.stick_text.specs.Lines.{tokens_or_kind, said_by_words, said_by}
use Rattle.stick_print.{specs.Canonical.{form_keyword, keyword_of}, proofs.Taken.only_words}

form_keyword_is_long : (form : Form) → 3 ≤ length (form_keyword form)
form_keyword_is_long (Joint name layer col row width) = omega arith
form_keyword_is_long (Contact name lower col row) = omega arith
form_keyword_is_long (Buried name col row) = omega arith
form_keyword_is_long (Fet name depletion vertical col row w l) = omega arith
form_keyword_is_long (Port name side layer place) = omega arith
form_keyword_is_long (Inst name cell col row) = omega arith
form_keyword_is_long (Wire layer a b width) = omega arith
form_keyword_is_long (Limit vertical a b at_most n) = omega arith

pub keyword_is_long : (statement : Statement) → 3 ≤ length (keyword_of statement)
keyword_is_long (Version version) = omega arith
keyword_is_long (Cell name) = omega arith
keyword_is_long (Item form) = form_keyword_is_long form
keyword_is_long (Grid name) = omega arith
keyword_is_long (Row row) = omega arith
keyword_is_long End = omega arith

-- ---- a word of a line is no longer than the line

path_text : (kind : TokenKind) (text : List ℕ) (value : ℤ) (path : List ℕ) → word_by kind text value ≡ Path path
    → text ≡ path
path_text kinds.Path text value path e = cc
path_text kinds.Number text value path e = absurd cc
path_text kinds.AtMost text value path e = absurd cc
path_text kinds.AtLeast text value path e = absurd cc

path_in_line : (line : List ℕ) (token : Token) (path : List ℕ) → word_of line token ≡ Path path
    → length path ≤ length line
path_in_line line token path e =
    omega (
      arith,
      length-take (token.hi - token.lo) (drop token.lo line),
      length-drop token.lo line,
      ap length
          (path_text token.kind (text_of line token) token.value path e),
    )

first_word : (word : Word) (words : List Word) (path : List ℕ) (rest : List Word) → word ∷ words ≡ Path path ∷ rest
    → word ≡ Path path
first_word word words path rest e = cc

-- ---- the line

-- a line of n bytes that says this has three or more
abbrev pub IsLong : ℕ → Result (Option Statement) StickKind → Type 0
IsLong n (Ok (Some statement)) = 3 ≤ n
IsLong n said = Unit {0}

long_if_said : (line : List ℕ) (token : Token) (words : List Word) (read : Result Statement StickKind)
    → statement_of (word_of line token ∷ words) ≡ read
    → IsLong (length line) (read >>= λ statement. Ok (Some statement))
long_if_said line token words (Ok statement) e =
    let keyword : word_of line token ≡ Path (keyword_of statement) =
    first_word (word_of line token) words (keyword_of statement) _
    (only_words statement (word_of line token ∷ words) e) in
    omega (arith, path_in_line line token (keyword_of statement) keyword, keyword_is_long statement)
long_if_said line token words (Err kind) e = tt

long_by_tokens : (line : List ℕ) (read : Result (List Token) LexFault)
    → IsLong (length line) (tokens_or_kind read >>= λ tokens. said_by_words (map (word_of line) tokens))
unfolding said_by_words
long_by_tokens line (Ok []) = tt
long_by_tokens line (Ok (token ∷ tokens)) =
    long_if_said line token (map (word_of line) tokens)
    (statement_of (word_of line token ∷ map (word_of line) tokens)) refl
long_by_tokens line (Err fault) = tt

pub line_is_long : (line : List ℕ) → IsLong (length line) (said_by line)
unfolding said_by
line_is_long line = long_by_tokens line (tokens_of line)
