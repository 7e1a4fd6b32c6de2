-- The lines of a text that say something.
use Rattle.std.specs.Prelude.{ℕ, ◌+◌, List, [], ◌∷◌, map, Option, Some, None, Result, Ok, Err}
use Rattle.stick_lex.specs.{declared.token.{Token.Token, LexFault.LexFault}, Tokens.tokens_of}
use Rattle.stick_lex.specs.declared.token.LexFault.TheVariants as lex_faults
use Rattle.stick_text.specs.declared.fault.StickKind.{StickKind, TheVariants.{BadByte, NumberTooLarge}}
use Rattle.stick_text.specs.{declared.design.Statement.Statement, Reading.◌>>=◌, Words.{Word, word_of}}
use Rattle.stick_text.specs.Forms.{statement_of}

-- a fault of a line's tokens as a fault of the text; a law says that tokens have no third fault
abbrev pub kind_of : LexFault → StickKind
kind_of (lex_faults.BadByte lo) = BadByte
kind_of (lex_faults.NumberTooLarge lo) = NumberTooLarge
kind_of lex_faults.OutOfMemory = BadByte

abbrev pub tokens_or_kind : Result (List Token) LexFault → Result (List Token) StickKind
tokens_or_kind (Ok tokens) = Ok tokens
tokens_or_kind (Err fault) = Err (kind_of fault)

-- what the words of a line say; a line without words says nothing
unfoldable pub said_by_words : List Word → Result (Option Statement) StickKind
said_by_words [] = Ok None
said_by_words (word ∷ words) = do
  statement ← statement_of (word ∷ words)
  Ok (Some statement)

unfoldable pub said_by : List ℕ → Result (Option Statement) StickKind
said_by line = do
  tokens ← tokens_or_kind (tokens_of line)
  said_by_words (map (word_of line) tokens)

-- a line that says something: its number, and its statement or its fault
pub record Entry : Type 0 where
  pub number : ℕ
  pub said : Result Statement StickKind

abbrev pub with_entry : ℕ → Result (Option Statement) StickKind → List Entry → List Entry
with_entry number (Ok None) entries = entries
with_entry number (Ok (Some statement)) entries = record { number = number; said = Ok statement } ∷ entries
with_entry number (Err kind) entries = record { number = number; said = Err kind } ∷ entries

-- the entries of lines of which the first has this number
abbrev pub entries : ℕ → List (List ℕ) → List Entry
entries number [] = []
entries number (line ∷ lines) = with_entry number (said_by line) (entries (number + 1) lines)
