-- What a run stands for, and the tokens of a line.
use Rattle.std.specs.Prelude.{◌≡◌, ℕ, ◌+◌, ◌<◌, ◌≤◌, ℤ, pos, neg_ℤ, Bool, false, ◌&&◌, ◌||◌, ◌==◌, nat_le}
use Rattle.std.specs.{Prelude.{if◌then◌else◌, List, [], ◌∷◌, length, codes, Result, Ok, Err}, List.slice_split}
use Rattle.std.specs.{List.{slice_range, list_all}, Char.{is_ascii_digit, is_ascii_alphabetic, is_ascii_alphanumeric}}
use Rattle.std.specs.Str.{bytes_eq, Parse.digits_value}
use Rattle.stick_lex.specs.declared.token.TokenKind.{TokenKind, TheVariants.{Path, Number, AtMost, AtLeast}}
use Rattle.stick_lex.specs.declared.token.{Token.Token, LexFault.{LexFault, TheVariants.{BadByte, NumberTooLarge}}}
use Rattle.stick_lex.specs.{declared.token.LexFault.TheVariants.OutOfMemory, Runs.{Run, runs}}

-- ---- names and paths

abbrev pub is_name_byte : ℕ → Bool
is_name_byte b = is_ascii_alphanumeric b || b == 95

-- a letter, then at most 31 letters, digits or underscores
abbrev pub is_name : List ℕ → Bool
is_name [] = false
is_name (b ∷ bs) = is_ascii_alphabetic b && (nat_le (length bs) 31 && list_all is_name_byte bs)

-- the parts between the dots
abbrev pub names : List ℕ → List (List ℕ)
names text = slice_split (λ b. b == 46) text

abbrev pub is_path : List ℕ → Bool
is_path text = list_all is_name (names text)

-- ---- numbers

-- at least one digit
abbrev pub is_numeral : List ℕ → Bool
is_numeral [] = false
is_numeral (b ∷ bs) = list_all is_ascii_digit (b ∷ bs)

abbrev pub is_minus : ℕ → Bool
is_minus b = b == 45

-- the digits of a number, after its minus if it has one
abbrev pub digits_of_number : List ℕ → List ℕ
digits_of_number [] = []
digits_of_number (b ∷ bs) = if is_minus b then bs else b ∷ bs

-- an optional minus, then digits
abbrev pub is_number : List ℕ → Bool
is_number text = is_numeral (digits_of_number text)

-- how far the number is from 0
abbrev pub magnitude : List ℕ → ℕ
magnitude text = digits_value 10 (digits_of_number text)

abbrev pub value_of : List ℕ → ℤ
value_of [] = pos 0
value_of (b ∷ bs) = if is_minus b then neg_ℤ (pos (magnitude (b ∷ bs))) else pos (magnitude (b ∷ bs))

-- ---- tokens

-- the run as a token
abbrev pub spanning : TokenKind → ℤ → Run → Token
spanning kind value run = record { kind = kind; lo = run.lo; hi = run.lo + length run.text; value = value }

-- no number is farther than a million from 0
abbrev pub number_token : Run → Result Token LexFault
number_token run =
    if nat_le (magnitude run.text) 1000000 then Ok (spanning Number (value_of run.text) run)
    else Err (NumberTooLarge run.lo)

-- a path, a number, `<=` or `>=`
unfoldable pub token_of : Run → Result Token LexFault
token_of run = if is_path run.text then Ok (spanning Path (pos 0) run)
    else (if is_number run.text then number_token run
    else (if bytes_eq run.text (codes "<=") then Ok (spanning AtMost (pos 0) run)
    else (if bytes_eq run.text (codes ">=") then Ok (spanning AtLeast (pos 0) run)
    else Err (BadByte run.lo))))

infixl 10 ◌>>=◌
abbrev pub ◌>>=◌ : {A B : Type 0} → Result A LexFault → (A → Result B LexFault) → Result B LexFault
(Ok x) >>= f = f x
(Err e) >>= f = Err e

-- a token for each run, or the first fault
abbrev pub tokens_of_runs : List Run → Result (List Token) LexFault
tokens_of_runs [] = Ok []
tokens_of_runs (run ∷ runs) = do
  token ← token_of run
  tokens ← tokens_of_runs runs
  Ok (token ∷ tokens)

-- the tokens of a line, or its first fault
unfoldable pub tokens_of : List ℕ → Result (List Token) LexFault
tokens_of line = tokens_of_runs (runs line)

-- What a function returned, seen by view, is what the definition says, unless memory ran out.
abbrev pub Fails : {Y : Type 0} → LexFault → Result Y LexFault → Type 0
Fails OutOfMemory read = Unit {0}
Fails (BadByte lo) read = read ≡ Err (BadByte lo)
Fails (NumberTooLarge lo) read = read ≡ Err (NumberTooLarge lo)

abbrev pub Gives : {X Y : Type 0} → (X → Y) → Result X LexFault → Result Y LexFault → Type 0
Gives view (Ok x) read = read ≡ Ok (view x)
Gives view (Err e) read = Fails e read

-- ---- a token in its line

-- the bytes of the token
abbrev pub text_of : List ℕ → Token → List ℕ
text_of line token = slice_range line token.lo token.hi

-- the token spans some bytes of the line, and is what these bytes stand for
pub record IsTokenOf (line : List ℕ) (token : Token) : Type 0 where
  pub begins : token.lo < token.hi
  pub ends : token.hi ≤ length line
  pub slice : token_of (record { lo = token.lo; text = text_of line token }) ≡ Ok token
