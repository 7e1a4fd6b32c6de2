-- The commands of CIF, by their words, and where they stand in a text.
use Rattle.std.specs.Prelude.{◌≡◌, ◌≢◌, ℕ, ◌+◌, ◌<◌, ◌≤◌, ℤ, pos, nat_abs, nat_lt, Bool, true, false, not, ◌||◌, ◌⊎◌}
use Rattle.std.specs.Prelude.{All, IsTrue, Option, Some, None, List, [], ◌∷◌, ◌++◌, length, codes, flat_map, drop}
use Rattle.std.specs.{Prelude.if◌then◌else◌, List.list_any, Ordering.int_eq, Char.is_ascii_digit, Str.bytes_eq}
use Rattle.lam_geom.specs.declared.boxes.MaskLayer.{MaskLayer, TheVariants.{ND, NP, NC, NM, NI, NB}}
use Rattle.cif_lex.specs.declared.command.Command.{Command, TheVariants.{Nothing, Define, Finish, Layer, Area, Call}}
use Rattle.cif_lex.specs.declared.command.{Command.TheVariants.Extension, Next.{Next, TheVariants.{Whole, Cut, Bad}}}
use Rattle.cif_lex.specs.declared.command.{Next.TheVariants.{End, Missing}, Tail.Tail}
use Rattle.cif_lex.specs.declared.placement.Transformation.{Transformation, TheVariants.{Shift, MirrorX, MirrorY, Turn}}
use Rattle.cif_lex.specs.{Blanks.{semicolon, IsGap, IsUnclosed, IsCutOff, IsFilled}, Transformations.words_of}
use Rattle.cif_lex.specs.{Transformations.IsComposedOf, Shifts.{is_odd_shift, IsOddWhere}, Words.{Word, letter, number}}
use Rattle.cif_lex.specs.Words.{name, limit, AreSpelled}
use Rattle.cif_lex.specs.declared.command.Tail.TheVariants as tails

-- ---- the layers that are kept

abbrev pub layer_named : List ℕ → Option MaskLayer
layer_named bytes = if bytes_eq bytes (codes "ND") then Some ND
    else (if bytes_eq bytes (codes "NP") then Some NP
    else (if bytes_eq bytes (codes "NC") then Some NC
    else (if bytes_eq bytes (codes "NM") then Some NM
    else (if bytes_eq bytes (codes "NI") then Some NI
    else (if bytes_eq bytes (codes "NB") then Some NB
    else None)))))

-- ---- numbers of a call

abbrev pub is_far : ℤ → Bool
is_far n = nat_lt limit (nat_abs n)

-- a turn along no axis: both of its numbers are 0, or neither is
abbrev pub is_no_axis : ℤ → ℤ → Bool
is_no_axis a b = if int_eq a (pos 0) then int_eq b (pos 0) else not (int_eq b (pos 0))

-- a number is past the limit, or a turn is along no axis
abbrev pub is_bad : Transformation → Bool
is_bad (Shift x y) = is_far x || is_far y
is_bad MirrorX = false
is_bad MirrorY = false
is_bad (Turn a b) = is_far a || is_far b || is_no_axis a b

-- all but shifts
abbrev pub is_turn : Transformation → Bool
is_turn (Shift x y) = false
is_turn MirrorX = true
is_turn MirrorY = true
is_turn (Turn a b) = true

-- ---- the words of each command

-- `DS n a b`, or `DS n` with the scale 1/1; `DF`; `L name`; `B l w x y`; `C n` and any number of transformations. An
-- empty command has no words.
abbrev pub HasWords : Command → List Word → Type 0
HasWords Nothing words = words ≡ []
HasWords (Define n above below) words =
    (words ≡ letter 68 ∷ letter 83 ∷ number n ∷ number above ∷ number below ∷ [])
    ⊎ ((words ≡ letter 68 ∷ letter 83 ∷ number n ∷ []) × (above ≡ pos 1) × (below ≡ pos 1))
HasWords Finish words = words ≡ letter 68 ∷ letter 70 ∷ []
HasWords (Layer layer) words = (bytes : List ℕ) × (words ≡ letter 76 ∷ name bytes ∷ []) × (length bytes ≤ 4)
    × (layer ≡ layer_named bytes)
HasWords (Area l w x y) words = words ≡ letter 66 ∷ number l ∷ number w ∷ number x ∷ number y ∷ []
HasWords (Call n place bad is_turned divisor) words =
    (ts : List Transformation) × (words ≡ letter 67 ∷ number n ∷ flat_map words_of ts) × IsComposedOf ts place
    × (bad ≡ list_any is_bad ts) × (is_turned ≡ list_any is_turn ts)
    × IsOddWhere (λ above below. list_any (is_odd_shift above below) ts) divisor
HasWords Extension words = ⊥

-- A user extension: a digit, and after it any bytes but a semicolon.
pub record IsExtension (text : List ℕ) : Type 0 where
  pub first : ℕ
  pub more : List ℕ
  pub begun : text ≡ first ∷ more
  pub digit : IsTrue (is_ascii_digit first)
  pub inside : All (λ b. b ≢ semicolon) more

-- ---- a command in its text

-- what stands between the gap in front of a command and its semicolon
abbrev pub IsBody : Command → List ℕ → Type 0
IsBody command body = ((words : List Word) × HasWords command words × AreSpelled words body)
    ⊎ ((command ≡ Extension) × IsExtension body)

-- a command with the gap in front of it and its semicolon
pub record IsWholeCommand (command : Command) (chunk : List ℕ) : Type 0 where
  pub gap : List ℕ
  pub body : List ℕ
  pub is_gap : IsGap gap
  pub is_body : IsBody command body
  pub joined : chunk ≡ gap ++ (body ++ (semicolon ∷ []))

-- A command that the end of the text cuts off, or a comment that has no end: words after which nothing else stands,
-- or an extension.
pub record IsCutCommand (command : Command) (text : List ℕ) : Type 0 where
  pub body : List ℕ
  pub rest : List ℕ
  pub some : 0 < length body
  pub is_body : IsBody command body
  pub joined : text ≡ body ++ rest
  pub cut : IsCutOff rest
  pub extension_takes_all : command ≡ Extension → rest ≡ []

-- a text begins with a command and its semicolon
pub record BeginsWith (command : Command) (text : List ℕ) : Type 0 where
  pub body : List ℕ
  pub rest : List ℕ
  pub is_body : IsBody command body
  pub joined : text ≡ body ++ (semicolon ∷ rest)

-- what stands here is neither a gap, nor the end, nor the letter E, nor a command, whole or cut off
pub record IsNoCommand (text : List ℕ) : Type 0 where
  pub filled : IsFilled text
  pub no_end : (rest : List ℕ) → text ≡ 69 ∷ rest → ⊥
  pub no_whole : (command : Command) → BeginsWith command text → ⊥
  pub no_cut : (command : Command) → IsCutCommand command text → ⊥

-- ---- what comes next in a text, of which the first bytes have been read

-- a gap, and what stands after it, which begins there
pub record Follows (bytes : List ℕ) (read begin : ℕ) (text : List ℕ) : Type 0 where
  pub gap : List ℕ
  pub is_gap : IsGap gap
  pub joined : drop read bytes ≡ gap ++ text
  pub begins : begin ≡ read + length gap

-- the command that comes next and the place after its semicolon; the one that the end cuts off; where what stands is
-- no command; the end; or the place where a command would begin is cut off
abbrev pub IsNext : List ℕ → ℕ → Next → Type 0
IsNext bytes read (Whole begin command after) =
    (body rest : List ℕ) × IsBody command body × Follows bytes read begin (body ++ (semicolon ∷ rest))
    × (after ≡ begin + length body + 1) × (after ≤ length bytes)
IsNext bytes read (Cut begin command) = (text : List ℕ) × Follows bytes read begin text × IsCutCommand command text
IsNext bytes read (Bad begin) = (text : List ℕ) × Follows bytes read begin text × IsNoCommand text
IsNext bytes read (End begin) = (rest : List ℕ) × Follows bytes read begin (69 ∷ rest) × (begin < length bytes)
IsNext bytes read Missing = (begin : ℕ) × (text : List ℕ) × Follows bytes read begin text × IsCutOff text

-- After the end: nothing but a gap; something else, which begins there; or a comment that has no end.
abbrev pub IsTail : List ℕ → ℕ → Tail → Type 0
IsTail bytes read tails.Clean = IsGap (drop read bytes)
IsTail bytes read (tails.Filled begin) = (text : List ℕ) × Follows bytes read begin text × IsFilled text
IsTail bytes read tails.Unclosed = (begin : ℕ) × (text : List ℕ) × Follows bytes read begin text × IsUnclosed text

-- ---- one answer at each place

abbrev pub NextIsDetermined : Type 0
NextIsDetermined = (bytes : List ℕ) (read : ℕ) (a b : Next) → IsNext bytes read a → IsNext bytes read b → a ≡ b

abbrev pub TailIsDetermined : Type 0
TailIsDetermined = (bytes : List ℕ) (read : ℕ) (a b : Tail) → IsTail bytes read a → IsTail bytes read b → a ≡ b
