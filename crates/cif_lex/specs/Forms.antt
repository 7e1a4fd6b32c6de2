-- The forms of commands, as they are read from a text.
use Rattle.std.specs.Prelude.{◌≡◌, ℕ, ◌≤◌, ◌⊎◌, Option, MatchOption, List, [], ◌∷◌, ◌++◌, length, drop}
use Rattle.cif_lex.specs.declared.{command.Command.{Command, TheVariants.Extension}, forms.Form.Form}
use Rattle.cif_lex.specs.{Blanks.{semicolon, IsCutOff}, Words.Word, Commands.{HasWords, IsBody}, Reading.AreRead}
use Rattle.cif_lex.specs.Reading.{IsStop}

-- a text begins with such a byte
pub record IsLedBy (b : ℕ) (text : List ℕ) : Type 0 where
  pub more : List ℕ
  pub begun : text ≡ b ∷ more

-- a command may end in front of this: a semicolon, the end of the text, or a comment that has no end
abbrev pub Ends : List ℕ → Type 0
Ends rest = IsLedBy semicolon rest ⊎ IsCutOff rest

-- where such a command may end; to a user extension the end of the text alone is one, as parentheses mean nothing in it
abbrev pub MayEnd : Command → List ℕ → Type 0
MayEnd command rest = IsLedBy semicolon rest ⊎ (IsCutOff rest × (command ≡ Extension → rest ≡ []))

-- the text after the words of a command
abbrev pub Takes : Command → List ℕ → List ℕ → Type 0
Takes command text rest = (words : List Word) × HasWords command words × AreRead words text rest

-- the text after a command
abbrev pub Reaches : Command → List ℕ → List ℕ → Type 0
Reaches command text rest = (body : List ℕ) × IsBody command body × (text ≡ body ++ rest)

-- words of a command, and each command that begins in front of them ends after them
pub record IsForm (text : List ℕ) (form : Form) : Type 0 where
  pub within : form.length ≤ length text
  pub takes : Takes form.command text (drop form.length text)
  pub only : (command : Command) (rest : List ℕ) → Takes command text rest → Ends rest → rest ≡ drop form.length text

-- the words of a command that a text begins with, or that it begins with none
abbrev pub IsFormAnswer : List ℕ → Option Form → Type 0
IsFormAnswer text answer =
    MatchOption answer ((command : Command) (rest : List ℕ) → Takes command text rest → Ends rest → ⊥) (IsForm text)

-- the same for any command, a user extension too
pub record IsBodyForm (text : List ℕ) (form : Form) : Type 0 where
  pub within : form.length ≤ length text
  pub reaches : Reaches form.command text (drop form.length text)
  pub stop : IsStop (drop form.length text)
  pub extension_ends : form.command ≡ Extension → (drop form.length text ≡ [])
      ⊎ IsLedBy semicolon (drop form.length text)
  pub only : (command : Command) (rest : List ℕ) → Reaches command text rest → MayEnd command rest
      → rest ≡ drop form.length text

abbrev pub IsBodyAnswer : List ℕ → Option Form → Type 0
IsBodyAnswer text answer =
    MatchOption answer ((command : Command) (rest : List ℕ) → Reaches command text rest → MayEnd command rest → ⊥)
    (IsBodyForm text)
