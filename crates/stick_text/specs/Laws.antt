-- What the definitions of a text's design, of its first fault and of a line's words say of each other.
use Rattle.std.specs.{Prelude.{◌≡◌, ◌⊎◌, ℕ, List, map, Ok, Err}, List.AllByRecursion}
use Rattle.stick_lex.specs.{declared.token.Token.Token, Numbers.IsNumber, Tokens.tokens_of}
use Rattle.stick_lex.specs.declared.token.LexFault.TheVariants as lex_faults
use Rattle.stick_text.specs.{declared.{fault.StickFault.StickFault, design.Design.Design}, Words.{Word, Path, Number}}
use Rattle.stick_text.specs.{Words.{AtMost, AtLeast, word_of}, Order.design_of, Writable.IsPath, Says.SaysDesign}
use Rattle.stick_text.specs.FirstFault.{IsFirstFault}

-- a design is read where the text says it, and no other
pub record ReadsWhatIsSaid (text : List ℕ) : Type 0 where
  pub said : (design : Design) → design_of text ≡ Ok design → SaysDesign text design
  pub read : (design : Design) → SaysDesign text design → design_of text ≡ Ok design

-- a text is refused with its first fault, and with no other
pub record RefusesFirstFault (text : List ℕ) : Type 0 where
  pub first : (fault : StickFault) → design_of text ≡ Err fault → IsFirstFault text fault
  pub refused : (fault : StickFault) → IsFirstFault text fault → design_of text ≡ Err fault

-- a text says one design, or has one first fault, and never both
pub record HasOneAnswer (text : List ℕ) : Type 0 where
  pub some : ((design : Design) × SaysDesign text design) ⊎ ((fault : StickFault) × IsFirstFault text fault)
  pub one_design : (a b : Design) → SaysDesign text a → SaysDesign text b → a ≡ b
  pub one_fault : (a b : StickFault) → IsFirstFault text a → IsFirstFault text b → a ≡ b
  pub not_both : (design : Design) (fault : StickFault) → SaysDesign text design → ¬ IsFirstFault text fault

-- what a word of a line can be: its path is one, and its number is at most a million from 0
abbrev pub IsWord : Word → Type 0
IsWord (Path text) = IsPath text
IsWord (Number n) = IsNumber n
IsWord AtMost = Unit {0}
IsWord AtLeast = Unit {0}

-- a line has such words, or a run that is no token, or a number that is too large, and no other fault
pub record HasWordsInRange (line : List ℕ) : Type 0 where
  pub words : (tokens : List Token) → tokens_of line ≡ Ok tokens → AllByRecursion IsWord (map (word_of line) tokens)
  pub faults : ¬ (tokens_of line ≡ Err lex_faults.OutOfMemory)
