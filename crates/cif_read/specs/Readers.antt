-- What a CIF text means to a reader, and its first fault: the same for every reader, whatever a command does in it.
use Rattle.std.specs.Prelude.{◌≡◌, ℕ, ◌+◌, ◌^◌, ◌≤◌, Bool, true, false, Result, Ok, Err, List, ◌++◌, ◌∷◌, length}
use Rattle.std.specs.{Prelude.{flat_map, fold}, List.AllZip}
use Rattle.cif_lex.specs.declared.command.{Command.Command, Next.TheVariants.{Whole, Cut, Bad, End, Missing}}
use Rattle.cif_lex.specs.{Blanks.IsGap, Commands.{IsWholeCommand, IsNext, IsTail}}
use Rattle.cif_lex.specs.declared.command.Tail.TheVariants as tails
use Rattle.cif_read.specs.declared.fault.{CifFault.CifFault, CifKind.{CifKind, TheVariants.BadCommand}}
use Rattle.cif_read.specs.declared.fault.CifKind.TheVariants.{NestedDefinition, NoEnd, AfterEnd}
use Rattle.cif_read.specs.declared.fault.{CifReadFault.{CifReadFault, TheVariants.{Cif, OutOfMemory}}, Stop.Stop}
use Rattle.cif_read.specs.declared.fault.Stop.TheVariants as stops

-- A reader: what it begins with; what a command makes of what has been read, or the first of its faults; whether a
-- definition is open; and what has been drawn.
pub record Reader (State Hierarchy : Type 0) : Type 0 where
  pub start : State
  pub act : State → Command → Result State CifKind
  pub is_open : State → Bool
  pub drawn : State → Hierarchy

-- commands one after another, from the first
abbrev pub then_act_by : {S D : Type 0} → Reader S D → Result S CifKind → Command → Result S CifKind
then_act_by reader (Ok state) command = reader.act state command
then_act_by reader (Err kind) command = Err kind

abbrev pub acts_by : {S D : Type 0} → Reader S D → List Command → Result S CifKind
acts_by reader commands = fold (then_act_by reader) (Ok reader.start) commands

abbrev pub joined : List (List ℕ) → List ℕ
joined chunks = flat_map (λ chunk. chunk) chunks

-- A text begins with so many bytes of commands, which may follow one another, and which make this of it.
pub record BeginsWellBy {S D : Type 0} (reader : Reader S D) (text : List ℕ) (read : ℕ) (state : S) : Type 0 where
  pub chunks : List (List ℕ)
  pub commands : List Command
  pub spelled : AllZip IsWholeCommand commands chunks
  pub rest : List ℕ
  pub cut : text ≡ joined chunks ++ rest
  pub counted : read ≡ length (joined chunks)
  pub done : acts_by reader commands ≡ Ok state

-- A text means a hierarchy: it is commands, then the letter E, then blanks; and the commands draw the hierarchy and
-- leave no definition open.
pub record MeansBy {S D : Type 0} (reader : Reader S D) (text : List ℕ) (hierarchy : D) : Type 0 where
  pub chunks : List (List ℕ)
  pub commands : List Command
  pub spelled : AllZip IsWholeCommand commands chunks
  pub gap : List ℕ
  pub is_gap : IsGap gap
  pub after : List ℕ
  pub is_after : IsGap after
  pub whole : text ≡ joined chunks ++ (gap ++ (69 ∷ after))
  pub state : S
  pub done : acts_by reader commands ≡ Ok state
  pub closed : reader.is_open state ≡ false
  pub drawn : hierarchy ≡ reader.drawn state

-- Why a text has no meaning, where its first bytes make a state of it: what stands after them is no command; the
-- command there may not follow; it has no end; there is none and no letter E; the letter E stands in a definition; or
-- something stands after it.
pub data IsFaultBy {S D : Type 0} (reader : Reader S D) (text : List ℕ) (state : S) (read : ℕ) : ℕ → CifKind
    → Type 0 where
  no_command : (begin : ℕ) → IsNext text read (Bad begin) → IsFaultBy reader text state read begin BadCommand
  refused : (begin after : ℕ) (command : Command) (kind : CifKind) → IsNext text read (Whole begin command after)
      → reader.act state command ≡ Err kind → IsFaultBy reader text state read begin kind
  cut_and_refused : (begin : ℕ) (command : Command) (kind : CifKind) → IsNext text read (Cut begin command)
      → reader.act state command ≡ Err kind → IsFaultBy reader text state read begin kind
  cut : (begin : ℕ) (command : Command) (done : S) → IsNext text read (Cut begin command)
      → reader.act state command ≡ Ok done → IsFaultBy reader text state read (length text) NoEnd
  missing : IsNext text read Missing → IsFaultBy reader text state read (length text) NoEnd
  end_inside : (begin : ℕ) → IsNext text read (End begin) → reader.is_open state ≡ true
      → IsFaultBy reader text state read begin NestedDefinition
  filled : (begin place : ℕ) → IsNext text read (End begin) → reader.is_open state ≡ false
      → IsTail text (begin + 1) (tails.Filled place) → IsFaultBy reader text state read place AfterEnd
  unclosed : (begin : ℕ) → IsNext text read (End begin) → reader.is_open state ≡ false
      → IsTail text (begin + 1) tails.Unclosed → IsFaultBy reader text state read (length text) NoEnd

-- the first fault of a text: what stands before it is well
pub record IsFirstFaultBy {S D : Type 0} (reader : Reader S D) (text : List ℕ) (fault : CifFault) : Type 0 where
  pub read : ℕ
  pub state : S
  pub well : BeginsWellBy reader text read state
  pub is_fault : IsFaultBy reader text state read fault.offset fault.kind

-- To a reader a text means one hierarchy at most, or has one first fault, and never both.
pub record IsDeterminedBy {S D : Type 0} (reader : Reader S D) : Type 0 where
  pub one_hierarchy : (text : List ℕ) (a b : D) → length text ≤ 2 ^ 26 → MeansBy reader text a → MeansBy reader text b
      → a ≡ b
  pub one_fault : (text : List ℕ) (a b : CifFault) → length text ≤ 2 ^ 26 → IsFirstFaultBy reader text a
      → IsFirstFaultBy reader text b → a ≡ b
  pub not_both : (text : List ℕ) (hierarchy : D) (fault : CifFault) → length text ≤ 2 ^ 26
      → MeansBy reader text hierarchy → IsFirstFaultBy reader text fault → ⊥

-- ---- why a text could not be read

abbrev pub IsCauseBy : {S D : Type 0} → Reader S D → List ℕ → CifReadFault → Type 0
IsCauseBy reader text (Cif fault) = IsFirstFaultBy reader text fault
IsCauseBy reader text OutOfMemory = Unit {0}

-- why a command is not carried out
abbrev pub IsCauseOfStop : {S : Type 0} → Result S CifKind → Stop → Type 0
IsCauseOfStop answer (stops.Refused kind) = answer ≡ Err kind
IsCauseOfStop answer stops.OutOfMemory = Unit {0}

-- the same, of a text in which the command stands there
abbrev pub cause_of : ℕ → Stop → CifReadFault
cause_of begin (stops.Refused kind) = Cif (record { offset = begin; kind = kind })
cause_of begin stops.OutOfMemory = OutOfMemory
