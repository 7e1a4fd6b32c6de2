-- A command as its steps: what they write, why they are refused, and which files they ask for.
use Rattle.std.specs.Prelude.{◌≡◌, ◌⊎◌, [], Option, option_map}
use Rattle.lam_io.specs.Io.{Bytes, Files, Telling, Asks, with_asked}
use Rattle.command_files.specs.declared.status.{File.File, Status.Status}
use Rattle.command_files.specs.Fetches.{HasFile, IsLongFile, IsRefused, IsJudgement}
use Rattle.command_files.specs.declared.status.Status.TheVariants as statuses

-- ---- what a file is read as

-- What its text says, or else its first fault, by the status and the line.
pub record Reader (A : Type 0) : Type 1 where
  pub file : File
  pub says : Bytes → A → Type 0
  pub fails : Bytes → Status → Bytes → Type 0

-- A file of the shelf says this.
pub record Says {A : Type 0} (reader : Reader A) (files : Files) (name : Bytes) (x : A) : Type 0 where
  pub text : Bytes
  pub file : HasFile files reader.file name text
  pub read : reader.says text x

-- A file of the shelf says nothing, and this is its first fault.
pub record Fails {A : Type 0} (reader : Reader A) (files : Files) (name : Bytes) (status : Status) (message : Bytes)
    : Type 0 where
  pub text : Bytes
  pub file : HasFile files reader.file name text
  pub read : reader.fails text status message

-- Why a file is not read. That it can't be fetched or that memory runs out may come whatever it is: clauses of their
-- own say when.
abbrev pub RefusesFile : {A : Type 0} → Reader A → Bytes → Files → Status → Bytes → Type 0
RefusesFile reader name files statuses.OutOfMemory message = Unit {0}
RefusesFile reader name files (statuses.ReadFault f) message = f ≡ reader.file
RefusesFile reader name files (statuses.TooLong f) message = (f ≡ reader.file) × IsLongFile files reader.file name
RefusesFile reader name files status message = Fails reader files name status message

-- a file is refused so, whatever is on the shelf
abbrev pub EndsOver : {A : Type 0} → Reader A → Status → Type 0
EndsOver reader statuses.OutOfMemory = Unit {0}
EndsOver reader (statuses.ReadFault f) = f ≡ reader.file
EndsOver reader (statuses.TooLong f) = f ≡ reader.file
EndsOver reader status = (text : Bytes) × (message : Bytes) × reader.fails text status message

-- ---- steps

-- The steps of a command, one after another, and then what is written.
pub data Steps : Type 1 where
  -- such an output and such a report are written
  writes : (Bytes → Bytes → Type 0) → Steps
  -- the file of this name is read, and the others go on with what it says
  reads : {A : Type 0} → Reader A → Bytes → (A → Steps) → Steps
  -- such a thing is made, and the others go on with it; or else it is refused for such a cause, with its status and
  -- line
  makes : {A : Type 0} → (A → Type 0) → (Status → Bytes → Type 0) → (A → Steps) → Steps

-- this holds, or else it is refused so
abbrev pub needs : Type 0 → (Status → Bytes → Type 0) → Steps → Steps
needs holds why rest = makes (λ (u : Unit {0}). holds) why (λ u. rest)

-- and nothing is written
abbrev pub ends : Steps
ends = writes (λ output report. (output ≡ []) × (report ≡ []))

-- What the steps write into the output and into the report: each of them is done.
abbrev pub StepsWrite : Steps → Files → Bytes → Bytes → Type 0
StepsWrite (writes texts) files output report = texts output report
StepsWrite (reads {A} reader name rest) files output report =
    (x : A) × Says reader files name x × StepsWrite (rest x) files output report
StepsWrite (makes {A} Is why rest) files output report = (x : A) × Is x × StepsWrite (rest x) files output report

-- a step that fetches no file is refused for such a cause
abbrev pub IsCause : (Status → Bytes → Type 0) → Status → Bytes → Type 0
IsCause why status message = IsJudgement status × why status message

-- Why the steps are refused: one of them is, and those before it are done.
abbrev pub StepsRefuse : Steps → Files → Status → Bytes → Type 0
StepsRefuse (writes texts) files status message = ⊥
StepsRefuse (reads {A} reader name rest) files status message =
    RefusesFile reader name files status message
    ⊎ ((x : A) × Says reader files name x × StepsRefuse (rest x) files status message)
StepsRefuse (makes {A} Is why rest) files status message =
    IsCause why status message ⊎ ((x : A) × Is x × StepsRefuse (rest x) files status message)

-- so, or for want of memory
abbrev pub Refuses : Steps → Files → Status → Bytes → Type 0
Refuses steps files status message = (status ≡ statuses.OutOfMemory) ⊎ StepsRefuse steps files status message

-- Why they are refused before a file is fetched.
abbrev pub StepsStop : Steps → Status → Bytes → Type 0
StepsStop (makes {A} Is why rest) status message = IsCause why status message
    ⊎ ((x : A) × Is x × StepsStop (rest x) status message)
StepsStop other status message = ⊥

-- so, or for want of memory
abbrev pub Stops : Steps → Status → Bytes → Type 0
Stops steps status message = (status ≡ statuses.OutOfMemory) ⊎ StepsStop steps status message

-- ---- which files are asked for

-- memory ran out before the next file was asked for
abbrev pub AsksNothing : Status → Option Telling → Option Telling → Type 0
AsksNothing status old new = (status ≡ statuses.OutOfMemory) × (new ≡ old)

-- all steps are done
abbrev pub IsWritten : Status → Type 0
IsWritten statuses.Done = Unit {0}
IsWritten (statuses.WriteFault stream) = Unit {0}
IsWritten other = ⊥

-- The shelf's files are as they were, and it was asked for those of the steps, each once, in order, up to the step that
-- was refused; a prefix of them where memory ran out.
abbrev pub StepsAsk : Steps → Status → Option Telling → Option Telling → Type 0
StepsAsk (writes texts) status old new = AsksNothing status old new ⊎ (IsWritten status × (new ≡ old))
StepsAsk (reads {A} reader name rest) status old new =
    AsksNothing status old new
    ⊎ ((IsRefused status × EndsOver reader status × Asks old new name)
    ⊎ ((x : A) × StepsAsk (rest x) status (option_map (with_asked name) old) new))
StepsAsk (makes {A} Is why rest) status old new =
    AsksNothing status old new
    ⊎ (((message : Bytes) × IsCause why status message × (new ≡ old))
    ⊎ ((x : A) × Is x × StepsAsk (rest x) status old new))
