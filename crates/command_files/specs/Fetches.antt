-- What a fetch of one of the command's files gives, and what was asked of the shelf.
use Rattle.std.specs.{Prelude.{◌≡◌, ℕ, ◌<◌, ◌≤◌, ◌⊎◌, Option, Some, length}, FinMap.get}
use Rattle.lam_io.specs.Io.{Bytes, Files, Telling, Asks, Rose}
use Rattle.command_files.specs.Limits.{most_design_bytes, most_technology_bytes, most_cif_bytes, most_script_bytes}
use Rattle.command_files.specs.declared.status.File.{File, TheVariants.{Design, Technology, Cif, Script}}
use Rattle.command_files.specs.declared.status.Status.{Status}
use Rattle.command_files.specs.declared.status.Status.TheVariants as statuses

-- the most bytes that a file may have
abbrev pub limit_of : File → ℕ
limit_of Design = most_design_bytes
limit_of Technology = most_technology_bytes
limit_of Cif = most_cif_bytes
limit_of Script = most_script_bytes

-- a file of the shelf, within its limit
pub record HasFile (files : Files) (file : File) (name text : Bytes) : Type 0 where
  pub there : get files name ≡ Some text
  pub short : length text ≤ limit_of file

-- a file of the shelf that is longer
pub record IsLongFile (files : Files) (file : File) (name : Bytes) : Type 0 where
  pub text : Bytes
  pub there : get files name ≡ Some text
  pub long : limit_of file < length text

-- where the shelf tells its files, the text is one of them
abbrev pub IsRead : Option Telling → File → Bytes → Bytes → Type 0
IsRead told file name text = (t : Telling) → told ≡ Some t → HasFile t.files file name text

-- why a file is not given, where the shelf tells its files
abbrev pub FailsToRead : Files → File → Bytes → Status → Type 0
FailsToRead files file name statuses.OutOfMemory = Unit {0}
FailsToRead files file name (statuses.ReadFault f) = f ≡ file
FailsToRead files file name (statuses.TooLong f) = (f ≡ file) × IsLongFile files file name
FailsToRead files file name other = ⊥

-- and whether or not it tells them
abbrev pub IsUnread : File → Status → Type 0
IsUnread file statuses.OutOfMemory = Unit {0}
IsUnread file (statuses.ReadFault f) = f ≡ file
IsUnread file (statuses.TooLong f) = f ≡ file
IsUnread file other = ⊥

-- where a file could not be read, the shelf's count of faults rose
abbrev pub IsCounted : ℕ → ℕ → Status → Type 0
IsCounted old new status = (f : File) → status ≡ statuses.ReadFault f → Rose old new

-- a command is refused so: it is not done, and no stream was tried
abbrev pub IsRefusal : Status → Type 0
IsRefusal statuses.Done = ⊥
IsRefusal (statuses.WriteFault stream) = ⊥
IsRefusal other = Unit {0}

-- and its words are a command
abbrev pub IsRefused : Status → Type 0
IsRefused statuses.Usage = ⊥
IsRefused status = IsRefusal status

-- so is a step that fetches no file
abbrev pub IsJudgement : Status → Type 0
IsJudgement (statuses.ReadFault file) = ⊥
IsJudgement status = IsRefused status

-- the shelf's files are as they were, and it was asked for the name, unless memory ran out before
abbrev pub AsksOnce : Status → Option Telling → Option Telling → Bytes → Type 0
AsksOnce status old new name = Asks old new name ⊎ ((status ≡ statuses.OutOfMemory) × (new ≡ old))

-- The words and the files decide how it ended: memory did not run out, and no file or stream failed.
abbrev pub IsDecided : Status → Type 0
IsDecided statuses.OutOfMemory = ⊥
IsDecided (statuses.ReadFault file) = ⊥
IsDecided (statuses.WriteFault stream) = ⊥
IsDecided other = Unit {0}
