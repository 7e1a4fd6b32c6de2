-- What a command writes, and what its steps come to.
use Rattle.std.specs.Prelude.{◌≡◌, ℕ, ◌≤◌, ◌⊎◌, Option, Some, Result, Ok, Err, IfErr, flat_map, codes}
use Rattle.lam_io.specs.Io.{Bytes, Files, Telling, Appends, AppendsPrefix, Rose}
use Rattle.command_files.specs.{declared.{output.Output.Output, refusal.Refusal.Refusal}, Fetches.IsCounted}
use Rattle.command_files.specs.{Fetches.IsRefused, StepLists.{Steps, StepsWrite, Refuses, StepsAsk}, Refusals.Refused}
use Rattle.command_files.specs.Refusals.{status_of}
use Rattle.command_files.specs.declared.status.Status.TheVariants as statuses

-- the text that an output holds in chunks
abbrev pub text_of : Output → Bytes
text_of output = flat_map (λ chunk. chunk.items) output.chunks.items

-- Steps before anything is written: an output, or a refusal.
abbrev pub AreGiven : Steps → Files → Result Output Refusal → Type 0
AreGiven steps files (Ok output) = StepsWrite steps files (text_of output) output.report
AreGiven steps files (Err r) = Refused (Refuses steps files) r

-- What steps came to, over a shelf that told this before and this after, with these counts of faults.
pub record ComeTo (steps : Steps) (old new : Option Telling) (faults risen : ℕ) (result : Result Output Refusal)
    : Type 0 where
  pub given : (t : Telling) → old ≡ Some t → AreGiven steps t.files result
  pub refused : IfErr result (λ r. IsRefused r.status)
  pub asked : StepsAsk steps (status_of result) old new
  pub counted : IsCounted faults risen (status_of result)
  pub counts : faults ≤ risen

abbrev pub write_fault_line : Bytes
write_fault_line = codes "sticks: cannot write output\n"

-- the report grew by the text, or by a prefix of it where the report's count of faults rose
abbrev pub Reports : Option Bytes → Option Bytes → ℕ → ℕ → Bytes → Type 0
Reports old new faults_old faults_new text = Appends old new text
    ⊎ (AppendsPrefix old new text × Rose faults_old faults_new)
