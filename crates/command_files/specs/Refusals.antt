-- What refusals come from.
use Rattle.std.specs.Prelude.{List, ℕ, Some, None, Result, Ok, Err}
use Rattle.script_lines.specs.declared.script.ScriptFault.{ScriptFault}
use Rattle.script_lines.specs.declared.script.ScriptFault.TheVariants as script
use Rattle.command_files.specs.{declared.{refusal.Refusal.Refusal, status.Status.Status}, Refusal.message_text}
use Rattle.fault_lines.specs.FaultLines.{script_line}
use Rattle.command_files.specs.declared.status.Status.TheVariants as statuses

-- with no text of its own
abbrev pub plain : Status → Refusal
plain status = record { status = status; line = None }

-- with a text of its own
abbrev pub told : Status → List ℕ → Refusal
told status text = record { status = status; line = Some text }

-- why a script is refused
abbrev pub script_refusal : ScriptFault → Refusal
script_refusal (script.Line line) = told (statuses.BadScript line) (script_line line)
script_refusal script.OutOfMemory = plain statuses.OutOfMemory

-- a refusal with such a status and such a text of its own
abbrev pub Refused : (Status → List ℕ → Type 0) → Refusal → Type 0
Refused Why r = Why r.status (message_text r.line)

-- how a step ended
abbrev pub status_of : {A : Type 0} → Result A Refusal → Status
status_of (Ok x) = statuses.Done
status_of (Err r) = r.status
