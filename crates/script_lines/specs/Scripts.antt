-- Scripts, given what the words of a line say: lines as those of stick text (blanks, comments and lines without words).
use Rattle.std.specs.{Prelude.{◌≡◌, ℕ, ◌+◌, List, [], ◌∷◌, map, Option, Some, None, Result, Ok, Err}, Str.Lines.lines}
use Rattle.stick_lex.specs.Tokens.{tokens_of}
use Rattle.stick_text.specs.{declared.fault.{StickKind.StickKind, LineFault.LineFault}, Reading.◌>>=◌}
use Rattle.stick_text.specs.{Lines.tokens_or_kind, Words.{Word, word_of}}
use Rattle.stick_text.specs.declared.fault.LineFault.TheVariants as line_faults
use Rattle.script_lines.specs.declared.script.ScriptFault.{ScriptFault}
use Rattle.script_lines.specs.declared.script.ScriptFault.TheVariants as faults

-- a line without words says nothing
abbrev pub step_by_words : {A : Type 0} → (List Word → Result A StickKind) → List Word → Result (Option A) StickKind
step_by_words step_of [] = Ok None
step_by_words step_of (word ∷ words) = do
  step ← step_of (word ∷ words)
  Ok (Some step)

abbrev pub step_by : {A : Type 0} → (List Word → Result A StickKind) → List ℕ → Result (Option A) StickKind
step_by step_of line = do
  tokens ← tokens_or_kind (tokens_of line)
  step_by_words step_of (map (word_of line) tokens)

-- what some lines say of which the first has this number, or the number of the first that is no line of the script
abbrev pub with_step : {A : Type 0} → ℕ → Result (Option A) StickKind → Result (List A) ℕ → Result (List A) ℕ
with_step number (Ok None) read = read
with_step number (Ok (Some step)) read = read >>= λ steps. Ok (step ∷ steps)
with_step number (Err kind) read = Err number

abbrev pub steps_from : {A : Type 0} → (List Word → Result A StickKind) → ℕ → List (List ℕ) → Result (List A) ℕ
steps_from step_of number [] = Ok []
steps_from step_of number (line ∷ lines) =
    with_step number (step_by step_of line) (steps_from step_of (number + 1) lines)

-- what the lines of a script say, or the number of its first bad line
abbrev pub steps_of : {A : Type 0} → (List Word → Result A StickKind) → List ℕ → Result (List A) ℕ
steps_of step_of text = steps_from step_of 1 (lines text)

-- the fault is the bad line of the script; nothing is said where memory ran out
abbrev pub IsScriptFault : {A : Type 0} → ScriptFault → Result (List A) ℕ → Type 0
IsScriptFault (faults.Line number) read = read ≡ Err number
IsScriptFault faults.OutOfMemory read = Unit {0}

-- a line's fault as the script's
abbrev pub fault_at : ℕ → LineFault → ScriptFault
fault_at number (line_faults.Kind kind) = faults.Line number
fault_at number line_faults.OutOfMemory = faults.OutOfMemory
