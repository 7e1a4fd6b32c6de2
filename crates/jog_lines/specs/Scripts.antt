-- The script of jogs: each line names a wire to be bent.
use Rattle.std.specs.{Prelude.{ℕ, not, List, Result, Ok, codes}, Str.bytes_eq}
use Rattle.stick_text.specs.{declared.fault.StickKind.{StickKind, TheVariants.BadLine}, Reading.{◌>>=◌, demand}}
use Rattle.stick_text.specs.Words.{Word, path_at, name_at, count_at, either_at, ended}
use Rattle.script_lines.specs.Scripts.{steps_of}
use Rattle.jog_lines.specs.declared.script.JogLine.{JogLine}

-- `jog CELL K R left` or `jog CELL K R right`
unfoldable pub jog_of : List Word → Result JogLine StickKind
jog_of words = do
  keyword ← path_at words
  jog ← demand (bytes_eq keyword.0 (codes "jog")) BadLine
  cell ← name_at keyword.1
  k ← count_at cell.1
  r ← count_at k.1
  right ← either_at (codes "left") (codes "right") r.1
  over ← ended right.1
  Ok (record { cell = cell.0; k = k.0; r = r.0; left = not right.0 })

-- the jogs of a script
unfoldable pub jogs_of : List ℕ → Result (List JogLine) ℕ
jogs_of text = steps_of jog_of text
