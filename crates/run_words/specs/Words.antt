-- The words of the command line, and which command they are.
use Rattle.std.specs.Prelude.{ℕ, List, [], ◌∷◌, Option, None, codes, bytes_eq, map, unwrap_or, option_map}
use Rattle.std.specs.{Prelude.{option_and_then, if◌then◌else◌}, Borrow.Bor}
use Rattle.clap.specs.Words.{Row, Text, first_of}
use Rattle.lam_geom.specs.declared.boxes.Axis.{Axis}
use Rattle.run_words.specs.{Values.{count_in, most_in, passes_in}, Lines.{breaks_line, check_line, compact_line}}
use Rattle.run_words.specs.Lines.{extract_line, found_in, operand_line, script_line, slack_line, text_of}

-- a command, with the names of its files
pub data Command : Type 0 where
  -- the design, the technology, the axes of the passes, and the number of shares that the work is split into
  compact : List ℕ → List ℕ → List Axis → ℕ → Command
  -- the design, the technology, and the axes of the passes
  slack : List ℕ → List ℕ → List Axis → Command
  -- the design, the technology, the script, and the axes of the passes
  jog : List ℕ → List ℕ → List ℕ → List Axis → Command
  edit : List ℕ → List ℕ → List ℕ → List Axis → Command
  -- the CIF text, the technology, and the number of shares
  check : List ℕ → List ℕ → ℕ → Command
  -- the CIF text, the technology, and how many breaks are listed at most
  breaks : List ℕ → List ℕ → ℕ → Command
  -- the CIF text and the technology
  extract : List ℕ → List ℕ → Command
  -- the design and the technology
  nets : List ℕ → List ℕ → Command
  -- the design
  fmt : List ℕ → Command
  -- the number that the design is made from
  bench : ℕ → Command

-- without a list there is one pass on x, and then one on y
abbrev pub passes_of : List Row → Text
passes_of rows = unwrap_or (first_of (codes "passes") rows) (codes "xy")

-- without a number the work is one share
abbrev pub split_of : List Row → Text
split_of rows = unwrap_or (first_of (codes "split") rows) (codes "1")

-- without a number a thousand breaks are listed
abbrev pub most_of : List Row → Text
most_of rows = unwrap_or (first_of (codes "most") rows) (codes "1000")

abbrev pub operand_of : List Row → Text
operand_of rows = text_of (codes "operand") rows

abbrev pub tech_of : List Row → Text
tech_of rows = text_of (codes "tech") rows

abbrev pub script_of : List Row → Text
script_of rows = text_of (codes "script") rows

-- `compact` with these texts, where the third is a list of passes and the fourth a number of shares
abbrev pub compact_as : Text → Text → Text → Text → Option Command
compact_as design tech passes split =
    option_and_then (λ axes. option_map (compact design tech axes) (count_in split)) (passes_in passes)

abbrev pub compact_with : List Row → Option Command
compact_with rows = compact_as (operand_of rows) (tech_of rows) (passes_of rows) (split_of rows)

abbrev pub compact_of : List Text → Option Command
compact_of words = option_and_then compact_with (found_in compact_line words)

-- `slack` with these texts, where the last is a list of passes
abbrev pub slack_as : Text → Text → Text → Option Command
slack_as design tech passes = option_map (slack design tech) (passes_in passes)

abbrev pub slack_with : List Row → Option Command
slack_with rows = slack_as (operand_of rows) (tech_of rows) (passes_of rows)

abbrev pub slack_of : List Text → Option Command
slack_of words = option_and_then slack_with (found_in slack_line words)

-- a command that has a script, as `jog` and `edit`
abbrev pub Scripted : Type 0
Scripted = Text → Text → Text → List Axis → Command

-- such a command with these texts, where the last is a list of passes
abbrev pub script_as : Scripted → Text → Text → Text → Text → Option Command
script_as command design tech script passes = option_map (command design tech script) (passes_in passes)

abbrev pub script_with : Scripted → List Row → Option Command
script_with command rows = script_as command (operand_of rows) (tech_of rows) (script_of rows) (passes_of rows)

abbrev pub jog_of : List Text → Option Command
jog_of words = option_and_then (script_with jog) (found_in script_line words)

abbrev pub edit_of : List Text → Option Command
edit_of words = option_and_then (script_with edit) (found_in script_line words)

-- `check` with these texts, where the last is a number of shares
abbrev pub check_as : Text → Text → Text → Option Command
check_as cif tech split = option_map (check cif tech) (count_in split)

abbrev pub check_with : List Row → Option Command
check_with rows = check_as (operand_of rows) (tech_of rows) (split_of rows)

abbrev pub check_of : List Text → Option Command
check_of words = option_and_then check_with (found_in check_line words)

-- `breaks` with these texts, where the last is a number of breaks
abbrev pub breaks_as : Text → Text → Text → Option Command
breaks_as cif tech most = option_map (breaks cif tech) (most_in most)

abbrev pub breaks_with : List Row → Option Command
breaks_with rows = breaks_as (operand_of rows) (tech_of rows) (most_of rows)

abbrev pub breaks_of : List Text → Option Command
breaks_of words = option_and_then breaks_with (found_in breaks_line words)

abbrev pub extract_of : List Text → Option Command
extract_of words = option_map (λ rows. extract (operand_of rows) (tech_of rows)) (found_in extract_line words)

abbrev pub nets_of : List Text → Option Command
nets_of words = option_map (λ rows. nets (operand_of rows) (tech_of rows)) (found_in extract_line words)

abbrev pub fmt_of : List Text → Option Command
fmt_of words = option_map (λ rows. fmt (operand_of rows)) (found_in operand_line words)

-- `bench` with this text, where it is a number of 1 to 64
abbrev pub bench_as : Text → Option Command
bench_as n = option_map bench (count_in n)

abbrev pub bench_of : List Text → Option Command
bench_of words = option_and_then (λ rows. bench_as (operand_of rows)) (found_in operand_line words)

-- the command that the words are, if they are one, where this is its name
abbrev pub command_named : Text → List Text → Option Command
command_named name words =
    if bytes_eq name (codes "compact") then compact_of words
    else (if bytes_eq name (codes "slack") then slack_of words
    else (if bytes_eq name (codes "jog") then jog_of words
    else (if bytes_eq name (codes "edit") then edit_of words
    else (if bytes_eq name (codes "check") then check_of words
    else (if bytes_eq name (codes "breaks") then breaks_of words
    else (if bytes_eq name (codes "extract") then extract_of words
    else (if bytes_eq name (codes "nets") then nets_of words
    else (if bytes_eq name (codes "fmt") then fmt_of words
    else (if bytes_eq name (codes "bench") then bench_of words else None)))))))))

-- the command that the words are, if they are one: the first word names it
abbrev pub command_of : List Text → Option Command
command_of [] = None
command_of (name ∷ words) = command_named name (name ∷ words)

-- the bytes of words
abbrev pub texts_of : List (Bor (List ℕ)) → List (List ℕ)
texts_of words = map (λ word. word.now) words
