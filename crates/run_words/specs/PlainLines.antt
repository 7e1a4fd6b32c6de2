-- Plain command lines: the operand and the options in any order.
use Rattle.std.specs.Prelude.{◌≡◌, Bool, true, false, not, ◌&&◌, ◌==◌, List, [], ◌∷◌, ◌++◌, Option, Some, None}
use Rattle.std.specs.Prelude.{if◌then◌else◌, codes, bytes_eq, find, flat_map, option_and_then, option_map, unwrap_or}
use Rattle.std.specs.List.{list_all, list_any}
use Rattle.clap.specs.Words.{Text}
use Rattle.run_words.specs.Words as commands
use Rattle.run_words.specs.Words.{Command, Scripted, bench_as, breaks_as, check_as, command_of, compact_as, fmt}
use Rattle.run_words.specs.Words.{script_as, slack_as}

-- what may stand after the command's name: an operand, `--NAME VALUE` or `--NAME=VALUE`
pub data Part : Type 0 where
  alone : Text → Part
  apart : Text → Text → Part
  joined : Text → Text → Part

abbrev pub words_of : Part → List Text
words_of (alone value) = value ∷ []
words_of (apart name value) = (codes "--" ++ name) ∷ value ∷ []
words_of (joined name value) = (codes "--" ++ (name ++ (codes "=" ++ value))) ∷ []

abbrev pub name_of : Part → Text
name_of (alone value) = codes "operand"
name_of (apart name value) = name
name_of (joined name value) = name

abbrev pub value_of : Part → Text
value_of (alone value) = value
value_of (apart name value) = value
value_of (joined name value) = value

-- the value of the first part with this name
abbrev pub value_at : Text → List Part → Option Text
value_at name parts = option_map value_of (find (λ part. bytes_eq (name_of part) name) parts)

abbrev pub begins_with_dash : Text → Bool
begins_with_dash [] = false
begins_with_dash (b ∷ bs) = b == 45

-- a value that is a word of its own does not begin with a dash, and an option has one of the names
abbrev pub is_plain : List Text → Part → Bool
is_plain names (alone value) = not (begins_with_dash value)
is_plain names (apart name value) = not (begins_with_dash value) && list_any (bytes_eq name) names
is_plain names (joined name value) = list_any (bytes_eq name) names

-- no part has the name of one before it
abbrev pub are_new : List Part → List Part → Bool
are_new before [] = true
are_new before (part ∷ parts) = not (list_any (λ old. bytes_eq (name_of old) (name_of part)) before)
    && are_new (before ++ part ∷ []) parts

-- a line of such parts
abbrev pub is_plain_line : List Text → List Part → Bool
is_plain_line names parts = list_all (is_plain names) parts

-- what is made of the operand and the technology, if both are there
abbrev pub of_both : (Text → Text → Option Command) → List Part → Option Command
of_both made parts = option_and_then (λ operand. option_and_then (made operand) (value_at (codes "tech") parts))
    (value_at (codes "operand") parts)

-- the list of passes, and the list that is meant without one
abbrev pub passes_at : List Part → Text
passes_at parts = unwrap_or (value_at (codes "passes") parts) (codes "xy")

-- the number of shares, and the number that is meant without one
abbrev pub split_at : List Part → Text
split_at parts = unwrap_or (value_at (codes "split") parts) (codes "1")

-- the number of breaks, and the number that is meant without one
abbrev pub most_at : List Part → Text
most_at parts = unwrap_or (value_at (codes "most") parts) (codes "1000")

-- the command of a line, if it has the operand and the files that it needs
abbrev pub compact_from : List Part → Option Command
compact_from parts = of_both (λ design tech. compact_as design tech (passes_at parts) (split_at parts)) parts

abbrev pub slack_from : List Part → Option Command
slack_from parts = of_both (λ design tech. slack_as design tech (passes_at parts)) parts

abbrev pub script_from : Scripted → List Part → Option Command
script_from command parts =
    of_both (λ design tech. option_and_then (λ script. script_as command design tech script (passes_at parts))
    (value_at (codes "script") parts)) parts

abbrev pub check_from : List Part → Option Command
check_from parts = of_both (λ cif tech. check_as cif tech (split_at parts)) parts

abbrev pub breaks_from : List Part → Option Command
breaks_from parts = of_both (λ cif tech. breaks_as cif tech (most_at parts)) parts

-- a command of an operand and a technology alone, as `extract` and `nets`
abbrev pub two_from : (Text → Text → Command) → List Part → Option Command
two_from command parts = of_both (λ operand tech. Some (command operand tech)) parts

abbrev pub fmt_from : List Part → Option Command
fmt_from parts = option_map fmt (value_at (codes "operand") parts)

abbrev pub bench_from : List Part → Option Command
bench_from parts = option_and_then bench_as (value_at (codes "operand") parts)

-- the command of a line in which no name stands twice; another line is refused
abbrev pub where_new : List Part → Option Command → Option Command
where_new parts command = if are_new [] parts then command else None

-- after this word, plain lines with options of these names are read as these commands, in whatever order their parts
-- stand
abbrev pub AreRead : Text → List Text → (List Part → Option Command) → Type 0
AreRead word names command = (parts : List Part) → is_plain_line names parts ≡ true
    → command_of (word ∷ flat_map words_of parts) ≡ where_new parts (command parts)

-- the plain lines of all commands
pub record PlainLinesAreRead : Type 0 where
  pub compact : AreRead (codes "compact") (codes "tech" ∷ codes "passes" ∷ codes "split" ∷ []) compact_from
  pub slack : AreRead (codes "slack") (codes "tech" ∷ codes "passes" ∷ []) slack_from
  pub jog : AreRead (codes "jog") (codes "tech" ∷ codes "passes" ∷ codes "script" ∷ []) (script_from commands.jog)
  pub edit : AreRead (codes "edit") (codes "tech" ∷ codes "passes" ∷ codes "script" ∷ []) (script_from commands.edit)
  pub check : AreRead (codes "check") (codes "tech" ∷ codes "split" ∷ []) check_from
  pub breaks : AreRead (codes "breaks") (codes "tech" ∷ codes "most" ∷ []) breaks_from
  pub extract : AreRead (codes "extract") (codes "tech" ∷ []) (two_from commands.extract)
  pub nets : AreRead (codes "nets") (codes "tech" ∷ []) (two_from commands.nets)
  pub fmt : AreRead (codes "fmt") [] fmt_from
  pub bench : AreRead (codes "bench") [] bench_from
