-- The words after a command's name, as `clap` reads them.
use Rattle.std.specs.Prelude.{true, List, [], ◌∷◌, fold, Option, Some, None, codes, unwrap_or}
use Rattle.clap.specs.Words.{App, Kinds, Row, Rule, Text, fault_of, first_of, matches_of, new_app, new_rule, with_rule}
use Rattle.clap.specs.declared.builder.action.ArgAction.TheVariants.{Set}

-- the operand: the one argument without a name, which has to be there
abbrev pub operand : Rule
operand = record (new_rule (codes "operand")) { required = true; action = Some Set }

-- the option `--name VALUE`, once at most
abbrev pub option : Text → Rule
option name = record (new_rule name) { long = Some name; action = Some Set }

-- `--name VALUE`, which has to be there
abbrev pub wanted : Text → Rule
wanted name = record (option name) { required = true }

-- `--tech FILE`
abbrev pub tech : Rule
tech = wanted (codes "tech")

-- `--script FILE`
abbrev pub script : Rule
script = wanted (codes "script")

-- `--passes LIST`
abbrev pub passes : Rule
passes = option (codes "passes")

-- `--split N`
abbrev pub split : Rule
split = option (codes "split")

-- `--most N`
abbrev pub most : Rule
most = option (codes "most")

-- a command with these arguments
abbrev pub line : List Rule → App
line rules = fold with_rule (new_app (codes "sticks")) rules

-- `compact DESIGN --tech FILE [--passes LIST] [--split N]`
abbrev pub compact_line : App
compact_line = line (operand ∷ tech ∷ passes ∷ split ∷ [])

-- `slack DESIGN --tech FILE [--passes LIST]`
abbrev pub slack_line : App
slack_line = line (operand ∷ tech ∷ passes ∷ [])

-- `jog DESIGN --tech FILE --script FILE [--passes LIST]`, and `edit` with the same
abbrev pub script_line : App
script_line = line (operand ∷ tech ∷ passes ∷ script ∷ [])

-- `check CIF --tech FILE [--split N]`
abbrev pub check_line : App
check_line = line (operand ∷ tech ∷ split ∷ [])

-- `breaks CIF --tech FILE [--most N]`
abbrev pub breaks_line : App
breaks_line = line (operand ∷ tech ∷ most ∷ [])

-- `extract CIF --tech FILE`, and `nets DESIGN` with the same
abbrev pub extract_line : App
extract_line = line (operand ∷ tech ∷ [])

-- `fmt DESIGN` and `bench N`
abbrev pub operand_line : App
operand_line = line (operand ∷ [])

-- the matches, where no kind of error comes
abbrev pub without_fault : Kinds → List Row → Option (List Row)
without_fault [] rows = Some rows
without_fault (kind ∷ kinds) rows = None

-- what `clap` finds in the words, of which the first is the command's name; `None` where it refuses them
unfoldable pub found_in : App → List Text → Option (List Row)
found_in app words = without_fault (fault_of app words) (matches_of app words)

-- the text of a required argument, which is there wherever `clap` takes the words
abbrev pub text_of : Text → List Row → Text
text_of id rows = unwrap_or (first_of id rows) []
