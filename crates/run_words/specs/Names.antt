-- The commands' names, and the line of each.
use Rattle.std.specs.Prelude.{List, Option, Some, None, codes, bytes_eq, if◌then◌else◌}
use Rattle.clap.specs.Words.{App, Row, Text}
use Rattle.run_words.specs.declared.names.Name.{Name, TheVariants.{Compact, Slack, Jog, Edit, Check, Breaks, Extract}}
use Rattle.run_words.specs.{declared.names.Name.TheVariants.{Nets, Fmt, Bench}, Lines.{breaks_line, check_line}}
use Rattle.run_words.specs.{Lines.{compact_line, extract_line, operand_line, script_line, slack_line}, Words.Command}
use Rattle.run_words.specs.Words.{jog, edit, extract, nets, fmt, bench_as, breaks_with, check_with, compact_with}
use Rattle.run_words.specs.Words.{operand_of, script_with, slack_with, tech_of}

-- the name that a word is, which is none of a command with passes or on a CIF text
abbrev pub other_name_in : Text → Option Name
other_name_in word =
    if bytes_eq word (codes "nets") then Some Nets
    else (if bytes_eq word (codes "fmt") then Some Fmt
    else (if bytes_eq word (codes "bench") then Some Bench else None))

-- the name that a word is, which is none of a command with passes
abbrev pub cif_name_in : Text → Option Name
cif_name_in word =
    if bytes_eq word (codes "check") then Some Check
    else (if bytes_eq word (codes "breaks") then Some Breaks
    else (if bytes_eq word (codes "extract") then Some Extract else other_name_in word))

-- the name that a word is
abbrev pub name_in : Text → Option Name
name_in word =
    if bytes_eq word (codes "compact") then Some Compact
    else (if bytes_eq word (codes "slack") then Some Slack
    else (if bytes_eq word (codes "jog") then Some Jog
    else (if bytes_eq word (codes "edit") then Some Edit else cif_name_in word)))

-- the line of a command
abbrev pub line_of : Name → App
line_of Compact = compact_line
line_of Slack = slack_line
line_of Jog = script_line
line_of Edit = script_line
line_of Check = check_line
line_of Breaks = breaks_line
line_of Extract = extract_line
line_of Nets = extract_line
line_of Fmt = operand_line
line_of Bench = operand_line

-- what is made of the rows that are found for a command
abbrev pub command_with : Name → List Row → Option Command
command_with Compact rows = compact_with rows
command_with Slack rows = slack_with rows
command_with Jog rows = script_with jog rows
command_with Edit rows = script_with edit rows
command_with Check rows = check_with rows
command_with Breaks rows = breaks_with rows
command_with Extract rows = Some (extract (operand_of rows) (tech_of rows))
command_with Nets rows = Some (nets (operand_of rows) (tech_of rows))
command_with Fmt rows = Some (fmt (operand_of rows))
command_with Bench rows = bench_as (operand_of rows)
