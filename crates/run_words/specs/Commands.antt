-- A command without where its words lie in memory.
use Rattle.std.specs.Prelude.{◌≡◌, ℕ, ◌≤◌, true, Err, IfOk, List, None, Option, Result, Some}
use Rattle.lam_geom.specs.declared.boxes.Axis.{Axis}
use Rattle.run_words.specs.declared.commands.Command.{Command, TheVariants.{Compact, Slack, Jog, Edit, Check, Breaks}}
use Rattle.run_words.specs.declared.commands.{Command.TheVariants.{Extract, Nets, Fmt, Bench}, WordsFault.WordsFault}
use Rattle.run_words.specs.{declared.commands.WordsFault.TheVariants.Usage, Values.{axes_in, is_pass_list}}
use Rattle.run_words.specs.Words as commands

abbrev pub command_from : Command → commands.Command
command_from (Compact design tech passes split) = commands.compact design.now tech.now passes split
command_from (Slack design tech passes) = commands.slack design.now tech.now passes
command_from (Jog design tech script passes) = commands.jog design.now tech.now script.now passes
command_from (Edit design tech script passes) = commands.edit design.now tech.now script.now passes
command_from (Check cif tech split) = commands.check cif.now tech.now split
command_from (Breaks cif tech most) = commands.breaks cif.now tech.now most
command_from (Extract cif tech) = commands.extract cif.now tech.now
command_from (Nets design tech) = commands.nets design.now tech.now
command_from (Fmt design) = commands.fmt design.now
command_from (Bench n) = commands.bench n

-- axes that are those of a list of passes
abbrev pub AreOfPassList : List Axis → Type 0
AreOfPassList axes = (list : List ℕ) × (is_pass_list list ≡ true) × (axes ≡ axes_in list)

-- its axes, if it has any, are those of a list of passes
abbrev pub HasPassList : Command → Type 0
HasPassList (Compact design tech passes split) = AreOfPassList passes
HasPassList (Slack design tech passes) = AreOfPassList passes
HasPassList (Jog design tech script passes) = AreOfPassList passes
HasPassList (Edit design tech script passes) = AreOfPassList passes
HasPassList other = Unit {0}

-- its number is 1 to 64, or 1 to 65,536 for one of breaks
abbrev pub IsWithinLimits : Command → Type 0
IsWithinLimits (Compact design tech passes split) = (1 ≤ split) × (split ≤ 64)
IsWithinLimits (Check cif tech split) = (1 ≤ split) × (split ≤ 64)
IsWithinLimits (Breaks cif tech most) = (1 ≤ most) × (most ≤ 65536)
IsWithinLimits (Bench n) = (1 ≤ n) × (n ≤ 64)
IsWithinLimits other = Unit {0}

-- What the reading of words gives that are this command, if they are one.
pub record IsReading (named : Option commands.Command) (read : Result Command WordsFault) : Type 0 where
  pub command : IfOk read (λ command. named ≡ Some (command_from command))
  pub passes : IfOk read HasPassList
  pub limits : IfOk read IsWithinLimits
  pub usage : read ≡ Err Usage → named ≡ None
