use Rattle.std.proofs.Common.{codes}
use Rattle.run_words.specs.Words as commands
use Rattle.run_words.proofs.PlainLines.{bench_is_read, breaks_is_read, check_is_read, compact_is_read, fmt_is_read}
use Rattle.run_words.proofs.PlainLines.{script_is_read, slack_is_read, two_is_read}
use Rattle.run_words.proofs.laws.plain_lines_are_read.Goals as goal

pub returns : goal.returns
returns c = record {
  compact = compact_is_read (codes "compact");
  slack = slack_is_read (codes "slack");
  jog = script_is_read commands.jog (codes "jog");
  edit = script_is_read commands.edit (codes "edit");
  check = check_is_read (codes "check");
  breaks = breaks_is_read (codes "breaks");
  extract = two_is_read commands.extract (codes "extract");
  nets = two_is_read commands.nets (codes "nets");
  fmt = fmt_is_read (codes "fmt");
  bench = bench_is_read (codes "bench");
}
