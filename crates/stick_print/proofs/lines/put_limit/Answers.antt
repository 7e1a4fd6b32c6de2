use Rattle.std.proofs.Common.{append_assoc, rules}
use Rattle.stick_print.specs.Canonical.{line_of}
use Rattle.stick_print.proofs.lines.put_limit.Goals as goal

pub returns : goal.returns
unfolding line_of
returns c = search (rules, append_assoc)
