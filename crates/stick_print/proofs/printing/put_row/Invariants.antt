use Rattle.std.{proofs.Common.{◌≡◌, ◌++◌, take}, specs.Prelude.codes}
use Rattle.stick_print.specs.Canonical.{spaced}
use Rattle.stick_print.proofs.printing.put_row.Given as goal

abbrev pub invariant-loop-name : goal.invariant-loop-name
invariant-loop-name l = l.out.items ≡ l.fn.out.items ++ (codes "row" ++ spaced (take l.name-index l.row.names))
