use Rattle.std.{proofs.Common.{◌≡◌, take}, specs.List.list_any}
use Rattle.rule_table.specs.Keys.{keys}
use Rattle.tech_file.specs.Unknown.{stands_at}
use Rattle.tech_file.proofs.unknown.knows.Given as goal

-- one of the keys so far stands there
abbrev pub invariant-loop-number : goal.invariant-loop-number
invariant-loop-number l = l.known ≡ list_any (stands_at l.table l.name) (take l.number keys)
