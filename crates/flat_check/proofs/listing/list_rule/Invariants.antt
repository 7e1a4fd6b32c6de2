use Rattle.std.proofs.Common.{◌≤◌, length}
use Rattle.rule_breaks.specs.Lists.{ListBefore, place}
use Rattle.flat_check.proofs.listing.list_rule.Given as goal

abbrev pub invariant-loop-a : goal.invariant-loop-a
invariant-loop-a g l = ListBefore l.flat.tech.now l.flat.boxes.now (place l.rule l.a 0) l.list.items
    × (length l.list.items ≤ l.most)
