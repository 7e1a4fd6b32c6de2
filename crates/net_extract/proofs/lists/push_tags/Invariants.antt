use Rattle.std.proofs.Common.{◌≡◌, ◌++◌, take}
use Rattle.net_extract.specs.Lists.{tags_of}
use Rattle.net_extract.proofs.lists.push_tags.Given as goal

abbrev pub invariant-loop-entry : goal.invariant-loop-entry
invariant-loop-entry l = l.nodes.items ≡ l.fn.nodes.items ++ tags_of (take l.entry-index l.found)
