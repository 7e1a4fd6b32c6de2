use Rattle.std.proofs.Common.{◌≡◌, ℕ, ◌<◌, get_or}
use Rattle.box_tree.specs.declared.entries.Entry.{Entry}
use Rattle.net_extract.proofs.over.is_of_two.Given as goal

abbrev pub invariant-loop-entry : goal.invariant-loop-entry
invariant-loop-entry l = (i : ℕ) (d : Entry) → i < l.entry-index → (get_or l.entries i d).owner ≡ l.owner
