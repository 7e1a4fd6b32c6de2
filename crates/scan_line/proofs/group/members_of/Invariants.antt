use Rattle.std.{proofs.Common.{◌≡◌, List, take}, specs.List.filter}
use Rattle.sym_items.specs.declared.items.Item.{Item}
use Rattle.pair_rules.specs.Bound.{item_at}
use Rattle.scan_line.specs.Groups.{classes_of, is_of_group}
use Rattle.scan_line.proofs.group.members_of.Given as goal

abbrev pub invariant-loop-p : goal.invariant-loop-p
invariant-loop-p l =
    (items : List Item) → l.classes ≡ classes_of items l.order
    → l.members.items ≡ filter (λ k. is_of_group l.class (item_at items k)) (take l.p l.order)
