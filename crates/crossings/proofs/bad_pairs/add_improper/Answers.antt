use Rattle.std.proofs.Common.{ℕ, List, sym, subst}
use Rattle.box_tree.specs.Found.{AreGathered}
use Rattle.crossings.{specs.Pairs.IsBadWith, proofs.Improper.{all_found, none_bad, one_bad}}
use Rattle.crossings.proofs.bad_pairs.add_improper.Goals as goal

pub returns-in_ok-push-in-One : goal.returns-in_ok-push-in-One
returns-in_ok-push-in-One c =
    let tech = c.args.tech.now in let boxes = c.args.boxes.now in let a = c.args.number in let old =
    c.args.found.now.items in
    subst (λ (new : List ℕ). AreGathered (IsBadWith tech boxes a) old new) (sym c.in_ok-push-in-One.ensures.items)
    (one_bad tech boxes a c.in-One.partner c.in-Bad.other old c.in-One.ensures c.in-Bad.ensures.0)

pub returns-in_default : goal.returns-in_default
returns-in_default c = none_bad c.args.tech.now c.args.boxes.now c.args.number c.args.found.now.items
    c.standing_with.result c.standing_with.ensures c.in_default.not-Bad

pub returns-in-Some : goal.returns-in-Some
returns-in-Some c = all_found c.args.tech.now c.args.boxes.now c.args.number c.args.found.now.items
    c.add_met.new.found.items c.add_met.result c.in-Several.ensures c.add_met.ensures
