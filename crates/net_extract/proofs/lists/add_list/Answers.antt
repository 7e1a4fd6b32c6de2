use Rattle.std.proofs.Common.{arith, ◌≡◌, ◌+◌, ℕ, List, length, length-append, ap, ◌∙◌}
use Rattle.std.proofs.lemmas.List.{length-map}
use Rattle.box_tree.specs.declared.entries.Entry.{Entry}
use Rattle.net_extract.{specs.Lists.{IsIn, tags_of}, proofs.Runs.portion_more}
use Rattle.net_extract.proofs.lists.add_list.Goals as goal

pub returns-in_ok-push-clause-portion : goal.returns-in_ok-push-clause-portion
returns-in_ok-push-clause-portion c = λ kind boxes pieces g h.
    let old = c.args.portion.now in
    let tags = tags_of c.args.found.now in
    let grown : length c.push_tags.new.nodes.items ≡ length old.nodes.items + length tags =
    ap (λ (xs : List ℕ). length xs) c.in_ok-push_tags.ensures ∙ length-append old.nodes.items tags in
    let few = length-map c.args.found.now (λ (e : Entry). e.tag) in
    let r = c.requires in
    portion_more (IsIn kind boxes pieces) old (record { lists = c.push.new.self; nodes = c.push_tags.new.nodes }) tags _
    c.in_ok-push.ensures.items c.in_ok-push_tags.ensures (omega (arith, c.len-start.ensures, old.nodes.ok.0))
    (omega (arith, c.len-end.ensures, c.push_tags.new.nodes.ok.0, grown)) (omega arith) g h
