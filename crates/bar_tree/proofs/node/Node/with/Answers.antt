use Rattle.std.proofs.{Common.{refl, rules, arith}, lemmas.Int.ints}
use Rattle.bar_tree.proofs.Ends.{covers_one}
use Rattle.bar_tree.proofs.node.Node.with.Goals as goal

pub returns-clause-one : goal.returns-clause-one
returns-clause-one c =
    covers_one _ c.with_end.result c.in_order.result c.args.bar.now refl (search rules) c.contacts_with.ensures.one
    c.with_end.ensures.kept c.in_order.ensures.kept
    (c.in_order.ensures.others c.args.bar.now (c.with_end.ensures.one c.args.bar.now refl (omega (arith, ints))))

pub returns-clause-others : goal.returns-clause-others
returns-clause-others c = λ b k.
    covers_one _ c.with_end.result c.in_order.result b refl (search rules)
    (λ n h. k.contacts n (c.contacts_with.ensures.others k.some n h)) c.with_end.ensures.kept c.in_order.ensures.kept
    (c.in_order.ensures.others b (c.with_end.ensures.others b (search (rules, k.end))))
