use Rattle.std.proofs.Common.{refl}
use Rattle.box_tree.proofs.Growth.{gathered_none}
use Rattle.flat_check.proofs.Rows.{query_is, rowed, beside_channel}
use Rattle.flat_check.proofs.facing.add_beside_channel.Goals as goal

pub returns-in_default : goal.returns-in_default
returns-in_default c = gathered_none _ c.args.found.now.items (λ b h. c.in_default.ensures.channel h.0 h.1)

pub returns : goal.returns
returns c =
    rowed c.add_owners.result c.args.tree.now _ _ _ _ _ (query_is _ _ _ _ refl
    c.channel_question-question.ensures.value)
    (λ b. beside_channel c.args.flat.now.tech.now c.args.flat.now.boxes.now c.args.tree.now _ c.args.a b
    c.in-Some.area c.in-Some.ensures.channel) c.add_owners.ensures
