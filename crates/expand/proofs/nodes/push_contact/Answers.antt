use Rattle.expand.proofs.Channels.{contact_pushed}
use Rattle.expand.proofs.nodes.push_contact.Goals as goal

pub returns : goal.returns
returns c =
    contact_pushed c.args.tech.now c.args.node c.args.net c.args.lower _ _ c.args.list.now.items _ _ _
    c.pad_square-pad.ensures c.cut_square.ensures c.in_ok-push.ensures.items c.in_ok-push-2.ensures.items
    c.in_ok-push_on_layer.ensures
