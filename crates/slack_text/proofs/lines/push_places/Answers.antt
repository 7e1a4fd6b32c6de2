use Rattle.std.proofs.Common.{refl}
use Rattle.slack_text.proofs.Adding.{places_added}
use Rattle.slack_text.proofs.lines.push_places.Goals as goal

pub returns : goal.returns
returns c =
    places_added c.args.least c.args.most _ _ _ c.args.text.now.items _ _ _ _ c.requires.least c.requires.most refl
    refl refl c.in_ok-push_len.ensures c.in_ok-push_len-2.ensures
    c.in_ok-push_len-3.ensures c.in_ok-push.ensures.items
