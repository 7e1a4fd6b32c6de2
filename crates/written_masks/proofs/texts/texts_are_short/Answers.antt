-- The law is the lemma on the text of finished layouts.
use Rattle.written_masks.proofs.ShortTexts.{layouts_text_short}
use Rattle.written_masks.proofs.texts.texts_are_short.Goals as goal

pub returns : goal.returns
returns c =
    layouts_text_short c.args.tech.now c.args.plan.now c.args.masters.now c.args.layouts.now
    (record { planned = c.requires.planned; finished = c.requires.finished; fit = c.requires.fit })
    c.requires.few
