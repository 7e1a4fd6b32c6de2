use Rattle.std.proofs.{Common.{ℕ, get_or, Ok, Err, sym, subst, rules}, lemmas.List.Sorted.answers_always}
use Rattle.crossing_model.specs.declared.crossing.Crossing.{Crossing}
use Rattle.rule_breaks.specs.Breaks.{IsChannel}
use Rattle.flat_check.{specs.FlatLayouts.HaveChannels, proofs.OneChannel.{channel_placed, no_channel, searched}}
use Rattle.flat_check.proofs.channels.channel_of.Goals as goal

pub returns-in-Ok-clause-channel : goal.returns-in-Ok-clause-channel
returns-in-Ok-clause-channel c =
    let tech = c.args.flat.now.tech.now in
    let boxes = c.args.flat.now.boxes.now in
    let crossings = c.as_slice-crossings.result.now in
    let at = c.in-Ok.at in
    let have = subst (HaveChannels tech boxes) (sym c.as_slice-crossings.ensures.value) c.requires.channels in
    let facts = c.in-Ok.ensures in
    let by_key = facts.position (λ (x : Crossing). x.diffusion)
    (answers_always _ _ _ (λ f a r g called. search rules)) in
    let found = searched crossings c.args.diffusion (Ok at) have.in_order facts.bound by_key in
    let here = c.index-crossings-at.result in
    subst (λ (d : ℕ). IsChannel tech boxes d (get_or crossings at here).channel) (found.1 here)
    (have.each at here facts.bound)

pub returns-in-Ok-clause-placed : goal.returns-in-Ok-clause-placed
returns-in-Ok-clause-placed c =
    let tech = c.args.flat.now.tech.now in
    let boxes = c.args.flat.now.boxes.now in
    let have = subst (HaveChannels tech boxes) (sym c.as_slice-crossings.ensures.value) c.requires.channels in
    let facts = c.in-Ok.ensures in
    channel_placed tech boxes _ _ c.requires.searchable (have.each c.in-Ok.at c.index-crossings-at.result facts.bound)

pub returns-in-Err-clause-channel : goal.returns-in-Err-clause-channel
returns-in-Err-clause-channel c =
    let tech = c.args.flat.now.tech.now in
    let boxes = c.args.flat.now.boxes.now in
    let crossings = c.as_slice-crossings.result.now in
    let have = subst (HaveChannels tech boxes) (sym c.as_slice-crossings.ensures.value) c.requires.channels in
    let facts = c.in-Err.ensures in
    let by_key = facts.position (λ (x : Crossing). x.diffusion)
    (answers_always _ _ _ (λ f a r g called. search rules)) in
    no_channel tech boxes crossings c.args.diffusion have
    (searched crossings c.args.diffusion (Err c.in-Err.field-0) have.in_order facts.bound by_key)
