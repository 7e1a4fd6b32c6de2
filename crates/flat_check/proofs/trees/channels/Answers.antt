use Rattle.flat_check.proofs.ChannelEntries.{all_channels, crossings_few, channels_placed}
use Rattle.flat_check.proofs.trees.channels.Goals as goal

pub new-requires-clause-few : goal.new-requires-clause-few
new-requires-clause-few c =
    let flat = c.args.flat.now in
    crossings_few flat.tech.now flat.boxes.now flat.pieces.crossings.items c.as_slice-crossings.result.now
    c.loop-crossing.entries.items c.loop-crossing.crossing-index c.requires.searchable c.requires.channels
    c.as_slice-crossings.ensures.value c.loop-crossing.invariant

pub new-requires-clause-placed : goal.new-requires-clause-placed
new-requires-clause-placed c =
    let flat = c.args.flat.now in
    channels_placed flat.tech.now flat.boxes.now flat.pieces.crossings.items c.as_slice-crossings.result.now
    c.loop-crossing.entries.items c.loop-crossing.crossing-index c.requires.searchable c.requires.channels
    c.as_slice-crossings.ensures.value c.loop-crossing.invariant

pub returns : goal.returns
returns c =
    let flat = c.args.flat.now in
    all_channels flat.tech.now flat.boxes.now flat.pieces.crossings.items c.as_slice-crossings.result.now
    c.loop-crossing.entries.items c.loop-crossing.crossing-index c.new.result c.requires.channels
    c.as_slice-crossings.ensures.value
    c.loop-crossing-test.false c.loop-crossing.invariant c.new.ensures
