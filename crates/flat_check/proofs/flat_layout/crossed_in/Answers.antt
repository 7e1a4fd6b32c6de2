use Rattle.std.proofs.Common.{List, sym, subst}
use Rattle.crossing_model.specs.{declared.crossing.Crossing.Crossing, Crossings.{AreCrossings, AreProper}}
use Rattle.box_pieces.specs.Pieces.{ArePieces}
use Rattle.flat_check.{specs.FlatLayouts.HaveChannels, proofs.OneChannel.channel_within}
use Rattle.flat_check.proofs.flat_layout.crossed_in.Goals as goal

pub known_crossings-requires : goal.known_crossings-requires
known_crossings-requires g c = record { searchable = c.requires.searchable; trees = c.in_ok-trees.ensures }

pub pieces_of-requires-clause-within : goal.pieces_of-requires-clause-within
pieces_of-requires-clause-within g c =
    λ k d lt. channel_within c.args.tech.now c.args.boxes.now _ _ (c.in_ok-found.ensures.channels.each k d lt)

pub returns : goal.returns
returns g c =
    let tech = c.args.tech.now in
    let boxes = c.args.boxes.now in
    let pieces = c.in_ok-pieces.pieces in
    let found = c.in_ok-found.ensures in
    let is = sym c.in_ok-pieces.ensures.crossings in
    record {
      trees = c.in_ok-trees.ensures;
      channels = subst (HaveChannels tech boxes) is found.channels;
      crossings = λ (proper : AreProper tech boxes). subst (AreCrossings tech boxes) is (found.crossings proper);
      pieces = subst (λ (cs : List Crossing). ArePieces boxes cs pieces.placed.items pieces.starts.items) is
          c.in_ok-pieces.ensures.pieces;
      proper = found.proper;
    }
