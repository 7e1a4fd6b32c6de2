use Rattle.flat_check.proofs.trees.trees_of.Goals as goal

pub returns : goal.returns
returns c =
    let own = c.in_ok-metal.ensures in
    record {
      boxes = c.requires.boxes;
      proper = c.requires.proper;
      metal = own.metal;
      poly = own.poly;
      pieces = own.pieces;
      cuts = c.requires.cuts;
      channels = c.in_ok-channels.ensures;
    }
