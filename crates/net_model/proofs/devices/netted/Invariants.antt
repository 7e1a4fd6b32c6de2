use Rattle.std.proofs.Common.{◌≡◌, map, take}
use Rattle.net_model.specs.Netlists.{place_of, nets_of}
use Rattle.box_pieces.specs.Pieces.{stand_of}
use Rattle.net_model.proofs.devices.netted.Given as goal

abbrev pub invariant-loop-a : goal.invariant-loop-a
invariant-loop-a l = (map place_of l.pieces.items ≡ map stand_of (take l.a l.placed))
    × (nets_of l.pieces.items ≡ take l.a l.nets)
