use Rattle.std.proofs.Common.{◌≡◌, map, take}
use Rattle.net_model.specs.Netlists.{place_of, nets_of}
use Rattle.design_nets.specs.Pieces.{stand_of}
use Rattle.design_nets.proofs.pieces.netted.Given as goal

abbrev pub invariant-loop-a : goal.invariant-loop-a
invariant-loop-a l = record {
  places : map place_of l.netted.items ≡ map stand_of (take l.a l.pieces);
  nets : nets_of l.netted.items ≡ take l.a l.nets;
}
