use Rattle.std.{proofs.Common.{◌≡◌, ◌++◌, ◌^◌, map, take}, specs.List.All}
use Rattle.cif_read.specs.{Hierarchies.moved, Files.{drawn_of, IsSolidWithin}}
use Rattle.cif_read.proofs.flattening.push_moved.Given as goal

abbrev pub invariant-loop-mask : goal.invariant-loop-mask
invariant-loop-mask l = record {
  boxes : map drawn_of l.out.items ≡ map drawn_of l.initial.out.items
      ++ map (moved l.x l.y) (map drawn_of (take l.mask-index l.boxes));
  solid : All (IsSolidWithin (2 ^ 51)) (map drawn_of l.initial.out.items)
      → All (IsSolidWithin (2 ^ 51)) (map drawn_of l.out.items);
}
