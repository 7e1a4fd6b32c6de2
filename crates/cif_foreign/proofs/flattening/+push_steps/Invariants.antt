use Rattle.std.proofs.Common.{◌^◌, All, map, take}
use Rattle.cif_read.specs.{Files.{drawn_of, IsSolidWithin}, Hierarchies.boxes_of_symbols, Foreign.foreign_symbol}
use Rattle.cif_foreign.proofs.Flat.{Adds}
use Rattle.cif_foreign.proofs.flattening.+push_steps.Given as goal

abbrev pub invariant-loop-i : goal.invariant-loop-i
invariant-loop-i l = record {
  boxes : Adds (map drawn_of l.initial.out.items) (map drawn_of l.out.items) l.place
      (boxes_of_symbols (map foreign_symbol l.file.symbols)) (take l.i l.steps);
  solid : All (IsSolidWithin (2 ^ 55)) (map drawn_of l.initial.out.items)
      → All (IsSolidWithin (2 ^ 55)) (map drawn_of l.out.items);
}

abbrev pub decreases-push_steps : goal.decreases-push_steps
decreases-push_steps l = l.depth
