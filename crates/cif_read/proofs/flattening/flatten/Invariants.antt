use Rattle.std.{proofs.Common.{◌≡◌, ◌^◌, map, take}, specs.List.{All, flat_map}}
use Rattle.cif_read.specs.Files.{drawn_of, drawn_in_step, IsSolidWithin}
use Rattle.cif_read.proofs.flattening.flatten.Given as goal

abbrev pub invariant-loop-step : goal.invariant-loop-step
invariant-loop-step l = record {
  boxes : map drawn_of l.out.items ≡ flat_map (drawn_in_step l.file) (take l.step-index l.file.order);
  solid : All (IsSolidWithin (2 ^ 51)) (map drawn_of l.out.items);
}
