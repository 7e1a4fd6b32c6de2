use Rattle.std.proofs.Common.{◌≡◌, map, take}
use Rattle.net_model.specs.Netlists.{device_of}
use Rattle.net_model.proofs.devices.devices_of.Given as goal

abbrev pub invariant-loop-c : goal.invariant-loop-c
invariant-loop-c l = l.devices.items ≡ map (device_of l.pieces) (take l.c-index l.crossings)
