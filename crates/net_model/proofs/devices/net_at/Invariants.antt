use Rattle.net_model.proofs.NetOfPlace.{AreOtherParts}
use Rattle.net_model.proofs.devices.net_at.Given as goal

abbrev pub invariant-loop-a : goal.invariant-loop-a
invariant-loop-a l = AreOtherParts l.pieces l.part l.first l.a
