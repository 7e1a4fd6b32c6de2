use Rattle.std.proofs.Common.{◌<◌}
use Rattle.design_nets.specs.Linking.{AreAdded, IsPieceLink}
use Rattle.design_nets.proofs.linking.link_pieces.Given as goal

abbrev pub invariant-loop-i : goal.invariant-loop-i
invariant-loop-i l = AreAdded (λ u v. (u < l.i) × IsPieceLink l.firsts l.owners u v) l.initial.links.items l.links.items
