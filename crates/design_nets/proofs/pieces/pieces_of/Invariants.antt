use Rattle.std.proofs.Common.{◌≡◌, ◌*◌, ◌≤◌, length}
use Rattle.design_nets.specs.{Firsts.{together, AreFirsts}, Pieces.pieces_in}
use Rattle.design_nets.proofs.pieces.pieces_of.Given as goal

abbrev pub invariant-loop-k : goal.invariant-loop-k
invariant-loop-k l = record {
  all : l.all.items ≡ together (pieces_in l.masters l.nets l.instances l.shapes) l.k;
  starts : AreFirsts (pieces_in l.masters l.nets l.instances l.shapes) l.k 0 l.starts.items;
  few : length l.all.items ≤ 2 * l.k;
}
