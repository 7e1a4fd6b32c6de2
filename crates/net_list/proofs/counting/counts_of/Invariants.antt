use Rattle.std.proofs.Common.{◌≡◌, ℕ, ◌<◌, get_or, length, take}
use Rattle.net_list.specs.Counts.{no_pieces, layer_in, counts_of}
use Rattle.net_list.proofs.counting.counts_of.Given as goal

abbrev pub invariant-loop-piece : goal.invariant-loop-piece
invariant-loop-piece l = record {
  long : length l.counts.items ≡ l.nets;
  counted : (net : ℕ) → net < l.nets
      → get_or l.counts.items net no_pieces ≡ counts_of (layer_in l.layers) (take l.piece-index l.pieces) net;
}
