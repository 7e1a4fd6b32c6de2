use Rattle.std.proofs.Common.{◌≡◌, ℕ, ◌<◌, ◌≤◌, [], length, reverse, get_or}
use Rattle.round_log.specs.{Looks.{chain, latest}, WalksBack.loop_back, Logs.raises_of}
use Rattle.round_log.proofs.walking_back.loop_from.Given as goal

abbrev pub invariant-loop-n : goal.invariant-loop-n
invariant-loop-n l = record {
  in_log : l.n ≤ length (raises_of l.entries);
  one_each : length l.met.items ≡ l.vars;
  placed : (v : ℕ) → v < l.vars → get_or l.met.items v 0 ≡ latest (reverse l.path.items) v;
  left : loop_back (reverse l.path.items) (chain (raises_of l.entries) l.n)
      ≡ loop_back [] (chain (raises_of l.entries) l.entry);
}

abbrev pub decreases-loop-n : goal.decreases-loop-n
decreases-loop-n l = l.n
