use Rattle.std.proofs.Common.{◌≡◌, ℕ, ◌<◌, pos, length, get_or, unwrap_or}
use Rattle.round_log.specs.Looks.{label}
use Rattle.liao_wong.proofs.raises.Raises.labels.Given as goal

abbrev pub invariant-loop-v : goal.invariant-loop-v
invariant-loop-v l = record {
  so_far : length l.labels.items ≡ l.v;
  are : (u : ℕ) → u < l.v → get_or l.labels.items u (pos 0) ≡ unwrap_or (label l.self.raises u) (pos 0);
}
