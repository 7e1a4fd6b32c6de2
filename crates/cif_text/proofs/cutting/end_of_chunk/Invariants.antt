use Rattle.std.{proofs.Common.{◌≢◌, ℕ, ◌+◌, ◌<◌, ◌≤◌}, specs.Prelude.slice_index}
use Rattle.cif_text.specs.Cutting.{most_bytes}
use Rattle.cif_text.proofs.cutting.end_of_chunk.Given as goal

abbrev pub invariant-loop-end : goal.invariant-loop-end
invariant-loop-end l = record {
  after : l.start < l.end;
  within : l.end ≤ l.start + most_bytes;
  none : (k : ℕ) → l.end ≤ k → k < l.start + most_bytes → slice_index l.text k ≢ 10;
}

abbrev pub decreases-loop-end : goal.decreases-loop-end
decreases-loop-end l = l.end
