use Rattle.std.proofs.Common.{◌≡◌, ℕ, ◌-◌, ◌≤◌, List, ◌++◌, length, map}
use Rattle.cif_text.proofs.Cuts.{CutTo}
use Rattle.cif_text.proofs.cutting.push_cut.Given as goal

abbrev pub invariant-loop-start : goal.invariant-loop-start
invariant-loop-start l = record {
  cut : List (List ℕ);
  grown : map (λ chunk. chunk.items) l.chunks.items ≡ map (λ chunk. chunk.items) l.initial.chunks.items ++ cut;
  so : CutTo l.text l.start cut;
  within : l.start ≤ length l.text;
}

abbrev pub decreases-loop-start : goal.decreases-loop-start
decreases-loop-start l = length l.text - l.start
