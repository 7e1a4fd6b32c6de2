use Rattle.std.proofs.Common.{Vec, Global, ℕ, map, take}
use Rattle.cif_text.specs.Cutting.{AreCut}
use Rattle.cif_text.proofs.pictures.chunks_of.Given as goal

abbrev pub invariant-loop-k : goal.invariant-loop-k
invariant-loop-k l = AreCut (map (λ (text : Vec ℕ Global). text.items) (take l.k l.texts))
    (map (λ chunk. chunk.items) l.chunks.items)
