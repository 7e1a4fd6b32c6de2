use Rattle.std.proofs.{Common.{Vec, Global, ℕ, ◌∙◌, map, sym}, lemmas.List.length-map}
use Rattle.cif_text.proofs.ChunksCounted.{one_chunk, two_chunks}
use Rattle.cif_text.proofs.laws.chunks_are_counted.Goals as goal

pub returns-clause-one : goal.returns-clause-one
returns-clause-one c = λ short.
    sym (length-map c.args.chunks.now (λ (chunk : Vec ℕ Global). chunk.items))
    ∙ one_chunk c.args.text.now (map (λ (chunk : Vec ℕ Global). chunk.items) c.args.chunks.now) c.requires.cut
    c.requires.some short

pub returns-clause-two : goal.returns-clause-two
returns-clause-two c = λ long.
    sym (length-map c.args.chunks.now (λ (chunk : Vec ℕ Global). chunk.items))
    ∙ two_chunks c.args.text.now (map (λ (chunk : Vec ℕ Global). chunk.items) c.args.chunks.now) c.requires.cut
    long
