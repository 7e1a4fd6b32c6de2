use Rattle.std.proofs.Common.{Vec, Global, ℕ, ◌∷◌, [], ◌++◌}
use Rattle.cif_text.proofs.Cuts.{chunk_of, cut_on, chunk_pushed}
use Rattle.cif_text.proofs.cutting.push_cut.Goals as goal

pub loop-start-preserved : goal.loop-start-preserved
loop-start-preserved c =
    let before = c.loop-start.invariant in
    let end = c.end_of_chunk-end.result in
    let is = c.end_of_chunk-end.ensures in
    record {
      cut = before.cut ++ (chunk_of c.args.text.now c.loop-start.start end ∷ []);
      grown = chunk_pushed (λ (chunk : Vec ℕ Global). chunk.items) c.loop-start.chunks.items _
          c.in_ok-from_slice.field-0 _ before.cut _ before.grown c.in_ok-push.ensures.items
          c.in_ok-from_slice.ensures.items;
      so = cut_on c.args.text.now c.loop-start.start end before.cut before.so
          record { after = is.after; within = is.within; short = is.short; line = is.line; full = is.full };
      within = is.within;
    }
