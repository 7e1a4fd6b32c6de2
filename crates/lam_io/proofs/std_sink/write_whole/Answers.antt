use Rattle.std.proofs.Common.{◌≡◌, ℕ, ◌++◌, ◌-◌, List, length, take, drop, sym, ap, ◌∙◌, append_assoc, take-append-drop}
use Rattle.std.proofs.{Common.arith, KnownBytes.Appends-trans, lemmas.Grind.common_steps}
use Rattle.lam_io.proofs.std_sink.write_whole.Goals as goal

-- a prefix of what is left goes to what was sent
more_sent : (chunk sent rest : List ℕ) (n : ℕ) → chunk ≡ sent ++ rest
    → chunk ≡ (sent ++ take n rest) ++ take (length rest - n) (drop n rest)
more_sent chunk sent rest n e =
    let whole : take (length rest - n) (drop n rest) ≡ drop n rest = grind (arith, common_steps) in
    e ∙ ap (λ r. sent ++ r) (sym (take-append-drop n rest)) ∙ sym (append_assoc sent (take n rest) (drop n rest))
    ∙ ap (λ r. (sent ++ take n rest) ++ r) (sym whole)

pub loop-rest-preserved : goal.loop-rest-preserved
loop-rest-preserved g c =
    let n = c.in_ok-taken.taken in
    let so_far = c.loop-rest.invariant in (
      so_far.0 ++ take n c.loop-rest.rest.now,
      more_sent c.args.chunk.now so_far.0 c.loop-rest.rest.now n so_far.1,
      Appends-trans _ _ _ _ _ so_far.2 c.in_ok-taken.ensures.ok,
    )
