use Rattle.std.proofs.Common.{ℕ, List, ◌-◌, length, take, drop, sym, subst, ◌∙◌, arith}
use Rattle.std.proofs.lemmas.List.{take_rest, length-take, length-drop}
use Rattle.cif_lex.{specs.Blanks.IsComment, proofs.OneGap.{gap_with_blank, gap_with_comment}}
use Rattle.cif_lex.proofs.gaps.gap_length.Goals as goal

pub loop-at-preserved-then-is_blank : goal.loop-at-preserved-then-is_blank
loop-at-preserved-then-is_blank c = record {
  within = omega arith;
  gap = gap_with_blank c.args.text.now c.loop-at.at (omega arith) c.loop-at.invariant.gap
      (sym c.is_blank.ensures ∙ c.if-is_blank.true);
}

pub loop-at-preserved : goal.loop-at-preserved
loop-at-preserved c =
    let text = c.args.text.now in
    let n = c.in-Some.length in
    let comment : IsComment (take n (drop c.loop-at.at text)) =
    subst (λ (t : List ℕ). IsComment (take n t)) (take_rest text c.loop-at.at) c.in-Some.ensures.comment in
    record {
      within =
          omega (
            arith,
            c.in-Some.ensures.within,
            length-take (length text - c.loop-at.at)
                (drop c.loop-at.at text),
            length-drop c.loop-at.at text,
          );
      gap = gap_with_comment text c.loop-at.at n c.loop-at.invariant.within c.loop-at.invariant.gap comment;
    }
