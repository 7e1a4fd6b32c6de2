use Rattle.std.proofs.Common.{◌<◌, length, get_or, refl, sym, subst, arith}
use Rattle.cif_lex.proofs.Comments.{IsPassed, passes_opening, passes_closing, passes_other, comment_ends, some_open}
use Rattle.cif_lex.proofs.gaps.comment_length.Goals as goal
use Rattle.cif_lex.proofs.gaps.comment_length.Goals.{then-b-eq40, else-b-eq40+then-b-eq41, else-b-eq40+else-b-eq41}

pub returns-then-depth-eq0-clause-comment : goal.returns-then-depth-eq0-clause-comment
returns-then-depth-eq0-clause-comment c =
    let text = c.args.text.now in
    let i = c.loop-i.i in
    let lt : i < length text = omega arith in
    let is : IsPassed text i c.if-b-eq40.depth = elim c.if-b-eq40.branch [
      | then-b-eq40 w ↦ subst (IsPassed text i) (sym w.depth-is)
          (passes_opening text i c.loop-i.depth (get_or text i 0) lt refl c.loop-i.invariant w.if-b-eq40.true)
      | else-b-eq40+then-b-eq41 w ↦ subst (IsPassed text i) (sym w.depth-is)
          (passes_closing text i c.loop-i.depth (get_or text i 0) lt refl c.loop-i.invariant w.if-b-eq41.true
          (some_open text i c.loop-i.depth c.requires c.loop-i.invariant w.if-b-eq41.true))
      | else-b-eq40+else-b-eq41 w ↦ subst (IsPassed text i) (sym w.depth-is)
          (passes_other text i c.loop-i.depth (get_or text i 0) lt refl c.loop-i.invariant w.if-b-eq40.false
          w.if-b-eq41.false)
    ] in
    comment_ends text i c.if-b-eq40.depth c.requires lt is c.if-depth-eq0.true
