use Rattle.cif_lex.proofs.Comments.{Inside}
use Rattle.cif_lex.proofs.gaps.comment_length.Given as goal

abbrev pub invariant-loop-i : goal.invariant-loop-i
invariant-loop-i l = Inside l.text l.i l.depth
