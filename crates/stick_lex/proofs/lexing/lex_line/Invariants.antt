use Rattle.std.{proofs.Common.length, specs.List.slice_split}
use Rattle.stick_lex.{specs.{Runs.{is_blank, without_comment}, Tokens.tokens_of}, proofs.Loop.Walks}
use Rattle.stick_lex.proofs.lexing.lex_line.Given as goal

abbrev pub invariant-loop-run : goal.invariant-loop-run
invariant-loop-run l = Walks (slice_split is_blank (without_comment l.line)) (tokens_of l.line) (length l.yielded)
    l.lo l.tokens.items
