use Rattle.std.{proofs.Common.{◌≡◌, ◌++◌, length, take}, specs.Prelude.flat_map}
use Rattle.cif_answers.specs.BreakLines.{count_line, line_of_break}
use Rattle.cif_answers.proofs.break_lines.text_of_breaks.Given as goal

abbrev pub invariant-loop-x : goal.invariant-loop-x
invariant-loop-x l = l.out.items ≡ count_line (length l.list)
    ++ flat_map (line_of_break l.tech l.boxes) (take l.x-index l.list)
