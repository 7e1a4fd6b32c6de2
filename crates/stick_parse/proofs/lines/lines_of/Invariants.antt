use Rattle.std.proofs.Common.{◌≡◌, ◌+◌, ◌≤◌, ◌++◌, All, length, map}
use Rattle.std.specs.Str.Lines.{lines}
use Rattle.stick_parse.proofs.lines.lines_of.Given as goal

abbrev pub invariant-loop-rest : goal.invariant-loop-rest
invariant-loop-rest l = record {
  so_far : map (λ line. line.now) l.lines.items ++ lines l.rest ≡ lines l.text;
  few : length l.lines.items + length l.rest ≤ length l.text;
  short : All (λ line. length line.now ≤ length l.text) l.lines.items;
}

abbrev pub decreases-loop-rest : goal.decreases-loop-rest
decreases-loop-rest l = length l.rest
