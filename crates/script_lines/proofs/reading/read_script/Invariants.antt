use Rattle.std.{proofs.Common.{◌≡◌, ◌+◌, ◌≤◌, length}, specs.Str.Lines.lines}
use Rattle.script_lines.{specs.Scripts.steps_from, proofs.ScriptsLeft.with_prefix}
use Rattle.script_lines.proofs.reading.read_script.Given as goal

abbrev pub invariant-lines : goal.invariant-lines
invariant-lines g l = record {
  fits : l.number + length l.rest ≤ 65536;
  left : with_prefix l.steps.items (steps_from g.L.ScriptLine.said (l.number + 1) (lines l.rest))
      ≡ steps_from g.L.ScriptLine.said 1 (lines l.fn.text);
}

abbrev pub decreases-lines : goal.decreases-lines
decreases-lines g l = length l.rest
