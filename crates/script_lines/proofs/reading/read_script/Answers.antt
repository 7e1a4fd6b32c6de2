use Rattle.std.proofs.{Common.{◌+◌, arith, ap}, lemmas.{Bool.Decides.nat_tests, List.nil_from_length}}
use Rattle.std.specs.Str.Lines.{lines}
use Rattle.script_lines.specs.Scripts.{step_by, steps_from}
use Rattle.script_lines.proofs.ScriptsLeft.{prefix_none, next_line, read_one, read_none, read_bad, read_all}
use Rattle.script_lines.proofs.reading.read_script.Goals as goal

pub lines-init : goal.lines-init
lines-init g c =
    record {
      fits = omega arith;
      left = rw c.new-steps.ensures.items
          (prefix_none (steps_from g.L.ScriptLine.said 1 (lines c.args.text.now)));
    }

pub lines-preserved : goal.lines-preserved
lines-preserved g c = record {
  fits = omega arith;
  left = read_none c.lines.steps.items (c.lines.number + 1) (step_by g.L.ScriptLine.said c.first_line.result.0.now) _
      _ (rw c.in-Ok-None.field-0-is at c.in-Ok-None.ensures)
      (next_line g.L.ScriptLine.said c.lines.steps.items (c.lines.number + 1) c.first_line.result.0.now _
      (lines c.first_line.result.1.now) _ c.first_line.ensures.first c.lines.invariant.left);
}

pub lines-preserved-in-Continue-1 : goal.lines-preserved-in-Continue-1
lines-preserved-in-Continue-1 g c =
    let one = read_one c.lines.steps.items (c.lines.number + 1)
    (step_by g.L.ScriptLine.said c.first_line.result.0.now) c.in-Ok-Some.step _ _
    (rw c.in-Ok-Some.field-0-is at c.in-Ok-Some.ensures)
    (next_line g.L.ScriptLine.said c.lines.steps.items (c.lines.number + 1) c.first_line.result.0.now _
    (lines c.first_line.result.1.now) _ c.first_line.ensures.first c.lines.invariant.left) in
    record { fits = omega arith; left = rw c.in_ok-push-in-Ok-Some.ensures.items one }

pub returns-in-Err : goal.returns-in-Err
returns-in-Err g c = rw c.at_line.ensures
    (read_bad c.lines.steps.items (c.lines.number + 1) (step_by g.L.ScriptLine.said c.first_line.result.0.now)
    c.in-Err.fault _ _ c.in-Err.ensures
    (next_line g.L.ScriptLine.said c.lines.steps.items (c.lines.number + 1) c.first_line.result.0.now _
    (lines c.first_line.result.1.now) _ c.first_line.ensures.first c.lines.invariant.left))

pub returns : goal.returns
returns g c = read_all g.L.ScriptLine.said c.lines.steps.items (c.lines.number + 1) (lines c.lines.rest.now) _
    (ap lines (nil_from_length c.lines.rest.now (grind (arith, nat_tests, c.lines-test.ensures))))
    c.lines.invariant.left
