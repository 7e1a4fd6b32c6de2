use Rattle.std.{proofs.Common.{◌+◌, ◌≤◌, take}, specs.Prelude.{◌^◌, IfSome}}
use Rattle.stick_text.specs.Writable.{IsWritable}
use Rattle.first_pass.specs.First.{IsFirstPass}
use Rattle.design_sizes.specs.Sizes.{lines_in, names_in}
use Rattle.edit_command.specs.Edits.{AreSteps}
use Rattle.edit_command.proofs.edit.take_lines.Given as goal

abbrev pub invariant-loop-i : goal.invariant-loop-i
invariant-loop-i g l = record {
  writable : IsWritable l.so_far.design;
  names : names_in l.so_far.design ≤ 2 ^ 19;
  lines : lines_in l.so_far.design ≤ 2 ^ 20 + l.i;
  steps : AreSteps l.tech l.axes l.numbers 0 (take l.i l.lines) l.initial.so_far.design l.so_far.design
      l.so_far.text.items;
  first : IfSome l.so_far.first (IsFirstPass l.tech);
}
