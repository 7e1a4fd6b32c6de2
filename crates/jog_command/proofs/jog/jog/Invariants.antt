use Rattle.std.{proofs.Common.{◌≤◌, take}, specs.Prelude.◌^◌}
use Rattle.stick_text.specs.Writable.{IsWritable}
use Rattle.design_sizes.specs.Sizes.{lines_in, names_in}
use Rattle.jog_command.specs.Jogs.{AreJogs, IsLaidOutAs}
use Rattle.jog_command.proofs.jog.jog.Given as goal

abbrev pub invariant-loop-i : goal.invariant-loop-i
invariant-loop-i g l = record {
  writable : IsWritable l.so_far.design;
  names : names_in l.so_far.design ≤ 2 ^ 19;
  lines : lines_in l.so_far.design ≤ 2 ^ 20;
  laid_out : IsLaidOutAs l.tech l.axes l.so_far.design l.so_far.sizes.numbers.items l.so_far.sizes.widths.items;
  jogs : AreJogs l.tech l.axes 0 (take l.i l.lines) l.fn.design l.fn.sizes.numbers.items l.fn.sizes.widths.items
      l.so_far.design l.so_far.sizes.numbers.items l.so_far.sizes.widths.items l.so_far.report.items;
}
