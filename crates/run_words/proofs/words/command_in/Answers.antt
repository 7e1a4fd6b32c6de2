use Rattle.std.proofs.Common.{refl}
use Rattle.run_words.proofs.words.command_in.Goals as goal

pub returns-in_ok-passes_of-in-Compact : goal.returns-in_ok-passes_of-in-Compact
returns-in_ok-passes_of-in-Compact c = rw c.in-Compact.is (record {
  command =
      rw (
        c.in_ok-passes_of-in-Compact.ensures.axes,
        c.in_ok-split-in-Compact.ensures.number,
        c.text_of-operand.ensures,
        c.text_of-tech.ensures,
      ) refl;
  passes = c.in_ok-passes_of-in-Compact.ensures.list;
  limits = c.in_ok-split-in-Compact.ensures.limits;
  usage = λ e. cc;
})
