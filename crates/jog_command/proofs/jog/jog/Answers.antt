use Rattle.std.proofs.{Common.{take, ◌∙◌}, lemmas.List.{get_or_default, take_all}}
use Rattle.jog_command.proofs.Jogging.{jogs_next, jogs_to}
use Rattle.jog_command.proofs.jog.jog.Goals as goal

pub loop-i-preserved : goal.loop-i-preserved
loop-i-preserved g c =
    let told = c.in_ok-so_far.ensures in
    let lines = c.args.lines.now in
    let i = c.loop-i.i in
    let line = c.index-lines-i.result in
    record {
      writable = told.writable;
      names = told.few_names;
      lines = told.few_lines;
      laid_out = told.laid_out;
      jogs = jogs_next c.args.tech.now c.args.axes.now lines i line line c.args.design c.args.sizes.numbers.items
          c.args.sizes.widths.items c.loop-i.so_far c.in_ok-so_far.so_far c.loop-i-test.true
          (c.index-lines-i.is ∙ get_or_default lines i _ line c.loop-i-test.true) c.loop-i.invariant.jogs told.step;
    }

pub returns : goal.returns
returns g c =
    let lines = c.args.lines.now in
    jogs_to c.args.tech.now c.args.axes.now lines (take c.loop-i.i lines) c.args.design c.args.sizes.numbers.items
    c.args.sizes.widths.items c.loop-i.so_far c.in_ok-text.text.items c.deref.result.now
    c.in_one_chunk.result (take_all c.loop-i.i lines c.loop-i-test.false) c.requires.laid_out c.loop-i.invariant.jogs
    c.in_ok-text.ensures.text c.deref.ensures.value
    c.in_one_chunk.ensures.text c.in_one_chunk.ensures.report
