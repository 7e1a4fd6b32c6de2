use Rattle.std.proofs.{Common.{List, sym, ◌∙◌, subst, arith}, lemmas.List.{get_or_default, take_all}}
use Rattle.list_facts.proofs.Elements.{all_at}
use Rattle.edit_lines.specs.{declared.script.EditLine.EditLine, Scripts.HasText}
use Rattle.edit_command.{specs.Edits.AreSteps, proofs.Editing.steps_next}
use Rattle.edit_command.proofs.edit.take_lines.Goals as goal

pub next_line-requires-clause-written : goal.next_line-requires-clause-written
next_line-requires-clause-written g c κs within =
    let lines = c.args.lines.now in
    let i = c.loop-i.i in
    subst HasText (sym c.index-lines-i.is)
    (all_at HasText lines c.index-lines-i.result i c.requires.written c.loop-i-test.true)

pub next_line-requires-clause-few_lines : goal.next_line-requires-clause-few_lines
next_line-requires-clause-few_lines g c κs within =
    omega (arith, c.loop-i.invariant.lines, c.loop-i-test.true, c.requires.few_steps)

pub loop-i-preserved : goal.loop-i-preserved
loop-i-preserved g c =
    let told = c.in_ok-next_line.ensures in
    let lines = c.args.lines.now in
    let i = c.loop-i.i in
    let line = c.index-lines-i.result in
    let next = c.next_line.new.so_far in
    record {
      writable = told.writable;
      names = told.names;
      first = told.first;
      lines = (let more = told.lines in let before = c.loop-i.invariant.lines in omega (arith, more, before));
      steps = steps_next c.args.tech.now c.args.axes.now c.args.numbers.now lines i line line c.args.so_far.now.design
          c.loop-i.so_far next c.loop-i-test.true
          (c.index-lines-i.is ∙ get_or_default lines i _ line c.loop-i-test.true) c.loop-i.invariant.steps told.step;
    }

pub returns : goal.returns
returns g c =
    let lines = c.args.lines.now in
    let S : List EditLine → Type 0 =
    λ ls. AreSteps c.args.tech.now c.args.axes.now c.args.numbers.now 0 ls c.args.so_far.now.design
    c.loop-i.so_far.design c.loop-i.so_far.text.items in
    record {
      last = c.loop-i.so_far.design;
      steps = subst S (take_all c.loop-i.i lines c.loop-i-test.false)
          c.loop-i.invariant.steps;
    }
