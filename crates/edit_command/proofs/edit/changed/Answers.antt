use Rattle.std.{proofs.{Common.{sym, ◌∙◌}, lemmas.Bool.true≢false}, specs.Prelude.◌^◌}
use Rattle.design_layouts.proofs.Scripted.{few_names}
use Rattle.edit_command.proofs.Editing.{not_edited, at_fault}
use Rattle.edit_command.proofs.edit.changed.Goals as goal

pub returns-in_default-clause-changed : goal.returns-in_default-clause-changed
returns-in_default-clause-changed c =
    not_edited c.args.tech.now c.args.design.now c.args.numbers.now c.args.line.now
    (rw c.in_default.is at c.in_ok-new.ensures.edited)

pub returns-then-not-branch-clause-changed : goal.returns-then-not-branch-clause-changed
returns-then-not-branch-clause-changed c =
    at_fault c.args.tech.now c.args.design.now c.in-Some.new c.args.numbers.now c.args.line.now
    (rw c.in-Some.is at c.in_ok-new.ensures.edited)
    (λ some. true≢false (sym (c.in_ok-is_resolved.ensures.1 some) ∙ c.if-not-branch.true))

pub returns-clause-names : goal.returns-clause-names
returns-clause-names c = few_names c.args.design.now c.in-Some.new (2 ^ 19)
    (rw c.in-Some.is at c.in_ok-new.ensures.grids) c.requires.few_names
