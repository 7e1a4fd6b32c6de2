use Rattle.std.proofs.{Common.{ℕ, List, subst, ◌∙◌}, lemmas.Result.IfOk-weaker}
use Rattle.edit_command.specs.Edits.{EditsTo}
use Rattle.edit_command.proofs.edit.edit.Goals as goal

pub returns : goal.returns
returns g c =
    IfOk-weaker c.edited_by.result _ _ (λ text edits.
    let E : List ℕ → Type 0 = λ ns. EditsTo c.args.tech.now c.args.axes.now ns c.args.design c.args.lines.now
    text.items in
    subst E (c.deref.ensures.value ∙ (c.in_ok-numbers.ensures.items ∙ c.as_slice.ensures)) edits)
    c.edited_by.ensures
