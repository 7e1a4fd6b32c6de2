use Rattle.std.proofs.{Common.{List, ap, ◌∙◌}, lemmas.Result.IfOk-weaker}
use Rattle.sym_items.specs.declared.items.Coords.{Coords}
use Rattle.edit_command.specs.Edits.{done_word, laid_out}
use Rattle.edit_command.proofs.edit.word_over.Goals as goal

pub returns-in-Some-clause-answered : goal.returns-in-Some-clause-answered
returns-in-Some-clause-answered g c =
    IfOk-weaker c.done_word.result _ _
    (λ word e. laid_out c.in-Some.layouts.items (rw c.in-Some.is at c.in_ok-layouts.ensures.least)
    (e ∙ ap (λ (cs : List Coords). done_word c.args.masters.now cs) c.deref.ensures.value)) c.done_word.ensures
