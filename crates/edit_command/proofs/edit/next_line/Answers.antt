use Rattle.std.proofs.Common.{refl}
use Rattle.edit_command.specs.Edits.{changed, refused, refused_word}
use Rattle.edit_command.proofs.edit.next_line.Goals as goal

pub returns-in_ok-push_step-in-Some-clause-step : goal.returns-in_ok-push_step-in-Some-clause-step
returns-in_ok-push_step-in-Some-clause-step g c = record {
  word = c.in_ok-word-in-Some.word.items;
  told = rw c.deref.ensures.value at c.in_ok-push_step-in-Some.ensures;
  step = changed (rw c.in-Some.is at c.in_ok-new.ensures.changed) c.in_ok-word-in-Some.ensures.answered;
}

pub returns-in_ok-push_step-in-None-clause-step : goal.returns-in_ok-push_step-in-None-clause-step
returns-in_ok-push_step-in-None-clause-step g c = record {
  word = refused_word;
  told = c.in_ok-push_step-in-None.ensures;
  step = refused (rw c.in-None.is at c.in_ok-new.ensures.changed) refl refl;
}
