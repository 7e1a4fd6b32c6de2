use Rattle.std.proofs.Common.{sym, subst}
use Rattle.command_files.specs.{declared.refusal.Refusal.Refusal, Refusals.Refused}
use Rattle.compact_run.{specs.Answers.RefusesText, proofs.Coming.text_refused}
use Rattle.compact_run.proofs.cif.output_over.Goals as goal

pub returns-in_ok-refusal_for-in-Err-clause-refused : goal.returns-in_ok-refusal_for-in-Err-clause-refused
returns-in_ok-refusal_for-in-Err-clause-refused g c =
    let R : Refusal → Type 0 = λ r. Refused (RefusesText c.args.job c.args.tech.now c.args.text.now) r in
    subst R (sym c.in_ok-refusal_for-in-Err.ensures)
    (text_refused c.args.job c.args.tech.now c.args.text.now c.in-Err.fault c.in-Err.ensures.refused)
