use Rattle.std.proofs.Common.{ℕ, ◌≤◌, List, length, sym, subst}
use Rattle.command_files.proofs.Scripts.{few_edits}
use Rattle.command_files.proofs.reading.read_edit_script.Goals as goal

pub returns-in-Ok-clause-few : goal.returns-in-Ok-clause-few
returns-in-Ok-clause-few g c =
    few_edits c.deref.result.now c.in-Ok.lines.items c.in-Ok.ensures.read
    (subst (λ (text : List ℕ). length text ≤ 65536) (sym c.deref.ensures.value) c.in_ok-text.ensures.short)
