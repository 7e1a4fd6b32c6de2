use Rattle.cif_answers.proofs.Verdicts.{tells_verdict}
use Rattle.cif_answers.proofs.laws.breaks_tell_verdicts.Goals as goal

pub returns : goal.returns
returns c = λ tech most text output short some few h.
    tells_verdict tech most text output
    (record { short = short; readings = c.foreign_readings_are_determined.ensures }) some few h
