use Rattle.std.proofs.Common.{List, [], refl, subst, arith}
use Rattle.checked_cells.proofs.Built.{are_built-none}
use Rattle.stick_text.specs.declared.design.Line.{Line}
use Rattle.stick_cell.{specs.Ready.HasNoUse, proofs.Apart.tells_apart}
use Rattle.stick_cell.proofs.ready.ready_of.Goals as goal

pub returns-clause-told : goal.returns-clause-told
returns-clause-told c = λ cells are fresh.
    let tech = c.args.tech.now in
    let text = c.args.text.now in
    let no : HasNoUse text.lines = subst (λ (lines : List Line). HasNoUse lines) c.as_slice.ensures
    c.if-not-has_no_use.ensures in
    tells_apart tech cells text c.read_cell.result c.requires no fresh
    (c.read_cell.ensures [] (are_built-none tech) tt (λ k lt. absurd (omega (arith, lt))) refl)
