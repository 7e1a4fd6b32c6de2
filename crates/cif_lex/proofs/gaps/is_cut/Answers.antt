use Rattle.std.proofs.{Common.{length, arith, sym, ◌∙◌}, lemmas.Bool.eqb-false}
use Rattle.cif_lex.proofs.Stops.{cut_by_first}
use Rattle.cif_lex.proofs.gaps.is_cut.Goals as goal

pub returns-else-is_empty : goal.returns-else-is_empty
returns-else-is_empty c =
    cut_by_first c.args.text.now
    (let n = eqb-false (length c.args.text.now) 0 (sym c.is_empty.ensures ∙ c.if-is_empty.false) in omega (arith, n))
    c.requires
