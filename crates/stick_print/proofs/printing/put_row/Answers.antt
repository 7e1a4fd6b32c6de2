use Rattle.std.{proofs.Common.◌∷◌, specs.Prelude.codes}
use Rattle.stick_print.{specs.Canonical.line_of, proofs.Growing.{one_more, every_one_ended}}
use Rattle.stick_print.proofs.printing.put_row.Goals as goal

pub loop-name-preserved : goal.loop-name-preserved
loop-name-preserved c =
    one_more (λ word. 32 ∷ word) _ (codes "row") _ _ _ _ _ _ c.as_slice-name-items.ensures c.loop-name-test.true
    c.name-item.is c.loop-name.invariant (rw c.bytes.ensures at c.in_ok-put_word.ensures)

pub returns : goal.returns
unfolding line_of
returns c =
    every_one_ended (λ word. 32 ∷ word) _ (codes "row") _ _ _ _ _ _ c.as_slice-name-items.ensures
    c.loop-name-test.false c.loop-name.invariant c.in_ok-push.ensures.items
