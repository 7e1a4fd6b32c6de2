use Rattle.std.proofs.Common.{sym}
use Rattle.bar_sight.proofs.{Asked.sees_if_none, Found.adds_one}
use Rattle.bar_sight.proofs.row.Row.look.Goals as goal

pub returns-in_err-insert-clause-adds : goal.returns-in_err-insert-clause-adds
returns-in_err-insert-clause-adds c =
    adds_one c.args.self.now c.args.place c.args.far c.args.found.now c.insert.new.self c.insert.ensures.limit
    c.insert.ensures.kept (sees_if_none c.screen-screen.result _ _ (sym c.if-is_some.ensures) c.screen-screen.ensures.screen)
    (rw c.as_slice-bars.ensures.value at c.if-bars-place.true)
    (λ p h. rw (← c.numbers.ensures) (c.insert.ensures.others p h))

pub returns-in_ok-insert-clause-adds : goal.returns-in_ok-insert-clause-adds
returns-in_ok-insert-clause-adds c =
    adds_one c.args.self.now c.args.place c.args.far c.args.found.now c.insert.new.self c.insert.ensures.limit
    c.insert.ensures.kept (sees_if_none c.screen-screen.result _ _ (sym c.if-is_some.ensures) c.screen-screen.ensures.screen)
    (rw c.as_slice-bars.ensures.value at c.if-bars-place.true)
    (λ p h. rw (← c.numbers.ensures) (c.insert.ensures.others p h))
