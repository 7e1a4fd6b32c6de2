use Rattle.std.proofs.{Common.rules, lemmas.Bool.Decides.Decides-at}
use Rattle.sym_items.{specs.Standing.stand_together, proofs.Together.together_exactly}
use Rattle.sym_items.proofs.items.Item.stands_with.Goals as goal

pub returns-then-stands_at-clause-meaning : goal.returns-then-stands_at-clause-meaning
unfolding stand_together
returns-then-stands_at-clause-meaning c =
    Decides-at c.stands_at.result (stand_together c.args.self.now c.args.other.now) (search rules)
    (together_exactly c.args.self.now c.args.other.now)

pub returns-else-stands_at-clause-meaning : goal.returns-else-stands_at-clause-meaning
unfolding stand_together
returns-else-stands_at-clause-meaning c =
    Decides-at c.stands_at-else-stands_at.result (stand_together c.args.self.now c.args.other.now) (search rules)
    (together_exactly c.args.self.now c.args.other.now)
