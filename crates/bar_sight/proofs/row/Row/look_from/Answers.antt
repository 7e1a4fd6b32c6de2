use Rattle.std.proofs.{Common.{w64}, lemmas.Int.to_z-of_z}
use Rattle.bar_sight.proofs.Found.{on_ok, all_seen}
use Rattle.bar_sight.proofs.row.Row.look_from.Goals as goal

pub returns-clause-all : goal.returns-clause-all
returns-clause-all c =
    let fits = to_z-of_z w64 c.args.above c.ranges.above in
    let mains = rw fits at c.in_ok-look_at_mains.ensures.all in
    on_ok c.look_at_others.result _ _
    (λ others. all_seen c.args.self.now c.args.place c.args.above c.look_at_mains.new.found c.look_at_others.new.found
    c.look_at_others.ensures.adds mains others)
    (rw fits at c.look_at_others.ensures.all)
