use Rattle.pair_set.proofs.Ordered.{pushed_there, pushed_kept, pushed_others}
use Rattle.pair_set.proofs.set.PairSet.insert.Goals as goal

pub returns-then-len-self-2-clause-kept : goal.returns-then-len-self-2-clause-kept
returns-then-len-self-2-clause-kept c =
    pushed_kept c.args.self.now.keys.items c.push.new.self.items c.sort.new.self.keys.items c.key_of.result c.args.pair
    (record { is = c.in_ok-push.ensures.items; of = c.key_of.ensures; same = c.sort.ensures.same })

pub returns-then-len-self-2-clause-others : goal.returns-then-len-self-2-clause-others
returns-then-len-self-2-clause-others c =
    pushed_others c.args.self.now.keys.items c.push.new.self.items c.sort.new.self.keys.items c.key_of.result c.args.pair
    (record { is = c.in_ok-push.ensures.items; of = c.key_of.ensures; same = c.sort.ensures.same })

pub returns-else-len-self-2-clause-there : goal.returns-else-len-self-2-clause-there
returns-else-len-self-2-clause-there c =
    pushed_there c.args.self.now.keys.items c.push.new.self.items c.sort.new.self.keys.items c.key_of.result c.args.pair
    (record { is = c.in_ok-push.ensures.items; of = c.key_of.ensures; same = c.sort.ensures.same })

pub returns-else-len-self-2-clause-kept : goal.returns-else-len-self-2-clause-kept
returns-else-len-self-2-clause-kept c =
    pushed_kept c.args.self.now.keys.items c.push.new.self.items c.sort.new.self.keys.items c.key_of.result c.args.pair
    (record { is = c.in_ok-push.ensures.items; of = c.key_of.ensures; same = c.sort.ensures.same })

pub returns-else-len-self-2-clause-others : goal.returns-else-len-self-2-clause-others
returns-else-len-self-2-clause-others c =
    pushed_others c.args.self.now.keys.items c.push.new.self.items c.sort.new.self.keys.items c.key_of.result c.args.pair
    (record { is = c.in_ok-push.ensures.items; of = c.key_of.ensures; same = c.sort.ensures.same })
