use Rattle.std.proofs.{Common.{◌≡◌, ℕ, ◌+◌, ◌<◌, w64, length, drop, subst, arith}, lemmas.Int.to_z-of_z}
use Rattle.box_tree.proofs.Trees.{IsBarren, IsPassed, barren_bounds, group_here, passed_group, passed_into}
use Rattle.flat_check.specs.Clear.{LieApart, entry_in}
use Rattle.flat_check.proofs.Clear.{IsAsked, is_group_in, is_read, none_apart, read, run_clear}
use Rattle.flat_check.proofs.pairs.is_run_clear.Goals as goal

pub lie_apart-requires-clause-other : goal.lie_apart-requires-clause-other
lie_apart-requires-clause-other c =
    (is_group_in c.args.others.now c.loop-at.at c.index-others-at.result c.requires.others c.loop-at-test.true).placed

pub loop-at-preserved-then-lie_apart : goal.loop-at-preserved-then-lie_apart
loop-at-preserved-then-lie_apart c =
    let others = c.args.others.now in let groups = others.groups.now in
    let own = c.args.own.now in let group = c.args.group.now in let at = c.loop-at.at in
    let lt = c.loop-at-test.true in let other = read others at c.index-others-at.result in
    let is = is_read others at c.index-others-at.result lt in let P = IsAsked own group c.args.question in
    let here = group_here others.entries.now (length others.entries.now) at groups other c.requires.others.groups_of lt is in
    let apart = subst (LieApart group other c.args.question) (to_z-of_z w64 c.args.reach c.ranges.reach)
    (c.lie_apart.ensures.0 c.if-lie_apart.true) in
    let barren = barren_bounds others.entries.now (length others.entries.now) other (drop (at + 1) groups) P here
    (λ t b asked. none_apart group other (entry_in own asked.0) t (c.requires.group.bounded asked.0 asked.1 asked.2) b
    c.args.question c.args.reach c.requires.reach apart asked.3) in
    passed_group others.entries.now groups P at other c.requires.others lt is barren c.loop-at.invariant

pub are_free-requires-clause-other : goal.are_free-requires-clause-other
are_free-requires-clause-other c =
    is_group_in c.args.others.now c.loop-at.at c.index-others-at.result c.requires.others c.loop-at-test.true

pub loop-at-preserved-then-other-eq0 : goal.loop-at-preserved-then-other-eq0
loop-at-preserved-then-other-eq0 c =
    let others = c.args.others.now in let at = c.loop-at.at in let lt = c.loop-at-test.true in
    let other = read others at c.index-others-at.result in let is = is_read others at c.index-others-at.result lt in
    let P = IsAsked c.args.own.now c.args.group.now c.args.question in
    let barren : IsBarren others.entries.now other P = λ q low high asked.
    c.are_free.ensures.0 c.if-not-are_free.false asked.0 asked.1 asked.2 q low high asked.3 in
    let past = passed_group others.entries.now others.groups.now P at other c.requires.others lt is
    barren c.loop-at.invariant in
    let next : at + 1 + other.inside ≡ at + 1 = omega (arith, c.if-other-eq0.true) in
    subst (λ (n : ℕ). IsPassed others.entries.now others.groups.now P n) next past

pub loop-at-preserved : goal.loop-at-preserved
loop-at-preserved c =
    let others = c.args.others.now in let at = c.loop-at.at in let lt = c.loop-at-test.true in
    let other = read others at c.index-others-at.result in
    let some : 0 < other.inside = omega (arith, c.if-other-eq0.false) in
    passed_into others.entries.now others.groups.now
    (IsAsked c.args.own.now c.args.group.now c.args.question) at other c.requires.others lt
    (is_read others at c.index-others-at.result lt) some c.loop-at.invariant

pub returns : goal.returns
returns c = λ t. run_clear c.args.own.now c.args.group.now c.args.others.now c.args.question c.loop-at.at
    c.loop-at-test.false c.loop-at.invariant
