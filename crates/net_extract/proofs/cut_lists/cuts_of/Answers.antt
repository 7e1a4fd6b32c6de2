use Rattle.std.proofs.Common.{ℕ, ◌+◌, ◌-◌, ◌++◌, ◌∷◌, [], ap, ◌∙◌, arith}
use Rattle.std.proofs.lemmas.List.{get_or_read}
use Rattle.net_extract.proofs.Entering.{down_all, down_begin, down_next, down_step}
use Rattle.net_extract.proofs.cut_lists.cuts_of.Goals as goal

pub loop-at-init : goal.loop-at-init
loop-at-init c =
    let lists = c.args.lists.now in
    let h = c.requires.chains in
    let one = h.linked.one_head_each in
    let r = c.requires.in_range in
    down_begin lists.over c.args.count lists.chains c.args.a c.index-at.result.now c.clear.new.self.items
    c.requires.in_range
    (get_or_read lists.chains.heads.items c.args.a c.index-at.result.now (omega arith) c.index-at.ensures 0)
    c.clear.ensures.items c.requires.chains

pub index-requires : goal.index-requires
index-requires c =
    let lists = c.args.lists.now in
    let next = down_next lists.over c.args.count lists.chains c.args.a c.loop-at.at c.loop-at.found.items
    c.loop-at-test.true c.loop-at.invariant in
    omega (arith, next.0, lists.chains.cuts.ok.0)

pub overflow_add-count : goal.overflow_add-count
overflow_add-count c =
    let lists = c.args.lists.now in
    let next = down_next lists.over c.args.count lists.chains c.args.a c.loop-at.at c.loop-at.found.items
    c.loop-at-test.true c.loop-at.invariant in
    let cut = get_or_read lists.chains.cuts.items (c.loop-at.at - 1) c.index.result.now next.0 c.index.ensures 0 in
    omega (arith, next.2, cut, c.requires.few)

pub index-at-requires-in-loop-at : goal.index-at-requires-in-loop-at
index-at-requires-in-loop-at c =
    let lists = c.args.lists.now in
    let next = down_next lists.over c.args.count lists.chains c.args.a c.loop-at.at c.loop-at.found.items
    c.loop-at-test.true c.loop-at.invariant in
    omega (arith, next.1, lists.chains.nexts.ok.0)

pub loop-at-smaller : goal.loop-at-smaller
loop-at-smaller c =
    let lists = c.args.lists.now in
    let next = down_next lists.over c.args.count lists.chains c.args.a c.loop-at.at c.loop-at.found.items
    c.loop-at-test.true c.loop-at.invariant in
    let read = get_or_read lists.chains.nexts.items (c.loop-at.at - 1) c.index-at-in-loop-at.result.now next.1
    c.index-at-in-loop-at.ensures 0 in
    omega (arith, next.3, read)

pub loop-at-preserved : goal.loop-at-preserved
loop-at-preserved c =
    let lists = c.args.lists.now in
    let found = c.loop-at.found.items in
    let next = down_next lists.over c.args.count lists.chains c.args.a c.loop-at.at found c.loop-at-test.true
    c.loop-at.invariant in
    let read = get_or_read lists.chains.nexts.items (c.loop-at.at - 1) c.index-at-in-loop-at.result.now next.1
    c.index-at-in-loop-at.ensures 0 in
    let cut = get_or_read lists.chains.cuts.items (c.loop-at.at - 1) c.index.result.now next.0 c.index.ensures 0 in
    down_step lists.over c.args.count lists.chains c.args.a c.loop-at.at c.index-at-in-loop-at.result.now found
    c.push.new.self.items c.loop-at-test.true read
    (c.in_ok-push.ensures.items ∙ ap (λ (x : ℕ). found ++ (c.args.count + x) ∷ []) cut) c.loop-at.invariant

pub returns : goal.returns
returns c =
    let lists = c.args.lists.now in
    down_all lists.over c.args.count lists.chains c.args.a c.loop-at.at c.loop-at.found.items
    (omega (arith, c.loop-at-test.false)) c.loop-at.invariant
