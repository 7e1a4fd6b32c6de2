use Rattle.std.proofs.Common.{◌≡◌, get_or, take, ap, ◌∙◌, arith, rules}
use Rattle.std.proofs.lemmas.List.{take_all, get_or_default, Sorted.IsNonDecreasingBy-from_sort_by_key}
use Rattle.pair_rules.specs.declared.pairs.Pair.{Pair}
use Rattle.scan_line.proofs.{PairRuns.{pairs_of, one_more}, SortedPairs.sorted_pairs}
use Rattle.scan_line.proofs.lanes.Lanes.candidates.Goals as goal

pub loop-i-preserved : goal.loop-i-preserved
loop-i-preserved c =
    let line = c.line_facing-i-items.result.now in
    let n = c.loop-i.i-index in
    let i = get_or line n 0 in
    one_more c.args.axis c.args.tech.now c.args.coords.now c.args.items.now c.args.j line n i c.loop-i.found.items
    c.push_candidate.new.found.items c.loop-i-test.true
    (get_or_default line n 0 i c.loop-i-test.true) c.loop-i.invariant c.in_ok-push_candidate.ensures

pub returns : goal.returns
returns c =
    let axis = c.args.axis in
    let t = c.args.tech.now in
    let k = c.args.coords.now in
    let items = c.args.items.now in
    let j = c.args.j in
    let whole : take c.loop-i.i-index c.line_facing-i-items.result.now ≡ c.line_facing-i-items.result.now =
    take_all c.loop-i.i-index c.line_facing-i-items.result.now (omega (arith, c.loop-i-test.false)) in
    let up = IsNonDecreasingBy-from_sort_by_key (λ (p : Pair). p.i) c.sort_unstable_by_key.new.self.items
    c.sort_unstable_by_key.ensures.sorted (λ a r q called. search rules) in
    sorted_pairs axis t k items j c.line_facing-i-items.result.now c.loop-i.found.items
    c.sort_unstable_by_key.new.self.items c.line_facing-i-items.ensures
    (c.loop-i.invariant ∙ ap (pairs_of axis t k items j) whole)
    c.sort_unstable_by_key.ensures.permutation up
