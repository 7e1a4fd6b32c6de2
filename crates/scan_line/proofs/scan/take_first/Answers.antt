use Rattle.std.proofs.Common.{◌≡◌, pos, get_or, take, refl, subst, arith, rules}
use Rattle.std.proofs.lemmas.List.{take_all, get_or_default}
use Rattle.pair_rules.specs.declared.pairs.Pair.{Pair}
use Rattle.scan_line.{specs.Scan.AreFirstOf, proofs.FirstItems.{none_yet, one_more_first}}
use Rattle.scan_line.proofs.scan.take_first.Goals as goal

pub loop-pair-init : goal.loop-pair-init
loop-pair-init c = none_yet c.args.items.now c.args.pairs.now c.clear.new.self.items c.clear.ensures.items

pub loop-pair-preserved : goal.loop-pair-preserved
loop-pair-preserved c =
    let pairs = c.args.pairs.now in
    let k = c.loop-pair.pair-index in
    let none : Pair = record { i = 0; j = 0; s = pos 0 } in
    let p = get_or pairs k none in
    one_more_first c.args.items.now pairs k p c.loop-pair.near.items c.push.new.self.items _ c.loop-pair-test.true
    (get_or_default pairs k none p c.loop-pair-test.true) c.in_ok-push.ensures.items
    refl (search rules) (get_or_default c.args.items.now p.i _ _ (c.requires k none c.loop-pair-test.true))
    c.loop-pair.invariant

pub returns : goal.returns
returns c =
    let whole : take c.loop-pair.pair-index c.args.pairs.now ≡ c.args.pairs.now =
    take_all c.loop-pair.pair-index c.args.pairs.now (omega (arith, c.loop-pair-test.false)) in
    subst (λ ps. AreFirstOf c.args.items.now ps c.loop-pair.near.items) whole c.loop-pair.invariant
