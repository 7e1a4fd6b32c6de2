-- What the bars of a family see is kept.
use Rattle.std.proofs.Common.{◌≡◌, length, inl, inr, arith, ap, sym, ◌∙◌}
use Rattle.shadow_prune.specs.{Families.{bars_of}}
use Rattle.shadow_prune.proofs.{FewBars.few_bars, Found.seen_by_bars}
use Rattle.shadow_prune.proofs.keeping.add_family.Goals as goal

pub add_seen-requires-clause-few : goal.add_seen-requires-clause-few
add_seen-requires-clause-few c =
    let few = few_bars c.args.axis c.args.tech.now c.args.coords.now c.args.items.now c.args.family c.args.order.now
    c.requires.order in
    let is : length c.in_ok-bars.bars.items ≡ length (bars_of c.args.axis c.args.tech.now c.args.coords.now
    c.args.items.now c.args.family c.args.order.now) = ap length c.in_ok-bars.ensures.bars in
    omega (arith, few, is)

pub returns-clause-added : goal.returns-clause-added
returns-clause-added c =
    λ pair w. elim (c.add_seen.ensures.adds.added pair w) [
      | inl old ↦ inl old
      | inr seen ↦
          inr (seen_by_bars c.args.axis c.args.tech.now c.args.coords.now c.args.items.now c.args.order.now
          c.requires.boxes c.requires.clean c.requires.order c.args.family
          (sym c.has_rule.ensures ∙ c.if-not-has_rule.false) c.has_self_rule.result c.in_ok-bars.bars.items
          c.has_self_rule.ensures c.in_ok-bars.ensures.bars pair seen)
    ]
