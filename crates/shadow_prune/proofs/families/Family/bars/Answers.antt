-- An item of the family adds its bar.
use Rattle.std.proofs.{Common.{ap, ◌∙◌, sym, Bool, Option, Vec, Global}, lemmas.List.Elements.{All-push}}
use Rattle.std.specs.Prelude.{is_some}
use Rattle.bar_rows.specs.{declared.bars.Bar.Bar, Rows.IsPlacedBar}
use Rattle.shadow_prune.proofs.Bars.{with_bar, with_none}
use Rattle.shadow_prune.proofs.families.Family.bars.Goals.{in-Some+in_ok-push, in_default}
use Rattle.shadow_prune.proofs.families.Family.bars.Goals as goal

pub loop-k-preserved : goal.loop-k-preserved
loop-k-preserved c = elim c.match-role.branch [
  | in-Some+in_ok-push w ↦
      let is = ap (λ (v : Vec Bar Global). v.items) w.bars-is ∙ w.in_ok-push.ensures.items in
      record {
        bars = is ∙ with_bar c.args.axis c.args.tech.now c.args.coords.now c.args.items.now c.args.self c.args.order.now
            c.loop-k.k-index w.in-Some.is_main w.bar.result c.loop-k.bars.items c.loop-k-test.true
            (sym c.role.ensures ∙ w.in-Some.is) w.bar.ensures.bar c.loop-k.invariant.bars;
        placed = rw is (All-push IsPlacedBar c.loop-k.bars.items w.bar.result c.loop-k.invariant.placed
            w.bar.ensures.placed);
      }
  | in_default w ↦
      let same = ap (λ (v : Vec Bar Global). v.items) w.bars-is in
      record {
        bars = same ∙ (c.loop-k.invariant.bars ∙ with_none c.args.axis c.args.tech.now c.args.coords.now
            c.args.items.now c.args.self c.args.order.now c.loop-k.k-index c.loop-k-test.true
            (ap (λ (r : Option Bool). is_some r) (sym c.role.ensures ∙ w.in_default.is)));
        placed = rw same c.loop-k.invariant.placed;
      }
]
