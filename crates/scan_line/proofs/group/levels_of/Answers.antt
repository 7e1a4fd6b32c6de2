use Rattle.std.proofs.{Common.{◌∙◌, ap, length}, lemmas.List.Elements.All-push}
use Rattle.scan_line.{specs.{declared.level.Level.Level, Levels.IsLevelOf}, proofs.Meeting.places_len}
use Rattle.scan_line.proofs.group.levels_of.Goals as goal

pub new-requires-clause-each : goal.new-requires-clause-each
new-requires-clause-each c =
    ap length c.deref-in-loop.ensures.value
    ∙ places_len c.args.axis c.args.coords.now c.args.items.now c.args.order.now c.in_ok-across.across.items
    c.in_ok-across.ensures

pub loop-preserved : goal.loop-preserved
loop-preserved c =
    let P : Level → Type 0 = IsLevelOf c.args.axis c.args.coords.now c.args.items.now c.args.order.now in
    record {
      cut = c.longer-stretches.ensures;
      made = rw c.in_ok-push.ensures.items
          (All-push P c.loop.levels.items c.in_ok-new.field-0 c.loop.invariant.made
          (c.in_ok-new.ensures c.args.axis c.args.coords.now c.args.items.now
          (rw c.deref-in-loop.ensures.value c.in_ok-across.ensures)));
    }
