use Rattle.std.proofs.Common.{false, ◌≡◌, List, subst, sym, ap, ◌∙◌}
use Rattle.std.proofs.lemmas.Result.{on_ok_weaker}
use Rattle.bar_rows.specs.{declared.bars.Bar.Bar}
use Rattle.bar_sweep.specs.Sweeps.{turned_row}
use Rattle.bar_sweep.proofs.Turned.{IsTurned, row_turned, placed_turned, adds_turned, adds_both, all_seen}
use Rattle.bar_sweep.proofs.sweep.add_seen.Goals as goal

-- a row that was turned round
is_turned : (bars shown turned : List Bar) → shown ≡ bars → turned ≡ turned_row shown → IsTurned bars turned
is_turned bars shown turned e f = subst (IsTurned bars) (sym (f ∙ ap turned_row e)) (row_turned bars)

pub sweep-requires-2-clause-placed : goal.sweep-requires-2-clause-placed
sweep-requires-2-clause-placed c =
    placed_turned c.args.bars.items c.in_ok-turned.turned.items
    (is_turned c.args.bars.items c.deref-2.result.now c.in_ok-turned.turned.items c.deref-2.ensures.value
    c.in_ok-turned.ensures)
    c.requires.placed

pub returns-clause-adds : goal.returns-clause-adds
returns-clause-adds c =
    let turned = is_turned c.args.bars.items c.deref-2.result.now c.in_ok-turned.turned.items c.deref-2.ensures.value
    c.in_ok-turned.ensures in
    adds_both c.args.self_rule false c.args.bars.items c.args.found.now c.sweep.new.found c.sweep-2.new.found
    c.in_ok-sweep.ensures.adds
    (adds_turned c.args.self_rule c.args.bars.items c.in_ok-turned.turned.items turned c.sweep.new.found
    c.sweep-2.new.found c.sweep-2.ensures.adds)

pub returns-clause-all : goal.returns-clause-all
returns-clause-all c =
    let turned = is_turned c.args.bars.items c.deref-2.result.now c.in_ok-turned.turned.items c.deref-2.ensures.value
    c.in_ok-turned.ensures in
    on_ok_weaker c.sweep-2.result
    (λ second. all_seen c.args.self_rule c.args.bars.items c.in_ok-turned.turned.items turned c.sweep.new.found
    c.sweep-2.new.found c.in_ok-sweep.ensures.all c.sweep-2.ensures.adds second)
    c.sweep-2.ensures.all
