use Rattle.std.proofs.{Common.{◌≡◌, ℕ, List, take, ap, ◌∙◌, arith}, lemmas.List.take_all}
use Rattle.scan_line.{specs.Levels.lane_of, proofs.Meeting.lane_more}
use Rattle.scan_line.proofs.level.Level.new.Goals as goal

pub loop-p-preserved : goal.loop-p-preserved
loop-p-preserved c =
    let met = c.lanes_met-first in
    let pushed = c.in_ok-push_to_each.ensures in
    record {
      counted = pushed.counted ∙ c.loop-p.invariant.counted;
      lanes = λ axis k items are t lt. lane_more axis k items c.args.stretches c.args.order.now c.args.across.now _ _
          c.loop-p.p t met.result.0 met.result.1 _ _ c.loop-p-test.true are c.index-across-p.is
          (met.ensures.first, met.ensures.last)
          (c.loop-p.invariant.lanes axis k items are t (omega (arith, pushed.counted))) (pushed.each t);
    }

pub returns : goal.returns
returns c = λ axis k items are.
    let whole : take c.loop-p.p c.args.order.now ≡ c.args.order.now =
    take_all c.loop-p.p c.args.order.now (omega (arith, c.loop-p-test.false)) in
    record {
      level_is = record { cut = c.requires.cut; counted = c.loop-p.invariant.counted };
      lanes = λ t lt. c.loop-p.invariant.lanes axis k items are t lt
          ∙ ap (λ (ks : List ℕ). lane_of axis k items c.args.stretches ks t) whole;
    }
