use Rattle.std.proofs.{Common.arith, lemmas.Fn.says_at}
use Rattle.par_phase.{specs.Answers.AnswersAt, proofs.Cuts.one_more}
use Rattle.par_phase.proofs.split.map_in_turn.Goals as goal

pub loop-item-preserved : goal.loop-item-preserved
loop-item-preserved g c =
    let at : AnswersAt g.F.Fn c.args.f.now c.item-item.result c.in_ok-f.field-0 =
    says_at g.F.Fn c.f.ensures c.in_ok-f.was in
    one_more (AnswersAt g.F.Fn c.args.f.now) c.args.items.now c.loop-item.answers.items _ c.loop-item.item-index
    c.item-item.result _ (omega arith) c.item-item.is c.loop-item.invariant at c.in_ok-push.ensures.items
