use Rattle.std.proofs.{Common.{sym, ◌∙◌}, lemmas.{Result.IfOk-weaker, Slice.Zip.AllZip-long}}
use Rattle.par_phase.{specs.{Answers.AnswersAt, Taken.IsTaken}, proofs.Cuts.all_together}
use Rattle.par_phase.proofs.split.map_split.Goals as goal

pub returns-then-shares-eq1-clause-one_each : goal.returns-then-shares-eq1-clause-one_each
returns-then-shares-eq1-clause-one_each g c =
    IfOk-weaker c.map_in_turn.result _ _
    (λ all each. AllZip-long (AnswersAt g.F.Fn c.args.f.now) c.args.items.now all.items each) c.map_in_turn.ensures

-- each share has blocks with their answers, so all have
pub in_order-requires-clause-taken : goal.in_order-requires-clause-taken
in_order-requires-clause-taken g c =
    all_together (IsTaken g.F.Fn c.args.f.now c.args.items.now c.max.result) c.in_ok-parts.parts.items
    c.in_ok-taken.taken.items c.args.shares (sym c.in_ok-parts.parts.ok.0 ∙ c.in_ok-parts.ensures.len)
    (λ p d lt. (c.in_ok-parts.ensures.each p d lt).1.met) c.in_ok-taken.ensures

pub returns-clause-one_each : goal.returns-clause-one_each
returns-clause-one_each g c =
    IfOk-weaker c.in_order.result _ _
    (λ all each. AllZip-long (AnswersAt g.F.Fn c.args.f.now) c.args.items.now all.items each) c.in_order.ensures
