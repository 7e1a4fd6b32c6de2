use Rattle.std.proofs.Common.{◌∙◌, true, false, sym, subst, FitsSigned, w64, ⊎_elim, rules}
use Rattle.cif_read.specs.{Readers.IsCauseOfStop, Readings.state_of}
use Rattle.cif_read.proofs.{Calling.{ok_weaker, err_weaker}, Commands.{nothing_is, extension_is, define_is, finish_is}}
use Rattle.cif_read.proofs.{Commands.{layer_is, area_is, call_is, barred_is}, Sound.barred_by}
use Rattle.cif_read.proofs.state.Reading.act.Goals as goal

pub returns-in-Nothing-clause-done : goal.returns-in-Nothing-clause-done
returns-in-Nothing-clause-done c =
    let state = state_of c.args.self.now in
    ⊎_elim (nothing_is c.args.dialect state c.args.command) (extension_is c.args.dialect state c.args.command)
    c.in-Nothing.is

pub returns-in-Define-clause-done : goal.returns-in-Define-clause-done
returns-in-Define-clause-done c =
    let d = c.in-Define in
    let n : FitsSigned w64 d.number = search rules in
    let above : FitsSigned w64 d.above = search rules in
    let below : FitsSigned w64 d.below = search rules in
    let same = define_is c.args.dialect (state_of c.args.self.now) c.args.command d.number d.above d.below d.is n
    above below in
    ok_weaker c.define.result _ _ (λ done. same ∙ done) c.define.ensures.done

pub returns-in-Define-clause-refused : goal.returns-in-Define-clause-refused
returns-in-Define-clause-refused c =
    let d = c.in-Define in
    let n : FitsSigned w64 d.number = search rules in
    let above : FitsSigned w64 d.above = search rules in
    let below : FitsSigned w64 d.below = search rules in
    let same = define_is c.args.dialect (state_of c.args.self.now) c.args.command d.number d.above d.below d.is n
    above below in
    err_weaker c.define.result _ _ (λ stop h. subst (λ answer. IsCauseOfStop answer stop) (sym same) h)
    c.define.ensures.refused

pub returns-in-Finish-clause-done : goal.returns-in-Finish-clause-done
returns-in-Finish-clause-done c =
    let same = finish_is c.args.dialect (state_of c.args.self.now) c.args.command c.in-Finish.is in
    ok_weaker c.finish.result _ _ (λ done. same ∙ done) c.finish.ensures.done

pub returns-in-Finish-clause-refused : goal.returns-in-Finish-clause-refused
returns-in-Finish-clause-refused c =
    let same = finish_is c.args.dialect (state_of c.args.self.now) c.args.command c.in-Finish.is in
    err_weaker c.finish.result _ _ (λ stop h. subst (λ answer. IsCauseOfStop answer stop) (sym same) h)
    c.finish.ensures.refused

pub returns-in-Layer-clause-done : goal.returns-in-Layer-clause-done
returns-in-Layer-clause-done c =
    layer_is c.args.dialect (state_of c.args.self.now) c.args.command c.in-Layer.layer c.in-Layer.is

pub returns-in-Area-clause-done : goal.returns-in-Area-clause-done
returns-in-Area-clause-done c =
    let d = c.in-Area in
    let l : FitsSigned w64 d.l = search rules in
    let w : FitsSigned w64 d.w = search rules in
    let x : FitsSigned w64 d.x = search rules in
    let y : FitsSigned w64 d.y = search rules in
    let same = area_is c.args.dialect (state_of c.args.self.now) c.args.command d.l d.w d.x d.y d.is l w x y in
    ok_weaker c.area.result _ _ (λ done. same ∙ done) c.area.ensures.done

pub returns-in-Area-clause-refused : goal.returns-in-Area-clause-refused
returns-in-Area-clause-refused c =
    let d = c.in-Area in
    let l : FitsSigned w64 d.l = search rules in
    let w : FitsSigned w64 d.w = search rules in
    let x : FitsSigned w64 d.x = search rules in
    let y : FitsSigned w64 d.y = search rules in
    let same = area_is c.args.dialect (state_of c.args.self.now) c.args.command d.l d.w d.x d.y d.is l w x y in
    err_weaker c.area.result _ _ (λ stop h. subst (λ answer. IsCauseOfStop answer stop) (sym same) h)
    c.area.ensures.refused

pub returns-then-bars-clause-refused : goal.returns-then-bars-clause-refused
returns-then-bars-clause-refused c =
    let d = c.in-Call in
    let r = c.args.self.now in
    barred_is c.args.dialect (state_of r) c.args.command d.number d.place d.bad d.turned d.divisor d.is
    (barred_by c.args.dialect d.turned c.is_some.result r.begun true c.is_some.ensures c.if-bars.ensures)

pub returns-else-bars-clause-done : goal.returns-else-bars-clause-done
returns-else-bars-clause-done c =
    let d = c.in-Call in
    let n : FitsSigned w64 d.number = search rules in
    let r = c.args.self.now in
    let known = barred_by c.args.dialect d.turned c.is_some.result r.begun false c.is_some.ensures c.if-bars.ensures in
    let same = call_is c.args.dialect (state_of r) c.args.command d.number d.place d.bad d.turned d.divisor d.is known
    n in
    ok_weaker c.call.result _ _ (λ done. same ∙ done) c.call.ensures.done

pub returns-else-bars-clause-refused : goal.returns-else-bars-clause-refused
returns-else-bars-clause-refused c =
    let d = c.in-Call in
    let n : FitsSigned w64 d.number = search rules in
    let r = c.args.self.now in
    let known = barred_by c.args.dialect d.turned c.is_some.result r.begun false c.is_some.ensures c.if-bars.ensures in
    let same = call_is c.args.dialect (state_of r) c.args.command d.number d.place d.bad d.turned d.divisor d.is known
    n in
    err_weaker c.call.result _ _ (λ stop h. subst (λ answer. IsCauseOfStop answer stop) (sym same) h)
    c.call.ensures.refused
