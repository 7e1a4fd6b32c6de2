use Rattle.std.proofs.{Common.{◌∙◌, arith, subst}, lemmas.Result.err_from_is_err_and}
use Rattle.std.{proofs.lemmas.List.{get_or_default, take_all}, specs.Prelude.All}
use Rattle.pitch_join.specs.Masters.{no_master}
use Rattle.pass_run.specs.Laid.{StartsClean}
use Rattle.design_masters.proofs.Counting.{all_next}
use Rattle.design_layouts.proofs.Layouts.{start_refused, own_clash}
use Rattle.design_layouts.proofs.layout.check_starts.Goals as goal

pub index-clash-requires : goal.index-clash-requires
index-clash-requires g c =
    let count = c.in_ok-clashes.ensures.one_each in
    let lt = c.loop-number-test.true in
    omega arith

pub check_start-requires-clause-clash : goal.check_start-requires-clause-clash
check_start-requires-clause-clash g c =
    let masters = c.args.masters.now in
    let number = c.loop-number.number in
    let lt = c.loop-number-test.true in
    own_clash c.args.tech.now masters number c.index-masters-number.result _ _ lt
    (c.index-masters-number.is ∙ get_or_default masters number _ no_master lt)
    c.in_ok-clashes.ensures c.index-clash.ensures

pub returns-in_err-check_start-clause-refused : goal.returns-in_err-check_start-clause-refused
returns-in_err-check_start-clause-refused g c =
    let p = err_from_is_err_and c.from_residual-in_err-check_start.result
    c.from_residual-in_err-check_start.ensures.1 in
    let masters = c.args.masters.now in
    let number = c.loop-number.number in
    let master = c.index-masters-number.result in
    rw p.1 (rw p.2 (start_refused c.args.tech.now masters number master _ _ c.loop-number-test.true
    (c.index-masters-number.is ∙ get_or_default masters number _ no_master c.loop-number-test.true)
    c.loop-number.invariant c.in_err-check_start.ensures.refused))

pub loop-number-preserved : goal.loop-number-preserved
loop-number-preserved g c =
    all_next (StartsClean c.args.tech.now) c.args.masters.now c.loop-number.number no_master
    c.index-masters-number.result c.loop-number-test.true
    (c.index-masters-number.is ∙ get_or_default c.args.masters.now c.loop-number.number _ no_master
    c.loop-number-test.true) c.loop-number.invariant c.in_ok-check_start.ensures.clean

pub returns-clause-clean : goal.returns-clause-clean
returns-clause-clean g c =
    subst (λ ms. All (StartsClean c.args.tech.now) ms)
    (take_all c.loop-number.number c.args.masters.now c.loop-number-test.false) c.loop-number.invariant
