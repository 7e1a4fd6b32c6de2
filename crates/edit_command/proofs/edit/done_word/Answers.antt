use Rattle.std.proofs.{Common.{◌≡◌, ◌∙◌, ap, sym, arith, to_z, of_z, w64}, lemmas.{Int.ints, List.get_or_default}}
use Rattle.std.specs.Prelude.{codes}
use Rattle.expand.specs.declared.master.Master.{Master}
use Rattle.pitch_join.specs.Masters.{no_master}
use Rattle.edit_command.proofs.Editing.{size_more, size_all}
use Rattle.edit_command.proofs.edit.done_word.Goals as goal

pub loop-m-preserved : goal.loop-m-preserved
loop-m-preserved c =
    let masters = c.args.masters.now in
    let m = c.loop-m.m in
    let wide : to_z w64 (of_z w64 c.width.result) ≡ c.width.result = let t =
    c.width.type_inv in omega (arith, ints, t) in
    let high : to_z w64 (of_z w64 c.height.result) ≡ c.height.result = let t =
    c.height.type_inv in omega (arith, ints, t) in
    let pushed = rw wide at c.in_ok-push_size.ensures in
    size_more masters c.args.layouts.now m (codes "done") c.loop-m.word.items _ c.index-masters-m.result
    c.bytes-name.result.now c.width.result c.height.result
    (c.index-masters-m.is ∙ get_or_default masters m _ no_master c.loop-m-test.true)
    (c.bytes-name.ensures ∙ ap (λ (z : Master). z.cell.name) (sym c.index-masters-m.is)) c.width.ensures
    c.height.ensures c.loop-m.invariant (rw high at pushed)

pub returns : goal.returns
returns c =
    size_all c.args.masters.now c.args.layouts.now c.loop-m.m (codes "done") c.loop-m.word.items
    (omega (arith, c.loop-m-test.false, c.loop-m.auto.m-end)) c.loop-m.invariant
