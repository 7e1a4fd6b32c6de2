use Rattle.std.proofs.Common.{sym, subst, arith}
use Rattle.cif_read.{specs.{declared.ahead.Ready.Ready, Ahead.AreReady}, proofs.Portions.{goes_on, ready_push}}
use Rattle.cif_read.proofs.ahead.portion_of.Goals as goal

pub loop-to-preserved : goal.loop-to-preserved
loop-to-preserved c =
    let text = c.args.bytes.now in
    let from = c.args.stretch.now.from in
    let w = c.in-Whole in
    let ready : Ready = record { begin = w.begin; command = w.command; after = w.after } in
    let before = c.loop-to.invariant in
    record {
      ready = subst (λ rs. AreReady text from rs w.after) (sym c.in_ok-push.ensures.items)
          (ready_push text from c.loop-to.to c.loop-to.commands.items ready before.ready w.ensures);
      within = (goes_on text c.loop-to.to ready w.ensures).1;
    }

pub loop-to-smaller : goal.loop-to-smaller
loop-to-smaller c =
    let w = c.in-Whole in
    let ready : Ready = record { begin = w.begin; command = w.command; after = w.after } in
    omega (arith, goes_on c.args.bytes.now c.loop-to.to ready w.ensures)
