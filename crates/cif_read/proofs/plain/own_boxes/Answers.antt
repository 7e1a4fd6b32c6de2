use Rattle.std.proofs.Common.{◌≡◌, ◌+◌, ◌<◌, length, take, sym, subst, arith}
use Rattle.cif_read.{specs.Narrow.own_boxes, proofs.Narrowing.{own_pushed, none_pushed}}
use Rattle.cif_read.proofs.plain.own_boxes.Goals.{in-Own+in_ok-push-in-Own, in-Called}
use Rattle.cif_read.proofs.plain.own_boxes.Goals as goal

pub loop-i-preserved : goal.loop-i-preserved
loop-i-preserved c =
    let steps = c.args.steps.now in
    let i = c.loop-i.i in
    let step = c.get.result in
    let lt : i < length steps = omega (arith, c.loop-i-test.true) in
    let at = c.get.ensures step in
    let was = c.loop-i.invariant in
    elim c.match-get.branch [
      | in-Own+in_ok-push-in-Own w ↦
          subst (λ v. v.items ≡ own_boxes (take (i + 1) steps)) (sym w.boxes-is)
          (own_pushed steps i step w.in-Own.mask c.loop-i.boxes.items w.push.new.self.items lt at w.in-Own.is was
          w.in_ok-push-in-Own.ensures.items)
      | in-Called w ↦ subst (λ v. v.items ≡ own_boxes (take (i + 1) steps)) (sym w.boxes-is)
          (none_pushed steps i step _ _ _ _ c.loop-i.boxes.items lt at w.in-Called.is was)
    ]
