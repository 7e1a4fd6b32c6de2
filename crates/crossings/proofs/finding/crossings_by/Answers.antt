use Rattle.std.proofs.Common.{ℕ, ◌+◌, ◌<◌, sym, subst, inl, inr, Vec, Global, arith}
use Rattle.std.proofs.lemmas.Result.{err_from_is_err_and}
use Rattle.crossing_model.specs.{declared.crossing.Crossing.Crossing, Crossings.IsMeeting}
use Rattle.crossings.{specs.Pairs.{AreCrossingsBelow, IsCrossed, IsSettled, StandsAs}, proofs.InOrder.below_skip}
use Rattle.crossings.proofs.{InOrder.{below_push, below_all}, Settled.{clear_settles, crossed_settles, poly_meets}}
use Rattle.crossings.proofs.Settled.{poly_no_diffusion, settled_more, all_settled, first_bad, crossing_before_bad}
use Rattle.crossings.proofs.finding.crossings_by.Goals.{in-Crosses+then-pair-number+in_ok-add_crossing-in-Crosses}
use Rattle.crossings.proofs.finding.crossings_by.Goals.{in-Crosses+else-pair-number, in-Clear}
use Rattle.crossings.proofs.finding.crossings_by.Goals as goal

pub returns-in-Bad-clause-fault : goal.returns-in-Bad-clause-fault
returns-in-Bad-clause-fault c =
    let tech = c.args.tech.now in
    let boxes = c.args.boxes.now in
    let number = c.loop-number.number in
    let bad = subst (StandsAs tech boxes number) c.in-Bad.is c.standing_of.ensures in
    first_bad tech boxes number c.in-Bad.other c.loop-number.invariant.1 bad.0 bad.1

pub returns-in_err-add_crossing-in-Crosses-clause-fault : goal.returns-in_err-add_crossing-in-Crosses-clause-fault
returns-in_err-add_crossing-in-Crosses-clause-fault c =
    let tech = c.args.tech.now in
    let boxes = c.args.boxes.now in
    let number = c.loop-number.number in
    let pair = c.in-Crosses.pair in
    let axis = c.in-Crosses.axis in
    let crossed = subst (StandsAs tech boxes number) c.in-Crosses.is c.standing_of.ensures in
    let own = subst (λ (n : ℕ). IsCrossed tech boxes n pair.poly pair.diffusion axis) (sym c.if-pair-number.true)
    crossed in
    let below = subst (λ (n : ℕ). (a : ℕ) → a < n → IsSettled tech boxes a) (sym c.if-pair-number.true)
    c.loop-number.invariant.1 in
    let p = err_from_is_err_and c.from_residual.result c.from_residual.ensures.1 in
    rw p.1 (rw p.2 (crossing_before_bad tech boxes pair.poly pair.diffusion axis below own))

pub loop-number-preserved : goal.loop-number-preserved
loop-number-preserved c =
    let tech = c.args.tech.now in
    let boxes = c.args.boxes.now in
    let n = c.loop-number.number in
    let old = c.loop-number.crossings.items in
    let invariant = c.loop-number.invariant in
    elim c.match-standing_of.branch [
      | in-Crosses+then-pair-number+in_ok-add_crossing-in-Crosses w ↦
          let pair = w.in-Crosses.pair in
          let crossed = subst (StandsAs tech boxes n) w.in-Crosses.is c.standing_of.ensures in
          let settled = crossed_settles tech boxes n pair.poly pair.diffusion w.in-Crosses.axis crossed in
          let only = λ (p : ℕ) (h : IsMeeting tech boxes p n).
          poly_meets tech boxes pair.poly pair.diffusion p crossed.meeting crossed.proper
          (subst (λ (k : ℕ). IsMeeting tech boxes p k) (sym w.if-pair-number.true) h) in
          let below = below_push tech boxes n pair old _ invariant.0 w.in_ok-add_crossing-in-Crosses.ensures
          w.if-pair-number.true only in (
            subst (λ (v : Vec Crossing Global). AreCrossingsBelow tech boxes (n + 1) v.items) (sym w.crossings-is)
                below,
            settled_more tech boxes n invariant.1 settled,
          )
      | in-Crosses+else-pair-number w ↦
          let pair = w.in-Crosses.pair in
          let crossed = subst (StandsAs tech boxes n) w.in-Crosses.is c.standing_of.ensures in
          let settled = crossed_settles tech boxes n pair.poly pair.diffusion w.in-Crosses.axis crossed in
          let none = λ (p : ℕ) (h : IsMeeting tech boxes p n). elim crossed.one as (λ _. ⊥) [
            | inl at ↦ poly_no_diffusion tech boxes pair.poly pair.diffusion p n crossed.meeting h at
            | inr at ↦ w.if-pair-number.false at
          ] in
          let below = below_skip tech boxes n old invariant.0 none in (
            subst (λ (v : Vec Crossing Global). AreCrossingsBelow tech boxes (n + 1) v.items) (sym w.crossings-is)
                below,
            settled_more tech boxes n invariant.1 settled,
          )
      | in-Clear w ↦
          let clear = subst (StandsAs tech boxes n) w.in-Clear.is c.standing_of.ensures in
          let below = below_skip tech boxes n old invariant.0 (λ p h. clear p (inr h)) in (
            subst (λ (v : Vec Crossing Global). AreCrossingsBelow tech boxes (n + 1) v.items) (sym w.crossings-is)
                below,
            settled_more tech boxes n invariant.1 (clear_settles tech boxes n clear),
          )
    ]

pub returns-clause-proper : goal.returns-clause-proper
returns-clause-proper c = all_settled c.args.tech.now c.args.boxes.now c.loop-number.number (omega arith)
    c.loop-number.invariant.1

pub returns-clause-crossings : goal.returns-clause-crossings
returns-clause-crossings c =
    below_all c.args.tech.now c.args.boxes.now c.loop-number.number c.loop-number.crossings.items (omega arith)
    c.loop-number.invariant.0
