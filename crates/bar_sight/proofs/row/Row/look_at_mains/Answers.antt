use Rattle.std.proofs.Common.{◌≤ℤ◌, ◌+ℤ◌, ◌≤◌, ◌+◌, pos, true, arith, w64, to_z, of_z}
use Rattle.std.proofs.lemmas.Int.{ints, to_z-of_z}
use Rattle.std.specs.List.{Contains}
use Rattle.pair_set.specs.Sets.{pairs_of}
use Rattle.bar_rows.specs.Rows.{bar_at, numbers_of}
use Rattle.bar_sight.specs.Looks.{IsNext}
use Rattle.bar_sight.proofs.Found.{adds_none, adds_more, all_found}
use Rattle.bar_sight.proofs.Steps.{main_fits, not_sought, looked, passed_from, left_from, mains_found}
use Rattle.bar_sight.proofs.row.Row.look_at_mains.Goals as goal

pub next_main-requires-clause-all : goal.next_main-requires-clause-all
next_main-requires-clause-all c = λ q s.
    let same = c.as_slice-bars.ensures.value in
    main_fits c.args.self.now c.args.place c.loop-next.from _ _ c.key_of.result c.contacts_of.result q c.requires.row
    (omega (arith, ints)) (rw same at c.key_of.ensures) (rw same at c.contacts_of.ensures) s

pub loop-next-preserved-then-not-faces : goal.loop-next-preserved-then-not-faces
loop-next-preserved-then-not-faces c =
    let row = c.args.self.now in
    let place = c.args.place in
    let above = to_z w64 (of_z w64 c.args.above) in
    let low : (bar_at row.bars.items place).end ≤ℤ (above +ℤ pos 1) =
    rw (to_z-of_z w64 c.args.above c.ranges.above) c.requires.above in
    let from = c.loop-next.from in
    let p = c.in-Some.next in
    let h = c.loop-next.invariant in
    let found = c.loop-next.found in
    let next : IsNext row place above from c.loop-next.passed p = c.in-Some.ensures in
    let after = h.after in
    let behind = next.after in
    let on : from ≤ p + 1 = omega (arith, behind) in
    record {
      after = omega (arith, after, behind);
      few = h.few;
      adds = h.adds;
      found = mains_found row place above from p c.loop-next.passed found found (adds_none row place found) h.passed
          next
          (not_sought row place above true c.faces.result p
          (Contains (pairs_of found) (numbers_of row.turned row.bars.items place p))
          (rw c.as_slice-bars.ensures.value at c.faces.ensures) c.if-not-faces.true)
          h.found;
      passed = passed_from row place above from (p + 1) c.loop-next.passed on h.passed;
      left = left_from row place above from (p + 1) c.loop-next.left on h.left;
      clear = h.clear;
    }

pub returns-in_err-screen-clause-adds : goal.returns-in_err-screen-clause-adds
returns-in_err-screen-clause-adds c =
    adds_more c.args.self.now c.args.place c.args.found.now c.loop-next.found c.look.new.found
    c.loop-next.invariant.adds c.look.ensures.adds

pub loop-next-preserved : goal.loop-next-preserved
loop-next-preserved c =
    let row = c.args.self.now in
    let place = c.args.place in
    let above = to_z w64 (of_z w64 c.args.above) in
    let low : (bar_at row.bars.items place).end ≤ℤ (above +ℤ pos 1) =
    rw (to_z-of_z w64 c.args.above c.ranges.above) c.requires.above in
    let from = c.loop-next.from in
    let p = c.in-Some.next in
    let h = c.loop-next.invariant in
    let new = c.look.new.found in
    let next : IsNext row place above from c.loop-next.passed p = c.in-Some.ensures in
    let after = h.after in
    let behind = next.after in
    let on : from ≤ p + 1 = omega (arith, behind) in
    record {
      after = omega (arith, after, behind);
      few = c.in_ok-screen.ensures.few;
      adds = adds_more row place c.args.found.now c.loop-next.found new h.adds c.look.ensures.adds;
      found = mains_found row place above from p c.loop-next.passed c.loop-next.found new c.look.ensures.adds h.passed
          next
          (looked row place above true p c.in_ok-screen.screen
          (Contains (pairs_of new) (numbers_of row.turned row.bars.items place p)) c.in_ok-screen.ensures.screen)
          h.found;
      passed = c.pass-passed.ensures above low
          (passed_from row place above from (p + 1) c.loop-next.passed on h.passed);
      left = c.in-Some-left_behind.ensures above low next.ends
          (left_from row place above from (p + 1) c.loop-next.left on h.left);
      clear = c.look.ensures.clear;
    }

pub returns-in-None-clause-adds : goal.returns-in-None-clause-adds
returns-in-None-clause-adds c =
    adds_more c.args.self.now c.args.place c.args.found.now c.loop-next.found c.look.new.found
    c.loop-next.invariant.adds c.look.ensures.adds

pub returns-in-None-clause-all : goal.returns-in-None-clause-all
returns-in-None-clause-all c =
    let row = c.args.self.now in
    let place = c.args.place in
    let above = to_z w64 (of_z w64 c.args.above) in
    let low : (bar_at row.bars.items place).end ≤ℤ (above +ℤ pos 1) =
    rw (to_z-of_z w64 c.args.above c.ranges.above) c.requires.above in
    let from = c.loop-next.from in
    let p = c.in-Some.next in
    let h = c.loop-next.invariant in
    let new = c.look.new.found in
    let next : IsNext row place above from c.loop-next.passed p = c.in-Some.ensures in
    let behind = next.after in
    let on : from ≤ p + 1 = omega (arith, behind) in
    λ q main sees varies ends.
    all_found row place above (p + 1) true new
    (mains_found row place above from p c.loop-next.passed c.loop-next.found new c.look.ensures.adds h.passed next
    (looked row place above true p c.in_ok-screen.screen
    (Contains (pairs_of new) (numbers_of row.turned row.bars.items place p)) c.in_ok-screen.ensures.screen)
    h.found)
    (c.in-None.ensures above low next.ends
    (left_from row place above from (p + 1) c.loop-next.left on h.left))
    q main sees varies (rw (to_z-of_z w64 c.args.above c.ranges.above) ends)

pub returns-clause-all : goal.returns-clause-all
returns-clause-all c = λ q main sees varies ends.
    let row = c.args.self.now in
    let above = to_z w64 (of_z w64 c.args.above) in
    let h = c.loop-next.invariant in
    all_found row c.args.place above c.loop-next.from true c.loop-next.found h.found
    (λ k s. h.passed.hidden k s (c.in_default.ensures k s))
    q main sees varies (rw (to_z-of_z w64 c.args.above c.ranges.above) ends)
