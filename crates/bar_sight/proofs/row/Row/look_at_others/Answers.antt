use Rattle.std.proofs.Common.{◌≡◌, ◌≤ℤ◌, ◌+ℤ◌, ◌≤◌, ◌+◌, pos, false, arith, w64, to_z, of_z}
use Rattle.std.proofs.{lemmas.Int.{ints, to_z-of_z}}
use Rattle.std.specs.List.{Contains}
use Rattle.pair_set.specs.Sets.{pairs_of}
use Rattle.bar_rows.specs.Rows.{bar_at, numbers_of}
use Rattle.bar_sight.specs.Looks.{IsNextOther}
use Rattle.bar_sight.proofs.Found.{adds_none, adds_more, all_found, none_found}
use Rattle.bar_sight.proofs.Steps.{sought_nearer, not_sought, looked, late_from, others_found, late_low}
use Rattle.bar_sight.proofs.Steps.{nearest_found, others_end}
use Rattle.bar_sight.proofs.row.Row.look_at_others.Goals as goal

pub returns-in_default-clause-all : goal.returns-in_default-clause-all
returns-in_default-clause-all c = λ q other sees varies ends.
    let row = c.args.self.now in
    let place = c.args.place in
    let above = to_z w64 (of_z w64 c.args.above) in
    let none = c.in_default.ensures in
    all_found row place above (place + 1) false c.args.found.now (none_found row place above false c.args.found.now)
    (λ k s. late_low row place above (place + 1) _ c.requires.row (omega (arith, ints)) k s
    (none k s (let among = s.sees.among in rw c.as_slice-bars.ensures.value among)))
    q other sees varies (rw (to_z-of_z w64 c.args.above c.ranges.above) ends)

pub loop-next-init : goal.loop-next-init
loop-next-init c =
    let row = c.args.self.now in
    let place = c.args.place in
    let above = to_z w64 (of_z w64 c.args.above) in
    let nearest = c.in-Some.nearest in
    let next = c.in-Some.ensures in
    let behind = next.after in
    record {
      after = omega (arith, behind);
      few = c.requires.few;
      adds = adds_none row place c.args.found.now;
      found = nearest_found row place above _ nearest _ c.args.found.now c.requires.row (omega (arith, ints)) next;
      late = late_low row place above nearest _ c.requires.row (omega (arith, ints));
      clear = c.clear_from-clear.ensures row;
    }

pub loop-next-preserved-then-not-faces : goal.loop-next-preserved-then-not-faces
loop-next-preserved-then-not-faces c =
    let row = c.args.self.now in
    let place = c.args.place in
    let above = to_z w64 (of_z w64 c.args.above) in
    let from = c.loop-next.from in
    let late = to_z w64 c.loop-next.late-bits in
    let end = c.end_of_others-end.result in
    let p = c.in-Some-next_other.next in
    let h = c.loop-next.invariant in
    let found = c.loop-next.found in
    let next : IsNextOther row place above late from end p = c.in-Some-next_other.ensures in
    let after = h.after in
    let behind = next.after in
    let on : from ≤ p + 1 = omega (arith, behind) in
    record {
      after = omega (arith, after, behind);
      few = h.few;
      adds = h.adds;
      found = others_found row place above from end p late found found (adds_none row place found) h.late next
          (not_sought row place above false c.faces.result p
          (Contains (pairs_of found) (numbers_of row.turned row.bars.items place p))
          (rw c.as_slice-bars.ensures.value at c.faces.ensures) c.if-not-faces.true)
          h.found;
      late = late_from row place above from (p + 1) late on h.late;
      clear = h.clear;
    }

pub returns-in_err-screen-clause-adds : goal.returns-in_err-screen-clause-adds
returns-in_err-screen-clause-adds c =
    adds_more c.args.self.now c.args.place c.args.found.now c.loop-next.found c.look.new.found
    c.loop-next.invariant.adds c.look.ensures.adds

pub loop-next-preserved : goal.loop-next-preserved
loop-next-preserved c =
    let row = c.args.self.now in
    let place = c.args.place in
    let above = to_z w64 (of_z w64 c.args.above) in
    let low : (bar_at row.bars.items place).end ≤ℤ (above +ℤ pos 1) =
    rw (to_z-of_z w64 c.args.above c.ranges.above) c.requires.above in
    let from = c.loop-next.from in
    let late = to_z w64 c.loop-next.late-bits in
    let end = c.end_of_others-end.result in
    let p = c.in-Some-next_other.next in
    let h = c.loop-next.invariant in
    let new = c.look.new.found in
    let next : IsNextOther row place above late from end p = c.in-Some-next_other.ensures in
    let after = h.after in
    let behind = next.after in
    let on : from ≤ p + 1 = omega (arith, behind) in
    record {
      after = omega (arith, after, behind);
      few = c.in_ok-screen.ensures.few;
      adds = adds_more row place c.args.found.now c.loop-next.found new h.adds c.look.ensures.adds;
      found = others_found row place above from end p late c.loop-next.found new c.look.ensures.adds h.late next
          (looked row place above false p c.in_ok-screen.screen
          (Contains (pairs_of new) (numbers_of row.turned row.bars.items place p)) c.in_ok-screen.ensures.screen)
          h.found;
      late = rw (to_z-of_z w64 c.pass_other-late.result (record { sfits = c.pass_other-late.type_inv }))
          (c.pass_other-late.ensures above low (late_from row place above from (p + 1) late on h.late));
      clear = c.look.ensures.clear;
    }

pub end_of_others-end-requires-clause-above : goal.end_of_others-end-requires-clause-above
end_of_others-end-requires-clause-above c =
    let is = c.before_end-near.ensures in
    omega (arith, ints, is)

pub returns-clause-all : goal.returns-clause-all
returns-clause-all c = λ q other sees varies ends.
    let row = c.args.self.now in
    let place = c.args.place in
    let above = to_z w64 (of_z w64 c.args.above) in
    let near = to_z w64 (of_z w64 c.before_end-near.result) in
    let is : (near +ℤ pos 1) ≡ (bar_at row.bars.items place).end =
    rw (to_z-of_z w64 c.before_end-near.result (record { sfits = c.before_end-near.type_inv })) c.before_end-near.ensures
    in
    let low : (bar_at row.bars.items place).end ≤ℤ (near +ℤ pos 1) = omega (arith, ints, is) in
    let under : (bar_at row.bars.items place).end ≤ℤ (above +ℤ pos 1) =
    rw (to_z-of_z w64 c.args.above c.ranges.above) c.requires.above in
    let nearer : near ≤ℤ above = omega (arith, ints, is, under) in
    let from = c.loop-next.from in
    let late = to_z w64 c.loop-next.late-bits in
    let end = c.end_of_others-end.result in
    let h = c.loop-next.invariant in
    all_found row place above from false c.loop-next.found h.found
    (others_end row place above from end late h.late c.in_default-next_other.ensures
    (λ k s. c.end_of_others-end.ensures.none k (sought_nearer row place above near end false k nearer s)))
    q other sees varies (rw (to_z-of_z w64 c.args.above c.ranges.above) ends)
