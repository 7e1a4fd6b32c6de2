use Rattle.std.proofs.Common.{◌≤ℤ◌, arith}
use Rattle.std.proofs.lemmas.Int.{ints}
use Rattle.bar_sweep.proofs.Begun.{same_again, begun_more, all_begun, next_is_late, starts_again}
use Rattle.bar_sweep.proofs.sweep.start_before.Goals as goal

pub returns-then-index-now-clause-all : goal.returns-then-index-now-clause-all
returns-then-index-now-clause-all c =
    let row = c.loop-next.row in
    let starts = c.args.starts.now in
    let i = c.loop-next.invariant in
    let are = starts_again c.args.row.now row starts i.same c.requires.starts in
    let t = c.if-index-now.true in
    let late : c.args.now ≤ℤ c.index.result.now.start = omega (arith, ints, t) in
    all_begun row starts c.loop-next.next c.args.now are i.begun
    (next_is_late row starts c.loop-next.next c.args.now c.index.result.now are c.index.ensures late)

pub loop-next-preserved : goal.loop-next-preserved
loop-next-preserved c =
    let s = c.start.ensures in
    let i = c.loop-next.invariant in
    let starts = c.args.starts.now in
    record {
      same = same_again c.args.row.now c.loop-next.row c.start.new.self i.same s.same;
      begun = begun_more c.loop-next.row c.start.new.self starts c.loop-next.next i.begun c.loop-next-test.true
          s.row s.begun s.others;
    }

pub returns-clause-all : goal.returns-clause-all
returns-clause-all c =
    let row = c.loop-next.row in
    let starts = c.args.starts.now in
    let i = c.loop-next.invariant in
    let e = c.loop-next-test.false in
    all_begun row starts c.loop-next.next c.args.now
    (starts_again c.args.row.now row starts i.same c.requires.starts) i.begun
    (λ d lt. absurd (omega (arith, e, lt)))
