use Rattle.std.proofs.Common.{rules, w64, FitsSigned}
use Rattle.std.proofs.lemmas.Int.{to_z-of_z}
use Rattle.bar_sight.proofs.Nexts.{next_of_all, next_of_both}
use Rattle.bar_sight.proofs.row.Row.next_main.Goals as goal

pub returns-then-passed-eq-LOW : goal.returns-then-passed-eq-LOW
returns-then-passed-eq-LOW c =
    next_of_all c.args.self.now c.args.place c.args.from c.args.all.now c.args.passed c.find.result (record {
      is_row = c.requires.row;
      begun = c.requires.begun;
      fits = c.requires.all;
    })
    (rw c.as_slice-bars.ensures.value at c.find.ensures)

pub returns : goal.returns
returns c =
    let above : FitsSigned w64 c.args.all.now.above = search rules in
    let from : FitsSigned w64 c.args.all.now.from = search rules in
    let late : FitsSigned w64 c.args.passed.late = search rules in
    let same = c.as_slice-bars.ensures.value in
    let found = rw (
      same,
      to_z-of_z w64 c.args.all.now.above above,
      to_z-of_z w64 c.args.all.now.from from,
      c.unwrap_or-end.ensures,
      same,
    ) at c.find-2.ensures in
    rw c.or.ensures
    (next_of_both c.args.self.now c.args.place c.args.from c.args.all.now c.args.passed c.find-next.result c.find-2.result
    (record { is_row = c.requires.row; begun = c.requires.begun; fits = c.requires.all })
    (rw (same, to_z-of_z w64 c.args.all.now.above above, to_z-of_z w64 c.args.passed.late late) at c.find-next.ensures)
    found)
