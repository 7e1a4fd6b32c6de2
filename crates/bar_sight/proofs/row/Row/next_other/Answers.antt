use Rattle.std.proofs.{Common.{w64}, lemmas.Int.to_z-of_z}
use Rattle.bar_sight.proofs.Steps.{other_next}
use Rattle.bar_sight.proofs.row.Row.next_other.Goals as goal

pub returns : goal.returns
returns c =
    other_next c.args.self.now c.args.place c.args.from c.args.end c.args.above c.args.late c.find.result c.requires.row
    c.requires.main c.requires.begun
    (rw (
      c.as_slice-bars.ensures.value,
      to_z-of_z w64 c.args.above c.ranges.above,
      to_z-of_z w64 c.args.late c.ranges.late,
    ) at c.find.ensures)
