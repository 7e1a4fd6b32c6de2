use Rattle.std.proofs.Common.{◌+◌, ◌≤◌, true, false, length, sym, subst, arith}
use Rattle.cif_read.specs.{Readers.{end_inside, filled, unclosed, IsCauseBy}, Meaning.reader_of, Readings.state_of}
use Rattle.cif_read.{specs.Readings.definition_of, proofs.Beginnings.{begin_within, begun_from, means_whole}}
use Rattle.cif_read.proofs.reading.read_end.Goals as goal

pub returns-then-is_some-clause-fault : goal.returns-then-is_some-clause-fault
returns-then-is_some-clause-fault c =
    let r = c.args.reading.now in
    let so_far = c.requires.so_far in
    let begun = begun_from definition_of r.begun true c.if-is_some.ensures in
    subst (IsCauseBy (reader_of c.args.dialect) c.args.bytes.now) (sym c.fault_at.ensures)
    (record {
      read = so_far.read;
      state = state_of r;
      well = so_far.reading.well;
      is_fault = end_inside c.args.begin so_far.ended begun;
    })

pub fault_at-requires-in-Filled : goal.fault_at-requires-in-Filled
fault_at-requires-in-Filled c =
    let tail = c.in-Filled.ensures in
    let inside : c.args.begin + 1 ≤ length c.args.bytes.now = omega (arith, c.requires.so_far.ended.2) in
    omega (arith, begin_within c.args.bytes.now tail.0 (c.args.begin + 1) c.in-Filled.begin inside tail.1)

pub returns-in-Clean-clause-means : goal.returns-in-Clean-clause-means
returns-in-Clean-clause-means c =
    let r = c.args.reading.now in
    let so_far = c.requires.so_far in
    means_whole (reader_of c.args.dialect) c.args.bytes.now so_far.read c.args.begin (state_of r) so_far.reading.well
    so_far.ended c.in-Clean.ensures (begun_from definition_of r.begun false c.if-is_some.ensures)

pub returns-in-Filled-clause-fault : goal.returns-in-Filled-clause-fault
returns-in-Filled-clause-fault c =
    let r = c.args.reading.now in
    let so_far = c.requires.so_far in
    subst (IsCauseBy (reader_of c.args.dialect) c.args.bytes.now) (sym c.fault_at-in-Filled.ensures)
    (record {
      read = so_far.read;
      state = state_of r;
      well = so_far.reading.well;
      is_fault = filled c.args.begin c.in-Filled.begin so_far.ended
          (begun_from definition_of r.begun false c.if-is_some.ensures) c.in-Filled.ensures;
    })

pub returns-in-Unclosed-clause-fault : goal.returns-in-Unclosed-clause-fault
returns-in-Unclosed-clause-fault c =
    let r = c.args.reading.now in
    let so_far = c.requires.so_far in
    subst (IsCauseBy (reader_of c.args.dialect) c.args.bytes.now) (sym c.fault_at-in-Unclosed.ensures)
    (record {
      read = so_far.read;
      state = state_of r;
      well = so_far.reading.well;
      is_fault = unclosed c.args.begin so_far.ended (begun_from definition_of r.begun false c.if-is_some.ensures)
          c.in-Unclosed.ensures;
    })
