use Rattle.std.proofs.Common.{sym, subst}
use Rattle.cif_read.specs.{Readers.{no_command, cut, missing, IsCauseBy}, Meaning.reader_of, Readings.state_of}
use Rattle.cif_read.proofs.{Sound.turn_of, Beginnings.cause_of_cut}
use Rattle.cif_read.proofs.reading.read_next.Goals as goal

pub returns-in-Ok-clause-fault : goal.returns-in-Ok-clause-fault
returns-in-Ok-clause-fault c =
    let text = c.args.bytes.now in
    let so_far = c.requires.so_far in
    subst (IsCauseBy (reader_of c.args.dialect) text) (sym c.fault_at.ensures)
    (record {
      read = c.args.read.now;
      state = state_of c.args.reading.now;
      well = so_far.well;
      is_fault = cut c.in-Cut.begin c.in-Cut.command (state_of c.act.new.self) c.in-Cut.ensures
          c.in-Ok.ensures.done;
    })

pub returns-in-Err-clause-fault : goal.returns-in-Err-clause-fault
returns-in-Err-clause-fault c =
    let text = c.args.bytes.now in
    subst (IsCauseBy (reader_of c.args.dialect) text) (sym c.cause_at.ensures)
    (cause_of_cut (reader_of c.args.dialect) text c.args.read.now c.in-Cut.begin (state_of c.args.reading.now)
    c.in-Cut.command c.in-Err.stop c.requires.so_far.well c.in-Cut.ensures c.in-Err.ensures.refused)

pub returns-in-Bad-clause-fault : goal.returns-in-Bad-clause-fault
returns-in-Bad-clause-fault c =
    let text = c.args.bytes.now in
    subst (IsCauseBy (reader_of c.args.dialect) text) (sym c.fault_at-in-Bad.ensures)
    (record {
      read = c.args.read.now;
      state = state_of c.args.reading.now;
      well = c.requires.so_far.well;
      is_fault = no_command c.in-Bad.begin c.in-Bad.ensures;
    })

pub returns-in-Missing-clause-fault : goal.returns-in-Missing-clause-fault
returns-in-Missing-clause-fault c =
    let text = c.args.bytes.now in
    subst (IsCauseBy (reader_of c.args.dialect) text) (sym c.fault_at-in-Missing.ensures)
    (record {
      read = c.args.read.now;
      state = state_of c.args.reading.now;
      well = c.requires.so_far.well;
      is_fault = missing c.in-Missing.ensures;
    })

pub act-requires-clause-turn : goal.act-requires-clause-turn
act-requires-clause-turn c = turn_of c.in-Cut.command c.in-Cut.ensures.2.body c.in-Cut.ensures.2.is_body
