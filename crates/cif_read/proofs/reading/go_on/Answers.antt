use Rattle.std.proofs.Common.{◌+◌, ◌≤◌, sym, subst, arith}
use Rattle.cif_read.specs.{Readers.IsCauseBy, Meaning.reader_of, Readings.state_of}
use Rattle.cif_read.proofs.{Sound.{sound_more, turn_of}, Beginnings.{begins_more, cause_of_whole}}
use Rattle.cif_read.proofs.reading.go_on.Goals as goal

pub act-requires-clause-turn : goal.act-requires-clause-turn
act-requires-clause-turn c = turn_of c.args.ready.command c.requires.next.0 c.requires.next.2

pub returns-in-Err-clause-fault : goal.returns-in-Err-clause-fault
returns-in-Err-clause-fault c =
    let text = c.args.bytes.now in
    let w = c.args.ready in
    subst (IsCauseBy (reader_of c.args.dialect) text) (sym c.cause_at.ensures)
    (cause_of_whole (reader_of c.args.dialect) text c.args.read.now w.begin w.after (state_of c.args.reading.now)
    w.command c.in-Err.stop c.requires.so_far.well c.requires.next c.in-Err.ensures.refused)

pub returns-clause-reading : goal.returns-clause-reading
returns-clause-reading c =
    let text = c.args.bytes.now in
    let w = c.args.ready in
    let next = c.requires.next in
    let so_far = c.requires.so_far in
    let further : c.args.read.now + 1 ≤ w.after = omega (arith, next.4, next.3.begins) in
    record {
      within = next.5;
      well = begins_more (reader_of c.args.dialect) text c.args.read.now w.begin w.after (state_of c.args.reading.now)
          (state_of c.act.new.self) w.command so_far.well next c.in_default.ensures.done;
      sound = sound_more (c.args.read.now + 1) w.after c.act.new.self further
          (c.in_default.ensures.sound c.args.read.now so_far.sound);
    }
