use Rattle.std.proofs.Common.{sym, subst}
use Rattle.crossing_model.specs.Crossings.{AreProper}
use Rattle.crossings.specs.Pairs.{EndsSearch}
use Rattle.flat_check.{specs.FlatLayouts.HaveChannels, proofs.OneChannel.{have_channels, no_channels, not_proper}}
use Rattle.flat_check.proofs.flat_layout.known_crossings.Goals as goal

pub returns-in-Ok-clause-channels : goal.returns-in-Ok-clause-channels
returns-in-Ok-clause-channels c =
    have_channels c.args.tech.now c.args.boxes.now c.in-Ok.found.items c.in-Ok.ensures.proper
    c.in-Ok.ensures.crossings

pub returns-in-Err-NotProper : goal.returns-in-Err-NotProper
returns-in-Err-NotProper c =
    let tech = c.args.tech.now in let boxes = c.args.boxes.now in
    let bad = subst (EndsSearch tech boxes) c.in-Err-NotProper.field-0-is c.in-Err-NotProper.ensures.fault in
    let none : AreProper tech boxes → ⊥ = not_proper tech boxes _ _ bad.bad in
    record {
      channels = subst (HaveChannels tech boxes) (sym c.new.ensures.items) (no_channels tech boxes none);
      crossings = λ proper. absurd (none proper);
      proper = record { a = _; b = _; bad = bad.bad };
    }
