use Rattle.std.{proofs.Common.{◌≡◌, take}, specs.List.flat_map}
use Rattle.grid_plan.specs.Tables.{meeting_of}
use Rattle.grid_plan.proofs.borders.Borders.matches.Given as goal

abbrev pub invariant-loop-pair : goal.invariant-loop-pair
invariant-loop-pair l = l.found.items ≡ flat_map (meeting_of l.self.before.items l.self.after.items l.masters)
    (take l.pair-index l.pairs)
