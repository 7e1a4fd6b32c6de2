use Rattle.std.specs.List.{All}
use Rattle.scan_line.specs.{Stretches.IsCut, Levels.IsLevelOf}
use Rattle.scan_line.proofs.group.levels_of.Given as goal

abbrev pub invariant-loop : goal.invariant-loop
invariant-loop l = record {
  cut : IsCut l.stretches;
  made : All (IsLevelOf l.fn.axis l.coords l.items l.order) l.levels.items;
}
