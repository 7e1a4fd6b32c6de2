use Rattle.std.{proofs.Common.{◌≡◌, ◌++◌, map, take}, specs.List.zip}
use Rattle.plan_model.specs.Borders.{match_of}
use Rattle.grid_plan.proofs.borders.push_matches.Given as goal

abbrev pub invariant-loop-k : goal.invariant-loop-k
invariant-loop-k l = l.found.items ≡ l.initial.found.items
    ++ map (match_of l.pair) (zip (take l.k l.before) (take l.k l.after))
