use Rattle.std.proofs.Common.{◌≡◌, ◌++◌, drop, map}
use Rattle.jog_insert.specs.{Jogs.moved_line, Building.bend_of}
use Rattle.jog_insert.proofs.joints.push_moved.Given as goal

abbrev pub invariant-loop-line : goal.invariant-loop-line
invariant-loop-line l = l.lines.items ++ map (moved_line (bend_of l.place)) (drop l.line-index l.from)
    ≡ l.initial.lines.items ++ map (moved_line (bend_of l.place)) l.from
