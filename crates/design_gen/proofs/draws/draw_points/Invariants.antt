use Rattle.std.{proofs.Common.{◌≡◌, ◌<◌, ◌^◌, map}, specs.List.range_with_len}
use Rattle.design_gen.specs.Draws.{number_after, point_at}
use Rattle.design_gen.proofs.draws.draw_points.Given as goal

abbrev pub invariant-loop-k : goal.invariant-loop-k
invariant-loop-k l = record {
  number : l.number ≡ number_after l.n l._k;
  small : l.number < 2 ^ 31;
  drawn : l.drawn.items ≡ map (point_at l.n) (range_with_len 0 l._k);
}
