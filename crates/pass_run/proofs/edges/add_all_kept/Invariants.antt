use Rattle.std.{proofs.Common.{◌≡◌, ◌++◌, map, flat_map}, specs.List.range_with_len}
use Rattle.pitch_join.specs.Joined.{kept_edges_at}
use Rattle.pass_run.specs.Passes.{kept_count}
use Rattle.pass_run.proofs.edges.add_all_kept.Given as goal

abbrev pub invariant-loop-one : goal.invariant-loop-one
invariant-loop-one l = record {
  edges : l.joint.edges.items ≡ l.initial.joint.edges.items
      ++ flat_map (kept_edges_at l.fn.axis l.fn.tech l.fn.masters l.fn.layouts) (range_with_len 0 l.one-index);
  others : l.joint ≡ record l.initial.joint { edges = l.joint.edges };
  counts : l.counts.items ≡ map (kept_count l.fn.axis l.fn.tech l.fn.masters l.fn.layouts)
      (range_with_len 0 l.one-index);
}
