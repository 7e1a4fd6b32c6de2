use Rattle.std.proofs.{Common.{List, [], ◌++◌, map, ap, ◌∙◌, arith, flat_map}, lemmas.List.get_or_default}
use Rattle.cons_graph.specs.declared.edges.Edge.{Edge}
use Rattle.list_facts.proofs.Pieces.{piece_added}
use Rattle.expand.specs.{declared.master.Master.Master, Structure.{limit_edges, limits_of}}
use Rattle.cell_model.specs.declared.cell.Limit.{Limit}
use Rattle.pitch_join.specs.{Masters.no_master, Joined.{base_of, shifted}}
use Rattle.pitch_join.proofs.Bases.{base_at, base_within, bases_counted}
use Rattle.first_pass.specs.Limits.{limits_at}
use Rattle.first_pass.proofs.limits.system_limits.Goals as goal

pub bounds-base-m : goal.bounds-base-m
bounds-base-m c = let n = bases_counted c.args.axis c.args.masters.now c.args.base.now c.requires.base in let lt =
    c.loop-m-test.true in omega arith

pub push_limits-requires-clause-base : goal.push_limits-requires-clause-base
push_limits-requires-clause-base c =
    let e = base_at c.args.axis c.args.masters.now c.args.base.now c.loop-m.m c.requires.base c.loop-m-test.true in
    let within = base_within c.args.axis c.args.masters.now c.loop-m.m c.loop-m-test.true in
    let few = c.requires.few in
    omega arith

pub loop-m-preserved : goal.loop-m-preserved
loop-m-preserved c =
    let axis = c.args.axis in
    let masters = c.args.masters.now in
    let m = c.loop-m.m in
    let edges : List Edge = c.loop-m.edges.items in
    let base = base_of axis masters m in
    piece_added (limits_at axis masters) m [] edges c.push_limits.new.edges.items c.loop-m.invariant
    (c.in_ok-push_limits.ensures
    ∙ (ap (λ b. edges ++ map (shifted b) (flat_map (limit_edges axis) c.as_slice-limits.result.now))
    (base_at axis masters c.args.base.now m c.requires.base c.loop-m-test.true)
    ∙ (ap (λ (ls : List Limit). edges ++ map (shifted base) (flat_map (limit_edges axis) ls)) c.as_slice-limits.ensures
    ∙ ap (λ (x : Master). edges ++ map (shifted base) (limits_of axis x.cell))
    (get_or_default masters m c.index-masters-m.result no_master c.loop-m-test.true))))
