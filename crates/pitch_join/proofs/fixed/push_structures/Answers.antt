use Rattle.std.proofs.{Common.{◌≡◌, List, ◌++◌, map, ap, ◌∙◌, arith}, lemmas.List.get_or_default}
use Rattle.cons_graph.specs.declared.edges.Edge.{Edge}
use Rattle.expand.specs.{declared.master.Master.Master, Structure.structure_of}
use Rattle.list_facts.proofs.Pieces.{piece_added}
use Rattle.pitch_join.specs.{Masters.{master_at, no_master}, Joined.{base_of, shifted, structure_at}}
use Rattle.pitch_join.proofs.Bases.{base_at, base_within, bases_counted, system_small}
use Rattle.pitch_join.proofs.fixed.push_structures.Goals as goal

pub bounds-base-m : goal.bounds-base-m
bounds-base-m c = let n = bases_counted c.args.axis c.args.masters.now c.args.base.now c.requires.base in let lt =
    c.loop-m-test.true in omega arith

pub push_structure-requires-clause-base : goal.push_structure-requires-clause-base
push_structure-requires-clause-base c =
    let e = base_at c.args.axis c.args.masters.now c.args.base.now c.loop-m.m c.requires.base c.loop-m-test.true in
    let within = base_within c.args.axis c.args.masters.now c.loop-m.m c.loop-m-test.true in
    let small = system_small c.args.axis c.args.tech.now c.args.masters.now c.requires.each c.requires.few_masters in
    omega arith

pub loop-m-preserved : goal.loop-m-preserved
loop-m-preserved c =
    let axis = c.args.axis in
    let tech = c.args.tech.now in
    let masters = c.args.masters.now in
    let m = c.loop-m.m in
    let at : c.index-masters-m.result ≡ master_at masters m = c.index-masters-m.is
    ∙ get_or_default masters m _ no_master c.loop-m-test.true in
    let edges : List Edge = c.loop-m.edges.items in
    piece_added (structure_at axis tech masters) m c.args.edges.now.items edges c.push_structure.new.edges.items
    c.loop-m.invariant
    (c.in_ok-push_structure.ensures
    ∙ (ap (λ b. edges ++ map (shifted b)
    (structure_of axis tech c.index-masters-m.result.cell c.index-masters-m.result.items.list)) (base_at axis
    masters c.args.base.now m c.requires.base c.loop-m-test.true)
    ∙ ap (λ (x : Master). edges ++ map (shifted (base_of axis masters m))
    (structure_of axis tech x.cell x.items.list)) at))
