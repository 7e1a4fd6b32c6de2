use Rattle.std.proofs.Common.{List, length, ap, ◌∙◌}
use Rattle.cons_graph.specs.declared.edges.Edge.{Edge}
use Rattle.sym_items.specs.declared.items.Coords.{Coords}
use Rattle.expand.specs.declared.master.Master.{Master}
use Rattle.pitch_join.specs.Joined.{bases_of, system_variables, pruned_system}
use Rattle.first_pass.specs.declared.first.FirstPass.{FirstPass}
use Rattle.first_pass.proofs.SamePasses.{are_bared, bared_laid, bared_starts, first_made}
use Rattle.first_pass.proofs.first.FirstPass.new.Goals as goal

pub list-requires-clause-planned : goal.list-requires-clause-planned
list-requires-clause-planned g c = λ κs le.
    (are_bared c.args.masters.items c.deref.result.now (c.deref.ensures.value ∙ c.in_ok-masters.ensures)
    c.requires.planned c.requires.clean).planned

pub list-requires-clause-laid : goal.list-requires-clause-laid
list-requires-clause-laid g c = λ κs le.
    bared_laid c.deref-2.result.now
    (are_bared c.args.masters.items c.deref.result.now (c.deref.ensures.value ∙ c.in_ok-masters.ensures)
    c.requires.planned c.requires.clean)
    (bared_starts c.args.tech.now c.args.masters.items c.deref.result.now c.deref-2.result.now
    (c.deref.ensures.value ∙ c.in_ok-masters.ensures) (c.deref-2.ensures.value ∙ c.requires.starts))

pub returns-clause-first : goal.returns-clause-first
returns-clause-first g c =
    let tech = c.args.tech.now in
    let axis = c.args.axis in
    let plan = c.args.plan in
    let bared : List Master = c.in_ok-masters.masters.items in
    let first : FirstPass = record {
      axis = axis;
      plan = plan;
      masters = c.in_ok-masters.masters;
      starts = c.args.starts;
      base = c.in-Ok.listed.base;
      session = c.in_ok-session.session;
      listed = length c.edges.result.now;
      limits = c.new-2.result;
      places = c.new-3.result;
    } in
    first_made tech first c.in-Ok.listed.graph
    (are_bared c.args.masters.items bared c.in_ok-masters.ensures c.requires.planned c.requires.clean)
    (bared_starts tech c.args.masters.items bared c.args.starts.items c.in_ok-masters.ensures c.requires.starts)
    (c.in-Ok.ensures.listed.bases ∙ ap (bases_of axis) c.deref.ensures.value)
    c.in_ok-session.ensures
    (c.in-Ok.ensures.listed.vars ∙ ap (system_variables axis) c.deref.ensures.value)
    (c.in-Ok.ensures.listed.edges
    ∙ (ap (λ (ms : List Master). pruned_system axis tech plan ms c.deref-2.result.now) c.deref.ensures.value
    ∙ ap (λ (ls : List Coords). pruned_system axis tech plan bared ls) c.deref-2.ensures.value))
    (ap (λ (es : List Edge). length es) c.edges.ensures.value)
