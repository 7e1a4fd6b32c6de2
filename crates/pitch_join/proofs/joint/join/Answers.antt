use Rattle.std.proofs.Common.{ℕ, List, length, ap, sym, ◌∙◌, subst}
use Rattle.pitch_join.{specs.Among.AreAllCrosses, proofs.Listed.{fixed_pushed, pitch_listed, pitches_are, ports_are}}
use Rattle.pitch_join.proofs.{Listed.ports_listed, NamesCounted.names_counted, Shape.system_shape}
use Rattle.pitch_join.proofs.joint.join.Goals as goal

pub push_pitches-requires : goal.push_pitches-requires
push_pitches-requires c =
    pitch_listed c.args.axis c.args.plan.now c.args.masters.now c.deref-2.result.now c.pitch.result.now
    c.requires.planned (c.deref-2.ensures.value ∙ c.in_ok-vars.ensures.base) c.pitch.ensures

pub push_ports-requires : goal.push_ports-requires
push_ports-requires c =
    let A : List (List ℕ) → Type 0 = AreAllCrosses c.args.masters.now in
    ports_listed c.args.axis c.args.tech.now c.args.plan.now c.args.masters.now c.deref-3.result.now
    c.deref-4.result.now c.ports.result.now c.requires.each c.requires.planned
    (c.deref-3.ensures.value ∙ c.in_ok-vars.ensures.base)
    (subst A (sym c.deref-4.ensures.value) c.in_ok-crosses.ensures) c.ports.ensures

pub returns-clause-edges : goal.returns-clause-edges
returns-clause-edges c =
    let a = c.args in
    let A : List (List ℕ) → Type 0 = AreAllCrosses a.masters.now in
    fixed_pushed a.axis a.tech.now a.plan.now a.masters.now _ _ c.new-edges.result.items
    c.push_structures.new.edges.items c.push_pitches.new.edges.items c.push_ports.new.edges.items
    (pitches_are a.axis a.plan.now a.masters.now c.deref-2.result.now c.pitch.result.now c.requires.planned
    (c.deref-2.ensures.value ∙ c.in_ok-vars.ensures.base) c.pitch.ensures)
    (ports_are a.axis a.tech.now a.plan.now a.masters.now c.deref-3.result.now c.deref-4.result.now c.ports.result.now
    c.requires.each c.requires.planned (c.deref-3.ensures.value ∙ c.in_ok-vars.ensures.base)
    (subst A (sym c.deref-4.ensures.value) c.in_ok-crosses.ensures) c.ports.ensures)
    c.new-edges.ensures.items c.in_ok-push_structures.ensures c.in_ok-push_pitches.ensures c.in_ok-push_ports.ensures

pub returns-clause-named : goal.returns-clause-named
returns-clause-named c =
    ap (λ (names : List (List ℕ)). length names) c.in_ok-names.ensures
    ∙ (names_counted c.args.axis c.args.masters.now ∙ sym c.in_ok-vars.ensures.vars)

pub returns-clause-shape : goal.returns-clause-shape
returns-clause-shape c = λ few.
    system_shape c.args.axis c.args.tech.now c.args.plan.now c.args.masters.now c.in_ok-vars.field-0.vars
    c.push_ports.new.edges.items
    (record { each = c.requires.each; few_parts = few; planned = c.requires.planned }) c.in_ok-vars.ensures.vars
    (returns-clause-edges c)
