use Rattle.std.{proofs.Common.{◌≢◌, ℕ, ◌<◌, ◌≤◌, List, length, sym, subst}, specs.Prelude.All}
use Rattle.stick_text.specs.{declared.design.Design.Design, Writable.IsWritable}
use Rattle.checked_cells.specs.Tables.{known_of}
use Rattle.design_masters.proofs.{Chosen.{short_name, plain_name}, Planned.{are_chosen, are_planned, are_named}}
use Rattle.design_masters.proofs.Standing.{all_stand}
use Rattle.design_masters.proofs.masters.masters_of.Goals as goal

pub check_size-requires-clause-chosen : goal.check_size-requires-clause-chosen
check_size-requires-clause-chosen g c =
    let W : Design → Type 0 = λ d. IsWritable d in
    are_chosen (known_of c.args.planned.now.cells) c.args.design.now c.args.planned.now.plan
    (subst W c.requires.of.1 c.requires.resolved.writable) c.requires.planned.planned

pub made-requires-clause-among : goal.made-requires-clause-among
made-requires-clause-among g c = λ κs le.
    let W : Design → Type 0 = λ d. IsWritable d in
    let cells = known_of c.args.planned.now.cells in
    let are = are_chosen cells c.args.design.now c.args.planned.now.plan
    (subst W c.requires.of.1 c.requires.resolved.writable) c.requires.planned.planned in
    subst (λ (ks : List ℕ). All (λ k. k < length cells) ks) (sym c.as_slice-numbers.ensures) are.masters

pub returns-clause-planned : goal.returns-clause-planned
returns-clause-planned g c =
    let W : Design → Type 0 = λ d. IsWritable d in
    let cells = known_of c.args.planned.now.cells in
    let are = are_chosen cells c.args.design.now c.args.planned.now.plan
    (subst W c.requires.of.1 c.requires.resolved.writable) c.requires.planned.planned in
    are_planned c.args.tech.now cells c.args.design.now.grids c.args.planned.now.plan c.in_ok-made.field-0.items
    c.requires.planned.planned are
    c.in_ok-check_size.ensures.light.items (rw c.as_slice-numbers.ensures at c.in_ok-made.ensures.cells)
    c.in_ok-made.ensures.masters
    (λ k lt light. c.ports_are_seen.ensures.light c.args.planned.now.cells k c.requires.resolved lt light)

pub returns-clause-named : goal.returns-clause-named
returns-clause-named g c =
    let W : Design → Type 0 = λ d. IsWritable d in
    are_named (λ name. length name ≤ 65000) short_name (known_of c.args.planned.now.cells) c.args.design.now
    c.args.planned.now.plan c.in_ok-made.field-0.items
    (subst W c.requires.of.1 c.requires.resolved.writable) c.requires.planned.planned
    (rw c.as_slice-numbers.ensures at c.in_ok-made.ensures.cells)

pub returns-clause-plain : goal.returns-clause-plain
returns-clause-plain g c =
    let W : Design → Type 0 = λ d. IsWritable d in
    are_named (λ name. All (λ b. b ≢ 59) name) plain_name (known_of c.args.planned.now.cells) c.args.design.now
    c.args.planned.now.plan c.in_ok-made.field-0.items
    (subst W c.requires.of.1 c.requires.resolved.writable) c.requires.planned.planned
    (rw c.as_slice-numbers.ensures at c.in_ok-made.ensures.cells)

pub returns-clause-stand : goal.returns-clause-stand
returns-clause-stand g c =
    all_stand (known_of c.args.planned.now.cells) c.args.design.now.grids c.args.planned.now.plan
    c.in_ok-made.field-0.items c.requires.planned.planned
    (rw c.as_slice-numbers.ensures at c.in_ok-made.ensures.cells)
