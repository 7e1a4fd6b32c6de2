use Rattle.std.proofs.Common.{◌≡◌, ◌<◌, ◌^◌, ◌++◌, ◌∙◌, List, map, length, get_or, sym, ap, subst, arith}
use Rattle.std.proofs.lemmas.List.{length-map, get_or_default}
use Rattle.cif_read.specs.{Hierarchies.{Drawn, flattened}, Files.{drawn_of, drawn_in_step, hierarchy_of, IsStepOf}}
use Rattle.cif_read.specs.declared.file.CifStep.{CifStep, TheVariants.{Own}}
use Rattle.cif_read.proofs.{Flat.{flattened_is, flat_all, flat_more}, Solid.{all_placed, all_solid}}
use Rattle.cif_read.proofs.flattening.flatten.Goals as goal

pub returns-clause-boxes : goal.returns-clause-boxes
returns-clause-boxes c =
    let file = c.args.file.now in
    let same = ap length c.as_slice-step-items.ensures in
    c.loop-step.invariant.boxes
    ∙ (flat_all (drawn_in_step file) file.order c.loop-step.step-index (omega arith)
    ∙ sym (flattened_is file c.requires))

pub returns-clause-few : goal.returns-clause-few
returns-clause-few c =
    let file = c.args.file.now in
    let boxes : map drawn_of c.loop-step.out.items ≡ flattened (hierarchy_of file) = returns-clause-boxes c in
    let same = sym (length-map c.loop-step.out.items drawn_of) ∙ ap length boxes in
    omega (arith, c.in-Some.ensures.count)

pub returns-clause-placed : goal.returns-clause-placed
returns-clause-placed c = all_placed (2 ^ 51) c.loop-step.out.items (omega arith) c.loop-step.invariant.solid

pub returns-clause-solid : goal.returns-clause-solid
returns-clause-solid c = all_solid (2 ^ 51) c.loop-step.out.items c.loop-step.invariant.solid

pub push_step-requires-clause-step : goal.push_step-requires-clause-step
push_step-requires-clause-step c =
    let file = c.args.file.now in
    let i = c.loop-step.step-index in
    let items = c.as_slice-step-items.ensures in
    let P : List CifStep → Type 0 =
    λ steps. IsStepOf (length file.symbols) (length file.boxes) (get_or steps i (Own 0)) in
    subst P (sym items) (c.requires.steps i (Own 0) (omega (arith, c.loop-step-test.true, ap length items)))

pub loop-step-preserved : goal.loop-step-preserved
loop-step-preserved c =
    let file = c.args.file.now in
    let i = c.loop-step.step-index in
    let items = c.as_slice-step-items.ensures in
    let lt : i < length file.order = omega (arith, c.loop-step-test.true, ap length items) in
    let step = get_or c.as_slice-step-items.result.now i (Own 0) in
    let at : step ≡ get_or file.order i step = ap (λ steps. get_or steps i (Own 0)) items
    ∙ get_or_default file.order i (Own 0) step lt in
    record {
      boxes = c.in_ok-push_step.ensures.boxes
          ∙ ap (λ (boxes : List Drawn). boxes ++ drawn_in_step file step) c.loop-step.invariant.boxes
          ∙ sym (flat_more (drawn_in_step file) file.order i step lt at);
      solid = c.in_ok-push_step.ensures.solid c.loop-step.invariant.solid;
    }
