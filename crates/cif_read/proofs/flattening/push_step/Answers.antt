use Rattle.std.proofs.Common.{◌<◌, ◌^◌, ◌∙◌, ap, get_or, length, subst, arith}
use Rattle.cif_read.{specs.Files.{drawn_of, IsStepOf}, proofs.Solid.{solid_pushed, solid_at, solid_more}}
use Rattle.cif_read.proofs.flattening.push_step.Goals as goal

pub returns-in_ok-push-in-Own-clause-solid : goal.returns-in_ok-push-in-Own-clause-solid
returns-in_ok-push-in-Own-clause-solid c =
    let file = c.args.file.now in
    let at = c.in-Own.at in
    let box = c.index-as_slice-at.result in
    let within : at < length file.boxes =
    subst (IsStepOf (length file.symbols) (length file.boxes)) c.in-Own.is c.requires.step in
    let is = c.index-as_slice-at.is ∙ ap (λ boxes. get_or boxes at box) c.as_slice.ensures in
    solid_pushed (2 ^ 51) c.args.out.now.items c.push.new.self.items box c.in_ok-push-in-Own.ensures.items
    (solid_more (2 ^ 50) (2 ^ 51) (drawn_of box) (omega arith)
    (solid_at (2 ^ 50) file.boxes at box within is c.requires.flat.boxes))
