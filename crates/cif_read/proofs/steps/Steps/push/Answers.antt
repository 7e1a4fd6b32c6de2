use Rattle.std.proofs.Common.{◌≡◌, ◌++◌, ◌∷◌, [], List, ap, sym, ◌∙◌, length, arith}
use Rattle.cif_read.specs.declared.{file.ForeignStep.ForeignStep, steps.Place.TheVariants.Own}
use Rattle.cif_read.proofs.Stepping.{places_kept, last_place, step_pushed}
use Rattle.cif_read.proofs.steps.Steps.push.Goals as goal

pub returns-in_ok-push-in-Own-2 : goal.returns-in_ok-push-in-Own-2
returns-in_ok-push-in-Own-2 c =
    let step = c.args.step in
    let mask = c.in-Own.mask in
    let places = c.self.inside.places.items in
    let boxes = c.self.inside.boxes.items in
    let more = c.push.new.self.items in
    let items = c.in_ok-push-in-Own.ensures.items in
    let at : c.len-own.result ≡ length boxes = omega arith in
    let last = last_place boxes more mask c.len-own.result items at in
    let kept = places_kept boxes more mask places items c.self.invariant ∙ c.self.view_is in
    let own = Own c.len-own.result in
    let after = c.push-in-Own.new.self.items in
    step_pushed more places after own step c.in_ok-push-in-Own-2.ensures.items (last ∙ sym c.in-Own.is)
    ∙ ap (λ (ss : List ForeignStep). ss ++ step ∷ []) kept
