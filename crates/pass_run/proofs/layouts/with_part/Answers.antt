use Rattle.std.proofs.Common.{◌≡◌, ℤ, List, refl, ◌∙◌, subst, IfOk}
use Rattle.pair_rules.specs.Laws.{moved}
use Rattle.pass_run.proofs.Values.{part_own}
use Rattle.pass_run.proofs.layouts.with_part.Goals as goal

pub returns : goal.returns
returns c =
    let axis = c.args.axis in
    let M : List ℤ → Type 0 = λ values. IfOk c.moved.result (λ layout. layout ≡ moved axis c.args.layout.now values) in
    subst M
    (part_own axis c.args.base c.vars-vars.result c.args.master.now c.args.x.now c.args.x.now
    c.in_ok-values.values.items (c.vars-vars.ensures ∙ c.master_is_lawful.ensures.vars axis) refl
    c.in_ok-values.ensures)
    c.moved.ensures
