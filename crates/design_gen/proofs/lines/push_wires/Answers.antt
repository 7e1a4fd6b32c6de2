use Rattle.std.proofs.Common.{◌≡◌, sym, ap, ◌∙◌}
use Rattle.design_gen.specs.Made.{wire_at}
use Rattle.design_gen.proofs.{Growing.{some_more, none_more}, lines.push_wires.Goals.{in-Some+in_ok-push, in_default}}
use Rattle.design_gen.proofs.lines.push_wires.Goals as goal

pub loop-k-preserved : goal.loop-k-preserved
loop-k-preserved c =
    let n = c.args.n in
    let k = c.loop-k.k in
    let wire : c.in_ok-wire.field-0 ≡ wire_at n k = c.in_ok-wire.ensures in
    elim c.match-branch-2.branch [
      | in-Some+in_ok-push w ↦ some_more (wire_at n) k w.in-Some.wire c.args.forms.now.items c.loop-k.forms.items
          c.match-branch-2.forms.items c.loop-k.invariant (sym wire ∙ w.in-Some.is)
          (ap (λ v. v.items) w.forms-is ∙ w.in_ok-push.ensures.items)
      | in_default w ↦ ap (λ v. v.items) w.forms-is
          ∙ none_more (wire_at n) k c.args.forms.now.items c.loop-k.forms.items c.loop-k.invariant
          (sym wire ∙ w.in_default.is)
    ]
