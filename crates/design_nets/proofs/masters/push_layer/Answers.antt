use Rattle.std.proofs.Common.{ℕ, Bool, ap, ◌∙◌, sym}
use Rattle.mask_out.specs.Masks.{is_drawn}
use Rattle.pair_rules.specs.Bound.{item_at}
use Rattle.design_nets.proofs.Lists.{number_kept, number_passed}
use Rattle.design_nets.proofs.masters.push_layer.Goals.{then-is_drawn+in_ok-push, else-is_drawn}
use Rattle.design_nets.proofs.masters.push_layer.Goals as goal

pub loop-n-preserved : goal.loop-n-preserved
loop-n-preserved c =
    let p : ℕ → Bool = λ n. is_drawn c.args.layer (item_at c.args.items.now n).class in
    elim c.if-is_drawn.branch [
      | then-is_drawn+in_ok-push w ↦
          number_kept p c.loop-n.n c.args.drawn.now.items c.loop-n.drawn.items c.if-is_drawn.drawn.items
          c.loop-n.invariant (sym c.is_drawn.ensures ∙ w.if-is_drawn.true)
          (ap (λ v. v.items) w.drawn-is ∙ w.in_ok-push.ensures.items)
      | else-is_drawn w ↦ ap (λ v. v.items) w.drawn-is
          ∙ number_passed p c.loop-n.n c.args.drawn.now.items c.loop-n.drawn.items c.loop-n.invariant
          (sym c.is_drawn.ensures ∙ w.if-is_drawn.false)
    ]
