use Rattle.std.proofs.Common.{◌≡◌, ◌/◌, ◌%◌, sym, ap, ◌∙◌, arith}
use Rattle.design_gen.{specs.Made.{node_at, node_of, name_at}, proofs.Growing.{some_more, none_more, length_drawn}}
use Rattle.design_gen.proofs.{Growing.drawn_at, lines.push_nodes.Goals.{in-Some+in_ok-push, in_default}}
use Rattle.design_gen.proofs.lines.push_nodes.Goals as goal

pub bounds-drawn-k : goal.bounds-drawn-k
bounds-drawn-k c = omega (arith, length_drawn c.args.n c.args.drawn.now c.requires.drawn)

pub loop-k-preserved : goal.loop-k-preserved
unfolding node_at
loop-k-preserved c =
    let n = c.args.n in
    let k = c.loop-k.k in
    let node : c.in_ok-node.field-0 ≡ node_at n k = c.in_ok-node.ensures
    ∙ ap (λ p. node_of p.stand (name_at n k) (k % n) (k / n))
    (drawn_at n k c.args.drawn.now _ c.requires.drawn (omega arith)) in
    elim c.match-branch-2.branch [
      | in-Some+in_ok-push w ↦ some_more (node_at n) k w.in-Some.node c.args.forms.now.items c.loop-k.forms.items
          c.match-branch-2.forms.items c.loop-k.invariant (sym node ∙ w.in-Some.is)
          (ap (λ v. v.items) w.forms-is ∙ w.in_ok-push.ensures.items)
      | in_default w ↦ ap (λ v. v.items) w.forms-is
          ∙ none_more (node_at n) k c.args.forms.now.items c.loop-k.forms.items c.loop-k.invariant
          (sym node ∙ w.in_default.is)
    ]
