use Rattle.std.proofs.{Common.{◌≡◌, ℕ, ◌≤◌, true, false, length, get_or, subst, ◌∙◌, arith}, lemmas.List.get_or_default}
use Rattle.cons_graph.specs.Solutions.{value_of}
use Rattle.slack_pack.{specs.Slacks.IsQuietAt, proofs.Falls.fell_more}
use Rattle.slack_pack.proofs.lowering.lower_all.Goals as goal

pub loop-k-preserved-then-lower_at : goal.loop-k-preserved-then-lower_at
loop-k-preserved-then-lower_at c = record {
  in_range = (let r : c.loop-k.k ≤ length c.args.order.now = c.loop-k.invariant.in_range in omega arith);
  lowered =
      fell_more c.args.g.now (value_of c.args.x.now) c.args.slacks.now.items c.loop-k.slacks.items
      c.lower_at.new.slacks.items c.loop-k.fell c.loop-k.invariant.lowered
      c.if-lower_at.ensures.lowered;
  quiet = λ f. (let d : true ≡ false = f in absurd (cc));
}

pub returns-clause-quiet : goal.returns-clause-quiet
returns-clause-quiet c = λ f v lt.
    let w = c.requires.names.each v lt in
    let e : get_or c.args.order.now w.0 0 ≡ v = get_or_default c.args.order.now w.0 0 v w.1 ∙ w.2 in
    let P : ℕ → Type 0 = λ u. IsQuietAt c.args.g.now.edges (value_of c.args.x.now) c.loop-k.slacks.items u in
    subst P e (c.loop-k.invariant.quiet f w.0 (omega arith) w.1)
