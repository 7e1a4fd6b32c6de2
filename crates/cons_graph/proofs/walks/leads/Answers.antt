use Rattle.std.proofs.Common.{inl, inr}
use Rattle.cons_graph.proofs.{Tests.{leads_stop, leads_end}, walks.leads.Goals.then-k-edges-via-then-k-edges}
use Rattle.cons_graph.proofs.walks.leads.Goals.{then-k-edges-via-else-k-edges+then-edges-k}
use Rattle.cons_graph.proofs.walks.leads.Goals as goal

pub returns-then-k-edges : goal.returns-then-k-edges
returns-then-k-edges c =
    let stop = leads_stop c.args.edges.now c.loop-k.at c.args.start c.args.walk.now c.args.«end» c.loop-k.k-index
    c.loop-k.invariant c.loop-k-test.true in (
      λ t. absurd (cc),
      λ w. absurd (elim c.then-k-edges.branch as (λ _. ⊥) [
        | then-k-edges-via-then-k-edges b ↦ stop (inl b.if-k-edges.true) w
        | then-k-edges-via-else-k-edges+then-edges-k b ↦ stop (inr b.if-edges-k.true) w
      ]),
    )

pub returns : goal.returns
returns c = leads_end c.args.edges.now c.loop-k.at c.args.start c.args.walk.now c.args.«end» c.loop-k.k-index
    c.loop-k.invariant c.loop-k-test.false
