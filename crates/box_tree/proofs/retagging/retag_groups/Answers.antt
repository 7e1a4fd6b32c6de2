use Rattle.std.proofs.{Common.{ℕ, Option, set, ap, ◌∙◌, arith}, lemmas.List.Edits.map_over_more}
use Rattle.box_tree.specs.Retagged.{retagged}
use Rattle.box_tree.proofs.retagging.retag_groups.Goals as goal

pub loop-k-preserved : goal.loop-k-preserved
loop-k-preserved c =
    let group = c.index.result.now in let now = c.loop-k.groups.items in
    ap (λ (tag : Option ℕ). set now c.loop-k.k (record group { tag = tag })) c.tag_of.ensures
    ∙ map_over_more (retagged c.args.firsts.now c.args.entries.now) c.args.groups.now.items now
    c.loop-k.k group (omega arith) c.loop-k.invariant c.index.ensures
