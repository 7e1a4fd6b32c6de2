use Rattle.std.proofs.Common.{arith, Vec, Global, inl, inr, ◌∙◌, ap, sym}
use Rattle.std.proofs.lemmas.{Bool.iff_false}
use Rattle.box_tree.specs.{declared.entries.Entry.Entry}
use Rattle.net_extract.{specs.Nearby.query_of, proofs.Nearby.found_entry}
use Rattle.net_extract.proofs.over.push_near.Goals as goal
use Rattle.net_extract.proofs.over.push_near.Goals.{then-is_near+in_ok-push, else-is_near}

pub loop-other-preserved : goal.loop-other-preserved
loop-other-preserved c =
    let query = query_of c.args.near.now in
    let other : Entry = c.other-item.result in
    let before = c.loop-other.found.items in
    let after = c.if-is_near.found.items in
    found_entry c.args.nearby.now c.loop-other.other-index query other c.args.found.now.items before after
    (omega arith) (sym c.other-item.is)
    (elim c.if-is_near.branch [
      | then-is_near+in_ok-push w ↦
          inl (
            c.is_near.ensures.0 w.if-is_near.true,
            ap (λ (x : Vec Entry Global). x.items) w.found-is ∙ w.in_ok-push.ensures.items,
          )
      | else-is_near w ↦
          inr (iff_false c.is_near.ensures w.if-is_near.false, ap (λ (x : Vec Entry Global). x.items) w.found-is)
    ])
    c.loop-other.invariant
