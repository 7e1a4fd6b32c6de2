use Rattle.std.proofs.Common.{◌≡◌, ◌+◌, ◌≤◌, ap, map, sym, ◌∙◌, subst, arith}
use Rattle.std.proofs.lemmas.List.Edits.{map_over_more}
use Rattle.box_tree.specs.{declared.entries.Entry.Entry, Retagged.{AreAlikeFrom, with_tag}, Tree.entry_of}
use Rattle.box_tree.proofs.OtherTags.{HaveTag, have_more, alike_more, read_ahead, retagged_at}
use Rattle.box_tree.proofs.retagging.retag_entries.Goals.{then-own-tag, else-own-tag}
use Rattle.box_tree.proofs.retagging.retag_entries.Goals as goal

pub loop-place-preserved : goal.loop-place-preserved
loop-place-preserved c =
    let tags = c.args.tags.now in let old = c.args.entries.now.items in let new = map (with_tag tags) old in
    let now = c.loop-place.entries.items in let place = c.loop-place.place in
    let entry = c.index-entry.result.now in let before = c.loop-place.invariant in
    let first = c.if-own-tag.first in let tag = c.if-own-tag.tag in
    let read = read_ahead (with_tag tags) old now place entry (omega arith) before.entries c.index-entry.ensures in
    let own = ap (λ (s : Entry). (with_tag tags s).tag) read
    ∙ ap (λ (s : Entry). s.tag) (sym (retagged_at tags old place (omega arith))) in
    let found : (first ≤ place) × (tag ≡ (entry_of new place).tag) × HaveTag new first place tag =
    elim c.if-own-tag.branch [
      | then-own-tag w ↦
          (omega (arith, w.first-is), w.tag-is ∙ own, λ p low high. absurd (omega (arith, w.first-is, low, high)))
      | else-own-tag w ↦ (
        omega (arith, w.first-is, before.before),
        w.tag-is ∙ (omega (arith, w.if-own-tag.false) ∙ own),
        λ p low high. before.same p (omega (arith, w.first-is, low)) high ∙ sym w.tag-is,
      )
    ] in
    let have = have_more new first place tag found.2 found.1 in
    record {
      entries = map_over_more (with_tag tags) old now place entry (omega arith) before.entries c.index-entry.ensures;
      firsts = subst (AreAlikeFrom new (place + 1)) (sym c.in_ok-push.ensures.items)
          (alike_more new c.loop-place.firsts.items first place tag before.firsts found.0 have);
      before = omega (arith, found.0);
      same = have;
    }
