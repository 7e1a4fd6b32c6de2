use Rattle.std.proofs.{Common.{◌≡◌, ◌+◌, ◌≤◌, ℕ, All, length, sym, ap, ◌∙◌, subst}, lemmas.List.length-map}
use Rattle.box_tree.{specs.declared.entries.Group.Group, proofs.OtherTags.{runs_within, tree_of_tags}}
use Rattle.box_tree.proofs.tree.BoxTree.with_tags.Goals as goal

pub retag_groups-requires-clause-within : goal.retag_groups-requires-clause-within
retag_groups-requires-clause-within c =
    let parts = c.args.parts in
    let same : length c.deref-2.result.now ≡ length parts.entries.items =
    ap length (c.deref-2.ensures.value ∙ c.in_ok-firsts.ensures.retagged) ∙ length-map parts.entries.items _ in
    subst (λ (n : ℕ). All (λ (g : Group). g.start + g.count ≤ n) parts.groups.items) (sym same)
    (runs_within parts.entries.items parts.groups.items c.requires.parts)

pub invariant_of-result : goal.invariant_of-result
invariant_of-result c =
    let parts = c.args.parts in let more = c.in_ok-firsts.ensures in
    tree_of_tags c.args.tags.now parts.entries.items c.retag_entries.new.entries.items c.deref-2.result.now
    c.in_ok-firsts.firsts.items c.deref.result.now parts.groups.items c.retag_groups.new.groups.items
    c.requires.parts more.retagged more.alike c.deref.ensures.value c.deref-2.ensures.value c.retag_groups.ensures
