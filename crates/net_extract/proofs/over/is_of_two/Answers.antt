use Rattle.std.proofs.Common.{get_or, refl, sym, ap, ◌∙◌}
use Rattle.std.proofs.lemmas.List.Elements.{Contains-get_or}
use Rattle.box_tree.specs.declared.entries.Entry.{Entry}
use Rattle.net_extract.proofs.over.is_of_two.Goals as goal

pub returns-then-entry-owner : goal.returns-then-entry-owner
returns-then-entry-owner c =
    let entries = c.args.entries.now in
    let first : Entry = c.in-Some.first.now in
    let item : Entry = c.entry-item.result in
    let read = c.in-Some.ensures.item.3 in
    let head = Contains-get_or entries 0 first read.0 in
    let one = Contains-get_or entries c.loop-entry.entry-index item c.loop-entry-test.true in (
      λ _. (
        get_or entries 0 first,
        get_or entries c.loop-entry.entry-index item,
        head,
        one,
        λ e. c.if-entry-owner.true
            (ap (λ (s : Entry). s.owner) c.entry-item.is ∙ (e ∙ ap (λ (s : Entry). s.owner) (sym (read.1 first)))),
      ),
      λ _. refl,
    )
