use Rattle.std.proofs.Common.{ℕ, ◌<◌, All, List, length, get_or, refl, sym, ap, subst, arith}
use Rattle.std.proofs.lemmas.List.{get_or_default, Elements.All-push}
use Rattle.box_tree.specs.{declared.entries.Entry.Entry, Tree.no_entry}
use Rattle.crossings.specs.Entries.{AreEntriesFacing}
use Rattle.crossings.specs.PartnerLists.{HaveOverlapped, IsFound}
use Rattle.crossings.proofs.PartnerLists.{group_read, overlapped_near, owner_among}
use Rattle.crossings.proofs.partner_lists.add_run.Goals as goal

pub few-requires : goal.few-requires
few-requires c =
    let group = group_read c.args.boxes.now c.args.trees.now c.args.at c.index-trees-at.result c.requires.trees
    c.requires.among in
    record { placed = group.placed.outer; question = tt }

pub overflow_add-place-end : goal.overflow_add-place-end
overflow_add-place-end c =
    let group = group_read c.args.boxes.now c.args.trees.now c.args.at c.index-trees-at.result c.requires.trees
    c.requires.among in
    let tree = c.requires.trees.tree in
    omega (arith, group.ends, tree.few)

pub bounds-trees-place : goal.bounds-trees-place
bounds-trees-place c =
    let group = group_read c.args.boxes.now c.args.trees.now c.args.at c.index-trees-at.result c.requires.trees
    c.requires.among in
    omega (arith, group.ends, c.loop-place-test.true)

pub partners_among-partners-requires : goal.partners_among-partners-requires
partners_among-partners-requires c =
    let boxes = c.args.boxes.now in
    let trees = c.args.trees.now in
    let entries = trees.own.entries.now in
    let group = group_read boxes trees c.args.at c.index-trees-at.result c.requires.trees c.requires.among in
    let p = c.loop-place.place in
    let lt : p < length trees.own.entries.now = omega (arith, group.ends, c.loop-place-test.true) in
    let read = get_or_default entries p c.index-trees-place.result no_entry lt in
    let held = c.in_ok-few.ensures.all c.if-not-branch.false in
    let bounded = group.within p c.loop-place.auto.place c.loop-place-test.true in
    let near = overlapped_near boxes trees _ p _ _ c.few.new.found.items c.requires.trees lt bounded.outer
    (ap (λ (s : Entry). s.owner) read) refl held.0 in
    let number = (get_or entries p c.index-trees-place.result).owner in
    let F : List Entry → Type 0 = AreEntriesFacing boxes number in
    let H : List Entry → Type 0 = λ ss. HaveOverlapped boxes number ss c.few.new.found.items in
    let N : List ℕ → Type 0 = HaveOverlapped boxes number c.entries.result.now in
    record {
      searchable = c.requires.searchable;
      entries = subst F (sym c.entries.ensures) near.0;
      nearby = subst N (sym c.deref.ensures.value) (subst H (sym c.entries.ensures) near.1);
    }

pub loop-place-preserved : goal.loop-place-preserved
loop-place-preserved c =
    let found = c.loop-place.found.items in
    let Is = IsFound c.args.boxes.now in
    let trees = c.args.trees.now in
    let group = group_read c.args.boxes.now trees c.args.at c.index-trees-at.result c.requires.trees c.requires.among in
    let p = c.loop-place.place in
    let lt : p < length trees.own.entries.now = omega (arith, group.ends, c.loop-place-test.true) in
    let read = get_or_default trees.own.entries.now p c.index-trees-place.result no_entry lt in
    let among = owner_among c.args.boxes.now trees p _ c.requires.trees lt read in
    subst (All Is) (sym c.in_ok-push.ensures.items)
    (All-push Is found _ c.loop-place.invariant
    (record { among = among; partners = c.partners_among-partners.ensures }))
