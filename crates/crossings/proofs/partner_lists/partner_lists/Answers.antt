use Rattle.std.proofs.Common.{All, Vec, Global, ℕ, ◌+◌, ◌≤◌, List, length, refl, rules, sym, subst}
use Rattle.lam_geom.specs.declared.boxes.MaskLayer.TheVariants.{ND, NP}
use Rattle.par_phase.specs.{declared.ranges.Range.Range, Ranges.AreRanges}
use Rattle.par_phase.proofs.{Answers.answers_all, InRanges.ranges_within}
use Rattle.crossings.specs.{declared.partner_lists.BoxPartners.BoxPartners, PartnerLists.IsFound}
use Rattle.crossings.proofs.PartnerLists.{known_none, trees_made}
use Rattle.crossings.proofs.partner_lists.partner_lists.Goals as goal

pub map_split-requires-clause-accepts : goal.map_split-requires-clause-accepts
map_split-requires-clause-accepts g c = λ κs le k d lt p is.
    let boxes = c.args.boxes.now in
    let lower = c.parts.result in
    let upper = c.parts-2.result in
    let len : ℕ = length lower.groups.now + length upper.groups.now in
    let are = subst (λ (rs : List Range). AreRanges 0 rs len) (sym c.deref.ensures.value)
    c.in_ok-ranges.ensures.ranges in
    let within = (ranges_within 0 len c.deref.result.now are).1 k d lt in (
      c.requires.searchable,
      trees_made boxes ND NP lower c.args.poly c.args.diffusion.now refl c.parts.ensures.entries c.parts.ensures.tree
          c.requires.diffusion c.requires.poly,
      trees_made boxes NP ND upper c.args.diffusion c.args.poly.now refl c.parts-2.ensures.entries c.parts-2.ensures.tree
          c.requires.poly c.requires.diffusion,
      subst (λ (r : Range). r.to ≤ len) (sym is) within,
    )

pub loop-list-init : goal.loop-list-init
loop-list-init g c =
    let Lists : Vec BoxPartners Global → Type 0 = λ found. All (IsFound c.args.boxes.now) found.items in
    let made : All Lists c.in_ok-lists.lists.items =
    answers_all _ _ Lists (λ p r says. says) c.deref.result.now c.in_ok-lists.lists.items
    c.in_ok-lists.ensures.answers in
    record {
      known = known_none c.args.boxes.now (length c.args.boxes.now) c.in_ok-known.known.items refl
          (c.in_ok-known.ensures.items_if_clones_equal (λ y e. search rules));
      each = subst (All Lists) (sym c.deref-list-items.ensures.value) made;
    }

pub loop-list-preserved : goal.loop-list-preserved
loop-list-preserved g c =
    let boxes = c.args.boxes.now in
    let Lists : Vec BoxPartners Global → Type 0 = λ found. All (IsFound boxes) found.items in
    let found = subst Lists (sym c.list-item.is)
    (c.loop-list.invariant.each c.loop-list.list-index c.list-item.result c.loop-list-test.true) in
    record {
      known = c.note.ensures boxes (subst (All (IsFound boxes)) (sym c.deref-in-loop-list.ensures.value) found)
          c.loop-list.invariant.known;
      each = c.loop-list.invariant.each;
    }
