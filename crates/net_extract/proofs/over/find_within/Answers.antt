use Rattle.std.proofs.Common.{arith, ◌≡◌, ◌++◌, ◌∷◌, ◌⊎◌, ◌<◌, Vec, Global, [], length, inl, inr, refl, sym, ◌∙◌, ap}
use Rattle.std.proofs.{Common.{List, Contains, subst}, lemmas.{Bool.iff_false, List.Elements.Contains-get_or}}
use Rattle.box_tree.specs.{declared.entries.Entry.Entry, Queries.Holds, Tree.no_entry, UnvisitedTrees.entry_in}
use Rattle.box_tree.proofs.Walk.{one_within, within_end}
use Rattle.net_extract.{specs.{Lists.tags_of, Nearby.query_of}, proofs.Nearby.{from_if, tags_push}}
use Rattle.net_extract.proofs.over.find_within.Goals as goal
use Rattle.net_extract.proofs.over.find_within.Goals.{then-is_near+in_ok-push, else-is_near}

pub loop-place-preserved : goal.loop-place-preserved
loop-place-preserved c =
    let parts = c.args.parts.now in
    let query = query_of c.args.near.now in
    let first = c.args.first in
    let p = c.loop-place.place in
    let t = c.loop-place-test.true in
    let w = c.requires.within in
    let le = c.loop-place.auto.place in
    let lt : p < length parts.entries.items = omega arith in
    let entry : Entry = c.entry_in-other.result.now in
    let is : entry_in parts p ≡ entry = sym c.entry_in-other.ensures.value in
    let before = c.loop-place.found.items in
    let after = c.if-is_near.found.items in
    let inv = c.loop-place.invariant in
    let From : Entry → Type 0 = Contains parts.entries.items in
    let there : From entry = subst From is
    (Contains-get_or parts.entries.items p no_entry lt) in
    let case : (Holds query entry × (after ≡ before ++ entry ∷ [])) ⊎ ((Holds query entry → ⊥) × (after ≡ before)) =
    elim c.if-is_near.branch [
      | then-is_near+in_ok-push w ↦
          inl (
            c.is_near.ensures.0 w.if-is_near.true,
            ap (λ (x : Vec Entry Global). x.items) w.found-is ∙ w.in_ok-push.ensures.items,
          )
      | else-is_near w ↦
          inr (iff_false c.is_near.ensures w.if-is_near.false, ap (λ (x : Vec Entry Global). x.items) w.found-is)
    ] in
    record {
      so_far = omega arith;
      gathered =
          one_within parts query [] first p entry (tags_of c.args.found.now.items) (tags_of before) (tags_of after) le is
          (elim case [
            | inl (holds, e) ↦ inl ((holds, refl), ap (λ (xs : List Entry). tags_of xs) e ∙ tags_push before entry)
            | inr (not, e) ↦ inr (λ h. not h.0, ap (λ (xs : List Entry). tags_of xs) e)
          ])
          inv.gathered;
      from = from_if From query c.args.found.now.items before after entry there case inv.from;
    }

pub returns : goal.returns
returns c = record {
  tags = within_end c.args.parts.now (query_of c.args.near.now) [] c.args.first c.loop-place.place c.args.end
      (tags_of c.args.found.now.items) (tags_of c.loop-place.found.items) c.loop-place.invariant.so_far
      c.loop-place-test.false c.loop-place.invariant.gathered;
  entries = c.loop-place.invariant.from;
}
