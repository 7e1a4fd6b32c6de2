use Rattle.std.proofs.Common.{arith, ◌≡◌, ℕ, ◌<◌, None, true, false, Vec, Global, length, get_or, inl, inr, sym, ◌∙◌}
use Rattle.std.proofs.{Common.ap, lemmas.Bool.iff_false}
use Rattle.box_tree.proofs.Walk.{left_by_test, visited_by_test, one_within, run_visited_more, within_end}
use Rattle.box_tree.proofs.unvisited_trees.look_through.Goals.{then-is_none+then-holds+in_ok-push}
use Rattle.box_tree.proofs.unvisited_trees.look_through.Goals.{then-is_none+else-holds, else-is_none}
use Rattle.box_tree.specs.UnvisitedTrees.{IsLeft, entry_in}
use Rattle.box_tree.proofs.unvisited_trees.look_through.Goals as goal

pub loop-place-preserved : goal.loop-place-preserved
loop-place-preserved c =
    let parts = c.args.parts.now in
    let query = c.args.query.now in
    let marks = c.args.marks.now in
    let first = c.args.first in
    let p = c.loop-place.place in
    let t = c.loop-place-test.true in
    let w = c.requires.within in
    let le = c.loop-place.auto.place in
    let lt : p < length parts.entries.items = omega arith in
    let entry = c.entry_in-entry.result.now in
    let is : entry_in parts p ≡ entry = sym c.entry_in-entry.ensures.value in
    let inv = c.loop-place.invariant in
    record {
      so_far = omega arith;
      gathered =
          one_within parts query marks first p entry c.args.found.now.items c.loop-place.found.items
          c.if-is_none.found.items le is
          (elim c.if-is_none.branch [
            | then-is_none+then-holds+in_ok-push w ↦
                inl (
                  (
                    w.holds.ensures.0 w.if-holds.true,
                    left_by_test (get_or marks entry.tag None) c.is_none.result
                        c.is_none.ensures w.if-is_none.true,
                  ),
                  ap (λ (x : Vec ℕ Global). x.items) w.found-is ∙ w.in_ok-push.ensures.items,
                )
            | then-is_none+else-holds w ↦
                inr (
                  λ h. iff_false w.holds.ensures w.if-holds.false h.0,
                  ap (λ (x : Vec ℕ Global). x.items)
                      w.found-is,
                )
            | else-is_none w ↦
                (let gone : IsLeft marks entry.tag
                → ⊥ = visited_by_test (get_or marks entry.tag None) c.is_none.result c.is_none.ensures
                w.if-is_none.false in
                inr (λ h. gone h.1, ap (λ (x : Vec ℕ Global). x.items) w.found-is))
          ])
          inv.gathered;
      marked = elim c.if-is_none.branch [
        | then-is_none+then-holds+in_ok-push w ↦ (λ all. (let no : false ≡ true = sym w.all-is ∙ all in absurd (cc)))
        | then-is_none+else-holds w ↦ (λ all. (let no : false ≡ true = sym w.all-is ∙ all in absurd (cc)))
        | else-is_none w ↦
            (let gone : IsLeft marks entry.tag
            → ⊥ = visited_by_test (get_or marks entry.tag None) c.is_none.result c.is_none.ensures
            w.if-is_none.false in
            λ all. run_visited_more parts marks first p entry is gone (inv.marked (sym w.all-is ∙ all)))
      ];
    }

pub returns-clause-found : goal.returns-clause-found
returns-clause-found c =
    within_end c.args.parts.now c.args.query.now c.args.marks.now c.args.first c.loop-place.place c.args.end
    c.args.found.now.items c.loop-place.found.items c.loop-place.invariant.so_far c.loop-place-test.false
    c.loop-place.invariant.gathered
