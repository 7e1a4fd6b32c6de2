use Rattle.std.proofs.Common.{◌≡◌, ◌∙◌, ℕ, ◌<◌, length, true, false, sym, subst, arith}
use Rattle.box_tree.specs.{declared.entries.Entry.Entry, Queries.Holds, Tree.no_entry, UnvisitedTrees.entry_in}
use Rattle.coarse_grid.specs.{Clash.is_near_at, Nearby.IsItemEntry}
use Rattle.coarse_grid.proofs.{Nears.by_lt, NearGroups.{NearEntry, not_true}}
use Rattle.coarse_grid.proofs.nearby.has_near_in.Goals.{
  else-holds-via-then-holds+else-is_near,
  else-holds-via-else-holds,
}
use Rattle.coarse_grid.proofs.nearby.has_near_in.Goals as goal

pub loop-place-preserved : goal.loop-place-preserved
loop-place-preserved c = λ p low high.
    let tech = c.args.tech.now in
    let coords = c.args.coords.now in
    let items = c.args.items.now in
    let parts = c.args.tree.now.parts in
    let query = c.args.query.now in
    let place = c.loop-place.place in
    let entry : Entry = c.entry_in-entry.result.now in
    let apart = λ (s : Entry). is_near_at tech coords items c.args.i s.owner ≡ false in
    let read : entry ≡ entry_in parts place = c.entry_in-entry.ensures.value in
    by_lt p place (λ before. c.loop-place.invariant p low before)
    (λ at. let same : place ≡ p = omega arith in
    let lt : place < length parts.entries.items = omega (arith, c.loop-place-test.true, c.requires.within) in
    let is : IsItemEntry coords items c.args.tree.now.class (entry_in parts place) =
    c.requires.tree.entries.sound place no_entry lt in
    let here : apart entry = elim c.else-holds.branch [
      | else-holds-via-then-holds+else-is_near w ↦ sym w.is_near.ensures ∙ w.if-is_near.false
      | else-holds-via-else-holds w ↦
          not_true (is_near_at tech coords items c.args.i entry.owner)
          (λ near. let asked = c.requires.asked (entry_in parts place) is
          (subst (NearEntry tech coords items c.args.i) read near) in
          let t : c.holds.result ≡ true = c.holds.ensures.1 (subst (Holds query) (sym read) asked) in
          let f : c.holds.result ≡ false = w.if-holds.false in
          let no : ⊥ = cc in no)
    ] in
    subst (λ (n : ℕ). apart (entry_in parts n)) same (subst apart read here))
