use Rattle.std.proofs.Common.{◌≡◌, ◌<◌, ◌+◌, ℕ, Vec, Global, length, inl, inr, sym, ap, ◌∙◌, subst, arith}
use Rattle.std.proofs.lemmas.{Bool.iff_false, Option.slice_get-get_or}
use Rattle.box_tree.{specs.{declared.entries.Entry.Entry, Found.AreGathered}, proofs.Trees.entry_read}
use Rattle.crossings.{specs.Pairs.IsMetAt, proofs.{MetEntries.met_more, EntryBoxes.entry_faces}}
use Rattle.crossings.proofs.bad_pairs.add_met_entries.Goals.{then-meets+in_ok-push, else-meets}
use Rattle.crossings.proofs.bad_pairs.add_met_entries.Goals as goal

pub meets-requires-clause-facing : goal.meets-requires-clause-facing
meets-requires-clause-facing c =
    let entries = c.args.parts.now.entries.now in
    let place = c.loop-place.place in
    let within : place < length entries = omega (arith, c.loop-place-test.true, c.requires.within) in
    entry_faces c.args.boxes.now c.args.number entries place _ c.requires.tree
    (slice_get-get_or entries place c.index-parts-place.result within)

pub loop-place-preserved : goal.loop-place-preserved
loop-place-preserved c =
    let entries = c.args.parts.now.entries.now in
    let place = c.loop-place.place in
    let entry = c.index-parts-place in
    let within : place < length entries = omega (arith, c.loop-place-test.true, c.requires.within) in
    let read = entry_read entries place entry.result within entry.is in
    let owner = ap (λ (s : Entry). s.owner) (sym read ∙ entry.is) in
    let items = λ (v : Vec ℕ Global). v.items in
    met_more c.args.tech.now c.args.boxes.now c.args.number entries c.args.group.now.start place _
    c.args.found.now.items c.loop-place.found.items c.if-meets.found.items c.loop-place.auto.place owner
    (elim c.if-meets.branch [
      | then-meets+in_ok-push w ↦
          inl (c.meets.ensures.0 w.if-meets.true, ap items w.found-is ∙ w.in_ok-push.ensures.items)
      | else-meets w ↦ inr (iff_false c.meets.ensures w.if-meets.false, ap items w.found-is)
    ])
    c.loop-place.invariant

pub returns : goal.returns
returns c =
    let group = c.args.group.now in
    let end : c.loop-place.place ≡ group.start + group.count =
    omega (arith, c.loop-place-test.false, c.loop-place.auto.place-end, c.loop-place.auto.place) in
    subst (λ (n : ℕ).
    AreGathered
    (IsMetAt c.args.tech.now c.args.boxes.now c.args.number c.args.parts.now.entries.now
    group.start n) c.args.found.now.items c.loop-place.found.items) end
    c.loop-place.invariant
