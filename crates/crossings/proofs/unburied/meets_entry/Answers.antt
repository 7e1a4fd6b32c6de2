use Rattle.std.proofs.Common.{◌≡◌, ℕ, ◌<◌, false, true, inl, inr, length, refl, sym, ◌∙◌, subst, arith}
use Rattle.std.proofs.lemmas.{Bool.cases_lt, Option.slice_get-get_or}
use Rattle.box_tree.{specs.{declared.entries.Entry.Entry, Tree.entry_of}, proofs.Trees.entry_read}
use Rattle.crossings.{specs.Pairs.Meets, proofs.EntryBoxes.entry_faces}
use Rattle.crossings.proofs.unburied.meets_entry.Goals as goal

pub meets-requires-clause-facing : goal.meets-requires-clause-facing
meets-requires-clause-facing c =
    let entries = c.args.parts.now.entries.now in
    let place = c.loop-place.place in
    let within : place < length entries = omega (arith, c.loop-place-test.true, c.requires.within) in
    entry_faces c.args.boxes.now c.args.number entries place _ c.requires.tree
    (slice_get-get_or entries place c.index-parts-place.result within)

pub loop-place-init : goal.loop-place-init
loop-place-init c = λ p low high met. absurd (omega (arith, low, high))

pub returns-then-meets : goal.returns-then-meets
returns-then-meets c = (_, c.if-meets.ensures.0 refl)

pub loop-place-preserved : goal.loop-place-preserved
loop-place-preserved c = λ p low high met.
    let tech = c.args.tech.now in
    let boxes = c.args.boxes.now in
    let number = c.args.number in
    let entries = c.args.parts.now.entries.now in
    let place = c.loop-place.place in
    let entry = c.index-parts-place in
    elim (cases_lt p place) [
      | inl less ↦ c.loop-place.invariant p low less met
      | inr past ↦
          let within : place < length entries = omega (arith, c.loop-place-test.true, c.requires.within) in
          let at : p ≡ place = omega (arith, past, high) in
          let read = entry_read entries place entry.result within entry.is in
          let met_at = subst (λ (n : ℕ). Meets tech boxes number (entry_of entries n).owner) at met in
          let here = subst (λ (s : Entry). Meets tech boxes number s.owner) (sym read ∙ entry.is) met_at in
          let t : false ≡ true = c.if-meets.ensures.1 here in
          let none : ⊥ = cc in none
    ]

pub returns : goal.returns
returns c = λ p low high met. c.loop-place.invariant p low (omega (arith, high, c.loop-place-test.false)) met
