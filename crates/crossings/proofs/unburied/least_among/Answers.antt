use Rattle.std.proofs.Common.{◌≡◌, ℕ, ◌+◌, ◌<◌, get_or, Option, Some, length, true, false, Contains, sym, ap, ◌∙◌}
use Rattle.std.proofs.{Common.{subst, arith}, lemmas.{Option.slice_get-get_or, List.length-map}}
use Rattle.box_tree.specs.declared.entries.Entry.{Entry}
use Rattle.crossings.specs.Pairs.{Least, Meets, IsBelow}
use Rattle.crossings.proofs.{Counts.FirstWith, Leasts.{least_kept, least_stays, least_falls, least_all, least_alike}}
use Rattle.crossings.proofs.{Meetings.meets_overlap, EntryBoxes.{owners, owner_read, met_is_owner, entry_faces}}
use Rattle.crossings.proofs.unburied.least_among.Goals.{then-is_below+then-meets, else-is_below}
use Rattle.crossings.proofs.unburied.least_among.Goals.{else-is_below-via-then-is_below+else-meets}
use Rattle.crossings.proofs.unburied.least_among.Goals.{else-is_below-via-else-is_below}
use Rattle.crossings.proofs.unburied.least_among.Goals as goal

pub meets-requires-clause-facing : goal.meets-requires-clause-facing
meets-requires-clause-facing c =
    let entries = c.args.entries.now in
    let n = c.loop-entry.entry-index in
    let lt : n < length entries = omega (arith, c.loop-entry-test.true) in
    entry_faces c.args.boxes.now c.args.number entries n c.entry-item.result c.requires.entries
    (slice_get-get_or entries n c.entry-item.result lt ∙ ap (λ (s : Entry). Some s) (sym c.entry-item.is))

pub loop-entry-preserved : goal.loop-entry-preserved
loop-entry-preserved c =
    let entries = c.args.entries.now in
    let numbers = owners entries in
    let n = c.loop-entry.entry-index in
    let lt : n < length entries = omega (arith, c.loop-entry-test.true) in
    let read : get_or numbers n 0 ≡ c.entry-item.result.owner =
    owner_read entries n c.entry-item.result lt c.entry-item.is in
    let P : ℕ → Type 0 = Meets c.args.tech.now c.args.boxes.now c.args.number in
    let at : Option ℕ → Type 0 = Least (FirstWith numbers (n + 1) P) in
    elim c.if-is_below.branch [
      | then-is_below+then-meets w ↦
          let below = subst (λ (k : ℕ). IsBelow k c.loop-entry.least) (sym read)
          (c.is_below.ensures.0 w.if-is_below.true) in
          let met = subst P (sym read) (w.meets.ensures.0 w.if-meets.true) in
          subst at (ap (λ (k : ℕ). Some k) read ∙ sym w.least-is)
          (least_falls numbers n P c.loop-entry.least c.loop-entry.invariant below met)
      | else-is_below w ↦ subst at (sym w.least-is) (elim w.else-is_below.branch [
        | else-is_below-via-then-is_below+else-meets v ↦
            let lacks = λ (h : P (get_or numbers n 0)). let t : v.meets.result ≡ true =
            v.meets.ensures.1 (subst P read h) in let e : v.meets.result ≡ false =
            v.if-meets.false in let none : ⊥ = cc in none in
            least_kept numbers n P c.loop-entry.least c.loop-entry.invariant lacks
        | else-is_below-via-else-is_below v ↦
            let above = λ (h : IsBelow (get_or numbers n 0) c.loop-entry.least).
            let t : c.is_below.result ≡ true =
            c.is_below.ensures.1 (subst (λ (k : ℕ). IsBelow k c.loop-entry.least) read h) in
            let e : c.is_below.result ≡ false = v.if-is_below.false in let none : ⊥ = cc in none in
            least_stays numbers n P c.loop-entry.least c.loop-entry.invariant above
      ])
    ]

pub returns : goal.returns
returns c =
    let entries = c.args.entries.now in
    let numbers = owners entries in
    let P : ℕ → Type 0 = Meets c.args.tech.now c.args.boxes.now c.args.number in
    let Q : ℕ → Type 0 = λ k. Contains numbers k × P k in
    let all : c.loop-entry.entry-index ≡ length numbers =
    omega (arith, c.loop-entry-test.false, length-map entries (λ (s : Entry). s.owner)) in
    least_alike Q P c.loop-entry.least (λ k m. m.1)
    (λ k m. (
      met_is_owner c.args.boxes.now c.args.number k entries c.requires.entries
          (meets_overlap c.args.tech.now c.args.boxes.now c.args.number k m),
      m,
    ))
    (least_all numbers c.loop-entry.entry-index P c.loop-entry.least all c.loop-entry.invariant)
