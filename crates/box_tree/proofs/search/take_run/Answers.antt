use Rattle.std.proofs.Common.{◌≡◌, ℕ, ◌+◌, ◌<◌, List, length, Vec, Global, sym, ap, ◌∙◌, subst, arith}
use Rattle.std.proofs.lemmas.Bool.{iff_false}
use Rattle.box_tree.{specs.{Found.IsTaken, Queries.Holds, Tree.entry_of}, proofs.Taken.{taken_past, taken_push}}
use Rattle.box_tree.proofs.{Trees.entry_read, search.take_run.Goals.{then-holds+in_ok-push, else-holds}}
use Rattle.box_tree.proofs.search.take_run.Goals as goal

pub loop-place-preserved : goal.loop-place-preserved
loop-place-preserved c =
    let entries = c.args.entries.now in
    let P = Holds c.args.query.now in
    let place = c.loop-place.place in
    let inv = c.loop-place.invariant in
    let w = c.requires.within in
    let t = c.loop-place-test.true in
    let lt : place < length entries = omega arith in
    let read : c.index-entries-place.result ≡ entry_of entries place =
    entry_read entries place c.index-entries-place.result lt c.index-entries-place.is in
    elim c.if-holds.branch [
      | then-holds+in_ok-push w ↦
          taken_push entries P place c.loop-place.found.items c.if-holds.found.items lt
          (subst P read (c.holds.ensures.0 w.if-holds.true))
          (ap (λ (x : Vec ℕ Global). x.items) w.found-is ∙ w.in_ok-push.ensures.items) inv
      | else-holds w ↦
          (let T : List ℕ → Type 0 = IsTaken entries P (place + 1) in
          subst T (sym (ap (λ (x : Vec ℕ Global). x.items) w.found-is))
          (taken_past entries P place (place + 1) c.loop-place.found.items (omega arith) (omega arith)
          (λ q low high holds. iff_false c.holds.ensures w.if-holds.false
          (let at : q ≡ place = omega arith in subst P (ap (entry_of entries) at ∙ sym read) holds)) inv))
    ]

pub returns : goal.returns
returns c =
    let past = c.loop-place-test.false in
    let within = c.requires.within in
    let auto = c.loop-place.auto.place-end in
    let so_far = c.loop-place.invariant.within in
    let T : ℕ → Type 0 = λ n. IsTaken c.args.entries.now (Holds c.args.query.now) n
    c.loop-place.found.items in
    let e : c.loop-place.place ≡ c.args.start + c.args.count = omega arith in
    subst T e c.loop-place.invariant
