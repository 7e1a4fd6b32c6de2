use Rattle.std.proofs.Common.{arith, ◌↔◌, ℕ, ◌<◌, Bool, false, IsTrue, List, length, get_or, ap, ◌∙◌}
use Rattle.std.proofs.lemmas.Result.{IfOk-weaker}
use Rattle.par_phase.proofs.Numbers.{answer_has, one_for_each}
use Rattle.net_extract.specs.{CutLists.{IsCrowded, IsTold}, Entries.cut_entry, Grounds.placed_on}
use Rattle.net_extract.proofs.Shown.{shown_as}
use Rattle.net_extract.proofs.cut_lists.crowded_entries.Goals as goal

pub entries_of-requires-clause-counted : goal.entries_of-requires-clause-counted
entries_of-requires-clause-counted g c =
    ap (λ (xs : List Bool). length xs) c.deref.ensures.value
    ∙ one_for_each _ _ (length c.args.ground.now.boxes.now) c.in_ok-crowded.crowded.items c.in_ok-crowded.ensures.answers
    (λ k crowded. Unit {0}) (λ p crowded says. tt)

pub returns : goal.returns
returns g c =
    let boxes = c.args.ground.now.boxes.now in
    let pieces = placed_on c.args.ground.now in
    let lists = c.args.lists.now in
    let n : ℕ = length boxes in
    let Says : ℕ → Bool → Type 0 = λ k crowded. IsTrue crowded ↔ IsCrowded boxes pieces lists k in
    let crowded = c.deref.result.now in
    let each : (k : ℕ) → k < n → Says k (get_or crowded k false) = λ k lt.
    rw c.deref.ensures.value
    (answer_has _ _ n c.in_ok-crowded.crowded.items c.in_ok-crowded.ensures.answers Says (λ p r says. says) k false lt) in
    IfOk-weaker c.entries_of.result _ _
    (λ entries. shown_as (IsTold crowded) (IsCrowded boxes pieces lists) (cut_entry boxes pieces) n n entries.items
    (omega arith) (λ k lt. (each k lt).0) (λ k lt. (each k lt).1))
    c.entries_of.ensures
