use Rattle.std.proofs.Common.{ℕ, subst}
use Rattle.crossings.{specs.Pairs.DoOverlap, proofs.Overlapped.{not_itself, two_overlap}}
use Rattle.crossings.proofs.partners.search_partners.Goals as goal

pub returns-in_default : goal.returns-in_default
returns-in_default c = c.in_default.ensures

pub returns-in_default-overlapped : goal.returns-in_default-overlapped
returns-in_default-overlapped c = λ k h.
    let same = c.in_default-overlapped.ensures k h in
    not_itself c.args.boxes.now c.args.number (subst (λ (n : ℕ). DoOverlap c.args.boxes.now c.args.number n) same h)

pub returns-in-Some-overlapped-2 : goal.returns-in-Some-overlapped-2
returns-in-Some-overlapped-2 c =
    let first = c.in-Some-overlapped in
    let second = c.in-Some-overlapped-2 in
    two_overlap c.args.boxes.now c.args.number first.first second.field-0 first.ensures.0 second.ensures.0
    second.ensures.1

pub returns-in-None : goal.returns-in-None
returns-in-None c = (c.in-Some-overlapped.ensures.0, c.in-None.ensures)
