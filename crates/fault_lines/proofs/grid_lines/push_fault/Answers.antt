use Rattle.std.proofs.{Common.{◌++◌, ap, ◌∙◌, OnOk, Result, Ok, Err}, lemmas.List.append_assoc}
use Rattle.std.specs.Prelude.{codes, decimal}
use Rattle.fault_lines.specs.GridLines.{border_word, place_words}
use Rattle.fault_lines.proofs.grid_lines.push_fault.Goals as goal

-- what follows where there is a value
on_ok : {A E : Type 0} (r : Result A E) (P Q : Type 0) → OnOk r P → (P → Q) → OnOk r Q
on_ok (Ok x) P Q p f = f p
on_ok (Err e) P Q p f = tt

pub returns-in_ok-push_place-in-PortMismatch : goal.returns-in_ok-push_place-in-PortMismatch
returns-in_ok-push_place-in-PortMismatch c =
    let old = c.args.out.now.items in
    let place = place_words (codes "PortMismatch ") c.in-PortMismatch.row c.in-PortMismatch.col in
    let count = decimal c.in-PortMismatch.index in
    let counted = c.push_count-in-PortMismatch.ensures in
    let placed = c.in_ok-push_place-in-PortMismatch.ensures in
    let border = c.border_word.ensures in
    let joined = append_assoc old place (border_word c.in-PortMismatch.top ++ count) in
    rw c.in-PortMismatch.is
    (on_ok c.push_count-in-PortMismatch.result _ _ counted
    (λ e. e ∙ (ap (λ xs. xs ++ (c.border_word.result.now ++ count)) placed
    ∙ (ap (λ w. (old ++ place) ++ (w ++ count)) border ∙ joined))))
