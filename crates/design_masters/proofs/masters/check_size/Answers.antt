use Rattle.std.proofs.lemmas.Result.{IfErr-weaker, IfOk-weaker}
use Rattle.design_masters.proofs.masters.check_size.Goals as goal

pub returns-clause-light : goal.returns-clause-light
returns-clause-light c =
    let items = rw c.as_slice-numbers.ensures at c.in_ok-check_items.ensures.few in
    let a = rw c.as_slice.ensures at c.check_boxes.ensures.few in
    let b = rw c.deref.ensures.value at a in
    let d = rw c.in_ok-boxes.ensures.value at b in
    let boxes = rw c.as_slice-numbers.ensures at d in
    IfOk-weaker c.check_boxes.result _ _ (λ done few. record { items = items; boxes = few }) boxes

pub returns-clause-refused : goal.returns-clause-refused
returns-clause-refused c =
    let items = rw c.as_slice-numbers.ensures at c.in_ok-check_items.ensures.few in
    let a = rw c.as_slice.ensures at c.check_boxes.ensures.many in
    let b = rw c.deref.ensures.value at a in
    let d = rw c.in_ok-boxes.ensures.value at b in
    let boxes = rw c.as_slice-numbers.ensures at d in
    IfErr-weaker c.check_boxes.result _ _ (λ r many. rw many.1 (items, many.0)) boxes
