use Rattle.std.proofs.{Common.{◌≡◌, ◌∙◌, w64}, lemmas.Int.to_z-of_z}
use Rattle.scan_line.proofs.Scanned.{order_by_begins, begins_before, IsPartBefore, part_in_order}
use Rattle.scan_line.{proofs.Scanned.part_before, specs.Begins.begins_of}
use Rattle.scan_line.proofs.lanes.Lanes.line_to.Goals as goal

pub part_before-requires : goal.part_before-requires
part_before-requires c =
    let own : c.deref.result.now ≡ begins_of c.args.axis c.args.coords.now c.args.items.now = c.deref.ensures.value
    ∙ c.requires.lanes.begins in
    let list = c.list_near-list in
    order_by_begins c.args.axis c.args.coords.now c.args.items.now c.deref.result.now list.result.now own
    list.ensures.in_range list.ensures.in_order

pub returns-clause-in_order : goal.returns-clause-in_order
returns-clause-in_order c =
    let list = c.list_near-list in
    let part : IsPartBefore c.deref.result.now list.result.now c.part_before.result.now c.args.j =
    record {
      first = c.part_before.ensures.first;
      before = c.part_before.ensures.before;
      all = c.part_before.ensures.all;
    } in
    part_in_order c.args.axis c.args.coords.now c.args.items.now c.deref.result.now list.result.now
    c.part_before.result.now c.args.j part list.ensures.in_order

pub returns-clause-before : goal.returns-clause-before
returns-clause-before c =
    let own : c.deref.result.now ≡ begins_of c.args.axis c.args.coords.now c.args.items.now = c.deref.ensures.value
    ∙ c.requires.lanes.begins in
    let list = c.list_near-list in
    let part : IsPartBefore c.deref.result.now list.result.now c.part_before.result.now c.args.j =
    record {
      first = c.part_before.ensures.first;
      before = c.part_before.ensures.before;
      all = c.part_before.ensures.all;
    } in
    part_before c.args.axis c.args.coords.now c.args.items.now c.deref.result.now list.result.now
    c.part_before.result.now c.args.j own c.requires.among part list.ensures.in_range

pub returns-clause-all : goal.returns-clause-all
returns-clause-all c = λ i lt same before near.
    let own : c.deref.result.now ≡ begins_of c.args.axis c.args.coords.now c.args.items.now = c.deref.ensures.value
    ∙ c.requires.lanes.begins in
    c.part_before.ensures.all i
    (c.list_near-list.ensures.near i lt same (rw (to_z-of_z w64 c.args.reach c.ranges.reach) near))
    (begins_before c.args.axis c.args.coords.now c.args.items.now c.deref.result.now i c.args.j own lt
    c.requires.among before)
