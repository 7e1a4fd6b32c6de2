use Rattle.std.{proofs.Common.{ℕ, Option, sym, subst}, specs.Prelude.option_to_list}
use Rattle.cell_nets.{specs.Attaching.AreAttached, proofs.Attachments.attached_one}
use Rattle.cell_nets.proofs.attaching.attach.Goals as goal

pub returns-clause-attached : goal.returns-clause-attached
returns-clause-attached c =
    let P : Option ℕ → Type 0 = λ end. AreAttached c.args.wire (option_to_list end) c.args.lists.now.items
    c.add-2.new.lists.items in
    subst P (sym c.in-Some.is)
    (attached_one c.args.wire c.in-Some.part c.args.lists.now.items c.add.new.lists.items c.add-2.new.lists.items
    c.in_ok-add.ensures c.in_ok-add-2.ensures)
