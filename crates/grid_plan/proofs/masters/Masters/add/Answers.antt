use Rattle.std.proofs.Common.{◌∙◌, ℕ, Option, is_some, ap, sym}
use Rattle.grid_plan.{specs.Numbered.is_same_number, proofs.FirstPlaces.{there_before, there_anew}}
use Rattle.grid_plan.proofs.{MastersRead.read_of, Placing.{is_there, not_there, none_of}}
use Rattle.grid_plan.proofs.masters.Masters.add.Goals as goal

pub returns-in_ok-push : goal.returns-in_ok-push
returns-in_ok-push c =
    let xs = c.args.self.now.cells.items in
    let read = read_of c.args.self.now c.args.cell c.index.result.now c.requires c.index.ensures in
    c.in_ok-push.ensures
    ∙ sym (there_anew is_same_number xs c.args.cell
    (not_there xs c.args.cell (sym read ∙ none_of c.index.result.now c.if-is_none.ensures)))

pub returns-else-is_none : goal.returns-else-is_none
returns-else-is_none c =
    let xs = c.args.self.now.cells.items in
    let read = read_of c.args.self.now c.args.cell c.index.result.now c.requires c.index.ensures in
    sym (there_before is_same_number xs c.args.cell
    (is_there xs c.args.cell (sym (ap (λ (o : Option ℕ). is_some o) read) ∙ c.if-is_none.ensures)))
