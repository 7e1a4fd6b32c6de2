use Rattle.std.proofs.{Common.{◌≡◌, not, ap, ◌∙◌}, lemmas.Result.IfOk-weaker}
use Rattle.checked_cells.specs.Grids.{is_new_name}
use Rattle.stick_cell.{specs.GridNames.names_in, proofs.GridNames.any_seen}
use Rattle.stick_cell.proofs.grids.GridNames.add.Goals as goal

pub returns-clause-new : goal.returns-clause-new
returns-clause-new c =
    let name = c.args.name.now in
    IfOk-weaker c.insert.result _ (λ new. new ≡ is_new_name (names_in c.args.self.now) name)
    (λ new e. e ∙ ap not (any_seen (λ key. key.now) name c.args.self.now.seen.keys)) c.insert.ensures.added
