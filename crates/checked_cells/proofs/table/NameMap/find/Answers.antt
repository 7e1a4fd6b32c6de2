use Rattle.std.proofs.Common.{◌∙◌}
use Rattle.checked_cells.proofs.Entries.{lookup-seen}
use Rattle.checked_cells.proofs.table.NameMap.find.Goals as goal

pub returns : goal.returns
returns c = c.copied.ensures ∙ c.get.ensures.value
    ∙ lookup-seen (λ k. k.now) c.args.name.now c.args.self.now.bindings.entries
