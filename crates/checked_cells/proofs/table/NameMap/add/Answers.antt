use Rattle.std.proofs.Common.{map, ap, ◌∙◌}
use Rattle.checked_cells.proofs.Entries.{seen-insert_entry}
use Rattle.checked_cells.proofs.table.NameMap.add.Goals as goal

pub returns : goal.returns
returns c = ap (λ es. map (λ e. (e.0.now, e.1)) es) c.in_ok-insert.ensures.entries
    ∙ seen-insert_entry (λ k. k.now) c.args.name c.args.binding c.args.self.now.bindings.entries c.requires
