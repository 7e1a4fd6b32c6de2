use Rattle.std.proofs.Common.{sym, ap, ◌∙◌}
use Rattle.checked_cells.{specs.Sides.taken_or_none, proofs.Entries.lookup-seen}
use Rattle.checked_cells.proofs.sides.SideMap.at.Goals as goal

pub returns-in-Some : goal.returns-in-Some
returns-in-Some c =
    ap taken_or_none (sym c.in-Some.is ∙ c.copied.ensures ∙ c.get.ensures.value
    ∙ lookup-seen (λ k. k.now) c.args.path.now c.args.self.now.taken.entries)

pub returns-in-None : goal.returns-in-None
returns-in-None c = c.none.ensures
    ∙ ap taken_or_none (sym c.in-None.is ∙ c.copied.ensures ∙ c.get.ensures.value
    ∙ lookup-seen (λ k. k.now) c.args.path.now c.args.self.now.taken.entries)
