use Rattle.coarse_grid.proofs.FewItems.{few_items}
use Rattle.pass_run.proofs.clashes.start_clash.Goals as goal

pub first_clash-requires-clause-few : goal.first_clash-requires-clause-few
first_clash-requires-clause-few c =
    rw c.as_slice.ensures (few_items c.args.tech.now c.args.master.now c.requires.master c.master_is_lawful.ensures)
