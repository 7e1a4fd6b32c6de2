use Rattle.std.proofs.Common.{◌^◌}
use Rattle.made_designs.proofs.{Short.list_short, Small.{masters_plain, few_variables}}
use Rattle.made_designs.proofs.made_designs_stay_small.Goals as goal

pub returns-clause-short : goal.returns-clause-short
returns-clause-short c axis layouts =
    let plain = masters_plain c.args.tech.now c.args.n c.requires.made.0 c.args.masters.now c.args.plan.now.masters
    c.requires.few c.requires.made.1 c.requires.made.2 in
    list_short axis c.args.tech.now c.args.plan.now c.args.masters.now layouts (2 ^ 12) (2 ^ 12)
    (record { shipped = c.requires.shipped; are = c.requires.are; plain = plain })

pub returns-clause-few_variables : goal.returns-clause-few_variables
returns-clause-few_variables c axis =
    few_variables axis c.args.tech.now c.args.masters.now c.requires.alone
    (masters_plain c.args.tech.now c.args.n c.requires.made.0 c.args.masters.now c.args.plan.now.masters
    c.requires.few c.requires.made.1 c.requires.made.2)
