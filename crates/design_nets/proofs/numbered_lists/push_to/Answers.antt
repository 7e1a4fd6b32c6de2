use Rattle.design_nets.proofs.Listing.{list_other, list_pushed}
use Rattle.design_nets.proofs.numbered_lists.push_to.Goals as goal

pub returns-clause-grown : goal.returns-clause-grown
returns-clause-grown g c = list_pushed c.args.lists.now.items c.args.to c.index_mut-list.result.now c.push.new.self
    c.args.element c.requires c.index_mut-list.ensures.value c.in_ok-push.ensures.ok

pub returns-clause-kept : goal.returns-clause-kept
returns-clause-kept g c = λ k ne. list_other c.args.lists.now.items c.args.to k c.push.new.self ne
