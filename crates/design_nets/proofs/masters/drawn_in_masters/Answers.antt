use Rattle.std.proofs.Common.{ap, ◌∙◌}
use Rattle.net_model.proofs.Mapped.{mapped_all, mapped_more}
use Rattle.instance_laws.specs.Shapes.{drawn_items}
use Rattle.design_nets.specs.Shapes.{drawn_in}
use Rattle.design_nets.proofs.masters.drawn_in_masters.Goals as goal

pub loop-master-preserved : goal.loop-master-preserved
loop-master-preserved c =
    let item = c.master-item in
    let own = c.from_vec.ensures
    ∙ (c.in_ok-drawn.ensures ∙ (ap drawn_items c.as_slice.ensures ∙ ap drawn_in item.is)) in
    mapped_more drawn_in c.args.masters.now c.loop-master.master-index item.result c.loop-master.all.items
    c.push.new.self.items c.from_vec.result c.loop-master-test.true c.loop-master.invariant own
    c.in_ok-push.ensures.items

pub returns : goal.returns
returns c = mapped_all drawn_in c.args.masters.now c.loop-master.master-index c.loop-master.all.items
    c.loop-master-test.false c.loop-master.invariant
