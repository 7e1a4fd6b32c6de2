use Rattle.std.proofs.Common.{◌∙◌, ap}
use Rattle.net_model.{specs.Netlists.device_of, proofs.Mapped.{mapped_all, mapped_more}}
use Rattle.net_model.proofs.devices.devices_of.Goals as goal

pub loop-c-preserved : goal.loop-c-preserved
loop-c-preserved c =
    mapped_more (device_of c.args.pieces.now) c.args.crossings.now c.loop-c.c-index c.c-item.result
    c.loop-c.devices.items c.push.new.self.items c.device_of.result c.loop-c-test.true c.loop-c.invariant
    (c.device_of.ensures ∙ ap (device_of c.args.pieces.now) c.c-item.is)
    c.in_ok-push.ensures.items

pub returns : goal.returns
returns c = mapped_all (device_of c.args.pieces.now) c.args.crossings.now c.loop-c.c-index c.loop-c.devices.items
    c.loop-c-test.false c.loop-c.invariant
