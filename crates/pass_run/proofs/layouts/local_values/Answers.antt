use Rattle.std.proofs.Common.{◌+◌, ◌-◌, arith}
use Rattle.pass_run.proofs.Values.{part_built}
use Rattle.pass_run.proofs.layouts.local_values.Goals as goal

pub returns : goal.returns
returns c =
    let vars = c.args.vars in
    let base = c.args.base in
    part_built c.args.x.now base vars ((base + (vars - 1)) - base) c.new-values.result.items
    c.extend_from_slice.new.self.items c.extend_from_slice-2.new.self.items c.requires.some c.requires.origin
    c.requires.within
    (omega arith) c.new-values.ensures.items c.in_ok-extend_from_slice.ensures.items
    c.in_ok-extend_from_slice-2.ensures.items
