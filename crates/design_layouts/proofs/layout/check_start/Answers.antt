use Rattle.std.proofs.Common.{refl, arith}
use Rattle.pass_run.specs.{Layouts.start_of_master}
use Rattle.design_layouts.proofs.Layouts.{clash_of}
use Rattle.design_layouts.proofs.layout.check_start.Goals as goal

pub returns-in-None-clause-clean : goal.returns-in-None-clause-clean
returns-in-None-clause-clean c = rw c.in-None.is at c.requires.clash

pub returns-in_ok-line-in-Some-clause-refused : goal.returns-in_ok-line-in-Some-clause-refused
returns-in_ok-line-in-Some-clause-refused c =
    let clash = rw c.in-Some.is at c.requires.clash in (
      refl,
      clash_of c.args.tech.now c.args.master.now (start_of_master c.args.tech.now c.args.master.now) c.in-Some.a
          c.in-Some.b c.in_ok-line-in-Some.line
          c.near_share_a_point.ensures refl clash (rw c.as_slice-list.ensures at c.in_ok-line-in-Some.ensures),
    )
