use Rattle.std.proofs.Common.{length, ap, arith}
use Rattle.cif_answers.proofs.InRange.{pieces_in_range}
use Rattle.cif_answers.proofs.netting.netlist_of.Goals as goal

pub netlist_text-requires : goal.netlist_text-requires
netlist_text-requires g c = λ k d lt.
    omega (
      arith,
      pieces_in_range _ c.deref.result.now c.in_ok-list.list c.in_ok-list.ensures.extracted k d lt,
      ap
          length c.deref.ensures.value,
      ap length c.deref-2.ensures.value,
    )
