use Rattle.std.proofs.Common.{arith, subst, sym, List, ℤ}
use Rattle.scan_line.specs.{Begins.IsOrderOf, Order.IsScanOrder}
use Rattle.scan_line.proofs.{Scanned.{begins_len, scan_order}, lanes.Lanes.new.Goals.In_ok-order}
use Rattle.scan_line.proofs.lanes.Lanes.new.Goals as goal

pub sort_order-requires : goal.sort_order-requires
sort_order-requires c =
    let begins = c.in_ok-begins.begins.items in
    omega (
      arith,
      begins_len c.args.axis c.args.coords.now c.args.items.now begins
          c.in_ok-begins.ensures,
      c.deref.ensures.len,
      c.requires.few,
    )

made : (c : In_ok-order) → IsScanOrder c.args.axis c.args.coords.now c.args.items.now c.in_ok-order.order.items
made c =
    let begins = c.in_ok-begins.begins.items in
    let order = c.in_ok-order.order.items in
    scan_order c.args.axis c.args.coords.now c.args.items.now begins order c.in_ok-begins.ensures
    (subst (λ (bs : List ℤ). IsOrderOf bs order) c.deref.ensures.value c.in_ok-order.ensures)

pub new-requires-clause-order : goal.new-requires-clause-order
new-requires-clause-order c =
    subst (IsScanOrder c.args.axis c.args.coords.now c.args.items.now) (sym c.deref-3.ensures.value)
    (made (goal.at.new-requires-clause-order c).In_ok-order)

pub new-requires-2-clause-order : goal.new-requires-2-clause-order
new-requires-2-clause-order c =
    subst (IsScanOrder c.args.axis c.args.coords.now c.args.items.now) (sym c.deref-5.ensures.value)
    (made (goal.at.new-requires-2-clause-order c).In_ok-order)

pub new-requires-3-clause-order : goal.new-requires-3-clause-order
new-requires-3-clause-order c =
    subst (IsScanOrder c.args.axis c.args.coords.now c.args.items.now) (sym c.deref-7.ensures.value)
    (made (goal.at.new-requires-3-clause-order c).In_ok-order)

pub new-requires-4-clause-order : goal.new-requires-4-clause-order
new-requires-4-clause-order c =
    subst (IsScanOrder c.args.axis c.args.coords.now c.args.items.now) (sym c.deref-9.ensures.value)
    (made (goal.at.new-requires-4-clause-order c).In_ok-order)

pub returns : goal.returns
returns c = record {
  order = made (goal.at.returns c).In_ok-order;
  begins = c.in_ok-begins.ensures;
  metal = c.in_ok-metal.ensures;
  diffusion = c.in_ok-diffusion.ensures;
  poly = c.in_ok-poly.ensures;
  channels = c.in_ok-channels.ensures;
}
