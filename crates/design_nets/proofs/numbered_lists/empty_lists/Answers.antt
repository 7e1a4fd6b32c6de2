use Rattle.std.proofs.{Common.{length, ap, ◌∙◌, arith}, lemmas.List.length_push}
use Rattle.design_nets.{specs.Listing.list_in, proofs.Listing.lists_empty}
use Rattle.design_nets.proofs.numbered_lists.empty_lists.Goals as goal

pub loop-preserved : goal.loop-preserved
loop-preserved g c = record {
  counted =
      (let long = ap length c.in_ok-push.ensures.items in let more = length_push c.loop.lists.items c.new.result in
      let was = c.loop.invariant.counted in omega (arith, long, more, was));
  empty = λ k. ap (λ ls. list_in ls k) c.in_ok-push.ensures.items
      ∙ lists_empty c.loop.lists.items c.new.result c.loop.invariant.empty c.new.ensures.items k;
}
