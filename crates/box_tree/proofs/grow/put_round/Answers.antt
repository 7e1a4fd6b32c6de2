use Rattle.std.proofs.Common.{◌-◌, refl, arith}
use Rattle.box_tree.proofs.Trees.{grown_both}
use Rattle.box_tree.proofs.grow.put_round.Goals as goal

pub returns : goal.returns
returns c = λ entries start middle end before mid empty there left right.
    let joined = c.joined.result in let more = c.joined.ensures in
    grown_both entries start middle end c.args.at before _ mid c.args.groups.now.items _
    empty c.args.left.now c.args.right.now
    (record {
      outer = joined.outer;
      inner = joined.inner;
      tag = joined.tag;
      start = joined.start;
      count = joined.count;
      inside = c.len.result - 1 - c.args.at;
    })
    refl there left right
    (record { outer = more.placed.outer; inner = more.placed.inner }) more.run.0 more.run.1
    (λ s h. let b = more.first s h in record { outer = b.outer; inner = b.inner; tag = b.tag })
    (λ s h. let b = more.second s h in record { outer = b.outer; inner = b.inner; tag = b.tag })
    (omega (arith, c.len.ensures)) refl
