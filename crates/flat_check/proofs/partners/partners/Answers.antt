use Rattle.std.proofs.{Common.arith, lemmas.List.Filters.dedup_is}
use Rattle.flat_check.proofs.SecondBoxes.{few_partners, sorted_partners}
use Rattle.flat_check.proofs.partners.partners.Goals as goal

pub returns-then-len-lt2 : goal.returns-then-len-lt2
returns-then-len-lt2 c = few_partners c.args.flat.now.tech.now c.args.flat.now.boxes.now c.args.rule c.args.a _ _
    c.clear.ensures.items c.in_ok-add_partners.ensures (omega (arith, c.len.ensures, c.if-len-lt2.true))

pub returns : goal.returns
returns c =
    sorted_partners c.args.flat.now.tech.now c.args.flat.now.boxes.now c.args.rule c.args.a c.clear.new.self.items
    c.add_partners.new.found.items c.clear.ensures.items c.in_ok-add_partners.ensures
    c.sort_unstable.new.self.items c.dedup.new.self.items c.sort_unstable.ensures.permutation
    c.sort_unstable.ensures.sorted (dedup_is _ _ _ c.dedup.ensures.filtered)
