use Rattle.std.proofs.{Common.{◌≡◌, List, length, take, get_or, sym, subst, arith}, lemmas.List.length-take-le}
use Rattle.box_tree.specs.{declared.entries.Group.Group, Grown.IsGrown}
use Rattle.box_tree.proofs.Trees.{grown_after, grown_alone, last_free}
use Rattle.box_tree.proofs.grow.put_together.Goals as goal

pub returns : goal.returns
returns c = λ entries start middle end left right.
    let at = c.args.at in let top = c.args.left.top in let groups = c.args.left.groups.items in
    let before = take at left.before in
    let free : length before ≡ at = length-take-le at left.before (omega (arith, left.are_free)) in
    let opened = subst (λ (gs : List Group). IsGrown entries start middle gs groups top)
    (last_free left.before at top left.are_free) left.grown in
    record {
      before = before;
      are_free = free;
      grown = c.put_round-top.ensures entries start middle end before groups (get_or left.before at top) (sym free)
          opened
          (grown_after entries middle end groups c.args.right.groups.items c.append.new.self.items
          c.args.right.top c.in_ok-append.ensures.items
          (grown_alone entries middle end c.args.right right));
    }
