use Rattle.std.proofs.Common.{arith, ◌≡◌, ◌+◌, length}
use Rattle.net_extract.proofs.Begun.{begun}
use Rattle.net_extract.proofs.nets.new_search.Goals as goal

pub returns : goal.returns
returns g c =
    let boxes = c.args.ground.now.boxes.now in
    let pieces = c.args.ground.now.pieces.now.placed.items in
    let frontier = c.in_ok-frontier.frontier in
    let placed = c.args.ground.now.pieces.now.placed.ok.0 in
    let m = c.in_ok-frontier.ensures.counted in
    let n : length frontier.marks.items ≡ length pieces + length boxes = omega (arith, placed, c.len.ensures, m) in
    let trees = c.in_ok-trees.ensures in
    let cuts = c.in_ok-lists.ensures in
    let partners = c.in_ok-under.ensures in
    record {
      ready = record {
        counted = n;
        diffusion = begun _ _ frontier trees.diffusion.shows trees.diffusion.new (λ a lt. omega arith);
        poly = begun _ _ frontier trees.poly.shows trees.poly.new (λ a lt. omega arith);
        metal = begun _ _ frontier trees.metal.shows trees.metal.new (λ a lt. omega arith);
        touching = c.in_ok-touching.ensures;
        lists = cuts.lists;
        cuts = begun _ _ frontier cuts.crowded.shows cuts.crowded.new (λ a lt. omega arith);
        under = begun _ _ frontier partners.under.shows partners.under.new (λ a lt. omega arith);
        over = begun _ _ frontier partners.over.shows partners.over.new (λ a lt. omega arith);
      };
      unmarked = c.in_ok-frontier.ensures.unmarked;
    }
