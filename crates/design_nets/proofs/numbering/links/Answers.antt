use Rattle.std.proofs.Common.{ℕ, List, subst}
use Rattle.design_nets.{specs.Linking.{AreAdded, IsPieceLink}, proofs.Joined.all_links}
use Rattle.design_nets.proofs.numbering.links.Goals as goal

pub returns : goal.returns
returns c =
    let firsts = c.args.firsts.now in
    let owners = c.args.owners.now in
    let P : List (ℕ × ℕ) → Type 0 = λ links. AreAdded (IsPieceLink firsts owners) links c.link_pieces.new.links.items in
    all_links c.args.plan.now c.args.nets.now c.args.instances.now firsts owners c.link_pieces.new.links.items
    c.link_axis.new.links.items c.link_axis-2.new.links.items
    (subst P c.new-links.ensures.items c.in_ok-link_pieces.ensures) c.in_ok-link_axis.ensures
    c.in_ok-link_axis-2.ensures
