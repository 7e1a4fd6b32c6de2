use Rattle.std.proofs.{Common.{◌≡◌, ℕ, List, length, map, sym, ap, ◌∙◌, subst}, lemmas.Result.IfOk-weaker}
use Rattle.lam_geom.specs.declared.boxes.MaskLayer.TheVariants.{NM}
use Rattle.box_tree.specs.{Retagged.with_tag, UnvisitedTrees.{AreTagsWithin, IsNewUnvisitedTree}}
use Rattle.net_extract.specs.{CutLists.IsNewPieceTree, Grounds.placed_on}
use Rattle.net_extract.proofs.MetalPieces.{new_metal_tree, numbers_have_starts}
use Rattle.net_extract.proofs.metal.metal_pieces.Goals as goal

pub with_tags-requires-clause-tags : goal.with_tags-requires-clause-tags
with_tags-requires-clause-tags c =
    let ground = c.args.ground.now in
    let pieces = ground.pieces.now in
    let own = numbers_have_starts ground.boxes.now pieces.crossings.items pieces.placed.items pieces.starts.items
    c.args.metal c.requires.ground.pieces c.requires.metal in
    subst (λ (starts : List ℕ). AreTagsWithin (length starts) c.into_parts.result.entries.items)
    (sym c.as_slice-firsts.ensures.value)
    (subst (AreTagsWithin (length pieces.starts.items)) (sym c.into_parts.ensures.entries) own)

pub returns : goal.returns
returns c =
    let ground = c.args.ground.now in
    let pieces = ground.pieces.now in
    let starts = pieces.starts.items in
    let made = c.in_ok-tree.tree in
    let are : made ≡ map (with_tag starts) c.args.metal = c.in_ok-tree.ensures
    ∙ ap (λ (ns : List ℕ). map (with_tag ns) c.into_parts.result.entries.items) c.as_slice-firsts.ensures.value
    ∙ ap (map (with_tag starts)) c.into_parts.ensures.entries in
    IfOk-weaker c.new_unvisited_tree.result (IsNewUnvisitedTree made)
    (IsNewPieceTree ground.boxes.now (placed_on ground) NM)
    (λ tree new. new_metal_tree ground.boxes.now pieces.crossings.items pieces.placed.items starts c.args.metal made
    tree c.requires.ground.pieces c.requires.metal are new) c.new_unvisited_tree.ensures
