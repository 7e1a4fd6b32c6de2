-- The trees of the pieces with nets in place of their numbers.
use Rattle.std.proofs.Common.{◌≡◌, ℕ, List, length, map, sym, ap, subst, arith}
use Rattle.std.proofs.lemmas.List.{length-map, Elements.All-map}
use Rattle.box_tree.specs.declared.{entries.Entry.Entry, unvisited_trees.UnvisitedTree.UnvisitedTree}
use Rattle.box_tree.specs.{Retagged.with_tag, UnvisitedTrees.AreTagsWithin}
use Rattle.lam_geom.specs.declared.boxes.MaskLayer.{MaskLayer}
use Rattle.net_extract.{specs.{CutLists.IsPieceTree, Entries.piece_entry as numbered_entry}, proofs.Begun.pieces_within}
use Rattle.flat_check.specs.{declared.flat_layout.FlatLayout.FlatLayout, FlatLayouts.IsFlatLayout, Trees.ArePiecesOn}
use Rattle.flat_check.{specs.Trees.{IsPieceOn, piece_entry}, proofs.PiecePairs.{nets_counted, pieces_on}}
use Rattle.list_facts.proofs.Some.{contains_map}

-- each number of a piece has a net
pub numbers_have_nets : (flat : FlatLayout) (layer : MaskLayer) (tree : UnvisitedTree) → IsFlatLayout flat
    → IsPieceTree flat.boxes.now (pieces_on flat) layer tree
    → AreTagsWithin (length flat.nets.items) tree.parts.entries.items
numbers_have_nets flat layer tree is h =
    let w = pieces_within flat.boxes.now (pieces_on flat) layer tree h in
    subst (λ (n : ℕ). AreTagsWithin n tree.parts.entries.items) (sym (nets_counted flat is)) w.tags

-- under the nets the tree is that of the pieces of the layer
pub pieces_netted : (flat : FlatLayout) (layer : MaskLayer) (tree : UnvisitedTree) (entries : List Entry)
    → IsFlatLayout flat → IsPieceTree flat.boxes.now (pieces_on flat) layer tree
    → entries ≡ map (with_tag flat.nets.items) tree.parts.entries.items → ArePiecesOn flat layer entries
pieces_netted flat layer tree entries is h netted =
    let old = tree.parts.entries.items in
    let f = with_tag flat.nets.items in
    let counted = nets_counted flat is in
    let Is : Entry → Type 0 = λ s. (i : ℕ) × IsPieceOn flat layer i × (s ≡ piece_entry flat i) in
    subst (ArePiecesOn flat layer) (sym netted) (record {
      sound = All-map Is f old
          (λ k d lt. let a = h.shows.sound k d lt in (a.0, (omega (arith, a.1.0, counted), a.1.1), ap f a.2));
      complete = λ i lt on. contains_map f old (numbered_entry (pieces_on flat) i)
          (h.shows.complete i (omega (arith, lt, counted)) (omega (arith, lt, counted), on.1));
      few = omega (arith, length-map old f, h.shows.few, counted);
    })
