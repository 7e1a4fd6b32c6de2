-- Searches, as one of their unvisited trees is looked through.
use Rattle.std.proofs.Common.{◌≡◌, ◌⊎◌, ℕ, ◌<◌, List, [], Contains, inr, length, sym, ◌∙◌, subst}
use Rattle.lam_geom.specs.{declared.boxes.MaskBox.MaskBox, Places.IsPlacedBox}
use Rattle.crossing_model.specs.{declared.crossing.Crossing.Crossing, Boxes.{AreSearchable, area_at, no_box}}
use Rattle.graph_search.{specs.Search.{AreKept, AreVisited}, proofs.Marks.{reached_as, reached_more, reached_none}}
use Rattle.box_tree.specs.declared.{entries.Entry.Entry, unvisited_trees.UnvisitedTree.UnvisitedTree}
use Rattle.box_tree.specs.{declared.tree.OwnedParts.OwnedParts, UnvisitedTrees.AreTagsWithin, Found.AreGathered}
use Rattle.box_tree.specs.Tree.{no_entry}
use Rattle.rule_table.specs.declared.technology.Tech.{Tech}
use Rattle.box_pieces.specs.declared.placing.Placed.{Placed}
use Rattle.box_pieces.specs.Pieces.{box_of, area_of, no_piece, piece_at, IsPiece, ArePieces}
use Rattle.net_extract.specs.{declared.{reaching.Frontier.Frontier, searches.Search.Search}, Entries.AreEntries}
use Rattle.net_extract.specs.Spreading.{IsUnvisitedTreeReached, IsUnvisitedTreeOf, IsSearch, IsStep}
use Rattle.net_extract.proofs.{Geometry.placed_inner, Steps.{found_is, unvisited_tree_kept}}

-- an unvisited tree through which nothing was looked
others : (Are : List Entry → Type 0) (unvisited_tree : UnvisitedTree) (old frontier : Frontier)
    → length frontier.marks.items ≡ length old.marks.items → AreKept old.marks.items frontier.marks.items
    → IsUnvisitedTreeOf Are old unvisited_tree → IsUnvisitedTreeOf Are frontier unvisited_tree
others Are unvisited_tree old frontier counted kept g =
    record {
      stands = unvisited_tree_kept old.marks.items frontier.marks.items unvisited_tree counted kept g.stands;
      shows = g.shows;
    }

-- all of them, with more marks
pub search_kept : (tech : Tech) (boxes : List MaskBox) (pieces : List Placed) (search : Search) (frontier : Frontier)
    → length frontier.marks.items ≡ length search.frontier.marks.items
    → AreKept search.frontier.marks.items frontier.marks.items
    → IsSearch tech boxes pieces search → IsSearch tech boxes pieces (record search { frontier = frontier })
search_kept tech boxes pieces search frontier counted kept s = record {
  counted = counted ∙ s.counted;
  diffusion = others _ search.trees.diffusion search.frontier frontier counted kept s.diffusion;
  poly = others _ search.trees.poly search.frontier frontier counted kept s.poly;
  metal = others _ search.trees.metal search.frontier frontier counted kept s.metal;
  touching = s.touching;
  lists = s.lists;
  cuts = others _ search.cuts search.frontier frontier counted kept s.cuts;
  under = others _ search.under search.frontier frontier counted kept s.under;
  over = others _ search.over search.frontier frontier counted kept s.over;
}

-- one unvisited tree has been looked through, and stands in place of the old one
pub step_grown : {tech : Tech} {boxes : List MaskBox} {pieces : List Placed} {Are : List Entry → Type 0}
    {Is As : ℕ → Type 0} {net : ℕ} {search with : Search} {old new : UnvisitedTree} → ((y : ℕ) → Is y → As y)
    → ((y : ℕ) → As y → Is y) → IsSearch tech boxes pieces search → IsUnvisitedTreeOf Are search.frontier old
    → IsUnvisitedTreeReached Is net old new search.frontier with.frontier
    → (IsSearch tech boxes pieces (record search { frontier = with.frontier })
    → IsUnvisitedTreeOf Are with.frontier new → IsSearch tech boxes pieces with)
    → IsStep tech boxes pieces As net search with
step_grown {Are = Are} {Is = Is} {As = As} {net = net} {search = search} {with = with} forth back s tree r made = record {
  search = made (search_kept _ _ _ search with.frontier r.reached.counted r.reached.kept s)
      (record { stands = r.stands; shows = subst (λ (p : OwnedParts). Are p.entries.items) (sym r.parts) tree.shows });
  reached = reached_as Is As net _ _ _ _ forth (λ y h. inr (back y h)) r.reached;
}

-- nothing is there to be reached
pub step_none : (tech : Tech) (boxes : List MaskBox) (pieces : List Placed) (Is : ℕ → Type 0) (net : ℕ)
    (search : Search) → ((y : ℕ) → Is y → ⊥) → IsSearch tech boxes pieces search
    → IsStep tech boxes pieces Is net search search
step_none tech boxes pieces Is net search none s =
    record { search = s; reached = reached_none Is net search.frontier.marks.items search.frontier.queue.items none }

-- nodes that were gathered are reached
pub step_gathered : {tech : Tech} {boxes : List MaskBox} {pieces : List Placed} {Is : ℕ → Type 0} {net : ℕ}
    {search : Search} {frontier : Frontier} (found given : List ℕ) → given ≡ found → AreGathered Is [] found
    → IsSearch tech boxes pieces search
    → AreVisited given net search.frontier.marks.items frontier.marks.items search.frontier.queue.items
    frontier.queue.items → IsStep tech boxes pieces Is net search (record search { frontier = frontier })
step_gathered {Is = Is} {net = net} {search = search} {frontier = frontier} found given same g s v =
    let r = reached_as (Contains found) Is net _ _ _ _ (λ y c. found_is Is found y g c) (λ y is. inr (g.complete y is))
    (rw same at v) in
    record { search = search_kept _ _ _ search frontier r.counted r.kept s; reached = r }

-- a step by the same nodes in other words
pub step_as : (tech : Tech) (boxes : List MaskBox) (pieces : List Placed) (P Q : ℕ → Type 0) (net : ℕ)
    (old new : Search) → ((y : ℕ) → P y → Q y) → ((y : ℕ) → Q y → P y) → IsStep tech boxes pieces P net old new
    → IsStep tech boxes pieces Q net old new
step_as tech boxes pieces P Q net old new forth back f =
    record { search = f.search; reached = reached_as P Q net _ _ _ _ forth (λ y q. inr (back y q)) f.reached }

-- two steps, one after another
pub step_two : (tech : Tech) (boxes : List MaskBox) (pieces : List Placed) (P Q S : ℕ → Type 0) (net : ℕ)
    (old second new : Search) → ((y : ℕ) → P y ⊎ Q y → S y) → ((y : ℕ) → S y → P y ⊎ Q y)
    → IsStep tech boxes pieces P net old second → IsStep tech boxes pieces Q net second new
    → IsStep tech boxes pieces S net old new
step_two tech boxes pieces P Q S net old second new forth back f g =
    record { search = g.search; reached = reached_more P Q S net _ _ _ _ _ _ forth back f.reached g.reached }

-- three steps, one after another
pub step_three : (tech : Tech) (boxes : List MaskBox) (pieces : List Placed) (P Q R S : ℕ → Type 0) (net : ℕ)
    (old second third new : Search) → ((y : ℕ) → P y ⊎ (Q y ⊎ R y) → S y) → ((y : ℕ) → S y → P y ⊎ (Q y ⊎ R y))
    → IsStep tech boxes pieces P net old second → IsStep tech boxes pieces Q net second third
    → IsStep tech boxes pieces R net third new → IsStep tech boxes pieces S net old new
step_three tech boxes pieces P Q R S net old second third new forth back f g h =
    let QR : ℕ → Type 0 = λ y. Q y ⊎ R y in
    step_two tech boxes pieces P QR S net old second new forth back f
    (step_two tech boxes pieces Q R QR net second third new (λ y x. x) (λ y x. x) g h)

-- ---- which entries

-- their tags are below a number
pub tags_within : {n : ℕ} {P : ℕ → Type 0} {show : ℕ → Entry} (count : ℕ) (entries : List Entry)
    → ((a : ℕ) → a < n → (show a).tag < count) → AreEntries n P show entries → AreTagsWithin count entries
tags_within count entries within s = λ k lt. let f = s.sound k no_entry lt in rw (f.2) (within f.0 f.1.0)

pub piece_placed : (boxes : List MaskBox) (crossings : List Crossing) (pieces : List Placed) (starts : List ℕ) (a : ℕ)
    → AreSearchable boxes → ArePieces boxes crossings pieces starts → a < length pieces
    → IsPlacedBox (area_of pieces a)
piece_placed boxes crossings pieces starts a s p lt =
    let piece : IsPiece boxes crossings (piece_at pieces a) = p.each a no_piece lt in
    placed_inner (area_at boxes (box_of pieces a)) (area_of pieces a) (s.placed (box_of pieces a) no_box piece.of_box)
    piece.inside
