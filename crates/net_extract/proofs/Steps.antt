-- Steps of a search: from the entries that were found to the nodes that they show.
use Rattle.std.proofs.Common.{◌≡◌, ℕ, ◌+◌, ◌<◌, Option, List, All, [], ◌∷◌, ◌++◌, length, take, get_or, Contains, ◌⊎◌}
use Rattle.std.proofs.{Common.{inl, inr, refl, sym, subst, arith}, lemmas.List.Elements.Contains-get_or}
use Rattle.box_tree.specs.declared.{query.Query.Query, entries.Entry.Entry, unvisited_trees.UnvisitedTree.UnvisitedTree}
use Rattle.box_tree.specs.UnvisitedTrees.{AreTagsWithin, IsUnvisitedTree, IsLeft, IsOf, IsUnvisited, entry_in}
use Rattle.box_tree.{specs.Found.AreGathered, proofs.Growth.{gathered_as, gathered_if}}
use Rattle.graph_search.specs.Search.{AreKept, AreVisited}
use Rattle.graph_search.proofs.{Neighbours.none_in_empty, Marks.{kept_marked, mark_cases, reached_as, taken_cases}}
use Rattle.graph_search.proofs.Marks.{taken_earlier, taken_last, unmarked_before}
use Rattle.lam_geom.specs.declared.boxes.MaskBox.{MaskBox}
use Rattle.rule_table.specs.declared.technology.Tech.{Tech}
use Rattle.box_pieces.specs.{declared.placing.Placed.Placed, Pieces.box_of}
use Rattle.net_extract.specs.{Linking.IsPairWith, Spreading.{IsBuriedOf, IsOfPair, IsUnvisitedTreeReached}}
use Rattle.net_extract.specs.declared.reaching.Frontier.{Frontier}

-- ---- what is found in an unvisited tree

pub found_is : (Is : ℕ → Type 0) (found : List ℕ) (y : ℕ) → AreGathered Is [] found → Contains found y → Is y
found_is Is found y g c = elim (g.sound y c) [ inl none ↦ absurd (none_in_empty y [] refl none) | inr is ↦ is ]

pub all_among : (count : ℕ) (xs : List ℕ) → ((y : ℕ) → Contains xs y → y < count) → All (λ y. y < count) xs
all_among count xs below = λ k d lt. below (get_or xs k d) (Contains-get_or xs k d lt)

-- what has been gathered is within bounds
pub gathered_within : (Is : ℕ → Type 0) (count : ℕ) (found given : List ℕ) → given ≡ found
    → ((y : ℕ) → Is y → y < count) → AreGathered Is [] found → All (λ y. y < count) given
gathered_within Is count found given same within g =
    let all : All (λ y. y < count) found = all_among count found (λ y c. within y (found_is Is found y g c)) in
    let Q : List ℕ → Type 0 = λ xs. All (λ y. y < count) xs in
    subst Q (sym same) all

-- a tag is below what all are
pub tag_within : {entries : List Entry} {Is : Entry → Type 0} (count y : ℕ) → AreTagsWithin count entries
    → IsOf entries Is y → y < count
tag_within count y tags of = subst (λ x. x < count) of.tag (tags of.k of.among)

-- those of which the boxes are buried pairs with a box
pub buried_found : {tech : Tech} {boxes : List MaskBox} {box_no : ℕ} {entries : List Entry} {query : Query}
    {marks : List (Option ℕ)} (pieces : List Placed) (found looked kept empty : List ℕ) → looked ≡ found → empty ≡ []
    → AreGathered (IsUnvisited entries query marks) [] found
    → AreGathered (IsOfPair tech boxes pieces box_no looked) empty kept
    → AreGathered (λ y. IsBuriedOf tech boxes pieces box_no entries query y × IsLeft marks y) [] kept
buried_found {tech = tech} {boxes = boxes} {box_no = box_no} pieces found looked kept empty same none g h =
    gathered_as (IsOfPair tech boxes pieces box_no found) _ [] kept
    (λ y is. (let u = found_is _ found y g is.0 in (record { of = u.of; pair = is.1 }, u.left)))
    (λ y is. (g.complete y (record { of = is.0.of; left = is.1 }), is.0.pair))
    (subst (λ xs. AreGathered (IsOfPair tech boxes pieces box_no xs) [] kept) same
    (subst (λ xs. AreGathered (IsOfPair tech boxes pieces box_no looked) xs kept) none h))

-- one more of those that were found
pub pair_more : (tech : Tech) (boxes : List MaskBox) (pieces : List Placed) (box_no : ℕ) (numbers : List ℕ) (i : ℕ)
    (old middle new : List ℕ) → i < length numbers
    → (IsPairWith tech boxes box_no (box_of pieces (get_or numbers i 0)) × (new ≡ middle ++ get_or numbers i 0 ∷ []))
    ⊎ ((IsPairWith tech boxes box_no (box_of pieces (get_or numbers i 0)) → ⊥) × (new ≡ middle))
    → AreGathered (IsOfPair tech boxes pieces box_no (take i numbers)) old middle
    → AreGathered (IsOfPair tech boxes pieces box_no (take (i + 1) numbers)) old new
pair_more tech boxes pieces box_no numbers i old middle new lt =
    let P : ℕ → Type 0 = λ y. IsPairWith tech boxes box_no (box_of pieces y) in
    gathered_if (IsOfPair tech boxes pieces box_no (take i numbers))
    (IsOfPair tech boxes pieces box_no (take (i + 1) numbers)) (P (get_or numbers i 0)) old middle new
    (get_or numbers i 0)
    (λ y h. elim h [
      | inl p ↦ (taken_earlier numbers i y lt p.0, p.1)
      | inr q ↦ (taken_last numbers i y lt q.0, subst P (sym q.0) q.1)
    ])
    (λ y h. elim (taken_cases numbers i y lt h.0) [
      | inl o ↦ inl (o, h.1)
      | inr e ↦ inr (e, subst P e h.1)
    ])

-- an unvisited tree, with more marks
pub unvisited_tree_kept : (old new : List (Option ℕ)) (unvisited_tree : UnvisitedTree) → length new ≡ length old
    → AreKept old new → IsUnvisitedTree old unvisited_tree → IsUnvisitedTree new unvisited_tree
unvisited_tree_kept old new unvisited_tree counted kept g = record {
  parts = g.parts;
  tags = λ k lt. (let l = g.tags k lt in omega arith);
  exhausted =
      record {
        counted = g.exhausted.counted;
        each = λ p h left.
            g.exhausted.each p h (unmarked_before old new (entry_in unvisited_tree.parts p).tag kept left);
      };
}

-- the nodes with a property that had no mark are reached, where just these were found in an unvisited tree
pub tree_reached : {Is : ℕ → Type 0} {net : ℕ} {tree grown : UnvisitedTree} {old new : Frontier}
    (marks : List (Option ℕ)) (found given : List ℕ) → marks ≡ old.marks.items → given ≡ found
    → grown.parts ≡ tree.parts → IsUnvisitedTree marks grown → AreGathered (λ y. Is y × IsLeft marks y) [] found
    → AreVisited given net old.marks.items new.marks.items old.queue.items new.queue.items
    → IsUnvisitedTreeReached Is net tree grown old new
tree_reached {Is = Is} {net = net} {grown = grown} {old = old} {new = new} marks found given is same parts stands g v =
    let h = subst (λ ms. AreGathered (λ y. Is y × IsLeft ms y) [] found) is g in
    let r = reached_as (Contains found) Is net _ _ _ _ (λ y c. (found_is _ found y h c).0)
    (λ y has. elim (mark_cases old.marks.items y) [
      | inl none ↦ inr (h.complete y (has, none))
      | inr m ↦ inl (kept_marked old.marks.items new.marks.items y v.kept m)
    ]) (rw same at v) in
    record {
      parts = parts;
      stands = unvisited_tree_kept old.marks.items new.marks.items grown r.counted r.kept
          (subst (λ ms. IsUnvisitedTree ms grown) is stands);
      reached = r;
    }
