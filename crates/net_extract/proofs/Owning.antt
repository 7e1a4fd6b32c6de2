-- What is near the owner of a list belongs into it.
use Rattle.std.proofs.Common.{◌≡◌, ℕ, zero, suc, drop, get_or, ◌+◌, ◌<◌, pos, Bool, true, false, List, [], ◌∷◌, length, All}
use Rattle.std.proofs.Common.{Contains, inl, inr, refl, sym, ◌∙◌, ap, subst, arith}
use Rattle.std.proofs.lemmas.{List.Elements.{All-contains, Contains-get_or}}
use Rattle.std.specs.{Borrow.Bor, List.AllZip, Prelude.{ℤ, ◌≤ℤ◌}}
use Rattle.box_tree.specs.declared.{query.Query.Query, entries.{Group.Group, Entry.Entry}, tree.OwnedParts.OwnedParts}
use Rattle.box_tree.specs.{Queries.Holds, Tree.IsGroupOf, UnvisitedTrees.AreTreeParts, Found.AreGathered}
use Rattle.box_tree.proofs.Trees.{group_here}
use Rattle.lam_geom.specs.declared.boxes.{BoxXY.BoxXY, MaskBox.MaskBox}
use Rattle.lam_geom.specs.declared.boxes.MaskLayer.{MaskLayer, TheVariants.{ND, NP, NM, NC}}
use Rattle.lam_geom.specs.{Gaps.{Encloses, gap_of_boxes}, Places.IsPlacedBox}
use Rattle.crossing_model.specs.{declared.crossing.Crossing.Crossing, Boxes.{IsOn, area_at}}
use Rattle.crossings.specs.Entries.{AreBoxesOn, box_entry as cut_box}
use Rattle.box_pieces.specs.{declared.placing.Placed.Placed, Pieces.{ArePieces, area_of, box_of, no_piece}}
use Rattle.graph_search.proofs.Neighbours.{none_in_empty}
use Rattle.net_extract.specs.declared.{lists.Kind.{Kind, TheVariants.{Touching, Over}}, listing.Sides.Sides}
use Rattle.net_extract.specs.{Entries.{ArePieceEntries, IsPieceOn, piece_entry}, Grounds.placed_on, Lists.{IsIn, tags_of}}
use Rattle.net_extract.specs.{Linking.{IsJoining, IsOver, IsTouch}, Listing.{AreNearGroup, AreSides}}
use Rattle.net_extract.specs.Listing.{AreOwners, count_of, near_in, number_of, reach_in}
use Rattle.net_extract.specs.Nearby.{AreFound, AreLayerTrees, AreOfTwo, IsInSome, IsLayerTree, conducting, query_of}
use Rattle.net_extract.specs.{declared.over.Vicinity.Vicinity, Spreading.AnswersQuery}
use Rattle.net_extract.proofs.{Beside.{over_answer, over_back, touch_back, touch_forth, touch_query}, Geometry.near_outer}
use Rattle.net_extract.proofs.{Nearby.{tag_from}, Shown.over_query}

-- ---- lists side by side

zipped_in : {A B : Type 0} (R : A → B → Type 0) (xs : List A) (ys : List B) (y : B) → AllZip R xs ys → Contains ys y
    → (x : A) × Contains xs x × R x y
zipped_in R [] [] y h (k, lt, is) = absurd (omega arith)
zipped_in R [] (z ∷ ys) y h c = absurd h
zipped_in R (x ∷ xs) [] y h c = absurd h
zipped_in R (x ∷ xs) (z ∷ ys) y h (zero, lt, is) = (x, (0, omega arith, refl), subst (R x) is h.0)
zipped_in R (x ∷ xs) (z ∷ ys) y h (suc k, lt, is) =
    let r = zipped_in R xs ys y h.1 (k, omega arith, is) in
    let at = r.1 in
    let below = at.1 in
    (r.0, (suc at.0, omega arith, at.2), r.2)

zipped_to : {A B : Type 0} (R : A → B → Type 0) (xs : List A) (ys : List B) (x : A) → AllZip R xs ys → Contains xs x
    → (y : B) × Contains ys y × R x y
zipped_to R [] [] x h (k, lt, is) = absurd (omega arith)
zipped_to R [] (z ∷ ys) x h c = absurd h
zipped_to R (w ∷ xs) [] x h c = absurd h
zipped_to {B = B} R (w ∷ xs) (y ∷ ys) x h (zero, lt, is) =
    (y, (0, omega arith, refl), subst (λ z. R z y) is h.0)
zipped_to R (w ∷ xs) (y ∷ ys) x h (suc k, lt, is) =
    let r = zipped_to R xs ys x h.1 (k, omega arith, is) in
    let at = r.1 in
    let below = at.1 in
    (r.0, (suc at.0, omega arith, at.2), r.2)

none_here : {X : Type 0} (x : X) → Contains [] x → ⊥
none_here x (k, lt, is) = omega arith

in_one : {X : Type 0} (x y : X) → Contains (x ∷ []) y → x ≡ y
in_one x y (zero, lt, is) = is
in_one x y (suc k, lt, is) = absurd (omega arith)

-- ---- trees of pieces

-- an entry of one of them is a piece
pub record IsShown (boxes : List MaskBox) (pieces : List Placed) (layers : List MaskLayer) (b : Entry) : Type 0 where
  pub layer : MaskLayer
  pub listed : Contains layers layer
  pub among : b.tag < length pieces
  pub on_layer : IsPieceOn boxes pieces layer b.tag
  pub is : b ≡ piece_entry pieces b.tag

own_piece : (boxes : List MaskBox) (pieces : List Placed) (layer : MaskLayer) (entries : List Entry) (own : Entry)
    → ArePieceEntries boxes pieces layer entries → Contains entries own
    → (own.tag < length pieces) × IsPieceOn boxes pieces layer own.tag × (own ≡ piece_entry pieces own.tag)
own_piece boxes pieces layer entries own shows c =
    let P : Entry → Type 0 = λ s. (a : ℕ) × ((a < length pieces) × IsPieceOn boxes pieces layer a)
    × (s ≡ piece_entry pieces a) in
    let f = All-contains P entries own shows.sound c in
    let A : ℕ → Type 0 = λ a. (a < length pieces) × IsPieceOn boxes pieces layer a × (own ≡ piece_entry pieces a) in
    subst A (sym (ap (λ (s : Entry). s.tag) f.2)) (f.1.0, f.1.1, f.2)

abbrev LayerTree : List MaskBox → List Placed → MaskLayer → Bor OwnedParts → Type 0
LayerTree boxes pieces layer tree = IsLayerTree boxes pieces layer tree.now

pub in_trees : (boxes : List MaskBox) (pieces : List Placed) (layers : List MaskLayer) (trees : List (Bor OwnedParts))
    (b : Entry) → AreLayerTrees boxes pieces layers trees → IsInSome trees b → IsShown boxes pieces layers b
in_trees boxes pieces layers trees b are h =
    let z = zipped_in (LayerTree boxes pieces) layers trees h.tree are h.among in
    let s = own_piece boxes pieces z.0 h.tree.now.entries.items b z.2.shows h.«in» in
    record { layer = z.0; listed = z.1; among = s.0; on_layer = s.1; is = s.2 }

-- and each piece on their layers has an entry
pub to_trees : (boxes : List MaskBox) (pieces : List Placed) (layers : List MaskLayer) (trees : List (Bor OwnedParts))
    (layer : MaskLayer) (y : ℕ) → AreLayerTrees boxes pieces layers trees → Contains layers layer → y < length pieces
    → IsPieceOn boxes pieces layer y → IsInSome trees (piece_entry pieces y)
to_trees boxes pieces layers trees layer y are listed lt on =
    let z = zipped_to (LayerTree boxes pieces) layers trees layer are listed in
    record { tree = z.0; among = z.1; «in» = z.2.shows.complete y lt (lt, on) }

pub all_trees : (boxes : List MaskBox) (pieces : List Placed) (layers : List MaskLayer) (trees : List (Bor OwnedParts))
    → AreLayerTrees boxes pieces layers trees → All (λ tree. AreTreeParts tree.now) trees
all_trees boxes pieces layers trees are = λ k d lt.
    (zipped_in (LayerTree boxes pieces) layers trees (get_or trees k d) are (Contains-get_or trees k d lt)).2.stands

-- ---- what is near an owner

-- it touches, or is over
abbrev pub IsBase : Kind → List MaskBox → List Placed → ℕ → ℕ → Type 0
IsBase Touching boxes pieces n y = IsTouch boxes pieces n y
IsBase Over boxes pieces n y = IsOver boxes pieces n y

-- a piece on one of some layers that holds a query
pub record IsNearPiece (boxes : List MaskBox) (pieces : List Placed) (layers : List MaskLayer) (query : Query)
    (y : ℕ) : Type 0 where
  pub layer : MaskLayer
  pub listed : Contains layers layer
  pub among : y < length pieces
  pub on_layer : IsPieceOn boxes pieces layer y
  pub holds : Holds query (piece_entry pieces y)

-- an owner may be a cut
own_cut : (boxes : List MaskBox) (entries : List Entry) (own : Entry) → AreBoxesOn boxes NC entries
    → Contains entries own → IsOn boxes NC own.owner × (own.area ≡ area_at boxes own.owner)
own_cut boxes entries own shows c =
    let P : Entry → Type 0 = λ s. (k : ℕ) × IsOn boxes NC k × (s ≡ cut_box boxes k) in
    let f = All-contains P entries own shows.sound c in
    let A : ℕ → Type 0 = λ k. IsOn boxes NC k × (own.area ≡ area_at boxes k) in
    subst A (sym (ap (λ (s : Entry). s.owner) f.2)) (f.1, ap (λ (s : Entry). s.area) f.2)

pub own_below : (kind : Kind) (boxes : List MaskBox) (pieces : List Placed) (layers : List MaskLayer)
    (entries : List Entry) (own : Entry) → AreOwners kind boxes pieces layers entries → Contains entries own
    → number_of kind own < count_of kind boxes pieces
own_below Touching boxes pieces layers entries own o c = (own_piece boxes pieces o.0 entries own o.2 c).0
own_below Over boxes pieces layers entries own o c = (own_cut boxes entries own o.1 c).0.among

-- what is near a cut is over it
over_near : (boxes : List MaskBox) (pieces : List Placed) (layers : List MaskLayer) (k : ℕ) (b : Entry)
    → IsShown boxes pieces layers b → Holds (over_query (area_at boxes k) k) b → IsOver boxes pieces k b.tag
over_near boxes pieces layers k b s holds =
    let B : Entry → Type 0 = Holds (over_query (area_at boxes k) k) in
    over_answer boxes pieces s.layer k b.tag
    (record { among = s.among; on_layer = s.on_layer; answers = subst B s.is holds })

near_over : (boxes : List MaskBox) (crossings : List Crossing) (pieces : List Placed) (starts : List ℕ) (k y : ℕ)
    → ArePieces boxes crossings pieces starts → IsOn boxes NC k → IsOver boxes pieces k y
    → IsNearPiece boxes pieces conducting (over_query (area_at boxes k) k) y
near_over boxes crossings pieces starts k y ps on over =
    let near : (layer : MaskLayer) → Contains conducting layer
    → AnswersQuery boxes pieces layer (over_query (area_at boxes k) k) y
    → IsNearPiece boxes pieces conducting (over_query (area_at boxes k) k) y = λ layer listed answer.
    (record {
      layer = layer;
      listed = listed;
      among = answer.among;
      on_layer = answer.on_layer;
      holds = answer.answers;
    }) in
    elim (over_back boxes crossings pieces starts k ps on.on y over) [
      | inl d ↦ near ND (0, omega arith, refl) d
      | inr (inl q) ↦ near NP (1, omega arith, refl) q
      | inr (inr m) ↦ near NM (2, omega arith, refl) m
    ]

near_forth : (kind : Kind) (boxes : List MaskBox) (pieces : List Placed) (layers : List MaskLayer)
    (entries : List Entry) (own : Entry) → AreOwners kind boxes pieces layers entries → Contains entries own
    → (b : Entry) → IsShown boxes pieces layers b → Holds (query_of (near_in kind own)) b
    → IsBase kind boxes pieces (number_of kind own) b.tag
near_forth Touching boxes pieces layers entries own o c b s holds =
    let a : ℕ = own.tag in
    let p = own_piece boxes pieces o.0 entries own o.2 c in
    let L : List MaskLayer → Type 0 = λ ls. Contains ls s.layer in
    let same : o.0 ≡ s.layer = in_one o.0 s.layer (subst L o.1 s.listed) in
    let Q : Entry → Type 0 = λ e. Holds (touch_query e.area e.owner) b in
    let B : Entry → Type 0 = Holds (touch_query (area_of pieces a) (box_of pieces a)) in
    touch_forth boxes pieces a p.0 b.tag (record {
      among = s.among;
      on_layer = s.on_layer ∙ sym same ∙ sym p.1;
      answers = subst B s.is (subst Q p.2 holds);
    })
near_forth Over boxes pieces layers entries own o c b s holds =
    let k : ℕ = own.owner in
    let Q : BoxXY → Type 0 = λ area. Holds (over_query area k) b in
    over_near boxes pieces layers k b s (subst Q (own_cut boxes entries own o.1 c).1 holds)

near_back : (kind : Kind) (boxes : List MaskBox) (crossings : List Crossing) (pieces : List Placed)
    (starts : List ℕ) (layers : List MaskLayer) (entries : List Entry) (own : Entry)
    → ArePieces boxes crossings pieces starts → AreOwners kind boxes pieces layers entries → Contains entries own
    → (y : ℕ) → IsBase kind boxes pieces (number_of kind own) y
    → IsNearPiece boxes pieces layers (query_of (near_in kind own)) y
near_back Touching boxes crossings pieces starts layers entries own ps o c y base =
    let a : ℕ = own.tag in
    let p = own_piece boxes pieces o.0 entries own o.2 c in
    let answer = touch_back boxes pieces a y base in
    let L : List MaskLayer → Type 0 = λ ls. Contains ls o.0 in
    let Q : Entry → Type 0 = λ e. Holds (touch_query e.area e.owner) (piece_entry pieces y) in
    record {
      layer = o.0;
      listed = subst L (sym o.1) (0, omega arith, refl);
      among = answer.among;
      on_layer = answer.on_layer ∙ p.1;
      holds = subst Q (sym p.2) answer.answers;
    }
near_back Over boxes crossings pieces starts layers entries own ps o c y base =
    let k : ℕ = own.owner in
    let p = own_cut boxes entries own o.1 c in
    let n = near_over boxes crossings pieces starts k y ps p.0 base in
    let Q : BoxXY → Type 0 = λ area. Holds (over_query area k) (piece_entry pieces y) in
    let L : List MaskLayer → Type 0 = λ ls. Contains ls n.layer in
    record {
      layer = n.layer;
      listed = subst L (sym o.0) n.listed;
      among = n.among;
      on_layer = n.on_layer;
      holds = subst Q (sym p.1) n.holds;
    }

-- ---- in the trees of some sides

shown_at : (sides : Sides) (s : AreSides sides) (b : Entry) → IsInSome sides.facing.now b
    → IsShown sides.ground.boxes.now (placed_on sides.ground) s.layers b
shown_at sides s b h =
    in_trees sides.ground.boxes.now (placed_on sides.ground) s.layers sides.facing.now b s.facing h

pub some_placed : (sides : Sides) (b : Entry) → AreSides sides → IsInSome sides.facing.now b → IsPlacedBox b.area
some_placed sides b s h =
    let stands = All-contains (λ (t : Bor OwnedParts). AreTreeParts t.now) sides.facing.now h.tree
    (all_trees sides.ground.boxes.now (placed_on sides.ground) s.layers sides.facing.now s.facing) h.among in
    All-contains (λ (e : Entry). IsPlacedBox e.area) h.tree.now.entries.items b stands.placed h.«in»

-- what was found near an owner belongs to it
pub found_base : (sides : Sides) (own : Entry) (all : Bool) (found : List Entry) (s : AreSides sides)
    → Contains sides.own.entries.now own
    → AreFound (IsInSome sides.facing.now) (query_of (near_in sides.kind own)) all [] found → (b : Entry)
    → Contains found b
    → IsShown sides.ground.boxes.now (placed_on sides.ground) s.layers b
    × IsBase sides.kind sides.ground.boxes.now (placed_on sides.ground) (number_of sides.kind own) b.tag
found_base sides own all found s c f b at = elim (f.sound b at) [
  | inl none ↦ absurd (none_here b none)
  | inr h ↦
      (let shown = shown_at sides s b h.0 in (
        shown,
        near_forth sides.kind sides.ground.boxes.now (placed_on sides.ground) s.layers sides.own.entries.now own
            s.owners c b shown h.1,
      ))
]

-- and where it is all, it has all that does
pub base_found : (sides : Sides) (own : Entry) (found : List Entry) (s : AreSides sides)
    → Contains sides.own.entries.now own
    → AreFound (IsInSome sides.facing.now) (query_of (near_in sides.kind own)) true [] found → (y : ℕ)
    → IsBase sides.kind sides.ground.boxes.now (placed_on sides.ground) (number_of sides.kind own) y
    → Contains (tags_of found) y
base_found sides own found s c f y base =
    let boxes = sides.ground.boxes.now in
    let pieces = placed_on sides.ground in
    let near = near_back sides.kind boxes sides.ground.pieces.now.crossings.items pieces
    sides.ground.pieces.now.starts.items s.layers sides.own.entries.now own s.ground.pieces s.owners c y base in
    f.complete refl (piece_entry pieces y)
    (to_trees boxes pieces s.layers sides.facing.now near.layer y s.facing near.listed near.among near.on_layer)
    near.holds

pub gathered_base : (sides : Sides) (own : Entry) (found : List Entry) → AreSides sides
    → Contains sides.own.entries.now own
    → AreFound (IsInSome sides.facing.now) (query_of (near_in sides.kind own)) true [] found
    → AreGathered (IsBase sides.kind sides.ground.boxes.now (placed_on sides.ground) (number_of sides.kind own)) []
    (tags_of found)
gathered_base sides own found s c f = record {
  sound = λ y h.
      (let Is = IsBase sides.kind sides.ground.boxes.now (placed_on sides.ground) (number_of sides.kind own) in
      let at = tag_from found y h in
      inr (subst Is at.2 (found_base sides own true found s c f at.0 at.1).1));
  kept = λ y h. absurd (none_in_empty y [] refl h);
  complete = base_found sides own found s c f;
}

-- ---- out of what is near a group

-- a group of the owners that was read
pub group_read : (sides : Sides) (at : ℕ) (group : Group) → AreSides sides → at < length sides.own.groups.now
    → group ≡ get_or sides.own.groups.now at group
    → IsGroupOf sides.own.entries.now (length sides.own.entries.now) group
    (drop (at + 1) sides.own.groups.now)
group_read sides at group s lt is =
    group_here sides.own.entries.now (length sides.own.entries.now) at sides.own.groups.now group
    s.tree.groups_of lt is

pub near_group : (sides : Sides) (own : Entry) (beside : Vicinity) (few : Bool) (empty nearby : List Entry)
    → AreSides sides → empty ≡ [] → beside.reach ≡ reach_in sides.kind
    → beside.owner ≡ length sides.ground.boxes.now → Encloses beside.area own.area (pos 0)
    → AreFound (IsInSome sides.facing.now) (query_of beside) few empty nearby → AreNearGroup sides own few nearby
near_group sides own beside few empty nearby s none reach owner within g =
    let boxes = sides.ground.boxes.now in
    let pieces = placed_on sides.ground in
    let E : List Entry → Type 0 = λ xs. AreFound (IsInSome sides.facing.now) (query_of beside) few xs nearby in
    let f = subst E none g in
    record {
      sound = λ b c. elim (f.sound b c) [ inl old ↦ absurd (none_here b old) | inr h ↦ h.0 ];
      complete = λ t b h holds.
          (let shown = shown_at sides s b h in
          let of_box = (s.ground.pieces.each b.tag no_piece shown.among).of_box in
          let same : b.owner ≡ box_of pieces b.tag = ap (λ (e : Entry). e.owner) shown.is in
          let R : ℤ → Type 0 = λ r. gap_of_boxes beside.area b.area ≤ℤ r in
          f.complete t b h (
            subst R (sym reach) (near_outer beside.area own.area b.area (reach_in sides.kind) within holds.0),
            λ e. absurd (omega (arith, of_box, same, owner, e)),
          ));
    }

pub found_own : (sides : Sides) (own : Entry) (nearby empty found : List Entry) → AreSides sides → empty ≡ []
    → AreNearGroup sides own true nearby
    → AreFound (Contains nearby) (query_of (near_in sides.kind own)) true empty found
    → AreFound (IsInSome sides.facing.now) (query_of (near_in sides.kind own)) true [] found
found_own sides own nearby empty found s none near g =
    let query = query_of (near_in sides.kind own) in
    let pieces = placed_on sides.ground in
    let E : List Entry → Type 0 = λ xs. AreFound (Contains nearby) query true xs found in
    let f = subst E none g in
    record {
      sound = λ b c. elim (f.sound b c) [ inl old ↦ inl old | inr h ↦ inr (near.sound b h.0, h.1) ];
      kept = f.kept;
      complete = λ t b h holds.
          (let at = tag_from nearby b.tag (near.complete refl b h holds) in
          let other : Entry = at.0 in
          let same : other ≡ b = (shown_at sides s other (near.sound other at.1)).is
          ∙ (ap (λ (y : ℕ). piece_entry pieces y) at.2 ∙ sym (shown_at sides s b h).is) in
          let H : Entry → Type 0 = Holds query in
          let T : Entry → Type 0 = λ e. Contains (tags_of found) e.tag in
          subst T same (f.complete refl other at.1 (subst H (sym same) holds)));
      two = f.two;
    }

-- ---- cuts that join

-- what was found over a cut is of two boxes exactly where it joins
pub two_joins : (boxes : List MaskBox) (pieces : List Placed) (facing : List (Bor OwnedParts)) (k : ℕ) (all : Bool)
    (found : List Entry) → AreLayerTrees boxes pieces conducting facing → IsOn boxes NC k
    → AreFound (IsInSome facing) (over_query (area_at boxes k) k) all [] found → AreOfTwo found
    → IsJoining boxes pieces k
two_joins boxes pieces facing k all found trees on f (x, y, at_x, at_y, apart) =
    let shown : (b : Entry) → Contains found b → IsShown boxes pieces conducting b × IsOver boxes pieces k b.tag = λ b at.
    elim (f.sound b at) [
      | inl none ↦ absurd (none_here b none)
      | inr h ↦
          (let s = in_trees boxes pieces conducting facing b trees h.0 in
          (s, over_near boxes pieces conducting k b s h.1))
    ] in
    let first = shown x at_x in
    let second = shown y at_y in
    let owner_x : x.owner ≡ box_of pieces x.tag = ap (λ (e : Entry). e.owner) first.0.is in
    let owner_y : y.owner ≡ box_of pieces y.tag = ap (λ (e : Entry). e.owner) second.0.is in (
      x.tag,
      y.tag,
      record {
        is_cut = on;
        apart = record {
          first = first.0.among;
          second = second.0.among;
          apart = λ e. apart (owner_y ∙ e ∙ sym owner_x);
        };
        first = first.1.over;
        second = second.1.over;
      },
    )

pub joins_two : (boxes : List MaskBox) (crossings : List Crossing) (pieces : List Placed) (starts : List ℕ)
    (facing : List (Bor OwnedParts)) (k : ℕ) (all : Bool) (found : List Entry)
    → ArePieces boxes crossings pieces starts → AreLayerTrees boxes pieces conducting facing
    → AreFound (IsInSome facing) (over_query (area_at boxes k) k) all [] found → IsJoining boxes pieces k
    → AreOfTwo found
joins_two boxes crossings pieces starts facing k false found ps trees f joins = f.two refl
joins_two boxes crossings pieces starts facing k true found ps trees f (x, y, both) =
    let there : (z : ℕ) → IsOver boxes pieces k z → (b : Entry) × Contains found b × (b.owner ≡ box_of pieces z) = λ z over.
    (let n = near_over boxes crossings pieces starts k z ps both.is_cut over in
    let at = tag_from found z (f.complete refl (piece_entry pieces z)
    (to_trees boxes pieces conducting facing n.layer z trees n.listed n.among n.on_layer) n.holds) in
    let is : at.0 ≡ piece_entry pieces (at.0).tag = elim (f.sound at.0 at.1) [
      | inl none ↦ absurd (none_here at.0 none)
      | inr h ↦ (in_trees boxes pieces conducting facing at.0 trees h.0).is
    ] in
    (at.0, at.1, ap (λ (e : Entry). e.owner) is ∙ ap (box_of pieces) at.2)) in
    let first = there x (record { among = both.apart.first; over = both.first }) in
    let second = there y (record { among = both.apart.second; over = both.second }) in
    (first.0, second.0, first.1, second.1, λ e. both.apart.apart (sym second.2 ∙ e ∙ first.2))

-- the same of an owner of a list
abbrev pub AreOver : Sides → Entry → Bool → List Entry → Type 0
AreOver sides own all found =
    AreLayerTrees sides.ground.boxes.now (placed_on sides.ground) conducting sides.facing.now
    × IsOn sides.ground.boxes.now NC own.owner
    × AreFound (IsInSome sides.facing.now) (over_query (area_at sides.ground.boxes.now own.owner) own.owner) all []
    found

pub over_own : (sides : Sides) (own : Entry) (all : Bool) (found : List Entry) → AreSides sides
    → Contains sides.own.entries.now own → sides.kind ≡ Over
    → AreFound (IsInSome sides.facing.now) (query_of (near_in sides.kind own)) all [] found
    → AreOver sides own all found
over_own sides own all found s c is f =
    let boxes = sides.ground.boxes.now in
    let pieces = placed_on sides.ground in
    let O : Kind → Type 0 = λ kind. AreOwners kind boxes pieces s.layers sides.own.entries.now in
    let o = subst O is s.owners in
    let p = own_cut boxes sides.own.entries.now own o.1 c in
    let L : List MaskLayer → Type 0 = λ ls. AreLayerTrees boxes pieces ls sides.facing.now in
    let K : Kind → Type 0 = λ kind. AreFound (IsInSome sides.facing.now) (query_of (near_in kind own)) all [] found in
    let A : BoxXY → Type 0 = λ area. AreFound (IsInSome sides.facing.now) (over_query area own.owner) all [] found in
    (subst L o.0 s.facing, p.0, subst A p.1 (subst K is f))

-- what belongs into a list
pub gathered_in : (kind : Kind) (boxes : List MaskBox) (pieces : List Placed) (n : ℕ) (xs : List ℕ)
    → (kind ≡ Over → IsJoining boxes pieces n) → AreGathered (IsBase kind boxes pieces n) [] xs
    → AreGathered (IsIn kind boxes pieces n) [] xs
gathered_in Touching boxes pieces n xs joins g = g
gathered_in Over boxes pieces n xs joins g = record {
  sound = λ y c. elim (g.sound y c) [ inl o ↦ inl o | inr is ↦ inr (joins refl, is) ];
  kept = g.kept;
  complete = λ y is. g.complete y is.1;
}

pub none_in : (kind : Kind) (boxes : List MaskBox) (pieces : List Placed) (n : ℕ) → kind ≡ Over
    → (IsJoining boxes pieces n → ⊥) → AreGathered (IsIn kind boxes pieces n) [] []
none_in Touching boxes pieces n is none = absurd (cc)
none_in Over boxes pieces n is none = record {
  sound = λ y c. inl c;
  kept = λ y c. c;
  complete = λ y h. absurd (none h.0);
}
