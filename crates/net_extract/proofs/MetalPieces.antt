-- A box of metal is one piece as a whole, the first of its box: the tree of these boxes is that of their pieces.
use Rattle.std.proofs.Common.{◌≡◌, ℕ, zero, suc, ◌+◌, ◌-◌, ◌^◌, ◌<◌, ◌≤◌, List, [], ◌∷◌, ◌++◌, All, Contains, length}
use Rattle.std.proofs.{Common.{map, get_or, refl, sym, ◌∙◌, ap, subst, arith, length-append}, lemmas.List.get_or-map}
use Rattle.std.proofs.lemmas.List.{length-map, length_push, Concat.flat_map-cons, Elements.All-map}
use Rattle.std.{proofs.lemmas.Grind.flat_map-append, specs.{Prelude.flat_map, List.{range_with_len, AllByRecursion}}}
use Rattle.list_facts.proofs.{Elements.{all_at, all_flat, all_map, all_numbers, by_number}, Pieces.piece_added}
use Rattle.list_facts.proofs.Some.{contains_map}
use Rattle.lam_geom.specs.{declared.boxes.{MaskBox.MaskBox, MaskLayer.{MaskLayer, TheVariants.NM}}, Places.IsPlacedBox}
use Rattle.box_tree.specs.{declared.{entries.Entry.Entry, unvisited_trees.UnvisitedTree.UnvisitedTree}, Tree.no_entry}
use Rattle.box_tree.specs.{Retagged.with_tag, UnvisitedTrees.{AreTagsWithin, IsNewUnvisitedTree}, Orders.AreReordered}
use Rattle.box_tree.proofs.Orders.{reordered_length}
use Rattle.crossing_model.specs.declared.crossing.Crossing.{Crossing}
use Rattle.crossing_model.specs.Boxes.{AreSearchable, IsOn, area_at, layer_at, no_box}
use Rattle.crossings.proofs.EntryLists.{entries_none, entries_push, entries_reordered, entries_skip}
use Rattle.box_pieces.specs.{declared.placing.{Part.{Part, TheVariants.Whole}, Placed.Placed}, Areas.IsAreaOf}
use Rattle.box_pieces.specs.{Pieces.{area_of, box_of, no_piece, piece_at, stand_of, ArePieces, IsPiece}, Places.Place}
use Rattle.box_pieces.specs.Places.{is_crossed, parts_on, place, places_at, places_of}
use Rattle.net_extract.specs.{CutLists.IsNewPieceTree, Entries.{AreMetalBelow, AreMetalBoxes, ArePieceEntries}}
use Rattle.net_extract.specs.Entries.{IsPieceOn, own_entry, piece_entry}
use Rattle.net_extract.proofs.{AllLinks.pieces_counted, Shown.entry_is}

-- ---- the entries of the boxes

-- what the pieces of one box more add
places_more : (boxes : List MaskBox) (crossings : List Crossing) (n : ℕ)
    → length (flat_map (places_at crossings boxes) (range_with_len 0 (n + 1)))
    ≡ length (flat_map (places_at crossings boxes) (range_with_len 0 n)) + length (places_at crossings boxes n)
places_more boxes crossings n =
    let f = places_at crossings boxes in
    let now = flat_map f (range_with_len 0 n) in
    ap length (sym (piece_added f n [] now (now ++ f n) refl refl)) ∙ length-append now (f n)

-- a box of metal is one piece as a whole
places_of_metal : (boxes : List MaskBox) (crossings : List Crossing) (k : ℕ) → layer_at boxes k ≡ NM
    → places_at crossings boxes k ≡ place k Whole ∷ []
places_of_metal boxes crossings k on =
    ap (λ (layer : MaskLayer). map (place k) (parts_on layer (is_crossed crossings k))) on

pub metal_none : (boxes : List MaskBox) → AreMetalBelow boxes 0 []
metal_none boxes = record { are = entries_none (IsOn boxes NM) (own_entry boxes); few = λ crossings. omega arith }

pub metal_skip : (boxes : List MaskBox) (n : ℕ) (entries : List Entry) → (IsOn boxes NM n → ⊥)
    → AreMetalBelow boxes n entries → AreMetalBelow boxes (n + 1) entries
metal_skip boxes n entries lacks h = record {
  are = entries_skip (IsOn boxes NM) (own_entry boxes) n entries h.are lacks;
  few = λ crossings. omega (arith, h.few crossings, places_more boxes crossings n);
}

pub metal_push : (boxes : List MaskBox) (n : ℕ) (entries : List Entry) (entry : Entry) → IsOn boxes NM n
    → entry ≡ own_entry boxes n → AreMetalBelow boxes n entries → AreMetalBelow boxes (n + 1) (entries ++ entry ∷ [])
metal_push boxes n entries entry on is h = record {
  are = entries_push (IsOn boxes NM) (own_entry boxes) n entries entry h.are on is;
  few = λ crossings.
      (let one = ap length (places_of_metal boxes crossings n on.on) in
      omega (arith, h.few crossings, places_more boxes crossings n, one, length_push entries entry));
}

pub metal_reordered : (boxes : List MaskBox) (given entries : List Entry) → AreMetalBoxes boxes given
    → AreReordered given entries → AreMetalBoxes boxes entries
metal_reordered boxes given entries h moved = record {
  are = entries_reordered (IsOn boxes NM) (own_entry boxes) (length boxes) given entries moved h.are;
  few = λ crossings. omega (arith, h.few crossings, reordered_length given entries moved);
}

pub metal_fits : (boxes : List MaskBox) (entries : List Entry) → AreSearchable boxes → AreMetalBoxes boxes entries
    → (length entries ≤ 2 ^ 21) × All (λ (entry : Entry). IsPlacedBox entry.area) entries
metal_fits boxes entries searchable h = (
  omega (arith, searchable.few, h.are.few),
  λ k d lt. (let found = h.are.sound k d lt in
      subst (λ (s : Entry). IsPlacedBox s.area) (sym found.2) (searchable.placed found.0 no_box found.1.among)),
)

-- ---- where the piece of a box stands

-- numbers in two runs
range_split : (a m n : ℕ) → range_with_len a (m + n) ≡ range_with_len a m ++ range_with_len (a + m) n
range_split a zero n =
    let e : zero + n ≡ n = omega arith in
    let f : a ≡ a + zero = omega arith in
    ap (range_with_len a) e ∙ ap (λ k. range_with_len k n) f
range_split a (suc m) n =
    let e : suc m + n ≡ suc (m + n) = omega arith in
    let f : (a + 1) + m ≡ a + suc m = omega arith in
    ap (range_with_len a) e ∙ ap (λ ks. a ∷ ks)
    (range_split (a + 1) m n ∙ ap (λ k. range_with_len (a + 1) m ++ range_with_len k n) f)

-- the pieces of some boxes are of these
places_within : (boxes : List MaskBox) (crossings : List Crossing) (P : Place → Type 0) (a n : ℕ)
    → ((k : ℕ) (part : Part) → a ≤ k → k < a + n → P (place k part))
    → AllByRecursion P (flat_map (places_at crossings boxes) (range_with_len a n))
places_within boxes crossings P a n each =
    all_flat P (places_at crossings boxes) (range_with_len a n)
    (all_numbers (λ k. AllByRecursion P (places_at crossings boxes k)) a n
    (λ k low high. all_map P (place k) (parts_on (layer_at boxes k) (is_crossed crossings k))
    (by_number (λ part. P (place k part)) (parts_on (layer_at boxes k) (is_crossed crossings k)) Whole
    (λ j lt. each k _ low high))))

-- one place between those of the boxes before and those of the boxes after
seam_is : (before after : List Place) (p d : Place) → get_or (before ++ p ∷ after) (length before) d ≡ p
seam_is [] after p d = refl
seam_is (x ∷ before) after p d = seam_is before after p d

seam_only : (before after : List Place) (p d : Place) (a : ℕ)
    → AllByRecursion (λ (q : Place). q.box_no < p.box_no) before
    → AllByRecursion (λ (q : Place). p.box_no < q.box_no) after
    → a < length (before ++ p ∷ after) → (get_or (before ++ p ∷ after) a d).box_no ≡ p.box_no → a ≡ length before
seam_only [] after p d zero less more lt is = refl
seam_only [] after p d (suc a) less more lt is =
    (let past = all_at (λ (q : Place). p.box_no < q.box_no) after d a more (omega (arith, lt)) in
    absurd (omega (arith, past, is)))
seam_only (x ∷ before) after p d zero less more lt is = absurd (omega (arith, less.0, is))
seam_only (x ∷ before) after p d (suc a) less more lt is =
    ap suc (seam_only before after p d a less.1 more (omega (arith, lt)) is)

-- where the piece of a box of metal stands among all
record IsOnlyPlace (places : List Place) (k at : ℕ) : Type 0 where
  within : at < length places
  is : (d : Place) → get_or places at d ≡ place k Whole
  only : (a : ℕ) (d : Place) → a < length places → (get_or places a d).box_no ≡ k → a ≡ at

metal_place : (boxes : List MaskBox) (crossings : List Crossing) (k : ℕ) → IsOn boxes NM k
    → (at : ℕ) × IsOnlyPlace (places_of crossings boxes) k at
metal_place boxes crossings k on =
    let f = places_at crossings boxes in
    let p : Place = place k Whole in
    let rest : ℕ = length boxes - (k + 1) in
    let before = flat_map f (range_with_len 0 k) in
    let after = flat_map f (range_with_len (k + 1) rest) in
    let among = on.among in
    let counted : length boxes ≡ k + (suc rest) = omega (arith, among) in
    let first : 0 + k ≡ k = omega arith in
    let split : range_with_len 0 (length boxes) ≡ range_with_len 0 k ++ k ∷ range_with_len (k + 1) rest =
    ap (range_with_len 0) counted ∙ range_split 0 k (suc rest)
    ∙ ap (λ m. range_with_len 0 k ++ range_with_len m (suc rest)) first in
    let are : places_of crossings boxes ≡ before ++ p ∷ after = ap (flat_map f) split
    ∙ flat_map-append f (range_with_len 0 k) (k ∷ range_with_len (k + 1) rest)
    ∙ ap (λ (ps : List Place). before ++ ps) (flat_map-cons f k (range_with_len (k + 1) rest))
    ∙ ap (λ (ps : List Place). before ++ (ps ++ after)) (places_of_metal boxes crossings k on.on) in
    let less : AllByRecursion (λ (q : Place). q.box_no < k) before =
    places_within boxes crossings (λ q. q.box_no < k) 0 k (λ j part low high. omega (arith, high)) in
    let more : AllByRecursion (λ (q : Place). k < q.box_no) after =
    places_within boxes crossings (λ q. k < q.box_no) (k + 1) rest (λ j part low high. omega (arith, low)) in
    let P : List Place → Type 0 = λ ps. IsOnlyPlace ps k (length before) in (
      length before,
      subst P (sym are) (record {
        within = omega (arith, length-append before (p ∷ after));
        is = seam_is before after p;
        only = λ a d lt is. seam_only before after p d a less more lt is;
      }),
    )

-- ---- the piece of a box

-- the piece with this number is all of box k, and the only one of it
record IsOnlyPiece (boxes : List MaskBox) (pieces : List Placed) (k s : ℕ) : Type 0 where
  within : s < length pieces
  owner : box_of pieces s ≡ k
  area : area_of pieces s ≡ area_at boxes k
  only : (a : ℕ) → a < length pieces → box_of pieces a ≡ k → a ≡ s

metal_piece : (boxes : List MaskBox) (crossings : List Crossing) (pieces : List Placed) (starts : List ℕ) (k : ℕ)
    → ArePieces boxes crossings pieces starts → IsOn boxes NM k → IsOnlyPiece boxes pieces k (get_or starts k 0)
metal_piece boxes crossings pieces starts k h on =
    let places = places_of crossings boxes in
    let none : Place = stand_of no_piece in
    let s : ℕ = get_or starts k 0 in
    let found = metal_place boxes crossings k on in
    let at : ℕ = found.0 in
    let counted = pieces_counted boxes crossings pieces h.places in
    let stands : (a : ℕ) → a < length pieces → get_or places a none ≡ stand_of (piece_at pieces a) =
    λ a lt. ap (λ (ps : List Place). get_or ps a none) (sym h.places)
    ∙ get_or-map stand_of pieces a no_piece none lt in
    let only : (a : ℕ) → a < length pieces → box_of pieces a ≡ k → a ≡ at =
    λ a lt is. found.1.only a none (omega (arith, lt, counted)) (ap (λ (p : Place). p.box_no) (stands a lt) ∙ is) in
    let here : at < length pieces = omega (arith, found.1.within, counted) in
    let stand : stand_of (piece_at pieces at) ≡ place k Whole = sym (stands at here) ∙ found.1.is none in
    let box : box_of pieces at ≡ k = ap (λ (p : Place). p.box_no) stand in
    let own = h.ranges.own at here in
    let low : s ≤ at = subst (λ (n : ℕ). get_or starts n 0 ≤ at) box own.1 in
    let high : at < get_or starts (k + 1) 0 = subst (λ (n : ℕ). at < get_or starts (n + 1) 0) box own.2 in
    let within : s < length pieces = omega (arith, low, here) in
    let owner : box_of pieces s ≡ k = h.ranges.of_box k s on.among (omega arith) (omega (arith, low, high)) in
    let same : s ≡ at = only s within owner in
    let piece : IsPiece boxes crossings (piece_at pieces s) = h.each s no_piece within in
    let whole : stand_of (piece_at pieces s) ≡ place k Whole =
    ap (λ (n : ℕ). stand_of (piece_at pieces n)) same ∙ stand in
    record {
      within = within;
      owner = owner;
      area = subst (λ (p : Place). IsAreaOf boxes crossings p (area_of pieces s)) whole piece.area;
      only = λ a lt is. only a lt is ∙ sym same;
    }

-- ---- the entries of the pieces

pub numbers_have_starts : (boxes : List MaskBox) (crossings : List Crossing) (pieces : List Placed)
    (starts : List ℕ) (entries : List Entry) → ArePieces boxes crossings pieces starts → AreMetalBoxes boxes entries
    → AreTagsWithin (length starts) entries
numbers_have_starts boxes crossings pieces starts entries h metal = λ k lt.
    let found = metal.are.sound k no_entry lt in
    let among = found.1.among in
    let counted = h.ranges.counted in
    let within : found.0 < length starts = omega (arith, among, counted) in
    subst (λ (s : Entry). s.tag < length starts) (sym found.2) within

-- under the numbers of the first pieces of their boxes they are the pieces of metal
pub metal_retagged : (boxes : List MaskBox) (crossings : List Crossing) (pieces : List Placed) (starts : List ℕ)
    (given entries : List Entry) → ArePieces boxes crossings pieces starts → AreMetalBoxes boxes given
    → entries ≡ map (with_tag starts) given → ArePieceEntries boxes pieces NM entries
metal_retagged boxes crossings pieces starts given entries h metal are =
    let f = with_tag starts in
    let counted = pieces_counted boxes crossings pieces h.places in
    let start : ℕ → ℕ = λ k. get_or starts k 0 in
    let piece : (k : ℕ) → IsOn boxes NM k → IsOnlyPiece boxes pieces k (start k) =
    λ k on. metal_piece boxes crossings pieces starts k h on in
    let moved : (k : ℕ) (on : IsOn boxes NM k) → f (own_entry boxes k) ≡ piece_entry pieces (start k) =
    λ k on. entry_is (area_at boxes k) _ k _ (start k) (start k) (sym (piece k on).area) (sym (piece k on).owner)
    refl in
    let Is : Entry → Type 0 = λ s. (a : ℕ) × ((a < length pieces) × IsPieceOn boxes pieces NM a)
    × (s ≡ piece_entry pieces a) in
    subst (ArePieceEntries boxes pieces NM) (sym are) (record {
      sound = All-map Is f given (λ i d lt.
          (let found = metal.are.sound i d lt in
          let k : ℕ = found.0 in
          let on : IsOn boxes NM k = found.1 in (
            start k,
            ((piece k on).within, ap (layer_at boxes) (piece k on).owner ∙ on.on),
            ap f found.2 ∙ moved k on,
          )));
      complete = λ a lt of.
          (let k : ℕ = box_of pieces a in
          let own : IsPiece boxes crossings (piece_at pieces a) = h.each a no_piece lt in
          let on : IsOn boxes NM k = record { among = own.of_box; on = of.1 } in
          let same : start k ≡ a = sym ((piece k on).only a lt refl) in
          subst (Contains (map f given)) (moved k on ∙ ap (piece_entry pieces) same)
          (contains_map f given (own_entry boxes k) (metal.are.complete k on.among on)));
      few = omega (arith, length-map given f, metal.few crossings, counted);
    })

-- so the tree of these boxes becomes that of the pieces
pub new_metal_tree : (boxes : List MaskBox) (crossings : List Crossing) (pieces : List Placed) (starts : List ℕ)
    (given made : List Entry) (tree : UnvisitedTree) → ArePieces boxes crossings pieces starts
    → AreMetalBoxes boxes given → made ≡ map (with_tag starts) given → IsNewUnvisitedTree made tree
    → IsNewPieceTree boxes pieces NM tree
new_metal_tree boxes crossings pieces starts given made tree h metal are new = record {
  shows = subst (ArePieceEntries boxes pieces NM) (sym new.entries_are)
      (metal_retagged boxes crossings pieces starts given made h metal are);
  new = subst (λ (some : List Entry). IsNewUnvisitedTree some tree) (sym new.entries_are) new;
}
