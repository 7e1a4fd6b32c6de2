-- Boxes of poly and metal are pieces as a whole: what the tree of their pieces tells of boxes.
use Rattle.std.proofs.Common.{◌≡◌, ◌↔◌, ℕ, ◌<◌, inl, inr, ℤ, Bool, Some, List, [], ◌∷◌, map, Contains, IsTrue, length}
use Rattle.std.proofs.Common.{zero, suc, get_or, slice_index, refl, sym, ap, ◌∙◌, subst, arith}
use Rattle.std.proofs.lemmas.{List.Elements.All-contains, Option.{slice_get-get_or, get_or_from_slice_get}}
use Rattle.std.proofs.lemmas.Option.{slice_get_within}
use Rattle.std.specs.{Prelude.slice_get, List.{range_with_len, Any, AllByRecursion}}
use Rattle.list_facts.proofs.Some.{any_here, any_flat_map, any_range}
use Rattle.list_facts.proofs.Elements.{all_at, all_flat, all_map, all_numbers, by_number}
use Rattle.box_pieces.specs.{declared.placing.Part.{Part, TheVariants.Whole}, Areas.IsAreaOfPart, Pieces.stand_of}
use Rattle.box_pieces.specs.{Pieces.{no_piece, piece_at, box_of, area_of, IsPiece}, Places.{Place, place, parts_on}}
use Rattle.box_pieces.specs.Places.{is_crossed, places_at, places_of}
use Rattle.net_extract.proofs.AllLinks.{place_there}
use Rattle.lam_geom.specs.{declared.boxes.{BoxXY.BoxXY, MaskBox.MaskBox, MaskLayer.MaskLayer}, Gaps.Encloses}
use Rattle.box_tree.specs.declared.{query.{Query.Query, Question.TheVariants.Covers}, entries.Entry.Entry}
use Rattle.box_tree.{specs.Queries.{Holds, HoldsAt}, proofs.Within.encloses_past}
use Rattle.crossing_model.specs.{declared.crossing.Crossing.Crossing, Boxes.{area_at, layer_at, IsOn, IsCovered}}
use Rattle.flat_check.specs.{declared.flat_layout.FlatLayout.FlatLayout, FlatLayouts.IsFlatLayout, Trees.ArePiecesOn}
use Rattle.flat_check.specs.Trees.{IsPieceOn, IsUncut, piece_entry}
use Rattle.flat_check.proofs.PiecePairs.{pieces_on, nets_counted, placed_at}

-- ---- what a tree tells

pub contains_there : (entries : List Entry) (k : ℕ) (s : Entry) → slice_get entries k ≡ Some s → Contains entries s
contains_there entries k s there = (k, slice_get_within entries k s there, get_or_from_slice_get entries k s s there)

-- an entry of the list that holds a query
held_by : (query : Query) (entries : List Entry) (s : Entry) → Contains entries s → Holds query s → (k : ℕ)
    × HoldsAt entries query k
held_by query entries s there holds = (
  there.0,
  record {
    entry = s;
    there = slice_get-get_or entries there.0 s there.1
        ∙ ap Some there.2;
    holds = holds;
  },
)

-- ---- boxes as a whole

parts_whole : (layer : MaskLayer) (crossed : Bool) → IsUncut layer → parts_on layer crossed ≡ Whole ∷ []
parts_whole layer crossed (inl is) = subst (λ (l : MaskLayer). parts_on l crossed ≡ Whole ∷ []) (sym is) refl
parts_whole layer crossed (inr is) = subst (λ (l : MaskLayer). parts_on l crossed ≡ Whole ∷ []) (sym is) refl

-- such a box as a whole stands among the pieces
whole_there : (boxes : List MaskBox) (crossings : List Crossing) (layer : MaskLayer) (k : ℕ) → IsUncut layer
    → IsOn boxes layer k → Any (λ (p : Place). p ≡ place k Whole) (places_of crossings boxes)
whole_there boxes crossings layer k uncut on =
    let crossed = is_crossed crossings k in
    let Q : Place → Type 0 = λ p. p ≡ place k Whole in
    let parts : parts_on (layer_at boxes k) crossed ≡ Whole ∷ [] =
    subst (λ (l : MaskLayer). parts_on l crossed ≡ Whole ∷ []) (sym on.on) (parts_whole layer crossed uncut) in
    let here : places_at crossings boxes k ≡ place k Whole ∷ [] = ap (map (place k)) parts in
    let own : Any Q (places_at crossings boxes k) = subst (Any Q) (sym here) (any_here Q (place k Whole) [] refl) in
    let among = on.among in
    any_flat_map (λ (n : ℕ). n ≡ k) Q (places_at crossings boxes) (range_with_len 0 (length boxes))
    (λ n e. subst (λ (m : ℕ). Any Q (places_at crossings boxes m)) (sym e) own)
    (any_range (λ (n : ℕ). n ≡ k) 0 (length boxes) k (omega arith) (omega (arith, among)) refl)

-- its piece, with a net
pub whole_listed : (flat : FlatLayout) (layer : MaskLayer) (entries : List Entry) (k : ℕ) → IsFlatLayout flat
    → IsUncut layer → ArePiecesOn flat layer entries → IsOn flat.boxes.now layer k
    → (tag : ℕ) × Contains entries (record { area = area_at flat.boxes.now k; owner = k; tag = tag })
whole_listed flat layer entries k is uncut are on =
    let boxes = flat.boxes.now in let crossings = flat.pieces.crossings.items in let pieces = pieces_on flat in
    let found = whole_there boxes crossings layer k uncut on in
    let i : ℕ = found.0 in
    let at : slice_get (places_of crossings boxes) i ≡ Some (place k Whole) =
    slice_get-get_or (places_of crossings boxes) i found.1 found.2 ∙ ap Some (found.3 ∙ found.4) in
    let placed = placed_at flat k i (place k Whole) (area_at boxes k) is at refl refl in
    let box : box_of pieces i ≡ k = is.pieces.ranges.of_box k i on.among placed.of_box.low placed.of_box.high in
    let counted = nets_counted flat is in
    let within = placed.within in
    let there : Contains entries (piece_entry flat i) =
    are.complete i (omega (arith, counted, within))
    (omega (arith, counted, within), ap (layer_at boxes) box ∙ on.on) in
    let tag = slice_index flat.nets.items i in (
      tag,
      subst (λ (n : ℕ). Contains entries (record { area = area_at boxes k; owner = n; tag = tag })) box
          (subst (λ (a : BoxXY). Contains entries (record { area = a; owner = box_of pieces i; tag = tag }))
          (sym placed.covers) there),
    )

first_only : (j : ℕ) (parts : List Part) → parts ≡ Whole ∷ [] → j < length parts → get_or parts j Whole ≡ Whole
first_only j parts is lt = go j (omega (arith, ap length is, lt)) where
  go : (j : ℕ) → j < 1 → get_or parts j Whole ≡ Whole
  go zero low = ap (λ (ps : List Part). get_or ps 0 Whole) is
  go (suc j) low = absurd (omega (arith, low))

-- the entry of a piece is its box as a whole
places_whole : (boxes : List MaskBox) (crossings : List Crossing) (layer : MaskLayer) → IsUncut layer
    → AllByRecursion (λ (p : Place). layer_at boxes p.box_no ≡ layer → p.part ≡ Whole) (places_of crossings boxes)
places_whole boxes crossings layer uncut =
    let P : Place → Type 0 = λ p. layer_at boxes p.box_no ≡ layer → p.part ≡ Whole in
    all_flat P (places_at crossings boxes) (range_with_len 0 (length boxes))
    (all_numbers (λ k. AllByRecursion P (places_at crossings boxes k)) 0 (length boxes)
    (λ k low high. all_map P (place k) (parts_on (layer_at boxes k) (is_crossed crossings k))
    (by_number (λ (part : Part). layer_at boxes k ≡ layer → part ≡ Whole)
    (parts_on (layer_at boxes k) (is_crossed crossings k)) Whole (λ j lt is.
    let parts : parts_on (layer_at boxes k) (is_crossed crossings k) ≡ Whole ∷ [] =
    subst (λ (l : MaskLayer). parts_on l (is_crossed crossings k) ≡ Whole ∷ []) (sym is)
    (parts_whole layer (is_crossed crossings k) uncut) in
    first_only j _ parts lt))))

pub whole_entry : (flat : FlatLayout) (layer : MaskLayer) (entries : List Entry) (s : Entry) → IsFlatLayout flat
    → IsUncut layer → ArePiecesOn flat layer entries → Contains entries s
    → IsOn flat.boxes.now layer s.owner × (s.area ≡ area_at flat.boxes.now s.owner)
whole_entry flat layer entries s is uncut are there =
    let boxes = flat.boxes.now in let crossings = flat.pieces.crossings.items in let pieces = pieces_on flat in
    let found = All-contains (λ (x : Entry). (i : ℕ) × IsPieceOn flat layer i × (x ≡ piece_entry flat i)) entries s
    are.sound there in
    let i : ℕ = found.0 in
    let on : IsPieceOn flat layer i = found.1 in
    let li : i < length pieces = omega (arith, nets_counted flat is, on.0) in
    let piece : IsPiece boxes crossings (piece_at pieces i) = is.pieces.each i no_piece li in
    let P : Place → Type 0 = λ p. layer_at boxes p.box_no ≡ layer → p.part ≡ Whole in
    let at : slice_get (places_of crossings boxes) i ≡ Some (stand_of (piece_at pieces i)) =
    place_there boxes crossings pieces i is.pieces.places li in
    let stand : Place = stand_of (piece_at pieces i) in
    let part : (piece_at pieces i).part ≡ Whole =
    subst P (get_or_from_slice_get (places_of crossings boxes) i stand stand at)
    (all_at P (places_of crossings boxes) stand i (places_whole boxes crossings layer uncut)
    (slice_get_within (places_of crossings boxes) i stand at)) on.1 in
    let area : area_of pieces i ≡ area_at boxes (box_of pieces i) =
    subst (λ (x : Part). IsAreaOfPart boxes crossings (box_of pieces i) x (area_of pieces i)) part piece.area in
    subst (λ (x : Entry). IsOn boxes layer x.owner × (x.area ≡ area_at boxes x.owner)) (sym found.2)
    (record { among = piece.of_box; on = on.1 }, area)

-- whether some piece covers an area
pub covered_by_whole : (flat : FlatLayout) (layer : MaskLayer) (area : BoxXY) (margin : ℤ) (entries : List Entry)
    (b : Bool) → IsTrue b ↔ ((k : ℕ) × HoldsAt entries (record { area = area; question = Covers margin }) k)
    → IsFlatLayout flat → IsUncut layer → ArePiecesOn flat layer entries
    → IsTrue b ↔ IsCovered flat.boxes.now layer area margin
covered_by_whole flat layer area margin entries b h is uncut are = (
  λ t.
      let boxes = flat.boxes.now in let pieces = pieces_on flat in
      let found = h.0 t in
      let held = found.1 in
      let there = All-contains (λ (s : Entry). (i : ℕ) × IsPieceOn flat layer i × (s ≡ piece_entry flat i)) entries
      held.entry are.sound (contains_there entries found.0 held.entry held.there) in
      let i : ℕ = there.0 in
      let on : IsPieceOn flat layer i = there.1 in
      let counted = nets_counted flat is in
      let low = on.0 in
      let piece : IsPiece boxes flat.pieces.crossings.items (piece_at pieces i) =
      is.pieces.each i no_piece (omega (arith, counted, low)) in
      let covers : Encloses (area_of pieces i) area margin =
      subst (λ (s : Entry). Encloses s.area area margin) there.2 held.holds in
      record {
        cover = box_of pieces i;
        is_on = record { among = piece.of_box; on = on.1 };
        covers = encloses_past (area_at boxes (box_of pieces i)) (area_of pieces i) area margin piece.inside covers;
      },
  λ c.
      let listed = whole_listed flat layer entries c.cover is uncut are c.is_on in
      h.1 (held_by (record { area = area; question = Covers margin }) entries
      (record { area = area_at flat.boxes.now c.cover; owner = c.cover; tag = listed.0 }) listed.1 c.covers),
)
