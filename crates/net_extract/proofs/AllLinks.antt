-- The links of the three kinds are all links.
use Rattle.std.proofs.Common.{◌≡◌, ℕ, ◌<◌, List, Some, length, map, ◌⊎◌, inl, inr, sym, ◌∙◌, ap, subst, arith}
use Rattle.std.proofs.lemmas.{List.length-map, Option.{slice_get-map, slice_get-get_or, slice_get_within, same_Some}}
use Rattle.std.specs.Prelude.{slice_get, option_map}
use Rattle.lam_geom.specs.{declared.boxes.{BoxXY.BoxXY, MaskBox.MaskBox}, Gaps.{Touches, Overlaps}}
use Rattle.rule_table.specs.declared.technology.Tech.{Tech}
use Rattle.crossing_model.specs.{declared.crossing.Crossing.Crossing, Boxes.area_at, Crossings.AreInOrder}
use Rattle.box_pieces.specs.{declared.placing.Placed.Placed, Places.{Place, places_of}, Pieces.{no_piece, piece_at}}
use Rattle.box_pieces.{specs.Pieces.{area_of, stand_of, IsPiece, ArePieces}, proofs.Areas.area_same}
use Rattle.net_model.specs.Extraction.{AreLinked, by_touch, by_cut, by_contact, by_contact_back, IsLink}
use Rattle.net_extract.specs.Linking.{IsTouch, IsOverBoth, IsContact}

-- where a piece stands
pub place_there : (boxes : List MaskBox) (crossings : List Crossing) (pieces : List Placed) (a : ℕ)
    → map stand_of pieces ≡ places_of crossings boxes → a < length pieces
    → slice_get (places_of crossings boxes) a ≡ Some (stand_of (piece_at pieces a))
place_there boxes crossings pieces a e lt =
    let P : List Place → Type 0 = λ ps. slice_get ps a ≡ Some (stand_of (piece_at pieces a)) in
    subst P e (slice_get-map stand_of pieces a ∙ ap (option_map stand_of) (slice_get-get_or pieces a no_piece lt))

pub pieces_counted : (boxes : List MaskBox) (crossings : List Crossing) (pieces : List Placed)
    → map stand_of pieces ≡ places_of crossings boxes → length (places_of crossings boxes) ≡ length pieces
pieces_counted boxes crossings pieces e = ap (λ (ps : List Place). length ps) (sym e) ∙ length-map pieces stand_of

-- a link of pieces by their numbers
link_from : (tech : Tech) (boxes : List MaskBox) (crossings : List Crossing) (pieces : List Placed) (starts : List ℕ)
    (a b : ℕ) → ArePieces boxes crossings pieces starts → a < length pieces → b < length pieces
    → AreLinked tech boxes crossings (stand_of (piece_at pieces a)) (stand_of (piece_at pieces b))
    → IsLink tech boxes crossings a b
link_from tech boxes crossings pieces starts a b p la lb linked = record {
  p = stand_of (piece_at pieces a);
  q = stand_of (piece_at pieces b);
  first = place_there boxes crossings pieces a p.places la;
  second = place_there boxes crossings pieces b p.places lb;
  linked = linked;
}

-- ---- from the kinds

pub touch_is_link : (tech : Tech) (boxes : List MaskBox) (crossings : List Crossing) (pieces : List Placed)
    (starts : List ℕ) (a b : ℕ) → ArePieces boxes crossings pieces starts → IsTouch boxes pieces a b
    → IsLink tech boxes crossings a b
touch_is_link tech boxes crossings pieces starts a b p h =
    let pa : IsPiece boxes crossings (piece_at pieces a) = p.each a no_piece h.apart.first in
    let pb : IsPiece boxes crossings (piece_at pieces b) = p.each b no_piece h.apart.second in
    link_from tech boxes crossings pieces starts a b p h.apart.first h.apart.second
    (by_touch (area_of pieces a) (area_of pieces b) (λ e. h.apart.apart (sym e)) h.one_layer pa.area pb.area h.touch)

pub cut_is_link : (tech : Tech) (boxes : List MaskBox) (crossings : List Crossing) (pieces : List Placed)
    (starts : List ℕ) (k a b : ℕ) → ArePieces boxes crossings pieces starts → IsOverBoth boxes pieces k a b
    → IsLink tech boxes crossings a b
cut_is_link tech boxes crossings pieces starts k a b p h =
    let pa : IsPiece boxes crossings (piece_at pieces a) = p.each a no_piece h.apart.first in
    let pb : IsPiece boxes crossings (piece_at pieces b) = p.each b no_piece h.apart.second in
    link_from tech boxes crossings pieces starts a b p h.apart.first h.apart.second
    (by_cut (area_of pieces a) (area_of pieces b) k (λ e. h.apart.apart (sym e)) h.is_cut pa.area pb.area h.first
    h.second)

pub contact_is_link : (tech : Tech) (boxes : List MaskBox) (crossings : List Crossing) (pieces : List Placed)
    (starts : List ℕ) (a b : ℕ) → ArePieces boxes crossings pieces starts → IsContact tech boxes pieces a b
    → IsLink tech boxes crossings a b
contact_is_link tech boxes crossings pieces starts a b p h = elim h.pair [
  | inl buried ↦ link_from tech boxes crossings pieces starts a b p h.first h.second (by_contact buried)
  | inr buried ↦ link_from tech boxes crossings pieces starts a b p h.first h.second (by_contact_back buried)
]

-- ---- to the kinds

-- a link is of one of the kinds
abbrev pub IsOfKind : Tech → List MaskBox → List Placed → ℕ → ℕ → Type 0
IsOfKind tech boxes pieces a b = IsTouch boxes pieces a b
    ⊎ (((k : ℕ) × IsOverBoth boxes pieces k a b) ⊎ IsContact tech boxes pieces a b)

linked_kind : (tech : Tech) (boxes : List MaskBox) (crossings : List Crossing) (pieces : List Placed)
    (starts : List ℕ) (a b : ℕ) → AreInOrder crossings → ArePieces boxes crossings pieces starts
    → a < length pieces → b < length pieces
    → AreLinked tech boxes crossings (stand_of (piece_at pieces a)) (stand_of (piece_at pieces b))
    → IsOfKind tech boxes pieces a b
linked_kind tech boxes crossings pieces starts a b ordered p la lb (by_touch s t ne one at_a at_b touch) =
    let pa : IsPiece boxes crossings (piece_at pieces a) = p.each a no_piece la in
    let pb : IsPiece boxes crossings (piece_at pieces b) = p.each b no_piece lb in
    let ea : s ≡ area_of pieces a =
    area_same boxes crossings (stand_of (piece_at pieces a)) s (area_of pieces a) ordered at_a pa.area in
    let eb : t ≡ area_of pieces b =
    area_same boxes crossings (stand_of (piece_at pieces b)) t (area_of pieces b) ordered at_b pb.area in
    let P : BoxXY → Type 0 = λ x. Touches x t in
    let Q : BoxXY → Type 0 = λ y. Touches (area_of pieces a) y in
    inl (record {
      apart = record { first = la; second = lb; apart = λ e. ne (sym e) };
      one_layer = one;
      touch = subst Q eb (subst P ea touch);
    })
linked_kind tech boxes crossings pieces starts a b ordered p la lb (by_cut s t cut ne on at_a at_b over_a over_b) =
    let pa : IsPiece boxes crossings (piece_at pieces a) = p.each a no_piece la in
    let pb : IsPiece boxes crossings (piece_at pieces b) = p.each b no_piece lb in
    let ea : s ≡ area_of pieces a =
    area_same boxes crossings (stand_of (piece_at pieces a)) s (area_of pieces a) ordered at_a pa.area in
    let eb : t ≡ area_of pieces b =
    area_same boxes crossings (stand_of (piece_at pieces b)) t (area_of pieces b) ordered at_b pb.area in
    let P : BoxXY → Type 0 = λ x. Overlaps x (area_at boxes cut) in
    inr (inl (
      cut,
      record {
        is_cut = on;
        apart = record { first = la; second = lb; apart = λ e. ne (sym e) };
        first = subst P ea over_a;
        second = subst P eb over_b;
      },
    ))
linked_kind tech boxes crossings pieces starts a b ordered p la lb (by_contact buried) =
    inr (inr (record { first = la; second = lb; pair = inl buried }))
linked_kind tech boxes crossings pieces starts a b ordered p la lb (by_contact_back buried) =
    inr (inr (record { first = la; second = lb; pair = inr buried }))

pub link_kind : (tech : Tech) (boxes : List MaskBox) (crossings : List Crossing) (pieces : List Placed)
    (starts : List ℕ) (a b : ℕ) → AreInOrder crossings → ArePieces boxes crossings pieces starts
    → IsLink tech boxes crossings a b → IsOfKind tech boxes pieces a b
link_kind tech boxes crossings pieces starts a b ordered p h =
    let n = pieces_counted boxes crossings pieces p.places in
    let wa = slice_get_within (places_of crossings boxes) a h.p h.first in
    let wb = slice_get_within (places_of crossings boxes) b h.q h.second in
    let la : a < length pieces = omega arith in
    let lb : b < length pieces = omega arith in
    let ep : h.p ≡ stand_of (piece_at pieces a) =
    same_Some h.p (stand_of (piece_at pieces a))
    (sym h.first ∙ place_there boxes crossings pieces a p.places la) in
    let eq : h.q ≡ stand_of (piece_at pieces b) =
    same_Some h.q (stand_of (piece_at pieces b))
    (sym h.second ∙ place_there boxes crossings pieces b p.places lb) in
    let P : Place → Type 0 = λ x. AreLinked tech boxes crossings x h.q in
    let Q : Place → Type 0 = λ y. AreLinked tech boxes crossings (stand_of (piece_at pieces a)) y in
    linked_kind tech boxes crossings pieces starts a b ordered p la lb (subst Q eq (subst P ep h.linked))
