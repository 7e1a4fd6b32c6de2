-- Pieces that lie too near one another, by their numbers in a flat layout.
use Rattle.std.proofs.Common.{◌≡◌, ℕ, ◌+◌, ◌<◌, ℤ, ◌<ℤ◌, List, Some, length, get_or, refl, sym, ap, ◌∙◌, subst, arith}
use Rattle.std.proofs.lemmas.{List.get_or_read, Option.{slice_get_within, same_Some}}
use Rattle.std.specs.Prelude.{slice_get}
use Rattle.lam_geom.specs.{declared.boxes.{BoxXY.BoxXY, MaskBox.MaskBox, MaskLayer.MaskLayer}, Gaps.gap_of_boxes}
use Rattle.lam_geom.specs.Places.{IsPlacedBox}
use Rattle.rule_table.specs.declared.technology.Tech.{Tech}
use Rattle.graph_search.specs.Netting.{Reaches}
use Rattle.crossing_model.specs.{declared.crossing.Crossing.Crossing, Boxes.{no_box, area_at, layer_at, grains}}
use Rattle.crossing_model.{specs.Crossings.AreProper, proofs.SameCrossings.crossings_same}
use Rattle.box_pieces.specs.{declared.placing.Placed.Placed, Places.{Place, places_of}, Areas.IsAreaOf, Pieces.no_piece}
use Rattle.box_pieces.{specs.Pieces.{piece_at, box_of, area_of, stand_of, IsPiece}, proofs.Areas.area_same}
use Rattle.net_model.specs.Extraction.{IsLink}
use Rattle.net_extract.proofs.{AllLinks.{place_there, pieces_counted}, Geometry.placed_inner}
use Rattle.flat_check.specs.{declared.flat_layout.FlatLayout.FlatLayout, FlatLayouts.IsFlatLayout, Partners.IsPieceOf}
use Rattle.flat_check.{specs.Partners.{HasNearPiece, HaveNearPiece, WithOther}, proofs.Among.pieces_among}
use Rattle.rule_breaks.{specs.Breaks.ArePiecesTooNear, proofs.Turned.gap_turned}

abbrev pub pieces_on : FlatLayout → List Placed
pieces_on flat = flat.pieces.placed.items

-- the number of a box's piece is one of a piece, and has a net
pub piece_within : (flat : FlatLayout) (k i : ℕ) → IsFlatLayout flat → k < length flat.boxes.now → IsPieceOf flat k i
    → i < length (pieces_on flat)
piece_within flat k i is lt of =
    let w = is.pieces.ranges.within (k + 1) (omega arith) in
    let high = of.high in
    omega arith

pub nets_counted : (flat : FlatLayout) → IsFlatLayout flat → length flat.nets.items ≡ length (pieces_on flat)
nets_counted flat is = is.nets.counted
    ∙ pieces_counted flat.boxes.now flat.pieces.crossings.items (pieces_on flat) is.pieces.places

-- the area of a piece can be measured
pub piece_placed : (flat : FlatLayout) (shown : List Placed) (i : ℕ) (d : Placed) → IsFlatLayout flat
    → shown ≡ pieces_on flat → i < length (pieces_on flat) → IsPlacedBox (get_or shown i d).area
piece_placed flat shown i d is same lt =
    let piece : Placed = get_or (pieces_on flat) i d in
    let h : IsPiece flat.boxes.now flat.pieces.crossings.items piece = is.pieces.each i d lt in
    let P : List Placed → Type 0 = λ ps. IsPlacedBox (get_or ps i d).area in
    subst P (sym same)
    (placed_inner (area_at flat.boxes.now piece.box_no) piece.area
    (is.searchable.placed piece.box_no no_box h.of_box) h.inside)

-- what is read of a piece
pub record IsReadOf (flat : FlatLayout) (i : ℕ) (piece : Placed) : Type 0 where
  pub is : piece ≡ piece_at (pieces_on flat) i
  pub placed : IsPlacedBox piece.area
  pub of_box : piece.box_no < length flat.boxes.now

pub piece_read : (flat : FlatLayout) (shown : List Placed) (i : ℕ) (piece : Placed) → IsFlatLayout flat
    → shown ≡ pieces_on flat → i < length flat.nets.items → piece ≡ get_or shown i piece → IsReadOf flat i piece
piece_read flat shown i piece is same lt read =
    let among : i < length (pieces_on flat) = omega (arith, lt, nets_counted flat is) in
    let own : piece ≡ get_or (pieces_on flat) i piece = read ∙ ap (λ (ps : List Placed). get_or ps i piece) same in
    let at = get_or_read (pieces_on flat) i piece among own no_piece in
    let P : Placed → Type 0 = λ p. IsPlacedBox p.area in
    let B : Placed → Type 0 = λ p. p.box_no < length flat.boxes.now in
    record {
      is = at;
      placed = subst P (sym at) (piece_placed flat (pieces_on flat) i no_piece is refl among);
      of_box = subst B (sym at) (is.pieces.each i no_piece among).of_box;
    }

-- ---- from pieces in the flat layout

pub pieces_near : (flat : FlatLayout) (layer : MaskLayer) (spacing : ℤ) (a i b : ℕ) → IsFlatLayout flat
    → AreProper flat.tech.now flat.boxes.now → a < length flat.boxes.now → layer_at flat.boxes.now a ≡ layer
    → IsPieceOf flat a i → HasNearPiece flat layer spacing i b
    → WithOther (ArePiecesTooNear flat.tech.now flat.boxes.now layer spacing) a b
pieces_near flat layer spacing a i b is proper la on_a of h =
    let boxes : List MaskBox = flat.boxes.now in
    let crossings : List Crossing = flat.pieces.crossings.items in
    let pieces : List Placed = pieces_on flat in
    let j : ℕ = h.j in
    let on = h.on in
    let li : i < length pieces = piece_within flat a i is la of in
    let lj : j < length pieces = omega (arith, nets_counted flat is, on.0) in
    let n = pieces_counted boxes crossings pieces is.pieces.places in
    let own : box_of pieces i ≡ a = is.pieces.ranges.of_box a i la of.low of.high in
    let pi : IsPiece boxes crossings (piece_at pieces i) = is.pieces.each i no_piece li in
    let pj : IsPiece boxes crossings (piece_at pieces j) = is.pieces.each j no_piece lj in (
      λ e. h.other (sym (own ∙ e)),
      record {
        crossings = crossings;
        are_crossings = is.crossings proper;
        i = i;
        j = j;
        p = stand_of (piece_at pieces i);
        q = stand_of (piece_at pieces j);
        first = place_there boxes crossings pieces i is.pieces.places li;
        second = place_there boxes crossings pieces j is.pieces.places lj;
        of_first = own;
        of_second = h.of_box;
        on_first = on_a;
        on_second = ap (layer_at boxes) (sym h.of_box) ∙ on.1;
        s = area_of pieces i;
        t = area_of pieces j;
        covers_first = pi.area;
        covers_second = pj.area;
        near = h.near.near;
        apart = λ r. h.near.apart ((is.nets.joined i j (omega arith) (omega arith)).1 r);
      },
    )

-- ---- to pieces in the flat layout

-- what is said of two pieces by the crossings
abbrev AreThere : Tech → List MaskBox → ℕ → ℕ → Place → Place → BoxXY → BoxXY → List Crossing → Type 0
AreThere tech boxes i j p q s t crossings =
    (slice_get (places_of crossings boxes) i ≡ Some p) × (slice_get (places_of crossings boxes) j ≡ Some q)
    × IsAreaOf boxes crossings p s × IsAreaOf boxes crossings q t × (Reaches (IsLink tech boxes crossings) i j → ⊥)

-- a piece of a box in the flat layout
pub record IsPlacedAt (flat : FlatLayout) (k i : ℕ) (s : BoxXY) : Type 0 where
  pub within : i < length (pieces_on flat)
  pub of_box : IsPieceOf flat k i
  pub covers : s ≡ area_of (pieces_on flat) i

pub placed_at : (flat : FlatLayout) (k i : ℕ) (p : Place) (s : BoxXY) → IsFlatLayout flat
    → slice_get (places_of flat.pieces.crossings.items flat.boxes.now) i ≡ Some p → p.box_no ≡ k
    → IsAreaOf flat.boxes.now flat.pieces.crossings.items p s → IsPlacedAt flat k i s
placed_at flat k i p s is at of covers =
    let boxes : List MaskBox = flat.boxes.now in
    let crossings : List Crossing = flat.pieces.crossings.items in
    let pieces : List Placed = pieces_on flat in
    let n = pieces_counted boxes crossings pieces is.pieces.places in
    let w = slice_get_within (places_of crossings boxes) i p at in
    let lt : i < length pieces = omega arith in
    let stands : p ≡ stand_of (piece_at pieces i) =
    same_Some p (stand_of (piece_at pieces i))
    (sym at ∙ place_there boxes crossings pieces i is.pieces.places lt) in
    let box : box_of pieces i ≡ k = sym (ap (λ (x : Place). x.box_no) stands) ∙ of in
    let own = is.pieces.ranges.own i lt in
    let piece : IsPiece boxes crossings (piece_at pieces i) = is.pieces.each i no_piece lt in
    let P : Place → Type 0 = λ x. IsAreaOf boxes crossings x (area_of pieces i) in
    let Q : ℕ → Type 0 = λ x. IsPieceOf flat x i in
    record {
      within = lt;
      of_box = subst Q box (record { low = own.1; high = own.2 });
      covers = area_same boxes crossings p s (area_of pieces i) is.channels.in_order covers
          (subst P (sym stands) piece.area);
    }

pub pieces_found : (flat : FlatLayout) (layer : MaskLayer) (spacing : ℤ) (a b : ℕ) → IsFlatLayout flat
    → AreProper flat.tech.now flat.boxes.now → a < length flat.boxes.now
    → WithOther (ArePiecesTooNear flat.tech.now flat.boxes.now layer spacing) a b
    → HaveNearPiece flat layer spacing (get_or flat.pieces.starts.items a 0)
    (get_or flat.pieces.starts.items (a + 1) 0) b
pieces_found flat layer spacing a b is proper la (ne, h) =
    let tech : Tech = flat.tech.now in
    let boxes : List MaskBox = flat.boxes.now in
    let crossings : List Crossing = flat.pieces.crossings.items in
    let pieces : List Placed = pieces_on flat in
    let same : h.crossings ≡ crossings =
    crossings_same tech boxes h.crossings crossings h.are_crossings (is.crossings proper) in
    let there : AreThere tech boxes h.i h.j h.p h.q h.s h.t crossings =
    subst (AreThere tech boxes h.i h.j h.p h.q h.s h.t) same
    (h.first, h.second, h.covers_first, h.covers_second, h.apart) in
    let first = placed_at flat a h.i h.p h.s is there.0 h.of_first there.2 in
    let second = placed_at flat b h.j h.q h.t is there.1 h.of_second there.3 in
    let n = pieces_counted boxes crossings pieces is.pieces.places in
    let li = first.within in
    let lj = second.within in
    let lb = pieces_among tech boxes layer spacing a b h in
    let own : box_of pieces h.i ≡ a = is.pieces.ranges.of_box a h.i la first.of_box.low first.of_box.high in
    let other : box_of pieces h.j ≡ b = is.pieces.ranges.of_box b h.j lb second.of_box.low second.of_box.high in
    let P : BoxXY → Type 0 = λ s. gap_of_boxes s h.t <ℤ grains tech spacing in
    let Q : BoxXY → Type 0 = λ t. gap_of_boxes (area_of pieces h.i) t <ℤ grains tech spacing in
    record {
      i = h.i;
      low = first.of_box.low;
      high = first.of_box.high;
      near = record {
        j = h.j;
        on = (omega (arith, nets_counted flat is, lj), ap (layer_at boxes) other ∙ h.on_second);
        of_box = other;
        other = λ e. ne (sym (e ∙ own));
        near = record {
          near = subst Q second.covers (subst P first.covers h.near);
          apart = λ e. there.4 ((is.nets.joined h.i h.j (omega arith) (omega arith)).0 e);
        };
      };
    }

-- the other way round
pub pieces_turned : (flat : FlatLayout) (layer : MaskLayer) (spacing : ℤ) (a b : ℕ) → IsFlatLayout flat
    → AreProper flat.tech.now flat.boxes.now
    → ArePiecesTooNear flat.tech.now flat.boxes.now layer spacing a b
    → ArePiecesTooNear flat.tech.now flat.boxes.now layer spacing b a
pieces_turned flat layer spacing a b is proper h =
    let tech : Tech = flat.tech.now in
    let boxes : List MaskBox = flat.boxes.now in
    let crossings : List Crossing = flat.pieces.crossings.items in
    let same : h.crossings ≡ crossings =
    crossings_same tech boxes h.crossings crossings h.are_crossings (is.crossings proper) in
    let C : List Crossing → Type 0 = λ cs. Reaches (IsLink tech boxes cs) h.j h.i
    → Reaches (IsLink tech boxes cs) h.i h.j in
    let lt_i = slice_get_within (places_of h.crossings boxes) h.i h.p h.first in
    let lt_j = slice_get_within (places_of h.crossings boxes) h.j h.q h.second in
    let long : length (places_of h.crossings boxes) ≡ length (places_of crossings boxes) =
    ap (λ (cs : List Crossing). length (places_of cs boxes)) same in
    let turn : C crossings = λ r. (is.nets.joined h.i h.j (omega (arith, lt_i, long)) (omega (arith, lt_j, long))).0
    (sym ((is.nets.joined h.j h.i (omega (arith, lt_j, long)) (omega (arith, lt_i, long))).1 r)) in
    record {
      crossings = h.crossings;
      are_crossings = h.are_crossings;
      i = h.j;
      j = h.i;
      p = h.q;
      q = h.p;
      first = h.second;
      second = h.first;
      of_first = h.of_second;
      of_second = h.of_first;
      on_first = h.on_second;
      on_second = h.on_first;
      s = h.t;
      t = h.s;
      covers_first = h.covers_second;
      covers_second = h.covers_first;
      near = subst (λ (z : ℤ). z <ℤ grains tech spacing) (gap_turned h.s h.t) h.near;
      apart = λ r. h.apart (subst C (sym same) turn r);
    }
