-- What is beside a node, by the entries that are found.
use Rattle.std.proofs.Common.{◌≡◌, ◌≢◌, ℕ, ◌+◌, ◌<◌, List, length, pos, ◌⊎◌, inl, inr, refl, sym}
use Rattle.std.proofs.{Common.{◌∙◌, ap, subst, arith}, lemmas.{Bool.cases_lt, List.get_or_default}}
use Rattle.std.specs.Prelude.{IsTrue}
use Rattle.box_tree.specs.declared.{query.{Query.Query, Question.TheVariants.NearOfOther}, entries.Entry.Entry}
use Rattle.box_tree.specs.{Queries.Holds, UnvisitedTrees.IsOf, Tree.no_entry}
use Rattle.lam_geom.specs.declared.boxes.{BoxXY.BoxXY, MaskBox.MaskBox, MaskLayer.{MaskLayer, TheVariants.{ND, NP, NM}}}
use Rattle.lam_geom.specs.{declared.boxes.MaskLayer.TheVariants.NC, Gaps.{gap_of_boxes, Overlaps}}
use Rattle.rule_table.specs.{declared.technology.Tech.Tech, Technology.has_buried_of}
use Rattle.crossing_model.specs.{declared.crossing.Crossing.Crossing, Boxes.{area_at, layer_at}}
use Rattle.box_pieces.specs.declared.placing.Placed.{Placed}
use Rattle.box_pieces.specs.Pieces.{box_of, area_of, no_piece, piece_at, IsPiece, ArePieces}
use Rattle.net_extract.specs.Linking.{IsPairWith, IsJoining, IsOverCut, IsTouch, cut_node, AreBeside, IsOver}
use Rattle.net_extract.specs.Entries.{IsPieceOn, MayBeBuried, piece_entry, box_entry, cut_entry, AreEntries}
use Rattle.net_extract.specs.{Entries.{ArePieceEntries, AreBoxEntries}, declared.lists.Lists.Lists, Lists.{AreLists, IsIn, run_of}}
use Rattle.net_extract.specs.{CutLists.{IsCrowded, AreCrowdedEntries, IsListedOver}, Spreading.AnswersQuery}
use Rattle.net_extract.{specs.Spreading.{IsCrowdedAnswer, IsPartner, IsBuriedOf}, proofs.{Geometry.overlaps_back, Runs.has_below}}
use Rattle.net_extract.specs.declared.lists.Kind.TheVariants.{Over}
use Rattle.net_extract.proofs.Shown.{over_query, on_layers, not_a_cut, below_zero, at_most_below}

-- ---- entries and their nodes

-- a node of an entry that has a property
of_entries : (n : ℕ) (P : ℕ → Type 0) (show : ℕ → Entry) (entries : List Entry) (Is : Entry → Type 0) (y : ℕ)
    → AreEntries n P show entries → IsOf entries Is y → (a : ℕ) × (a < n) × P a × (y ≡ (show a).tag) × Is (show a)
of_entries n P show entries Is y s h =
    let f = s.sound h.k no_entry h.among in
    (f.0, f.1.0, f.1.1, sym h.tag ∙ ap (λ (x : Entry). x.tag) f.2, subst Is f.2 h.is)

to_entries : (n : ℕ) (P : ℕ → Type 0) (show : ℕ → Entry) (entries : List Entry) (Is : Entry → Type 0) (a : ℕ)
    → AreEntries n P show entries → a < n → P a → Is (show a) → IsOf entries Is (show a).tag
to_entries n P show entries Is a s lt p is =
    let f = s.complete a lt (lt, p) in
    let e = get_or_default entries f.0 no_entry (show a) f.1 ∙ f.2 in
    record { k = f.0; among = f.1; tag = ap (λ (x : Entry). x.tag) e; is = subst Is (sym e) is }

pub answers_forth : (boxes : List MaskBox) (pieces : List Placed) (layer : MaskLayer) (entries : List Entry)
    (query : Query) → ArePieceEntries boxes pieces layer entries → (y : ℕ) → IsOf entries (Holds query) y
    → AnswersQuery boxes pieces layer query y
answers_forth boxes pieces layer entries query s y h =
    let f : (a : ℕ) × (a < length pieces) × IsPieceOn boxes pieces layer a × (y ≡ a)
    × Holds query (piece_entry pieces a) =
    of_entries (length pieces) (IsPieceOn boxes pieces layer) (piece_entry pieces) entries (Holds query) y s h in
    let P : ℕ → Type 0 = AnswersQuery boxes pieces layer query in
    subst P (sym f.3) (record { among = f.1; on_layer = f.2; answers = f.4 })

pub answers_back : (boxes : List MaskBox) (pieces : List Placed) (layer : MaskLayer) (entries : List Entry)
    (query : Query) → ArePieceEntries boxes pieces layer entries → (y : ℕ) → AnswersQuery boxes pieces layer query y
    → IsOf entries (Holds query) y
answers_back boxes pieces layer entries query s y h =
    to_entries (length pieces) (IsPieceOn boxes pieces layer) (piece_entry pieces) entries (Holds query) y s h.among
    h.on_layer h.answers

pub crowded_forth : (boxes : List MaskBox) (pieces : List Placed) (lists : Lists) (entries : List Entry)
    (query : Query) → AreCrowdedEntries boxes pieces lists (length boxes) entries
    → (y : ℕ) → IsOf entries (Holds query) y → IsCrowdedAnswer boxes pieces lists query y
crowded_forth boxes pieces lists entries query s y h =
    let f : (k : ℕ) × (k < length boxes) × IsCrowded boxes pieces lists k × (y ≡ cut_node pieces k)
    × Holds query (cut_entry boxes pieces k) =
    of_entries (length boxes) (IsCrowded boxes pieces lists) (cut_entry boxes pieces) entries (Holds query) y s
    h in
    record { cut = f.0; node = f.3; crowded = f.2; answers = f.4 }

pub crowded_back : (boxes : List MaskBox) (pieces : List Placed) (lists : Lists) (entries : List Entry)
    (query : Query) → AreCrowdedEntries boxes pieces lists (length boxes) entries
    → (y : ℕ) → IsCrowdedAnswer boxes pieces lists query y → IsOf entries (Holds query) y
crowded_back boxes pieces lists entries query s y h =
    let P : ℕ → Type 0 = IsOf entries (Holds query) in
    subst P (sym h.node)
    (to_entries (length boxes) (IsCrowded boxes pieces lists) (cut_entry boxes pieces) entries (Holds query)
    h.cut s h.crowded.0.2.is_cut.among h.crowded h.answers)

-- ---- buried pairs

-- the boxes of a pair are on these layers
abbrev pub AreFacing : MaskLayer → MaskLayer → Type 0
AreFacing own facing = ((own ≡ NP) × (facing ≡ ND)) ⊎ ((own ≡ ND) × (facing ≡ NP))

pair_layers : (tech : Tech) (boxes : List MaskBox) (own facing : MaskLayer) (a b : ℕ) → AreFacing own facing
    → layer_at boxes a ≡ own → IsPairWith tech boxes a b → layer_at boxes b ≡ facing
pair_layers tech boxes own facing a b (inl (e, f)) at (inl pair) = pair.overlap.diffusion.on ∙ sym f
pair_layers tech boxes own facing a b (inl (e, f)) at (inr pair) =
    (let clash : NP ≡ ND = sym e ∙ sym at ∙ pair.overlap.diffusion.on in absurd (cc))
pair_layers tech boxes own facing a b (inr (e, f)) at (inl pair) =
    (let clash : ND ≡ NP = sym e ∙ sym at ∙ pair.overlap.poly.on in absurd (cc))
pair_layers tech boxes own facing a b (inr (e, f)) at (inr pair) = pair.overlap.poly.on ∙ sym f

pair_overlaps : (tech : Tech) (boxes : List MaskBox) (a b : ℕ) → IsPairWith tech boxes a b
    → Overlaps (area_at boxes a) (area_at boxes b)
pair_overlaps tech boxes a b (inl pair) = pair.overlap.overlap
pair_overlaps tech boxes a b (inr pair) = overlaps_back (area_at boxes b) (area_at boxes a) pair.overlap.overlap

pair_buried : (tech : Tech) (boxes : List MaskBox) (a b : ℕ) → IsPairWith tech boxes a b → IsTrue (has_buried_of tech)
pair_buried tech boxes a b (inl pair) = pair.has_buried
pair_buried tech boxes a b (inr pair) = pair.has_buried

facing_apart : (own facing : MaskLayer) → AreFacing own facing → own ≡ facing → ⊥
facing_apart own facing (inl (e, f)) same = (let clash : NP ≡ ND = sym e ∙ same ∙ f in absurd (cc))
facing_apart own facing (inr (e, f)) same = (let clash : ND ≡ NP = sym e ∙ same ∙ f in absurd (cc))

pub partners_forth : (tech : Tech) (boxes : List MaskBox) (pieces : List Placed) (layer : MaskLayer) (box_no : ℕ)
    (entries : List Entry) (query : Query) → AreBoxEntries tech boxes pieces layer entries
    → (y : ℕ) → IsBuriedOf tech boxes pieces box_no entries query y → IsPartner tech boxes pieces box_no y
partners_forth tech boxes pieces layer box_no entries query s y h =
    let f : (a : ℕ) × (a < length pieces) × MayBeBuried tech boxes pieces layer a × (y ≡ a)
    × Holds query (box_entry boxes pieces a) =
    of_entries (length pieces) (MayBeBuried tech boxes pieces layer) (box_entry boxes pieces) entries (Holds query) y
    s h.of in
    let e = f.3 in
    let l = f.1 in
    record { among = omega arith; pair = h.pair }

pub partners_back : (tech : Tech) (boxes : List MaskBox) (pieces : List Placed) (own layer : MaskLayer) (box_no : ℕ)
    (entries : List Entry) (query : Query) → AreFacing own layer → layer_at boxes box_no ≡ own
    → query ≡ over_query (area_at boxes box_no) box_no → AreBoxEntries tech boxes pieces layer entries → (y : ℕ)
    → IsPartner tech boxes pieces box_no y → IsBuriedOf tech boxes pieces box_no entries query y
partners_back tech boxes pieces own layer box_no entries query facing at is s y h =
    let on : layer_at boxes (box_of pieces y) ≡ layer =
    pair_layers tech boxes own layer box_no (box_of pieces y) facing at h.pair in
    let apart : box_of pieces y ≢ box_no =
    λ e. facing_apart own layer facing (sym at ∙ ap (layer_at boxes) (sym e) ∙ on) in
    let held : Holds (over_query (area_at boxes box_no) box_no) (box_entry boxes pieces y) = (
      below_zero (gap_of_boxes (area_at boxes box_no) (area_at boxes (box_of pieces y)))
          (pair_overlaps tech boxes box_no (box_of pieces y) h.pair),
      apart,
    ) in
    let Q : Query → Type 0 = λ q. Holds q (box_entry boxes pieces y) in
    record {
      of = to_entries (length pieces) (MayBeBuried tech boxes pieces layer) (box_entry boxes pieces) entries
          (Holds query) y s h.among (pair_buried tech boxes box_no (box_of pieces y) h.pair, on)
          (subst Q (sym is) held);
      pair = h.pair;
    }

-- a box that is neither poly nor diffusion has no partner
pub no_partner : (tech : Tech) (boxes : List MaskBox) (pieces : List Placed) (box_no : ℕ) → layer_at boxes box_no ≢ NP
    → layer_at boxes box_no ≢ ND → (y : ℕ) → IsPartner tech boxes pieces box_no y → ⊥
no_partner tech boxes pieces box_no not_poly not_diffusion y h = elim h.pair [
  | inl pair ↦ not_poly pair.overlap.poly.on
  | inr pair ↦ not_diffusion pair.overlap.diffusion.on
]

-- ---- beside a piece

abbrev pub touch_query : BoxXY → ℕ → Query
touch_query area owner = record { area = area; question = NearOfOther (pos 0) owner }

-- a piece on the same layer that answers is one that touches
pub touch_forth : (boxes : List MaskBox) (pieces : List Placed) (a : ℕ) → a < length pieces → (y : ℕ)
    → AnswersQuery boxes pieces (layer_at boxes (box_of pieces a)) (touch_query (area_of pieces a) (box_of pieces a)) y
    → IsTouch boxes pieces a y
touch_forth boxes pieces a lt y h = record {
  apart = record { first = lt; second = h.among; apart = h.answers.1 };
  one_layer = sym h.on_layer;
  touch = h.answers.0;
}

pub touch_back : (boxes : List MaskBox) (pieces : List Placed) (a y : ℕ) → IsTouch boxes pieces a y
    → AnswersQuery boxes pieces (layer_at boxes (box_of pieces a)) (touch_query (area_of pieces a) (box_of pieces a)) y
touch_back boxes pieces a y t =
    record { among = t.apart.second; on_layer = sym t.one_layer; answers = (t.touch, t.apart.apart) }

abbrev pub IsBesidePiece : Tech → List MaskBox → List Placed → ℕ → ℕ → Type 0
IsBesidePiece tech boxes pieces a y =
    IsTouch boxes pieces a y ⊎ (IsOverCut boxes pieces a y ⊎ IsPartner tech boxes pieces (box_of pieces a) y)

pub piece_forth : (tech : Tech) (boxes : List MaskBox) (pieces : List Placed) (a : ℕ) → a < length pieces → (y : ℕ)
    → IsBesidePiece tech boxes pieces a y → AreBeside tech boxes pieces a y
piece_forth tech boxes pieces a lt y (inl t) = inl t
piece_forth tech boxes pieces a lt y (inr (inl h)) = inr (inl h)
piece_forth tech boxes pieces a lt y (inr (inr h)) =
    inr (inr (inr (record { first = lt; second = h.among; pair = h.pair })))

pub piece_back : (tech : Tech) (boxes : List MaskBox) (pieces : List Placed) (a : ℕ) → a < length pieces → (y : ℕ)
    → AreBeside tech boxes pieces a y → IsBesidePiece tech boxes pieces a y
piece_back tech boxes pieces a lt y (inl t) = inl t
piece_back tech boxes pieces a lt y (inr (inl o)) = inr (inl o)
piece_back tech boxes pieces a lt y (inr (inr (inl o))) = (let n = o.node in absurd (omega arith))
piece_back tech boxes pieces a lt y (inr (inr (inr c))) = inr (inr (record { among = c.second; pair = c.pair }))

-- ---- over a cut

-- a crowded cut that answers is one over the piece
pub crowded_over : (boxes : List MaskBox) (pieces : List Placed) (lists : Lists) (a y : ℕ) → a < length pieces
    → IsCrowdedAnswer boxes pieces lists (over_query (area_of pieces a) (box_of pieces a)) y
    → IsOverCut boxes pieces a y
crowded_over boxes pieces lists a y lt h =
    record {
      cut = h.cut;
      node = h.node;
      joins = h.crowded.0;
      is = record {
        among = lt;
        over = at_most_below (gap_of_boxes (area_of pieces a) (area_at boxes h.cut))
            h.answers.0;
      };
    }

-- a cut over a piece has the piece in its list, or is crowded
pub over_cases : (boxes : List MaskBox) (crossings : List Crossing) (pieces : List Placed) (firsts : List ℕ)
    (lists : Lists) (a y : ℕ) → ArePieces boxes crossings pieces firsts → a < length pieces
    → AreLists (IsIn Over boxes pieces) (length boxes) lists → IsOverCut boxes pieces a y
    → IsCrowdedAnswer boxes pieces lists (over_query (area_of pieces a) (box_of pieces a)) y
    ⊎ IsListedOver lists (length pieces) a y
over_cases boxes crossings pieces firsts lists a y p lt l o =
    elim (cases_lt (run_of lists o.cut).end (run_of lists o.cut).start) [
      | inr has ↦
          inr (record { cut = o.cut; node = o.node; is = (has, (l.each o.cut has).complete a (o.joins, o.is)) })
      | inl none ↦
          (let piece : IsPiece boxes crossings (piece_at pieces a) = p.each a no_piece lt in
          let ne : box_of pieces a ≢ o.cut =
          not_a_cut boxes (box_of pieces a) o.cut piece.conducts o.joins.2.is_cut.on in
          inl (record {
            cut = o.cut;
            node = o.node;
            crowded = (o.joins, λ has. absurd (omega arith));
            answers = (below_zero (gap_of_boxes (area_of pieces a) (area_at boxes o.cut)) o.is.over, λ e. ne (sym e));
          }))
    ]

-- a cut that has a piece in its list is over it
pub listed_over : (boxes : List MaskBox) (pieces : List Placed) (lists : Lists) (a y : ℕ)
    → AreLists (IsIn Over boxes pieces) (length boxes) lists → IsListedOver lists (length pieces) a y
    → IsOverCut boxes pieces a y
listed_over boxes pieces lists a y l h =
    let s = (l.each h.cut h.is.0).sound a h.is.1 in
    record { cut = h.cut; node = h.node; joins = s.0; is = s.1 }

-- its node is one of so many
pub listed_within : (boxes : List MaskBox) (pieces : List Placed) (lists : Lists) (count a n y : ℕ)
    → count ≡ length pieces → n ≡ length pieces + length boxes
    → AreLists (IsIn Over boxes pieces) (length boxes) lists → IsListedOver lists count a y → y < n
listed_within boxes pieces lists count a n y is_count is_n l h =
    let below = has_below lists h.cut h.is.0 in
    let counted = l.counted in
    let node = h.node in
    omega arith

-- ---- beside a cut

abbrev pub IsBesideCut : List MaskBox → List Placed → ℕ → ℕ → Type 0
IsBesideCut boxes pieces k y =
    AnswersQuery boxes pieces ND (over_query (area_at boxes k) k) y
    ⊎ (AnswersQuery boxes pieces NP (over_query (area_at boxes k) k) y
    ⊎ AnswersQuery boxes pieces NM (over_query (area_at boxes k) k) y)

pub over_answer : (boxes : List MaskBox) (pieces : List Placed) (layer : MaskLayer) (k y : ℕ)
    → AnswersQuery boxes pieces layer (over_query (area_at boxes k) k) y → IsOver boxes pieces k y
over_answer boxes pieces layer k y h =
    record {
      among = h.among;
      over = overlaps_back (area_at boxes k) (area_of pieces y)
          (at_most_below (gap_of_boxes (area_at boxes k) (area_of pieces y)) h.answers.0);
    }

pub over_forth : (boxes : List MaskBox) (pieces : List Placed) (k y : ℕ) → IsBesideCut boxes pieces k y
    → IsOver boxes pieces k y
over_forth boxes pieces k y (inl h) = over_answer boxes pieces ND k y h
over_forth boxes pieces k y (inr (inl h)) = over_answer boxes pieces NP k y h
over_forth boxes pieces k y (inr (inr h)) = over_answer boxes pieces NM k y h

pub over_back : (boxes : List MaskBox) (crossings : List Crossing) (pieces : List Placed) (starts : List ℕ) (k : ℕ)
    → ArePieces boxes crossings pieces starts → layer_at boxes k ≡ NC → (y : ℕ) → IsOver boxes pieces k y
    → IsBesideCut boxes pieces k y
over_back boxes crossings pieces starts k p is_cut y o =
    let piece : IsPiece boxes crossings (piece_at pieces y) = p.each y no_piece o.among in
    let ne : box_of pieces y ≢ k = not_a_cut boxes (box_of pieces y) k piece.conducts is_cut in
    let over : Overlaps (area_at boxes k) (area_of pieces y) =
    overlaps_back (area_of pieces y) (area_at boxes k) o.over in
    let answer : (layer : MaskLayer) → layer_at boxes (box_of pieces y) ≡ layer
    → AnswersQuery boxes pieces layer (over_query (area_at boxes k) k) y = λ layer on.
    (record {
      among = o.among;
      on_layer = on;
      answers = (below_zero (gap_of_boxes (area_at boxes k) (area_of pieces y)) over, ne);
    }) in
    elim (on_layers (layer_at boxes (box_of pieces y)) piece.conducts) [
      | inl e ↦ inl (answer ND e)
      | inr (inl e) ↦ inr (inl (answer NP e))
      | inr (inr e) ↦ inr (inr (answer NM e))
    ]

pub over_beside : (tech : Tech) (boxes : List MaskBox) (pieces : List Placed) (k : ℕ) → IsJoining boxes pieces k
    → (y : ℕ) → IsOver boxes pieces k y → AreBeside tech boxes pieces (cut_node pieces k) y
over_beside tech boxes pieces k joins y o = inr (inr (inl (record { cut = k; node = refl; joins = joins; is = o })))

pub beside_over : (tech : Tech) (boxes : List MaskBox) (pieces : List Placed) (k y : ℕ)
    → AreBeside tech boxes pieces (cut_node pieces k) y → IsOver boxes pieces k y
beside_over tech boxes pieces k y (inl t) = (let l = t.apart.first in absurd (omega arith))
beside_over tech boxes pieces k y (inr (inl o)) = (let l = o.is.among in absurd (omega arith))
beside_over tech boxes pieces k y (inr (inr (inr c))) = (let l = c.first in absurd (omega arith))
beside_over tech boxes pieces k y (inr (inr (inl o))) =
    let n = o.node in
    let same : o.cut ≡ k = omega arith in
    subst (λ (j : ℕ). IsOver boxes pieces j y) same o.is
