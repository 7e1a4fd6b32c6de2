-- Pieces have one area each.
use Rattle.std.proofs.Common.{◌≡◌, ℕ, ◌<◌, List, length, map, get_or, inl, inr, sym, ◌∙◌, ap, subst, arith}
use Rattle.std.proofs.lemmas.{Bool.cases_order, List.{get_or-map, get_or_default, length-map}}
use Rattle.lam_geom.specs.declared.boxes.{Axis.{Axis, TheVariants.{X, Y}}, BoxXY.BoxXY, MaskBox.MaskBox, Span.Span}
use Rattle.lam_geom.{specs.Gaps.span_along, proofs.Spans.same_span}
use Rattle.crossing_model.specs.{declared.crossing.Crossing.Crossing, Boxes.{area_at, other}, Crossings.AreInOrder}
use Rattle.box_pieces.specs.{declared.placing.Part.{Part, TheVariants.{Whole, Low, High}}, Places.Place}
use Rattle.box_pieces.specs.Areas.{IsCrossingOf, IsAreaOfPart, IsAreaOf, IsLowPiece, IsHighPiece}

-- the diffusion of a crossing, by its number
pub diffusion_read : (crossings : List Crossing) (i : ℕ) (c : Crossing) → i < length crossings
    → get_or (map (λ (d : Crossing). d.diffusion) crossings) i 0 ≡ (get_or crossings i c).diffusion
diffusion_read crossings i c lt = get_or-map (λ (d : Crossing). d.diffusion) crossings i c 0 lt

-- a crossing before another is of another box
earlier_apart : (crossings : List Crossing) (i j k : ℕ) (c d : Crossing) → AreInOrder crossings → i < j
    → j < length crossings
    → (get_or crossings i c).diffusion ≡ k → (get_or crossings j d).diffusion ≡ k → ⊥
earlier_apart crossings i j k c d ordered before lt at_i at_j =
    let n : length (map (λ (d : Crossing). d.diffusion) crossings) ≡ length crossings =
    length-map crossings (λ (d : Crossing). d.diffusion) in
    let less = ordered i j before (omega arith) in
    let ei = diffusion_read crossings i c (omega arith) in
    let ej = diffusion_read crossings j d lt in
    omega arith

-- a box has one crossing at most
pub crossing_same : (crossings : List Crossing) (k : ℕ) (c d : Crossing) → AreInOrder crossings
    → IsCrossingOf crossings k c → IsCrossingOf crossings k d → c ≡ d
crossing_same crossings k c d ordered hc hd =
    let i : ℕ = hc.among.0 in
    let j : ℕ = hd.among.0 in
    let at_i : (get_or crossings i c).diffusion ≡ k = ap (λ (x : Crossing). x.diffusion) hc.among.2 ∙ hc.diffusion in
    let at_j : (get_or crossings j d).diffusion ≡ k = ap (λ (x : Crossing). x.diffusion) hd.among.2 ∙ hd.diffusion in
    elim (cases_order i j) [
      | inl e ↦ sym hc.among.2 ∙ ap (λ (n : ℕ). get_or crossings n c) e ∙ get_or_default crossings j c d hd.among.1
          ∙ hd.among.2
      | inr (inl lt) ↦ absurd (earlier_apart crossings i j k c d ordered lt hd.among.1 at_i at_j)
      | inr (inr lt) ↦ absurd (earlier_apart crossings j i k d c ordered lt hc.among.1 at_j at_i)
    ]

-- boxes with the same spans along both axes are equal
same_spans : (s t : BoxXY) → s.x ≡ t.x → s.y ≡ t.y → s ≡ t
same_spans s t ex ey = ap (λ (x : Span). record s { x = x }) ex ∙ ap (λ (y : Span). record { x = t.x; y = y }) ey

same_along : (axis : Axis) (s t : BoxXY) → span_along s axis ≡ span_along t axis
    → span_along s (other axis) ≡ span_along t (other axis) → s ≡ t
same_along X s t e f = same_spans s t e f
same_along Y s t e f = same_spans s t f e

low_same : (c : Crossing) (box s t : BoxXY) → IsLowPiece c box s → IsLowPiece c box t → s ≡ t
low_same c box s t (ga, ca) (gb, cb) =
    same_along c.axis s t (same_span (span_along s c.axis) (span_along t c.axis) (ga.0 ∙ sym gb.0) (ga.1 ∙ sym gb.1))
    (same_span (span_along s (other c.axis)) (span_along t (other c.axis)) (ca.0 ∙ sym cb.0) (ca.1 ∙ sym cb.1))

high_same : (c : Crossing) (box s t : BoxXY) → IsHighPiece c box s → IsHighPiece c box t → s ≡ t
high_same c box s t (ga, ca) (gb, cb) =
    same_along c.axis s t (same_span (span_along s c.axis) (span_along t c.axis) (ga.0 ∙ sym gb.0) (ga.1 ∙ sym gb.1))
    (same_span (span_along s (other c.axis)) (span_along t (other c.axis)) (ca.0 ∙ sym cb.0) (ca.1 ∙ sym cb.1))

area_of_part_same : (boxes : List MaskBox) (crossings : List Crossing) (k : ℕ) (part : Part) (s t : BoxXY)
    → AreInOrder crossings
    → IsAreaOfPart boxes crossings k part s → IsAreaOfPart boxes crossings k part t → s ≡ t
area_of_part_same boxes crossings k Whole s t ordered a b = a ∙ sym b
area_of_part_same boxes crossings k Low s t ordered (c, hc, a) (d, hd, b) =
    let P : Crossing → Type 0 = λ x. IsLowPiece x (area_at boxes k) t in
    low_same c (area_at boxes k) s t a (subst P (crossing_same crossings k d c ordered hd hc) b)
area_of_part_same boxes crossings k High s t ordered (c, hc, a) (d, hd, b) =
    let P : Crossing → Type 0 = λ x. IsHighPiece x (area_at boxes k) t in
    high_same c (area_at boxes k) s t a (subst P (crossing_same crossings k d c ordered hd hc) b)

-- a piece has one area
pub area_same : (boxes : List MaskBox) (crossings : List Crossing) (p : Place) (s t : BoxXY) → AreInOrder crossings
    → IsAreaOf boxes crossings p s → IsAreaOf boxes crossings p t → s ≡ t
area_same boxes crossings p s t ordered a b = area_of_part_same boxes crossings p.box_no p.part s t ordered a b
