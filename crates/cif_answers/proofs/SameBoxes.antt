-- Boxes are told by what they draw.
use Rattle.std.proofs.Common.{◌≡◌, List, [], ◌∷◌, map, ap, ◌∙◌}
use Rattle.lam_geom.specs.declared.boxes.{BoxXY.BoxXY, MaskBox.MaskBox, MaskLayer.MaskLayer, Span.Span}
use Rattle.lam_geom.proofs.Spans.{same_span}
use Rattle.cif_read.specs.{Files.drawn_of, Hierarchies.Drawn}

pub same_area : (a b : BoxXY) → a.x ≡ b.x → a.y ≡ b.y → a ≡ b
same_area a b x y = ap (λ (s : Span). record a { x = s }) x ∙ ap (λ (s : Span). record b { y = s }) y

same_box : (a b : MaskBox) → drawn_of a ≡ drawn_of b → a ≡ b
same_box a b e =
    let area : a.area ≡ b.area =
    same_area a.area b.area
    (same_span a.area.x b.area.x (ap (λ (d : Drawn). d.left) e) (ap (λ (d : Drawn). d.right) e))
    (same_span a.area.y b.area.y (ap (λ (d : Drawn). d.bottom) e) (ap (λ (d : Drawn). d.top) e)) in
    ap (λ (l : MaskLayer). record a { layer = l }) (ap (λ (d : Drawn). d.layer) e)
    ∙ ap (λ (s : BoxXY). record b { area = s }) area

pub same_boxes : (xs ys : List MaskBox) → map drawn_of xs ≡ map drawn_of ys → xs ≡ ys
same_boxes [] [] e = cc
same_boxes [] (y ∷ ys) e = absurd (cc)
same_boxes (x ∷ xs) [] e = absurd (cc)
same_boxes (x ∷ xs) (y ∷ ys) e =
    let here : drawn_of x ≡ drawn_of y = cc in
    let rest : map drawn_of xs ≡ map drawn_of ys = cc in
    ap (λ (z : MaskBox). z ∷ xs) (same_box x y here) ∙ ap (λ (zs : List MaskBox). y ∷ zs) (same_boxes xs ys rest)
