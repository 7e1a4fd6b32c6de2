use Rattle.std.proofs.{Common.{◌≡◌, sym, ◌∙◌, ap, subst, pos}, lemmas.List.get_or_read}
use Rattle.lam_geom.specs.{declared.boxes.{BoxXY.BoxXY, MaskBox.MaskBox}, Gaps.Encloses}
use Rattle.crossing_model.specs.Boxes.{no_box, box_at}
use Rattle.box_pieces.{specs.Areas.{IsLowPiece, IsHighPiece}, proofs.BoxByBox.crossed_added}
use Rattle.box_pieces.proofs.placing.add_pieces.Goals as goal

pub returns-in_ok-push-in-Some-2 : goal.returns-in_ok-push-in-Some-2
returns-in_ok-push-in-Some-2 c =
    let boxes = c.args.boxes.now in
    let k = c.args.k in
    let read : c.index-boxes-k.result ≡ box_at boxes k =
    get_or_read boxes k c.index-boxes-k.result c.requires.in_range c.index-boxes-k.is no_box in
    let area = ap (λ (m : MaskBox). m.area) read in
    let L : BoxXY → Type 0 = λ s. IsLowPiece c.in-Some.c s c.low_area.result in
    let H : BoxXY → Type 0 = λ s. IsHighPiece c.in-Some.c s c.high_area.result in
    let I : BoxXY → Type 0 = λ s. Encloses s c.low_area.result (pos 0) in
    let J : BoxXY → Type 0 = λ s. Encloses s c.high_area.result (pos 0) in
    crossed_added boxes k c.args.crossing c.in-Some.c c.piece.result c.piece-in-Some.result c.low_area.result
    c.high_area.result c.args.placed.now.items c.push.new.self.items c.push-in-Some.new.self.items
    (sym (ap (λ (m : MaskBox). m.layer) read) ∙ c.in-ND.is) c.in-Some.is c.piece.ensures c.piece-in-Some.ensures
    (subst L area c.low_area.ensures.piece) (subst I area c.low_area.ensures.inside)
    (subst H area c.high_area.ensures.piece) (subst J area c.high_area.ensures.inside)
    c.in_ok-push-in-Some.ensures.items c.in_ok-push-in-Some-2.ensures.items
