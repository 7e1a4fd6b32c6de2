use Rattle.std.proofs.Common.{arith, rules, ◌≡◌, ◌+◌, ◌<◌, List, Vec, Global, get_or, length, refl, sym, ◌∙◌, ap, subst}
use denote.Enum.Bare.{same_true, same_false}
use Rattle.lam_geom.specs.{contracts.boxes.MaskLayer.the_type, declared.boxes.MaskBox.MaskBox}
use Rattle.box_tree.specs.declared.entries.Entry.{Entry}
use Rattle.crossing_model.specs.Boxes.{layer_at}
use Rattle.box_pieces.specs.{declared.placing.Placed.Placed, Pieces.box_of}
use Rattle.net_extract.specs.Entries.{AreEntries, IsPieceOn, piece_entry}
use Rattle.net_extract.proofs.Shown.{shown_push, shown_skip, piece_read, box_read, in_boxes, entry_is}
use Rattle.net_extract.proofs.entries.piece_entries.Goals.{then-eq+in_ok-push, else-eq}
use Rattle.net_extract.proofs.entries.piece_entries.Goals as goal

pub loop-a-preserved : goal.loop-a-preserved
loop-a-preserved c =
    let boxes = c.args.ground.now.boxes.now in
    let pieces = c.args.ground.now.pieces.now.placed.items in
    let layer = c.args.layer in
    let a = c.loop-a.a in
    let n = c.len-a-end.ensures in
    let t = c.loop-a-test.true in
    let lt : a < length pieces = omega (arith, c.args.ground.now.pieces.now.placed.ok.0) in
    let piece = c.index.result.now in
    let is = piece_read pieces a piece lt c.index.ensures in
    let read : MaskBox = get_or boxes piece.box_no c.index-boxes-box_no.result in
    let own = box_read boxes pieces a piece c.index-boxes-box_no.result is
    (in_boxes boxes c.args.ground.now.pieces.now.crossings.items pieces c.args.ground.now.pieces.now.starts.items
    a piece c.requires.pieces lt is) in
    let at : read.layer ≡ layer_at boxes (box_of pieces a) = ap (λ (m : MaskBox). m.layer) own in
    let P : List Entry → Type 0 = λ xs. AreEntries (a + 1) (IsPieceOn boxes pieces layer) (piece_entry pieces) xs in
    elim c.if-eq.branch [
      | then-eq+in_ok-push w ↦
          (let same = same_true the_type (search rules) read.layer layer (sym c.eq.ensures ∙ w.if-eq.true) in
          subst P (sym (ap (λ (v : Vec Entry Global). v.items) w.entries-is))
          (shown_push (IsPieceOn boxes pieces layer) (piece_entry pieces) a c.loop-a.entries.items
          w.push.new.self.items (record { area = piece.area; owner = piece.box_no; tag = a }) (sym at ∙ same)
          (entry_is piece.area _ piece.box_no _ a a (ap (λ (p : Placed). p.area) is)
          (ap (λ (p : Placed). p.box_no) is) refl) w.in_ok-push.ensures.items c.loop-a.invariant))
      | else-eq w ↦
          (let other = same_false the_type read.layer layer (sym c.eq.ensures ∙ w.if-eq.false) in
          subst P (sym (ap (λ (v : Vec Entry Global). v.items) w.entries-is))
          (shown_skip (IsPieceOn boxes pieces layer) (piece_entry pieces) a c.loop-a.entries.items
          (λ on. other (at ∙ on)) c.loop-a.invariant))
    ]
