use Rattle.std.proofs.Common.{arith, rules, ◌≡◌, ◌+◌, ◌<◌, List, Vec, Global, length, refl, sym, ◌∙◌, ap, subst}
use denote.Enum.Bare.{same_true, same_false}
use Rattle.lam_geom.specs.{contracts.boxes.MaskLayer.the_type, declared.boxes.MaskBox.MaskBox}
use Rattle.box_tree.specs.declared.entries.Entry.{Entry}
use Rattle.crossing_model.specs.Boxes.{layer_at}
use Rattle.box_pieces.specs.{declared.placing.Placed.Placed, Pieces.box_of}
use Rattle.net_extract.specs.Entries.{AreEntries, MayBeBuried, box_entry}
use Rattle.net_extract.proofs.Shown.{shown_push, shown_skip, piece_read, box_read, in_boxes, entry_is}
use Rattle.net_extract.proofs.entries.box_entries.Goals.{then-eq+in_ok-push, else-eq}
use Rattle.net_extract.proofs.entries.box_entries.Goals as goal

pub loop-a-preserved : goal.loop-a-preserved
loop-a-preserved c =
    let tech = c.args.ground.now.tech.now in
    let boxes = c.args.ground.now.boxes.now in
    let pieces = c.args.ground.now.pieces.now.placed.items in
    let layer = c.args.layer in
    let a = c.loop-a.a in
    let n = c.len-a-end.ensures in
    let t = c.loop-a-test.true in
    let lt : a < length pieces = omega (arith, c.args.ground.now.pieces.now.placed.ok.0) in
    let piece = c.index.result.now in
    let is = piece_read pieces a piece lt c.index.ensures in
    let read : MaskBox = c.index-boxes-owner.result in
    let own = c.index-boxes-owner.is
    ∙ box_read boxes pieces a piece c.index-boxes-owner.result is
    (in_boxes boxes c.args.ground.now.pieces.now.crossings.items pieces c.args.ground.now.pieces.now.starts.items
    a piece c.requires.pieces lt is) in
    let at : read.layer ≡ layer_at boxes (box_of pieces a) = ap (λ (m : MaskBox). m.layer) own in
    let P : List Entry → Type 0 =
    λ xs. AreEntries (a + 1) (MayBeBuried tech boxes pieces layer) (box_entry boxes pieces) xs in
    elim c.if-eq.branch [
      | then-eq+in_ok-push w ↦
          (let same = same_true the_type (search rules) read.layer layer (sym c.eq.ensures ∙ w.if-eq.true) in
          subst P (sym (ap (λ (v : Vec Entry Global). v.items) w.entries-is))
          (shown_push (MayBeBuried tech boxes pieces layer) (box_entry boxes pieces) a c.loop-a.entries.items
          w.push.new.self.items (record { area = read.area; owner = piece.box_no; tag = a })
          (sym c.has_buried.ensures ∙ c.if-not-has_buried.false, sym at ∙ same)
          (entry_is read.area _ piece.box_no _ a a (ap (λ (m : MaskBox). m.area) own)
          (ap (λ (p : Placed). p.box_no) is) refl) w.in_ok-push.ensures.items c.loop-a.invariant))
      | else-eq w ↦
          subst P (sym (ap (λ (v : Vec Entry Global). v.items) w.entries-is))
          (shown_skip (MayBeBuried tech boxes pieces layer) (box_entry boxes pieces) a c.loop-a.entries.items
          (λ may. same_false the_type read.layer layer (sym c.eq.ensures ∙ w.if-eq.false) (at ∙ may.1))
          c.loop-a.invariant)
    ]
