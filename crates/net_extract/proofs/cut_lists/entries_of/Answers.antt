use Rattle.std.proofs.Common.{arith, ◌≡◌, ◌+◌, ◌<◌, List, Vec, Global, get_or, length, refl, sym}
use Rattle.std.proofs.{Common.{ap, subst}, lemmas.List.get_or_default}
use Rattle.box_tree.specs.declared.entries.Entry.{Entry}
use Rattle.lam_geom.specs.declared.boxes.MaskBox.{MaskBox}
use Rattle.crossing_model.specs.Boxes.{area_at, no_box}
use Rattle.net_extract.specs.{CutLists.IsTold, Entries.{AreEntries, cut_entry}}
use Rattle.net_extract.proofs.Shown.{entry_is, shown_push, shown_skip}
use Rattle.net_extract.proofs.cut_lists.entries_of.Goals.{then-crowded-k+in_ok-push, else-crowded-k}
use Rattle.net_extract.proofs.cut_lists.entries_of.Goals as goal

pub loop-k-preserved : goal.loop-k-preserved
loop-k-preserved c =
    let boxes = c.args.ground.now.boxes.now in
    let pieces = c.args.ground.now.pieces.now.placed.items in
    let told = c.args.crowded.now in
    let k = c.loop-k.k in
    let lt : k < length boxes = c.loop-k-test.true in
    let n = c.requires.counted in
    let P : List Entry → Type 0 = AreEntries (k + 1) (IsTold told) (cut_entry boxes pieces) in
    elim c.if-crowded-k.branch [
      | then-crowded-k+in_ok-push w ↦
          (let area : (get_or boxes k w.index-ground-k.result).area ≡ area_at boxes k =
          ap (λ (m : MaskBox). m.area) (get_or_default boxes k w.index-ground-k.result no_box lt) in
          subst P (sym (ap (λ (v : Vec Entry Global). v.items) w.entries-is))
          (shown_push (IsTold told) (cut_entry boxes pieces) k c.loop-k.entries.items w.push.new.self.items _
          w.if-crowded-k.true
          (entry_is (get_or boxes k w.index-ground-k.result).area (area_at boxes k) k k (w.len.result + k)
          (length pieces + k) area refl
          (omega (arith, w.len.ensures, c.args.ground.now.pieces.now.placed.ok.0)))
          w.in_ok-push.ensures.items c.loop-k.invariant))
      | else-crowded-k w ↦
          (let not = w.if-crowded-k.false in
          subst P (sym (ap (λ (v : Vec Entry Global). v.items) w.entries-is))
          (shown_skip (IsTold told) (cut_entry boxes pieces) k c.loop-k.entries.items
          (λ t. absurd (cc)) c.loop-k.invariant))
    ]
