use denote.Enum.Bare.{same_false, same_true}
use Rattle.std.proofs.Common.{◌≡◌, ℕ, ◌+◌, Vec, Global, length, sym, ap, ◌∙◌, subst, arith, rules}
use Rattle.std.proofs.lemmas.List.{get_or_read}
use Rattle.lam_geom.specs.{contracts.boxes.MaskLayer.the_type, declared.boxes.MaskBox.MaskBox}
use Rattle.box_tree.specs.declared.entries.Entry.{Entry}
use Rattle.crossing_model.specs.Boxes.{IsOn, no_box}
use Rattle.crossings.specs.Entries.{AreEntriesBelow, box_entry}
use Rattle.crossings.proofs.{EntryBoxes.entry_is, EntryLists.{entries_none, entries_skip, entries_push}}
use Rattle.crossings.proofs.entries.entries_on.Goals.{then-eq+in_ok-push, else-eq}
use Rattle.crossings.proofs.entries.entries_on.Goals as goal

pub loop-number-init : goal.loop-number-init
loop-number-init c =
    let P = IsOn c.args.boxes.now c.args.layer in
    subst (AreEntriesBelow P (box_entry c.args.boxes.now) 0) (sym c.new-entries.ensures.items)
    (entries_none P (box_entry c.args.boxes.now))

pub loop-number-preserved : goal.loop-number-preserved
loop-number-preserved c =
    let boxes = c.args.boxes.now in
    let layer = c.args.layer in
    let n = c.loop-number.number in
    let own_is = get_or_read boxes n _ c.loop-number-test.true c.index-boxes-number.is no_box in
    let now = AreEntriesBelow (IsOn boxes layer) (box_entry boxes) (n + 1) in
    elim c.if-eq.branch [
      | then-eq+in_ok-push w ↦
          let same : c.index-boxes-number.result.layer ≡ layer =
          same_true the_type (search rules) _ _ (sym w.if-eq.ensures) in
          let on : IsOn boxes layer n =
          record { among = c.loop-number-test.true; on = ap (λ (b : MaskBox). b.layer) (sym own_is) ∙ same } in
          let more = entries_push (IsOn boxes layer) (box_entry boxes) n c.loop-number.entries.items _
          c.loop-number.invariant on (entry_is boxes n c.index-boxes-number.result own_is) in
          subst (λ (v : Vec Entry Global). now v.items) (sym w.entries-is)
          (subst now (sym w.in_ok-push.ensures.items) more)
      | else-eq w ↦
          let lacks = λ (on : IsOn boxes layer n). same_false the_type c.index-boxes-number.result.layer layer
          (sym w.if-eq.ensures) (ap (λ (b : MaskBox). b.layer) own_is ∙ on.on) in
          subst (λ (v : Vec Entry Global). now v.items) (sym w.entries-is)
          (entries_skip (IsOn boxes layer) (box_entry boxes) n c.loop-number.entries.items c.loop-number.invariant
          lacks)
    ]

pub returns : goal.returns
returns c =
    let boxes = c.args.boxes.now in
    let all : c.loop-number.number ≡ length boxes =
    omega (arith, c.loop-number-test.false, c.loop-number.auto.number-end) in
    subst (λ (n : ℕ). AreEntriesBelow (IsOn boxes c.args.layer) (box_entry boxes) n c.loop-number.entries.items) all
    c.loop-number.invariant
