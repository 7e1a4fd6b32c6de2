use denote.Enum.Bare.{same_false, same_true}
use Rattle.std.proofs.Common.{◌≡◌, ℕ, ◌+◌, Vec, Global, length, sym, ap, ◌∙◌, subst, arith, rules}
use Rattle.std.proofs.lemmas.List.{get_or_read}
use Rattle.lam_geom.specs.contracts.boxes.MaskLayer.{the_type}
use Rattle.lam_geom.specs.declared.boxes.{MaskBox.MaskBox, MaskLayer.TheVariants.NM}
use Rattle.box_tree.specs.declared.entries.Entry.{Entry}
use Rattle.crossing_model.specs.Boxes.{IsOn, no_box}
use Rattle.net_extract.{specs.Entries.AreMetalBelow, proofs.MetalPieces.{metal_none, metal_push, metal_skip}}
use Rattle.net_extract.proofs.{Shown.new_entry, entries.metal_entries.Goals.{then-eq+in_ok-push, else-eq}}
use Rattle.net_extract.proofs.entries.metal_entries.Goals as goal

pub loop-number-init : goal.loop-number-init
loop-number-init c =
    subst (AreMetalBelow c.args.boxes.now 0) (sym c.new-entries.ensures.items) (metal_none c.args.boxes.now)

pub loop-number-preserved : goal.loop-number-preserved
loop-number-preserved c =
    let boxes = c.args.boxes.now in
    let n = c.loop-number.number in
    let own_is = get_or_read boxes n _ c.loop-number-test.true c.index-boxes-number.is no_box in
    let now = AreMetalBelow boxes (n + 1) in
    elim c.if-eq.branch [
      | then-eq+in_ok-push w ↦
          let same : c.index-boxes-number.result.layer ≡ NM =
          same_true the_type (search rules) _ _ (sym w.if-eq.ensures) in
          let on : IsOn boxes NM n =
          record { among = c.loop-number-test.true; on = ap (λ (b : MaskBox). b.layer) (sym own_is) ∙ same } in
          let more = metal_push boxes n c.loop-number.entries.items _ on
          (ap (λ (b : MaskBox). new_entry b.area n n) own_is) c.loop-number.invariant in
          subst (λ (v : Vec Entry Global). now v.items) (sym w.entries-is)
          (subst now (sym w.in_ok-push.ensures.items) more)
      | else-eq w ↦
          let lacks = λ (on : IsOn boxes NM n). same_false the_type c.index-boxes-number.result.layer NM
          (sym w.if-eq.ensures) (ap (λ (b : MaskBox). b.layer) own_is ∙ on.on) in
          subst (λ (v : Vec Entry Global). now v.items) (sym w.entries-is)
          (metal_skip boxes n c.loop-number.entries.items lacks c.loop-number.invariant)
    ]

pub returns : goal.returns
returns c =
    let boxes = c.args.boxes.now in
    let all : c.loop-number.number ≡ length boxes =
    omega (arith, c.loop-number-test.false, c.loop-number.auto.number-end) in
    subst (λ (n : ℕ). AreMetalBelow boxes n c.loop-number.entries.items) all c.loop-number.invariant
