use Rattle.std.{proofs.Common.{All, map, ap, sym, subst, refl, ◌∙◌}, specs.Prelude.List}
use Rattle.lam_geom.specs.{declared.boxes.MaskBox.MaskBox, Places.IsPlacedBox}
use Rattle.mask_out.{specs.Masks.mask_of, proofs.Drawn.{item_drawn, item_passed, one_more}}
use Rattle.mask_out.proofs.symbols.push_layer.Goals.{then-is_drawn+in_ok-push, else-is_drawn}
use Rattle.mask_out.proofs.symbols.push_layer.Goals as goal

pub loop-item-preserved : goal.loop-item-preserved
loop-item-preserved c =
    let a = c.args in
    let i = c.loop-item.item-index in
    let before = c.loop-item.invariant in
    record {
      placed =
          elim c.if-is_drawn.branch [
            | then-is_drawn+in_ok-push w ↦ one_more (λ (box : MaskBox). IsPlacedBox box.area) c.loop-item.boxes.items
                _ _ before.placed w.box_of-area.ensures.placed
                (ap (λ v. v.items) w.boxes-is ∙ w.in_ok-push.ensures.items)
            | else-is_drawn w ↦
                (let P : List MaskBox
                → Type 0 = All (λ box. IsPlacedBox box.area) in subst P (ap (λ v. v.items) (sym w.boxes-is))
                before.placed)
          ];
      drawn =
          elim c.if-is_drawn.branch [
            | then-is_drawn+in_ok-push w ↦
                item_drawn a.coords.now a.items.now a.layer i _ _ a.boxes.now.items c.loop-item.boxes.items _
                c.loop-item-test.true (sym c.is_drawn.ensures ∙ w.if-is_drawn.true) refl
                w.box_of-area.ensures.sides before.drawn
                (ap (λ v. v.items) w.boxes-is ∙ w.in_ok-push.ensures.items)
            | else-is_drawn w ↦
                ap (λ v. map mask_of v.items) w.boxes-is
                ∙ item_passed a.coords.now a.items.now a.layer i _ a.boxes.now.items c.loop-item.boxes.items
                c.loop-item-test.true (sym c.is_drawn.ensures ∙ w.if-is_drawn.false) before.drawn
          ];
    }
