use Rattle.std.proofs.Common.{◌++◌, ap, sym, ◌∙◌}
use Rattle.mask_out.specs.Masks.{mask_of, is_same_layer}
use Rattle.cif_text.{specs.Cif.{box_text, layer_text}, proofs.Chunks.{is_some, layer_grows, some_taken, box_passed}}
use Rattle.cif_text.proofs.symbols.push_layer.Goals.{then-is_same_layer+in_ok-push_name+in_ok-push_box}
use Rattle.cif_text.proofs.symbols.push_layer.Goals.{else-is_same_layer}
use Rattle.cif_text.proofs.symbols.push_layer.Goals as goal

pub loop-mask-preserved : goal.loop-mask-preserved
loop-mask-preserved c =
    let layer = c.args.layer in
    let boxes = c.args.boxes.now in
    let i = c.loop-mask.mask-index in
    let mask = c.mask-item.result in
    let before = c.loop-mask.invariant in
    record {
      text =
          elim c.if-is_same_layer.branch [
            | then-is_same_layer+in_ok-push_name+in_ok-push_box w ↦
                layer_grows mask_of boxes layer i mask c.loop-mask.is_named c.args.out.now.items c.loop-mask.out.items
                w.push_name.new.out.items _ c.loop-mask-test.true
                (ap (λ b. is_same_layer layer b.layer) (sym c.mask-item.is)
                ∙ (sym c.is_same_layer.ensures ∙ w.if-is_same_layer.true))
                before.text before.named w.in_ok-push_name.ensures
                (ap (λ v. v.items) w.out-is
                ∙ (w.in_ok-push_box.ensures
                ∙ ap (λ b. w.push_name.new.out.items ++ box_text (mask_of b)) c.mask-item.is))
            | else-is_same_layer w ↦
                ap (λ v. v.items) w.out-is
                ∙ (before.text ∙ ap (λ ms. c.args.out.now.items ++ layer_text layer ms)
                (sym (box_passed mask_of boxes layer i mask c.loop-mask-test.true
                (ap (λ b. is_same_layer layer b.layer) (sym c.mask-item.is)
                ∙ (sym c.is_same_layer.ensures ∙ w.if-is_same_layer.false)))))
          ];
      named =
          elim c.if-is_same_layer.branch [
            | then-is_same_layer+in_ok-push_name+in_ok-push_box w ↦
                w.is_named-is
                ∙ sym (some_taken mask_of boxes layer i mask c.loop-mask-test.true
                (ap (λ b. is_same_layer layer b.layer) (sym c.mask-item.is)
                ∙ (sym c.is_same_layer.ensures ∙ w.if-is_same_layer.true)))
            | else-is_same_layer w ↦
                w.is_named-is
                ∙ (before.named
                ∙ sym (ap is_some
                (box_passed mask_of boxes layer i mask c.loop-mask-test.true
                (ap (λ b. is_same_layer layer b.layer) (sym c.mask-item.is)
                ∙ (sym c.is_same_layer.ensures ∙ w.if-is_same_layer.false)))))
          ];
    }
