use Rattle.std.proofs.{Common.{◌≡◌, ◌++◌, List, map, ap, ◌∙◌}, lemmas.Result.IfOk-weaker}
use Rattle.std.specs.{Prelude.length, List.{flat_map, range_with_len}}
use Rattle.net_list.specs.{Lines.{text_of_netlist, head_line, device_lines, line_of_net}, Counts.{layer_in, counts_of}}
use Rattle.net_model.specs.declared.netlist.Piece.{Piece}
use Rattle.net_list.{specs.Counts.counts_lines, proofs.{Counted.lines_by_layer, Joined.two_added}}
use Rattle.net_list.proofs.text.netlist_text.Goals as goal

pub returns : goal.returns
unfolding text_of_netlist
returns c =
    let list = c.args.list.now in
    let boxes = c.args.boxes.now in
    let counted : c.deref-2.result.now ≡ map (counts_of (layer_in c.deref.result.now) list.pieces)
    (range_with_len 0 list.nets) =
    c.deref-2.ensures.value
    ∙ (c.in_ok-counts.ensures
    ∙ ap (λ (ps : List Piece). map (counts_of (layer_in c.deref.result.now) ps) (range_with_len 0 list.nets))
    c.as_slice.ensures) in
    let text = two_added (head_line list.nets (length list.devices))
    (flat_map (line_of_net boxes list.pieces) (range_with_len 0 list.nets)) (device_lines 0 list.devices) _ _ _
    (c.in_ok-out.ensures.items
    ∙ (c.as_bytes.ensures.value
    ∙ (c.in_ok-head.ensures ∙ ap (λ ds. head_line list.nets (length ds)) c.as_slice-devices.ensures)))
    (c.in_ok-push_nets.ensures
    ∙ ap (λ t. c.in_ok-out.out.items ++ t)
    (ap (counts_lines 0) counted
    ∙ lines_by_layer boxes c.deref.result.now list.pieces list.nets
    (c.deref.ensures.value ∙ c.in_ok-layers.ensures)))
    (c.in_ok-push_devices.ensures
    ∙ ap (λ ds. c.push_nets.new.out.items ++ device_lines 0 ds) c.as_slice-devices.ensures) in
    IfOk-weaker c.new.result (λ t. t ≡ c.deref-3.result.now) (λ t. t ≡ text_of_netlist boxes list)
    (λ t e. e ∙ (c.deref-3.ensures.value ∙ text)) c.new.ensures
