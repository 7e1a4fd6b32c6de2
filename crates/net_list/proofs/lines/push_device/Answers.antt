use Rattle.std.proofs.Common.{◌++◌, ap, ◌∙◌}
use Rattle.net_list.{specs.Lines.{place_words, size_words, terminal_words}, proofs.Joined.three_added}
use Rattle.net_list.proofs.lines.push_device.Goals as goal

pub returns : goal.returns
returns c =
    let device = c.args.device.now in
    three_added c.args.out.now.items (size_words c.args.number device)
    (terminal_words device.gate device.low device.high) (place_words device) _ _ _
    (c.in_ok-extend_from_slice.ensures.items
    ∙ ap (λ t. c.args.out.now.items ++ t) (c.as_bytes.ensures.value ∙ c.in_ok-size.ensures))
    (c.in_ok-extend_from_slice-2.ensures.items
    ∙ ap (λ t. c.extend_from_slice.new.self.items ++ t) (c.as_bytes-2.ensures.value ∙ c.in_ok-terminals.ensures))
    (c.in_ok-extend_from_slice-3.ensures.items
    ∙ ap (λ t. c.extend_from_slice-2.new.self.items ++ t) (c.as_bytes-3.ensures.value ∙ c.in_ok-place.ensures))
