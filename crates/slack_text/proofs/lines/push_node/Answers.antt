use Rattle.std.proofs.Common.{◌++◌, ◌∷◌, [], ap, ◌∙◌}
use Rattle.slack_text.proofs.Adding.{line_added}
use Rattle.slack_text.proofs.lines.push_node.Goals as goal

pub returns : goal.returns
returns c =
    let old = c.args.text.now.items in
    let named = c.push.new.self.items in
    line_added c.push_places.result c.args.cell.now.name (58 ∷ []) c.args.node.now.name c.args.least c.args.most old
    c.extend_from_slice.new.self.items named c.extend_from_slice-2.new.self.items
    c.push_places.new.text.items c.requires.least c.requires.most
    (c.in_ok-extend_from_slice.ensures.items ∙ ap (λ ns. old ++ ns) c.bytes.ensures) c.in_ok-push.ensures.items
    (c.in_ok-extend_from_slice-2.ensures.items ∙ ap (λ ns. named ++ ns) c.bytes-2.ensures) c.push_places.ensures
