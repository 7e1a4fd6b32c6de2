use Rattle.std.proofs.Common.{◌++◌, codes, decimal, ap, ◌∙◌}
use Rattle.slack_text.proofs.Adding.{line_added}
use Rattle.slack_text.proofs.lines.push_wire.Goals as goal

pub returns : goal.returns
returns c =
    let old = c.args.text.now.items in
    line_added c.push_places.result c.args.cell.now.name (codes ":#") (decimal c.args.k) c.args.least c.args.most old
    c.extend_from_slice.new.self.items c.extend_from_slice-2.new.self.items
    c.push_decimal.new.out.items c.push_places.new.text.items c.requires.least c.requires.most
    (c.in_ok-extend_from_slice.ensures.items ∙ ap (λ ns. old ++ ns) c.bytes.ensures)
    c.in_ok-extend_from_slice-2.ensures.items c.in_ok-push_decimal.ensures.ok c.push_places.ensures
