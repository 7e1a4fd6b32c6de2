use Rattle.std.proofs.{Common.{◌≡◌, [], sym, rules, append_assoc}, lemmas.Option.get_or_from_slice_get}
use Rattle.cons_graph.specs.Lines.{name_of}
use Rattle.cons_graph.proofs.lines.push_line.Goals as goal

pub returns : goal.returns
returns c =
    let tail : c.get.result.now ≡ name_of c.args.names.now c.args.edge.now.from =
    sym (get_or_from_slice_get c.args.names.now c.args.edge.now.from c.get.result.now [] c.get.ensures) in
    let head : c.get-2.result.now ≡ name_of c.args.names.now c.args.edge.now.to =
    sym (get_or_from_slice_get c.args.names.now c.args.edge.now.to c.get-2.result.now [] c.get-2.ensures) in
    rw (sym tail, sym head) (search (rules, append_assoc))
