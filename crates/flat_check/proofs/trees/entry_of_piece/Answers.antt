use Rattle.std.proofs.{Common.{ℕ, ap, ◌∙◌}, lemmas.List.get_or_read}
use Rattle.box_tree.specs.declared.entries.Entry.{Entry}
use Rattle.box_pieces.specs.declared.placing.Placed.{Placed}
use Rattle.flat_check.proofs.PiecePairs.{piece_read}
use Rattle.flat_check.proofs.trees.entry_of_piece.Goals as goal

pub returns : goal.returns
returns c =
    let flat = c.args.flat.now in let i = c.args.number in let read = c.index-as_slice-number in
    let own = piece_read flat c.as_slice.result.now i read.result c.requires.flat c.as_slice.ensures.value
    c.requires.among read.is in
    let net = get_or_read flat.nets.items i c.index.result.now c.requires.among c.index.ensures 0 in
    let Of : ℕ → Placed → Entry = λ n p. record { area = p.area; owner = p.box_no; tag = n } in
    record { value = ap (λ n. Of n read.result) net ∙ ap (Of _) own.is; placed = own.placed; of_box = own.of_box }
