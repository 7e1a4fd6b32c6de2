use Rattle.std.proofs.Common.{◌∙◌}
use Rattle.rule_breaks.specs.Reaches.{spacing_of_rule}
use Rattle.flat_check.{specs.Trees.piece_entry, proofs.{NearAreas.length_held, Rows.{piece_query, piece_row, rowed}}}
use Rattle.flat_check.proofs.facing.add_near_pieces.Goals as goal

pub returns : goal.returns
returns c =
    let flat = c.args.flat.now in let reach = c.reach.ensures in
    rowed c.add_owners.result c.args.tree.now _ _ _ _ _
    (piece_query c.entry_of_piece-entry.result (piece_entry flat c.args.i) _ _ c.entry_of_piece-entry.ensures.value
    (length_held c.reach.result reach.low reach.high ∙ reach.value))
    (λ b. piece_row flat c.args.layer (spacing_of_rule flat.tech.now c.args.rule) c.args.tree.now c.args.i b
    c.requires.pieces) c.add_owners.ensures
