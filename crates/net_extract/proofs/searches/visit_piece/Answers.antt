use Rattle.std.proofs.Common.{◌≡◌, subst}
use Rattle.box_pieces.specs.{declared.placing.Placed.Placed, Pieces.{box_of, piece_at}}
use Rattle.net_extract.specs.{Linking.{AreBeside, IsOverCut, IsTouch}, Spreading.{IsPartner, IsStep}}
use Rattle.net_extract.proofs.{Beside.{piece_forth, piece_back}, Shown.{piece_read, in_boxes}, Searched.step_three}
use Rattle.net_extract.proofs.searches.visit_piece.Goals as goal

pub reach_partners-requires : goal.reach_partners-requires
reach_partners-requires c =
    let boxes = c.args.ground.now.boxes.now in
    let pieces = c.args.ground.now.pieces.now.placed.items in
    let a = c.args.a in
    let piece : Placed = c.index-piece.result.now in
    let is : piece ≡ piece_at pieces a = piece_read pieces a piece c.requires.in_range c.index-piece.ensures in
    record {
      ground = c.requires.ground;
      search = c.in_ok-reach_cuts.ensures.search;
      in_range = in_boxes boxes c.args.ground.now.pieces.now.crossings.items pieces
          c.args.ground.now.pieces.now.starts.items a piece c.requires.ground.pieces c.requires.in_range is;
    }

pub returns : goal.returns
returns c =
    let boxes = c.args.ground.now.boxes.now in
    let pieces = c.args.ground.now.pieces.now.placed.items in
    let a = c.args.a in
    let piece : Placed = c.index-piece.result.now in
    let is : piece ≡ piece_at pieces a = piece_read pieces a piece c.requires.in_range c.index-piece.ensures in
    let tech = c.args.ground.now.tech.now in
    let net = c.args.net in
    let second = c.reach_cuts.new.search in
    let B : Placed → Type 0 = λ p. IsStep tech boxes pieces (IsPartner tech boxes pieces p.box_no) net second
    c.reach_partners.new.search in
    step_three tech boxes pieces (IsTouch boxes pieces a) (IsOverCut boxes pieces a)
    (IsPartner tech boxes pieces (box_of pieces a)) (AreBeside tech boxes pieces a) net c.args.search.now
    c.reach_touching.new.search second c.reach_partners.new.search
    (piece_forth tech boxes pieces a c.requires.in_range) (piece_back tech boxes pieces a c.requires.in_range)
    c.in_ok-reach_touching.ensures c.in_ok-reach_cuts.ensures (subst B is c.in_ok-reach_partners.ensures)
