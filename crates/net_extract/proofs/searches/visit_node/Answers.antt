use Rattle.std.proofs.{Common.{arith, ℕ, subst}, lemmas.Result.on_ok_weaker}
use Rattle.net_extract.{specs.{Linking.AreBeside, Spreading.IsStep}, proofs.Nodes.node_cut}
use Rattle.net_extract.proofs.searches.visit_node.Goals as goal

pub visit_piece-requires : goal.visit_piece-requires
visit_piece-requires c =
    let n = c.len-count.ensures in
    let t = c.if-node-count.true in
    record {
      ground = c.requires.ground;
      search = c.requires.search;
      in_range = omega (arith, c.args.ground.now.pieces.now.placed.ok.0);
    }

pub visit_cut-requires : goal.visit_cut-requires
visit_cut-requires c =
    let n = c.len-count.ensures in
    let t = c.if-node-count.false in
    record {
      ground = c.requires.ground;
      search = c.requires.search;
      joining =
          (node_cut c.args.ground.now.boxes.now c.args.ground.now.pieces.now.placed.items c.args.node
          c.len-count.result (omega (arith, c.args.ground.now.pieces.now.placed.ok.0)) t c.requires.node).0;
    }

pub returns-else-node-count : goal.returns-else-node-count
returns-else-node-count c =
    let n = c.len-count.ensures in
    let t = c.if-node-count.false in
    let tech = c.args.ground.now.tech.now in
    let boxes = c.args.ground.now.boxes.now in
    let pieces = c.args.ground.now.pieces.now.placed.items in
    let P : ℕ → Type 0 = λ x. IsStep tech boxes pieces (AreBeside tech boxes pieces x) c.args.net c.args.search.now
    c.visit_cut.new.search in
    on_ok_weaker c.visit_cut.result
    (subst P
    (node_cut boxes pieces c.args.node c.len-count.result
    (omega (arith, c.args.ground.now.pieces.now.placed.ok.0)) t c.requires.node).1) c.visit_cut.ensures
