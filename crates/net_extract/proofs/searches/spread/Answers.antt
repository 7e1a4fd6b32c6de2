use Rattle.std.proofs.Common.{arith, ◌≡◌, ℕ, ◌<◌, inl, length, get_or, sym, subst}
use Rattle.std.proofs.lemmas.List.{get_or_read, Elements.Contains-get_or}
use Rattle.graph_search.specs.Search.{AreReached}
use Rattle.graph_search.proofs.Spreading.{IsSpreading, spreading_begun, spreading_more, spreading_done}
use Rattle.net_extract.specs.{Linking.{AreBeside, IsNode}, Grounds.AreBesideOn}
use Rattle.net_extract.proofs.{Nodes.chain_node, Searched.search_kept}
use Rattle.net_extract.proofs.searches.spread.Goals as goal

pub begin-requires : goal.begin-requires
begin-requires c =
    let n = c.requires.search.counted in
    let lt = c.requires.in_range in
    record { in_range = omega arith; unmarked = c.requires.unmarked }

pub loop-passed-init : goal.loop-passed-init
loop-passed-init c =
    let tech = c.args.ground.now.tech.now in
    let boxes = c.args.ground.now.boxes.now in
    let pieces = c.args.ground.now.pieces.now.placed.items in
    let old = c.args.search.now.frontier.marks.items in
    let new = c.begin.new.frontier in
    let begun : IsSpreading (AreBeside tech boxes pieces) c.args.start c.args.net old new.marks.items new.queue.items
    0 =
    spreading_begun (AreBeside tech boxes pieces) c.args.start c.args.net old new.marks.items new.queue.items
    c.requires.unmarked c.in_ok-begin.ensures in
    record {
      search = search_kept tech boxes pieces c.args.search.now new begun.counted begun.kept c.requires.search;
      spreading = begun;
    }

pub visit_node-requires : goal.visit_node-requires
visit_node-requires c =
    let tech = c.args.ground.now.tech.now in
    let boxes = c.args.ground.now.boxes.now in
    let pieces = c.args.ground.now.pieces.now.placed.items in
    let queue = c.loop-passed.search.frontier.queue.items in
    let n = c.len.ensures in
    let lt : c.loop-passed.passed < length queue = omega arith in
    let read : c.index-node.result.now ≡ get_or queue c.loop-passed.passed 0 =
    get_or_read queue c.loop-passed.passed c.index-node.result.now lt c.index-node.ensures 0 in
    let P : ℕ → Type 0 = IsNode boxes pieces in
    let node : ℕ = get_or queue c.loop-passed.passed 0 in
    let way = (c.loop-passed.invariant.spreading.queued node (Contains-get_or queue c.loop-passed.passed 0 lt)).2 in
    record {
      ground = c.requires.ground;
      search = c.loop-passed.invariant.search;
      node = subst P (sym read) (chain_node tech boxes pieces way.0 c.args.start node way.1 (inl c.requires.in_range));
    }

pub loop-passed-preserved : goal.loop-passed-preserved
loop-passed-preserved c =
    let tech = c.args.ground.now.tech.now in
    let boxes = c.args.ground.now.boxes.now in
    let pieces = c.args.ground.now.pieces.now.placed.items in
    let frontier = c.loop-passed.search.frontier in
    let new = c.visit_node.new.search.frontier in
    let queue = frontier.queue.items in
    let passed = c.loop-passed.passed in
    let n = c.len.ensures in
    let lt : passed < length queue = omega arith in
    let read : c.index-node.result.now ≡ get_or queue passed 0 =
    get_or_read queue passed c.index-node.result.now lt c.index-node.ensures 0 in
    let P : ℕ → Type 0 = λ x. AreReached (AreBeside tech boxes pieces x) c.args.net frontier.marks.items
    new.marks.items queue new.queue.items in
    record {
      search = c.in_ok-visit_node.ensures.search;
      spreading = spreading_more (AreBeside tech boxes pieces) c.args.start c.args.net
          c.args.search.now.frontier.marks.items frontier.marks.items new.marks.items queue new.queue.items passed lt
          c.loop-passed.invariant.spreading
          (subst P read c.in_ok-visit_node.ensures.reached);
    }

pub loop-passed-smaller : goal.loop-passed-smaller
loop-passed-smaller c =
    let l = c.in_ok-visit_node.ensures.reached.left in
    let t = c.loop-passed-test.true in
    let n = c.len.ensures in
    omega arith

pub returns-clause-spread : goal.returns-clause-spread
returns-clause-spread c =
    let n = c.len.ensures in
    let past = c.loop-passed-test.false in
    spreading_done (AreBesideOn c.args.ground.now) c.args.start c.args.net c.args.search.now.frontier.marks.items
    c.loop-passed.search.frontier.marks.items c.loop-passed.search.frontier.queue.items
    c.loop-passed.passed (omega arith) c.loop-passed.invariant.spreading
