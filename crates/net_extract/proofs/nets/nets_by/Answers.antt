use Rattle.std.proofs.Common.{arith, ◌≡◌, ℕ, ◌+◌, Some, List, [], ◌∷◌, ◌++◌, length, sym, ap, subst}
use Rattle.std.{proofs.lemmas.List.length_push, specs.Prelude.max}
use Rattle.graph_search.specs.Search.{mark_of}
use Rattle.graph_search.proofs.{Numbering.{IsNumbering, numbering_none, numbering_more}, Spreading.whole_none}
use Rattle.net_extract.{specs.Linking.AreBeside, proofs.Netted.nets_made}
use Rattle.net_extract.proofs.nets.nets_by.Goals as goal

pub loop-a-init : goal.loop-a-init
loop-a-init c =
    let ground = c.args.ground.now in
    let Beside : ℕ → ℕ → Type 0 = AreBeside ground.tech.now ground.boxes.now ground.pieces.now.placed.items in
    let marks = c.args.search.now.frontier.marks.items in
    record {
      search = c.requires.search.ready;
      numbering = numbering_none Beside marks c.in_ok-nets.nets.items
          (whole_none Beside marks c.requires.search.unmarked) c.in_ok-nets.ensures.items;
      counted = ap (λ (xs : List ℕ). length xs) c.in_ok-nets.ensures.items;
    }

pub net_of-requires : goal.net_of-requires
net_of-requires c =
    let n = c.len-a-end.ensures in
    let t = c.loop-a-test.true in
    record {
      ground = c.requires.ground;
      search = c.loop-a.invariant.search;
      whole = c.loop-a.invariant.numbering.whole;
      in_range = omega (arith, c.args.ground.now.pieces.now.placed.ok.0);
    }

pub loop-a-preserved : goal.loop-a-preserved
loop-a-preserved c =
    let ground = c.args.ground.now in
    let Beside : ℕ → ℕ → Type 0 = AreBeside ground.tech.now ground.boxes.now ground.pieces.now.placed.items in
    let new = c.net_of.new.search.frontier.marks.items in
    let nets = c.loop-a.nets.items in
    let count = c.loop-a.count in
    let net = c.in_ok-net.net in
    let inv = c.loop-a.invariant in
    let At : ℕ → Type 0 = λ k. mark_of new k ≡ Some net in
    let more : IsNumbering Beside new (nets ++ net ∷ []) (max count (net + 1)) =
    numbering_more Beside c.loop-a.search.frontier.marks.items new nets count net inv.numbering
    c.in_ok-net.ensures.kept (subst At (sym inv.counted) c.in_ok-net.ensures.net) c.in_ok-net.ensures.whole
    c.in_ok-net.ensures.below in
    let C : ℕ → Type 0 = λ n. IsNumbering Beside new (nets ++ net ∷ []) n in
    let N : List ℕ → Type 0 = λ ns. IsNumbering Beside new ns c.max-count.result in
    let l = length_push nets net in
    let p = ap (λ (xs : List ℕ). length xs) c.in_ok-push.ensures.items in
    let k = inv.counted in
    record {
      search = c.in_ok-net.ensures.search;
      numbering = subst N (sym c.in_ok-push.ensures.items) (subst C (sym c.max-count.ensures) more);
      counted = omega arith;
    }

pub returns : goal.returns
returns c =
    let ground = c.args.ground.now in
    let pieces = ground.pieces.now in
    let n = c.len-a-end.ensures in
    let t = c.loop-a-test.false in
    let inv = c.loop-a.invariant in
    let k = inv.counted in
    let end = c.loop-a.auto.a-end in
    record {
      search = inv.search;
      nets = nets_made ground.tech.now ground.boxes.now pieces.crossings.items pieces.placed.items pieces.starts.items
          c.loop-a.search.frontier.marks.items c.loop-a.nets.items c.loop-a.count
          c.requires.in_order c.requires.ground.pieces (omega (arith, pieces.placed.ok.0)) inv.numbering;
      count = inv.numbering.next;
    }
