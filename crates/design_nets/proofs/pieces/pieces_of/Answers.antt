use Rattle.std.proofs.Common.{◌≡◌, ℕ, ◌+◌, ◌<◌, List, [], ◌∷◌, ◌++◌, length, ap, ◌∙◌, sym, subst, arith}
use Rattle.std.proofs.lemmas.List.{length-append}
use Rattle.expand.specs.declared.master.Master.{Master}
use Rattle.design_nets.specs.{declared.pieces.Placed.Placed, Firsts.{together, AreFirsts}, Instances.master_no}
use Rattle.design_nets.specs.{Pieces.{pieces_of_item, pieces_in}, Shapes.{shape_no, no_shape}}
use Rattle.design_nets.proofs.{Boxes.{few_pieces, pieces_read, pieces_same}, Lists.{together_pushed, firsts_more}}
use Rattle.design_nets.proofs.Steps.{firsts_none}
use Rattle.design_nets.proofs.pieces.pieces_of.Goals as goal

pub loop-k-init : goal.loop-k-init
loop-k-init c =
    let starts = c.in_ok-push.ensures.items ∙ ap (λ (xs : List ℕ). xs ++ 0 ∷ []) c.in_ok-starts.ensures.items in
    record {
      all = c.in_ok-all.ensures.items;
      starts = firsts_none (pieces_in c.args.masters.now c.args.nets.now c.args.instances.now c.args.shapes.now) 0
          c.push.new.self.items starts;
      few = (let none = ap (λ (xs : List Placed). length xs) c.in_ok-all.ensures.items in omega (arith, none));
    }

pub push_pieces-requires-clause-item : goal.push_pieces-requires-clause-item
push_pieces-requires-clause-item c =
    let k = c.loop-k.k in
    let is = c.requires.drawn.each k no_shape c.loop-k-test.true in
    let m = master_no c.args.instances.now (shape_no c.args.shapes.now k).instance in
    let read = pieces_read c.args.masters.now c.args.nets.now m c.index-masters-master.result
    c.index-nets-master.result c.requires.drawn.nets_are is.master c.index-masters-master.is
    c.index-nets-master.is in
    subst (λ (z : Master). (shape_no c.args.shapes.now k).item < length z.items.list) (sym read.0) is.item

pub push_pieces-requires-clause-nodes : goal.push_pieces-requires-clause-nodes
push_pieces-requires-clause-nodes c =
    let k = c.loop-k.k in
    let is = c.requires.drawn.each k no_shape c.loop-k-test.true in
    (pieces_read c.args.masters.now c.args.nets.now
    (master_no c.args.instances.now (shape_no c.args.shapes.now k).instance) c.index-masters-master.result
    c.index-nets-master.result c.requires.drawn.nets_are is.master
    c.index-masters-master.is c.index-nets-master.is).2

pub loop-k-preserved : goal.loop-k-preserved
loop-k-preserved c =
    let masters = c.args.masters.now in
    let nets = c.args.nets.now in
    let instances = c.args.instances.now in
    let shapes = c.args.shapes.now in
    let k = c.loop-k.k in
    let is = c.requires.drawn.each k no_shape c.loop-k-test.true in
    let read = pieces_read masters nets (master_no instances (shape_no shapes k).instance)
    c.index-masters-master.result c.index-nets-master.result c.requires.drawn.nets_are is.master
    c.index-masters-master.is c.index-nets-master.is in
    let here = pieces_same masters nets instances shapes k no_shape c.index-masters-master.result
    c.index-nets-master.result c.loop-k-test.true read.0 read.1 in
    let all = together_pushed (pieces_in masters nets instances shapes) k c.loop-k.all.items
    c.push_pieces.new.pieces.items c.loop-k.invariant.all
    (c.in_ok-push_pieces.ensures ∙ ap (λ (xs : List Placed). c.loop-k.all.items ++ xs) here) in
    let own : List Placed = pieces_of_item c.index-masters-master.result c.index-nets-master.result k
    (shape_no shapes k) in
    let more = ap (λ (xs : List Placed). length xs) c.in_ok-push_pieces.ensures
    ∙ length-append c.loop-k.all.items own in
    let few = few_pieces c.index-masters-master.result c.index-nets-master.result k (shape_no shapes k) in
    let before = c.loop-k.invariant.few in
    record {
      all = all;
      starts = subst (λ (fs : List ℕ). AreFirsts (pieces_in masters nets instances shapes) (k + 1) 0 fs)
          (sym {A = List ℕ} c.in_ok-push-2.ensures.items)
          (firsts_more (pieces_in masters nets instances shapes) k 0 c.len.result c.loop-k.starts.items
          c.loop-k.invariant.starts (omega (arith, ap (λ (xs : List Placed). length xs) all, c.len.ensures)));
      few = omega (arith, more, few, before);
    }

pub returns : goal.returns
returns c =
    let lists : ℕ → List Placed = pieces_in c.args.masters.now c.args.nets.now c.args.instances.now c.args.shapes.now in
    let e : c.loop-k.k ≡ length c.args.shapes.now = omega (arith, c.loop-k-test.false, c.loop-k.auto.k-end) in
    record {
      all = subst (λ (n : ℕ). c.loop-k.all.items ≡ together lists n) e c.loop-k.invariant.all;
      begins = subst (λ (n : ℕ). AreFirsts lists n 0 c.loop-k.starts.items) e c.loop-k.invariant.starts;
    }
