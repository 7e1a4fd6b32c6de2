use Rattle.std.proofs.Common.{◌≡◌, ℕ, refl, ◌<◌, ◌≤◌, length, set, get_or, length-set, ap, ◌∙◌, arith}
use Rattle.std.proofs.lemmas.List.{take_all, get_or_default, get_or_read, FromFn.fill_by_all}
use Rattle.lam_geom.specs.declared.boxes.MaskLayer.{MaskLayer}
use Rattle.crossing_model.specs.Boxes.{no_box}
use Rattle.box_pieces.specs.declared.placing.Part.TheVariants.{Whole}
use Rattle.net_model.specs.declared.netlist.Piece.{Piece}
use Rattle.net_list.{specs.Counts.{no_pieces, one_more, layer_in, counts_of}, proofs.Counted.{few_counted, table_here}}
use Rattle.net_list.proofs.{Counted.table_elsewhere, counting.counts_of.Goals.{then-net-len, else-net-len}}
use Rattle.net_list.proofs.counting.counts_of.Goals as goal

abbrev no_piece : Piece
no_piece = record { box_no = 0; part = Whole; net = 0 }

pub one_more-requires-clause-diffusion : goal.one_more-requires-clause-diffusion
one_more-requires-clause-diffusion c =
    let p : Piece = get_or c.args.pieces.now c.loop-piece.piece-index no_piece in
    let among : p.net < c.args.nets =
    (let long = c.loop-piece.invariant.long in
    omega (arith, c.if-net-len.true, c.loop-piece.counts.ok.0, long)) in
    let read = get_or_read c.loop-piece.counts.items p.net c.index.result.now
    (let long = c.loop-piece.invariant.long in omega (arith, among, long)) c.index.ensures no_pieces in
    let few =
    (few_counted (layer_in c.args.layers.now) c.args.pieces.now c.loop-piece.piece-index p.net c.index.result.now
    c.loop-piece-test.true (read ∙ c.loop-piece.invariant.counted p.net among)).0 in
    omega (arith, few)

pub one_more-requires-clause-poly : goal.one_more-requires-clause-poly
one_more-requires-clause-poly c =
    let p : Piece = get_or c.args.pieces.now c.loop-piece.piece-index no_piece in
    let among : p.net < c.args.nets =
    (let long = c.loop-piece.invariant.long in
    omega (arith, c.if-net-len.true, c.loop-piece.counts.ok.0, long)) in
    let read = get_or_read c.loop-piece.counts.items p.net c.index.result.now
    (let long = c.loop-piece.invariant.long in omega (arith, among, long)) c.index.ensures no_pieces in
    let few =
    (few_counted (layer_in c.args.layers.now) c.args.pieces.now c.loop-piece.piece-index p.net c.index.result.now
    c.loop-piece-test.true (read ∙ c.loop-piece.invariant.counted p.net among)).1 in
    omega (arith, few)

pub one_more-requires-clause-metal : goal.one_more-requires-clause-metal
one_more-requires-clause-metal c =
    let p : Piece = get_or c.args.pieces.now c.loop-piece.piece-index no_piece in
    let among : p.net < c.args.nets =
    (let long = c.loop-piece.invariant.long in
    omega (arith, c.if-net-len.true, c.loop-piece.counts.ok.0, long)) in
    let read = get_or_read c.loop-piece.counts.items p.net c.index.result.now
    (let long = c.loop-piece.invariant.long in omega (arith, among, long)) c.index.ensures no_pieces in
    let few =
    (few_counted (layer_in c.args.layers.now) c.args.pieces.now c.loop-piece.piece-index p.net c.index.result.now
    c.loop-piece-test.true (read ∙ c.loop-piece.invariant.counted p.net among)).2 in
    omega (arith, few)

pub loop-piece-preserved : goal.loop-piece-preserved
loop-piece-preserved c =
    let layers = c.args.layers.now in
    let layer : ℕ → MaskLayer = layer_in layers in
    let pieces = c.args.pieces.now in
    let counts = c.loop-piece.counts.items in
    let nets = c.args.nets in
    let i = c.loop-piece.piece-index in
    let p : Piece = get_or pieces i no_piece in
    let lt : i < length pieces = omega arith in
    let long = c.loop-piece.invariant.long in
    elim c.if-net-len.branch [
      | then-net-len w ↦ (
          let among : p.net < nets = omega (arith, w.if-net-len.true, c.loop-piece.counts.ok.0) in
          let within : p.box_no < length layers = c.requires i no_piece lt in
          let own = get_or_default layers p.box_no _ no_box.layer within in
          let read = get_or_read counts p.net w.index.result.now (omega (arith, among, long)) w.index.ensures
          no_pieces in
          let e : c.if-net-len.counts.items ≡ set counts p.net
          (one_more (get_or counts p.net no_pieces) (layer p.box_no)) =
          ap (λ v. v.items) w.counts-is
          ∙ ap (λ m. set counts p.net m)
          (w.one_more.ensures
          ∙ (ap (λ m. one_more m (get_or layers p.box_no _)) read
          ∙ ap (λ l. one_more (get_or counts p.net no_pieces) l) own)) in
          record {
            long = ap length e ∙ (length-set counts p.net _ ∙ long);
            counted = table_here layer pieces i no_piece p counts c.if-net-len.counts.items nets lt refl long among e
                c.loop-piece.invariant.counted;
          })
      | else-net-len w ↦ (
          let e = ap (λ v. v.items) w.counts-is in
          let beyond : nets ≤ p.net = omega (arith, w.if-net-len.false, c.loop-piece.counts.ok.0) in
          record {
            long = ap length e ∙ long;
            counted = λ net small. ap (λ cs. get_or cs net no_pieces) e
                ∙ table_elsewhere layer pieces i no_piece p counts nets lt refl beyond c.loop-piece.invariant.counted
                net small;
          })
    ]

pub returns : goal.returns
returns c =
    let layer : ℕ → MaskLayer = layer_in c.args.layers.now in
    let pieces = c.args.pieces.now in
    fill_by_all (counts_of layer pieces) c.loop-piece.counts.items c.args.nets no_pieces c.loop-piece.invariant.long
    (λ net lt. c.loop-piece.invariant.counted net lt
    ∙ ap (λ ps. counts_of layer ps net) (take_all c.loop-piece.piece-index pieces (omega arith)))
