use Rattle.std.proofs.Common.{arith, ℕ, ap, ◌∙◌, inl, inr, ◌<◌, length, get_or, subst, Vec, Global}
use Rattle.std.proofs.lemmas.Bool.{iff_false}
use Rattle.box_pieces.specs.declared.placing.Placed.{Placed}
use Rattle.net_extract.{specs.Linking.IsPairWith, proofs.Steps.pair_more}
use Rattle.net_extract.proofs.reaching.keep_buried.Goals.{then-is_pair_with+in_ok-push, else-is_pair_with}
use Rattle.net_extract.proofs.Shown.{in_boxes, piece_read}
use Rattle.net_extract.proofs.reaching.keep_buried.Goals as goal

pub is_pair_with-requires-clause-second : goal.is_pair_with-requires-clause-second
is_pair_with-requires-clause-second c =
    let pieces = c.args.ground.now.pieces.now in
    let numbers = c.args.numbers.now in
    let t = c.loop-y-test.true in
    let y : ℕ = get_or numbers c.loop-y.y-index 0 in
    let within : y < length pieces.placed.items = c.requires.numbers c.loop-y.y-index 0 (omega arith) in
    in_boxes c.args.ground.now.boxes.now pieces.crossings.items pieces.placed.items pieces.starts.items y
    c.index.result.now c.requires.ground.pieces within
    (piece_read pieces.placed.items y c.index.result.now within c.index.ensures)

pub loop-y-preserved : goal.loop-y-preserved
loop-y-preserved c =
    let tech = c.args.ground.now.tech.now in
    let boxes = c.args.ground.now.boxes.now in
    let placed = c.args.ground.now.pieces.now.placed.items in
    let numbers = c.args.numbers.now in
    let i = c.loop-y.y-index in
    let t = c.loop-y-test.true in
    let lt : i < length numbers = omega arith in
    let y : ℕ = get_or numbers i 0 in
    let within : y < length placed = c.requires.numbers i 0 lt in
    let read = piece_read placed y c.index.result.now within c.index.ensures in
    let Is : Placed → Type 0 = λ piece. IsPairWith tech boxes c.args.box_no piece.box_no in
    let No : Placed → Type 0 = λ piece. IsPairWith tech boxes c.args.box_no piece.box_no → ⊥ in
    pair_more tech boxes placed c.args.box_no numbers i c.args.kept.now.items c.loop-y.kept.items
    c.if-is_pair_with.kept.items lt
    (elim c.if-is_pair_with.branch [
      | then-is_pair_with+in_ok-push w ↦
          inl (
            subst Is read (c.is_pair_with.ensures.0 w.if-is_pair_with.true),
            ap (λ (x : Vec ℕ Global). x.items)
                w.kept-is ∙ w.in_ok-push.ensures.items,
          )
      | else-is_pair_with w ↦
          inr (
            subst No read (iff_false c.is_pair_with.ensures w.if-is_pair_with.false),
            ap
                (λ (x : Vec ℕ Global). x.items) w.kept-is,
          )
    ])
    c.loop-y.invariant
