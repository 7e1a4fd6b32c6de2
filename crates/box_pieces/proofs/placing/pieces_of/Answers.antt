use mir.Val.{bool_byte}
use Rattle.std.proofs.Common.{arith, ◌≡◌, ℕ, ◌+◌, ◌^◌, ◌<◌, Bool, true, false, List, [], ◌∷◌, ◌++◌, length, refl, sym}
use Rattle.std.{proofs.Common.{◌∙◌, ap, subst}, specs.Prelude.{cond, is_some, IfSome}}
use Rattle.crossing_model.specs.declared.crossing.Crossing.{Crossing}
use Rattle.box_pieces.specs.{Areas.IsCrossingOf, Places.is_crossed, Pieces.IsCursor}
use Rattle.box_pieces.proofs.BoxByBox.{ArePiecesBelow, pieces_more}
use Rattle.box_pieces.proofs.placing.pieces_of.Goals as goal

byte_is : (b : Bool) → bool_byte b ≡ cond b 1 0
byte_is true = refl
byte_is false = refl

pub overflow_cast-len : goal.overflow_cast-len
overflow_cast-len c =
    let crossings = c.args.crossings.items in
    let crossing = c.crossing_of-crossing.result in
    let next = c.add_pieces.new.placed.items in
    let starts = c.loop-k.starts.items in
    let P : List Crossing → Type 0 = λ cs. is_some crossing ≡ is_crossed cs c.loop-k.k in
    let Q : List Crossing → Type 0 = λ cs. IfSome crossing (IsCrossingOf cs c.loop-k.k) in
    let done : ArePiecesBelow c.args.boxes.now crossings (c.loop-k.k + 1) next (starts ++ length next ∷ []) =
    pieces_more c.args.boxes.now crossings c.loop-k.k (length next) crossing c.loop-k.placed.items next starts
    (starts ++ length next ∷ []) c.loop-k-test.true
    (subst P c.as_slice.ensures.value c.crossing_of-crossing.ensures.crossed)
    (subst Q c.as_slice.ensures.value c.crossing_of-crossing.ensures.of_box) c.in_ok-add_pieces.ensures refl refl
    c.loop-k.invariant.pieces in
    let f = done.few in
    let few = c.requires.few in
    let n = c.len.ensures in
    let lt = c.loop-k-test.true in
    let o = c.add_pieces.new.placed.ok.0 in
    let small : c.len.result < 2 ^ 32 = omega arith in
    grind arith

pub loop-k-preserved : goal.loop-k-preserved
loop-k-preserved c =
    let crossings = c.args.crossings.items in
    let crossing = c.crossing_of-crossing.result in
    let next = c.add_pieces.new.placed.items in
    let starts = c.loop-k.starts.items in
    let P : List Crossing → Type 0 = λ cs. is_some crossing ≡ is_crossed cs c.loop-k.k in
    let Q : List Crossing → Type 0 = λ cs. IfSome crossing (IsCrossingOf cs c.loop-k.k) in
    let n = c.len.ensures in
    record {
      pieces =
          pieces_more c.args.boxes.now crossings c.loop-k.k c.len.result crossing c.loop-k.placed.items next starts
          c.push-in-loop-k.new.self.items c.loop-k-test.true
          (subst P c.as_slice.ensures.value c.crossing_of-crossing.ensures.crossed)
          (subst Q c.as_slice.ensures.value c.crossing_of-crossing.ensures.of_box) c.in_ok-add_pieces.ensures
          (omega (arith, c.add_pieces.new.placed.ok.0)) c.in_ok-push-2.ensures.items c.loop-k.invariant.pieces;
      cursor =
          (let C : List Crossing
          → Type 0 = λ cs. IsCursor cs (c.loop-k.next + cond (is_some crossing) 1 0) (c.loop-k.k + 1) in
          let N : ℕ → Type 0 = λ m. IsCursor crossings (c.loop-k.next + m) (c.loop-k.k + 1) in
          subst N (sym (c.from-next.ensures ∙ byte_is c.is_some.result
          ∙ ap (λ (b : Bool). cond b 1 0)
          c.is_some.ensures)) (subst C c.as_slice.ensures.value c.crossing_of-crossing.ensures.cursor));
    }
