use Rattle.std.proofs.Common.{◌≡◌, ◌∷◌, ◌++◌, [], map, refl, sym, ap, ◌∙◌, zero-add, arith, rules}
use Rattle.std.{proofs.lemmas.List.FromFn.map-range_with_len_more, specs.List.range_with_len}
use Rattle.design_gen.specs.Draws.{number_after, next_number, point_of, point_at, bits_of}
use Rattle.design_gen.proofs.Growing.{number_more, draw_here}
use Rattle.design_gen.proofs.draws.draw_points.Goals as goal

pub loop-k-init : goal.loop-k-init
unfolding number_after
loop-k-init c = record { number = refl; small = omega arith; drawn = search rules }

pub loop-k-preserved : goal.loop-k-preserved
loop-k-preserved c =
    let n = c.args.n in
    let k = c.loop-k._k in
    let number : c.next_number-number.result ≡ next_number (number_after n k) = c.next_number-number.ensures
    ∙ ap next_number c.loop-k.invariant.number in
    let point : c.point_of.result ≡ point_at n k = c.point_of.ensures ∙ ap (λ x. point_of (bits_of x)) number
    ∙ ap point_of (sym (draw_here n k)) in
    record {
      number = number ∙ sym (number_more n k);
      small = omega (arith, c.next_number-number.ensures);
      drawn = c.in_ok-push.ensures.items ∙ ap (λ points. points ++ c.point_of.result ∷ []) c.loop-k.invariant.drawn
          ∙ ap (λ p. map (point_at n) (range_with_len 0 k) ++ p ∷ []) point
          ∙ sym (map-range_with_len_more (point_at n) 0 k k (zero-add k));
    }
