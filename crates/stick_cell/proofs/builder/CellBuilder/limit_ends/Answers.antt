use Rattle.std.{proofs.Common.{◌≡◌, true, false, Err, refl, sym, ◌∙◌, rules}, specs.Prelude.bytes_eq}
use Rattle.checked_cells.specs.{Lines.axis_where, Wires.limited, CheckedCell.with_limit, Kept.capped_place}
use Rattle.stick_cell.proofs.{LineSteps.matched-residual, WireSteps.{limit-unknown, limit-unknown_end, limit-ends}}
use Rattle.stick_cell.proofs.WireSteps.{limit_of, limit-between, limit-exact, result_map-err, result_map-ok}
use Rattle.stick_cell.proofs.builder.CellBuilder.limit_ends.Goals as goal

pub returns-in_err-from : goal.returns-in_err-from
returns-in_err-from c = λ tech cells known vertical at_most n are tables path_a path_b built is.
    let a = c.args in
    let k = c.in_err-from.field-0.0 in
    matched-residual _ _ c.from_residual.result k c.from_residual.ensures.1
    (limit-unknown cells known vertical a.a.now a.b.now at_most n k
    (sym (c.found.ensures cells known tables is) ∙ c.in_err-from.was))

pub returns-in_err-to : goal.returns-in_err-to
returns-in_err-to c = λ tech cells known vertical at_most n are tables path_a path_b built is.
    let a = c.args in
    let k = c.in_err-to.field-0.0 in
    matched-residual _ _ c.from_residual-in_err-to.result k c.from_residual-in_err-to.ensures.1
    (limit-unknown_end cells known vertical a.a.now a.b.now at_most n c.in_ok-from.from k
    (sym (c.found.ensures cells known tables is) ∙ c.in_ok-from.was)
    (sym (c.found-2.ensures cells known tables is) ∙ c.in_err-to.was))

pub returns-in_err-low : goal.returns-in_err-low
returns-in_err-low c = λ tech cells known vertical at_most n are tables path_a path_b built is.
    let a = c.args in
    let k = c.in_err-low.field-0.0 in
    let found = limit-ends tech cells known vertical a.a.now a.b.now at_most n c.in_ok-from.from c.in_ok-to.to
    c.limited.result (limited c.in_ok-to.to) are path_a path_b built
    (sym (c.found.ensures cells known tables is) ∙ c.in_ok-from.was)
    (sym (c.found-2.ensures cells known tables is) ∙ c.in_ok-to.was) c.limited.ensures refl in
    matched-residual _ _ c.from_residual-in_err-low.result k c.from_residual-in_err-low.ensures.1
    (found.2 ∙ rw (result_map-err capped_place found.0 k (sym found.3 ∙ c.in_err-low.was)) refl)

pub returns-in_err-high : goal.returns-in_err-high
returns-in_err-high c = λ tech cells known vertical at_most n are tables path_a path_b built is.
    let a = c.args in
    let k = c.in_err-high.field-0.0 in
    let found = limit-ends tech cells known vertical a.a.now a.b.now at_most n c.in_ok-from.from c.in_ok-to.to
    c.limited.result c.limited-2.result are path_a path_b built
    (sym (c.found.ensures cells known tables is) ∙ c.in_ok-from.was)
    (sym (c.found-2.ensures cells known tables is) ∙ c.in_ok-to.was) c.limited.ensures c.limited-2.ensures in
    let low = result_map-ok capped_place found.0 c.in_ok-low.low (sym found.3 ∙ c.in_ok-low.was) in
    matched-residual _ _ c.from_residual-in_err-high.result k c.from_residual-in_err-high.ensures.1
    (found.2 ∙ rw (low.1, result_map-err capped_place found.1 k (sym found.4 ∙ c.in_err-high.was))
    (refl {a = Err k}))

pub returns-then-eq : goal.returns-then-eq
returns-then-eq c = λ tech cells known vertical at_most n are tables path_a path_b built is.
    let a = c.args in
    let found = limit-ends tech cells known vertical a.a.now a.b.now at_most n c.in_ok-from.from c.in_ok-to.to
    c.limited.result c.limited-2.result are path_a path_b built
    (sym (c.found.ensures cells known tables is) ∙ c.in_ok-from.was)
    (sym (c.found-2.ensures cells known tables is) ∙ c.in_ok-to.was) c.limited.ensures c.limited-2.ensures in
    let low = result_map-ok capped_place found.0 c.in_ok-low.low (sym found.3 ∙ c.in_ok-low.was) in
    let high = result_map-ok capped_place found.1 c.in_ok-high.high (sym found.4 ∙ c.in_ok-high.was) in
    let same : bytes_eq a.a.now a.b.now ≡ true = search rules in
    found.2 ∙ limit-between known vertical at_most n low.1 high.1 (found.5 low.0 high.0 low.1 high.1 ∙ same)

pub returns : goal.returns
returns c = λ tech cells known vertical at_most n are tables path_a path_b built is.
    let a = c.args in
    let found = limit-ends tech cells known vertical a.a.now a.b.now at_most n c.in_ok-from.from c.in_ok-to.to
    c.limited.result c.limited-2.result are path_a path_b built
    (sym (c.found.ensures cells known tables is) ∙ c.in_ok-from.was)
    (sym (c.found-2.ensures cells known tables is) ∙ c.in_ok-to.was) c.limited.ensures c.limited-2.ensures in
    let low = result_map-ok capped_place found.0 c.in_ok-low.low (sym found.3 ∙ c.in_ok-low.was) in
    let high = result_map-ok capped_place found.1 c.in_ok-high.high (sym found.4 ∙ c.in_ok-high.was) in
    let other : bytes_eq a.a.now a.b.now ≡ false = search rules in
    let limit = limit_of vertical at_most n low.0 high.0 in (
      limit,
      found.2 ∙ limit-between known vertical at_most n low.1 high.1 (found.5 low.0 high.0 low.1 high.1 ∙ other),
      λ light. limit-exact known (with_limit known limit) low.0 high.0 c.in_ok-low.low c.in_ok-high.high vertical
          at_most n n (axis_where vertical) light refl (found.6 low.0 low.1) (found.7 high.0 high.1) low.2 high.2 refl
          refl,
    )
