use Rattle.std.proofs.Common.{◌≡◌, ◌∙◌, max, ℕ, pos, false, sym, ap, refl, of_z, to_z, w64, arith}
use Rattle.cif_lex.specs.Shifts.{is_odd}
use Rattle.cif_read.specs.{declared.file.ForeignStep.TheVariants.Called, Readings.level_from}
use Rattle.cif_read.proofs.Sound.{divisor_word, seen_shift, called_done, steps_called, still_within, level_step}
use Rattle.cif_read.proofs.state.Drawing.call.Goals as goal

pub returns-clause-done : goal.returns-clause-done
returns-clause-done c =
    let a = c.args in
    let d = a.self.now in
    let s = d.scale in
    let x = seen_shift s.above s.below a.place.x c.in_grains-x.result c.requires.x c.in_grains-x.ensures.near
    c.in_grains-x.ensures.value in
    let y = seen_shift s.above s.below a.place.y c.in_grains-y.result c.requires.y c.in_grains-y.ensures.near
    c.in_grains-y.ensures.value in
    let even : is_odd s.above s.below (pos a.divisor) ≡ false =
    ap (is_odd s.above s.below) (sym (divisor_word a.divisor (omega (arith, c.ranges.divisor.fits))))
    ∙ sym c.if-is_odd.ensures in
    let steps = steps_called d.steps c.push.new.self (level_from d) a.symbol a.place _ _ c.in-Ok.ensures x y in
    called_done (level_from d) a.divisor a.too_deep a.symbol a.place _ even c.if-too_deep.false steps

pub returns-clause-sound : goal.returns-clause-sound
returns-clause-sound c = λ depths below same h.
    let a = c.args in
    level_step depths a.self.now _
    (Called a.symbol a.place.turn (to_z w64 (of_z w64 c.in_grains-x.result))
    (to_z w64 (of_z w64 c.in_grains-y.result))) h refl c.in-Ok.ensures (
      below,
      c.requires.turn,
      still_within c.in_grains-x.result a.place.x c.in_grains-x.ensures.near,
      still_within
          c.in_grains-y.result a.place.y c.in_grains-y.ensures.near,
    )
    (c.max-self.ensures ∙ ap (λ (n : ℕ). max a.self.now.called n) same)
