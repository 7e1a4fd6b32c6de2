use Rattle.std.proofs.Common.{◌+◌, false, unsigned_abs, of_z, to_z, w64, sym, ap, ◌∙◌, subst, arith}
use Rattle.cif_read.specs.{Scales.IsScale, declared.state.Drawing.Drawing, Readings.{level_from, definition_of}}
use Rattle.cif_read.{specs.Readings.{symbols_of, IsSoundLevel}, proofs.{Scales.factor_from, Places.fresh_from}}
use Rattle.cif_read.proofs.{Beginnings.begun_from, Sound.{defined_by_words, symbols_more}}
use Rattle.cif_read.proofs.state.Reading.define.Goals as goal

pub returns-clause-done : goal.returns-clause-done
returns-clause-done c =
    let a = c.args in
    let r = a.self.now in
    let fresh = fresh_from r.places (symbols_of r) (unsigned_abs (to_z w64 (of_z w64 a.number)))
    c.requires.sound.places c.if-contains_key.ensures in
    defined_by_words r a.number a.above a.below c.replace-top.new.dest c.replace-top.result c.ranges.number
    c.ranges.above c.ranges.below c.if-is_bad_symbol.ensures c.if-is_bad_factor.ensures
    c.if-is_bad_factor-2.ensures
    (begun_from definition_of r.begun false c.if-is_some.ensures) fresh
    (ap level_from c.replace-top.ensures.after ∙ c.new.ensures.value) c.replace-top.ensures.value

pub returns-clause-sound : goal.returns-clause-sound
returns-clause-sound c =
    let r = c.args.self.now in
    let n = unsigned_abs (to_z w64 (of_z w64 c.args.number)) in
    let scale : IsScale
    (record { above = to_z w64 (of_z w64 c.args.above); below = to_z w64 (of_z w64 c.args.below) }) =
    record {
      above = factor_from _ (sym c.if-is_bad_factor.ensures);
      below = factor_from _ (sym c.if-is_bad_factor-2.ensures);
    } in
    λ count h. record {
      symbols = symbols_more count (count + 1) r.symbols.items r.depths.items (omega arith) h.symbols;
      places = h.places;
      drawing = subst (IsSoundLevel r.depths.items) (sym c.replace-top.ensures.after)
          (c.new.ensures.sound scale r.depths.items);
      top = subst (IsSoundLevel r.depths.items) (sym c.replace-top.ensures.value) h.drawing;
      fresh = fresh_from r.places (symbols_of r) n h.places c.if-contains_key.ensures;
      not_deep = omega (arith, ap (λ (d : Drawing). d.called) c.replace-top.ensures.after, c.new.ensures.shallow);
    }
