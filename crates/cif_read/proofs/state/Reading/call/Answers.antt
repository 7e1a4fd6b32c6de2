use Rattle.std.proofs.Common.{◌+◌, ◌<◌, length, Bool, FitsSigned, w64, sym, ap, ◌∙◌, subst, arith, rules}
use Rattle.std.proofs.lemmas.List.{get_or_default, length-map}
use Rattle.cif_read.proofs.{Calling.{good_call, seen_call, place_found, ok_weaker, err_weaker}, Sound.call_found}
use Rattle.cif_read.proofs.Sound.{deep_is, stop_stays, ok_both, not_deep_after, symbols_more}
use Rattle.cif_read.specs.{Readers.IsCauseOfStop, Foreign.foreign_symbol, Acts.{called_on, drawn_on}, Readings.state_of}
use Rattle.cif_read.specs.Readings.{symbols_of, level_from}
use Rattle.cif_read.proofs.state.Reading.call.Goals as goal

pub index-depth-requires : goal.index-depth-requires
index-depth-requires c =
    let a = c.args in
    let r = a.self.now in
    let x : FitsSigned w64 a.place.x = search rules in
    let y : FitsSigned w64 a.place.y = search rules in
    let bad = sym (c.if-is_bad_call.ensures ∙ seen_call a.number a.place.x a.place.y a.bad c.ranges.number x y) in
    let good = good_call a.number a.place.x a.place.y a.bad bad in
    let it = place_found r.places (symbols_of r) a.number c.in-Some.symbol c.ranges.number good.number
    c.requires.sound.places (sym (c.in-Some.ensures ∙ c.get.ensures.value)) in
    omega (arith, it.below, length-map r.symbols.items foreign_symbol, c.requires.sound.symbols.counted)

pub returns-clause-done : goal.returns-clause-done
returns-clause-done c =
    let a = c.args in
    let r = a.self.now in
    let x : FitsSigned w64 a.place.x = search rules in
    let y : FitsSigned w64 a.place.y = search rules in
    let bad = sym (c.if-is_bad_call.ensures ∙ seen_call a.number a.place.x a.place.y a.bad c.ranges.number x y) in
    let good = good_call a.number a.place.x a.place.y a.bad bad in
    let it = place_found r.places (symbols_of r) a.number c.in-Some.symbol c.ranges.number good.number
    c.requires.sound.places (sym (c.in-Some.ensures ∙ c.get.ensures.value)) in
    let deep = deep_is r c.in-Some.symbol c.index-depth.result.now c.is_too_deep-too_deep.result
    c.requires.sound.symbols.told
    (omega (arith, it.below, length-map r.symbols.items foreign_symbol, c.requires.sound.symbols.counted))
    c.index-depth.ensures c.is_too_deep-too_deep.ensures in
    let same = call_found (state_of r) a.number a.place a.bad a.divisor c.in-Some.symbol bad it.known it.place in
    ok_weaker c.call.result _ _
    (λ done. same
    ∙ (ap (λ (t : Bool). drawn_on (state_of r)
    (called_on (level_from r.drawing) a.divisor t c.in-Some.symbol a.place)) (sym deep) ∙ ap (drawn_on
    (state_of r)) done)) c.call.ensures.done

pub returns-clause-refused : goal.returns-clause-refused
returns-clause-refused c =
    let a = c.args in
    let r = a.self.now in
    let x : FitsSigned w64 a.place.x = search rules in
    let y : FitsSigned w64 a.place.y = search rules in
    let bad = sym (c.if-is_bad_call.ensures ∙ seen_call a.number a.place.x a.place.y a.bad c.ranges.number x y) in
    let good = good_call a.number a.place.x a.place.y a.bad bad in
    let it = place_found r.places (symbols_of r) a.number c.in-Some.symbol c.ranges.number good.number
    c.requires.sound.places (sym (c.in-Some.ensures ∙ c.get.ensures.value)) in
    let deep = deep_is r c.in-Some.symbol c.index-depth.result.now c.is_too_deep-too_deep.result
    c.requires.sound.symbols.told
    (omega (arith, it.below, length-map r.symbols.items foreign_symbol, c.requires.sound.symbols.counted))
    c.index-depth.ensures c.is_too_deep-too_deep.ensures in
    let same = call_found (state_of r) a.number a.place a.bad a.divisor c.in-Some.symbol bad it.known it.place
    ∙ ap (λ (t : Bool). drawn_on (state_of r)
    (called_on (level_from r.drawing) a.divisor t c.in-Some.symbol a.place)) (sym deep) in
    err_weaker c.call.result _ _
    (λ stop h. subst (λ answer. IsCauseOfStop answer stop) (sym same)
    (stop_stays (state_of r)
    (called_on (level_from r.drawing) a.divisor c.is_too_deep-too_deep.result c.in-Some.symbol a.place) stop
    h)) c.call.ensures.refused

pub returns-clause-sound : goal.returns-clause-sound
returns-clause-sound c =
    let a = c.args in
    let r = a.self.now in
    let x : FitsSigned w64 a.place.x = search rules in
    let y : FitsSigned w64 a.place.y = search rules in
    let bad = sym (c.if-is_bad_call.ensures ∙ seen_call a.number a.place.x a.place.y a.bad c.ranges.number x y) in
    let good = good_call a.number a.place.x a.place.y a.bad bad in
    let it = place_found r.places (symbols_of r) a.number c.in-Some.symbol c.ranges.number good.number
    c.requires.sound.places (sym (c.in-Some.ensures ∙ c.get.ensures.value)) in
    let below : c.in-Some.symbol < length r.depths.items =
    omega (arith, it.below, length-map r.symbols.items foreign_symbol, c.requires.sound.symbols.counted) in
    let depth = c.index-depth.ensures
    ∙ get_or_default r.depths.items c.in-Some.symbol c.index-depth.result.now 0 below in
    ok_weaker c.call.result _ _
    (λ all count h. record {
      symbols = symbols_more count (count + 1) r.symbols.items r.depths.items (omega arith) h.symbols;
      places = h.places;
      drawing = all.0 r.depths.items below depth h.drawing;
      top = h.top;
      fresh = h.fresh;
      not_deep = not_deep_after r.begun r.drawing.called c.call.new.self.called c.index-depth.result.now
          c.is_too_deep-too_deep.result c.is_too_deep-too_deep.ensures all.1.1 all.1.0 h.not_deep;
    })
    (ok_both c.call.result _ _ c.call.ensures.sound
    (ok_both c.call.result _ _ c.call.ensures.called c.call.ensures.not_deep))
