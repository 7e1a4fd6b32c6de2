use Rattle.std.proofs.Common.{◌≡◌, ℕ, ◌+◌, ◌<◌, pos, Some, false, List, [], ◌∷◌, ◌++◌, length, sym, ap, ◌∙◌, subst}
use Rattle.std.proofs.Common.{arith}
use Rattle.cif_read.specs.{declared.{file.ForeignSymbol.ForeignSymbol, state.Drawing.Drawing}, Acts.is_known}
use Rattle.cif_read.specs.Readings.{symbols_of, IsSoundLevel}
use Rattle.cif_read.proofs.{Places.{some_holds, none_holds}, Sound.{symbol_added, places_pushed, level_later}}
use Rattle.cif_read.proofs.state.Reading.finish.Goals as goal

pub returns-clause-sound : goal.returns-clause-sound
returns-clause-sound c =
    let r = c.args.self.now in
    let b = c.in-Some.begun in
    let was : r.begun ≡ Some b = sym c.take.ensures.value ∙ c.in-Some.is in
    let old : c.replace-drawing.result ≡ r.drawing = c.replace-drawing.ensures.value in
    let symbol : ForeignSymbol = record { number = b.number; steps = c.replace-drawing.result.steps } in
    let place : c.len-place.result ≡ length r.symbols.items = omega arith in
    let deeper : c.push-2.new.self.items ≡ r.depths.items ++ (r.drawing.called + 1) ∷ [] =
    c.in_ok-push-2.ensures.items ∙ ap (λ (d : Drawing). r.depths.items ++ (d.called + 1) ∷ []) old in
    λ count h.
    let fresh = some_holds r.begun b (λ d. is_known (pos d.number) (symbols_of r) ≡ false) was h.fresh in
    let shallow = some_holds r.begun b (λ d. r.drawing.called < 64) was h.not_deep in
    let top = some_holds r.begun b (λ d. IsSoundLevel r.depths.items d.top) was h.top in
    record {
      symbols = symbol_added count r.symbols.items c.push.new.self.items r.depths.items c.push-2.new.self.items symbol
          r.drawing c.in_ok-push.ensures.items deeper
          (ap (λ (d : Drawing). d.steps) old) h.drawing shallow h.symbols;
      places = places_pushed r.places c.insert.new.self r.symbols.items c.push.new.self.items symbol _
          c.in_ok-push.ensures.items place h.places fresh c.in_ok-insert.ensures.updates;
      drawing = subst (λ (ds : List ℕ). IsSoundLevel ds c.replace-drawing.new.dest) (sym deeper)
          (subst (IsSoundLevel (r.depths.items ++ (r.drawing.called + 1) ∷ [])) (sym c.replace-drawing.ensures.after)
          (level_later r.depths.items (r.drawing.called + 1) b.top top));
      top = none_holds c.take.new.self _ c.take.ensures.after;
      fresh = none_holds c.take.new.self _ c.take.ensures.after;
      not_deep = none_holds c.take.new.self _ c.take.ensures.after;
    }
