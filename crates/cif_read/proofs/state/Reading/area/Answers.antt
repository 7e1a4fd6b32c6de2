use Rattle.std.proofs.Common.{ℕ, ◌+◌, ◌<◌, sym, subst, arith}
use Rattle.cif_read.proofs.{Calling.ok_weaker, Sound.{symbols_more, if_same}}
use Rattle.cif_read.proofs.state.Reading.area.Goals as goal

pub returns-clause-sound : goal.returns-clause-sound
returns-clause-sound c =
    let r = c.args.self.now in
    ok_weaker c.area.result _ _
    (λ sound count h. record {
      symbols = symbols_more count (count + 1) r.symbols.items r.depths.items (omega arith) h.symbols;
      places = h.places;
      drawing = sound r.depths.items h.drawing;
      top = h.top;
      fresh = h.fresh;
      not_deep = if_same r.begun _ _ (λ b few. subst (λ (n : ℕ). n < 64) (sym c.area.ensures.called) few) h.not_deep;
    })
    c.area.ensures.sound
