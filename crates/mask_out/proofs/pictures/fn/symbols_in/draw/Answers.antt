use Rattle.std.proofs.Common.{Result, Ok, Err, arith}
use Rattle.std.specs.{Prelude.IfOk}
use Rattle.mask_out.specs.declared.drawing.Symbol.{Symbol}
use Rattle.mask_out.proofs.MasterSymbols.{drawn_at}
use Rattle.mask_out.proofs.pictures.fn.symbols_in.draw.Goals as goal

-- three facts of what was made are one
together : {E : Type 0} (P Q R S : Symbol → Type 0) (r : Result Symbol E) → IfOk r P → IfOk r Q → IfOk r R
    → ((symbol : Symbol) → P symbol → Q symbol → R symbol → S symbol) → IfOk r S
together P Q R S (Ok symbol) p q r all = all symbol p q r
together P Q R S (Err e) p q r all = tt

pub returns : goal.returns
returns c =
    let made = c.symbol.ensures in
    together _ _ _ _ c.symbol.result made.placed made.name made.boxes (λ symbol placed name boxes. (
      placed,
      drawn_at c.captures.masters.now c.captures.coords.now c.args.m.now c.index-masters-m.result c.index-coords-m.result
          symbol (omega arith) (omega arith) c.index-masters-m.is c.index-coords-m.is name boxes,
    ))
