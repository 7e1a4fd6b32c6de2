use Rattle.std.proofs.{Common.{ℕ, All}, lemmas.Result.IfOk-weaker}
use Rattle.lam_geom.specs.Places.{IsPlacedBox}
use Rattle.par_phase.proofs.{Answers.answers_all, Numbers.{answer_has, one_for_each}}
use Rattle.mask_out.specs.{declared.drawing.Symbol.Symbol, Pictures.{IsDrawingAt, drawing_of}}
use Rattle.mask_out.proofs.{MasterSymbols.all_drawn}
use Rattle.mask_out.proofs.pictures.symbols_in.Goals as goal

pub returns-clause-placed : goal.returns-clause-placed
returns-clause-placed g c =
    IfOk-weaker c.map_numbers.result _ _ (λ symbols are.
    answers_all _ _ (λ (symbol : Symbol). All (λ box. IsPlacedBox box.area) symbol.boxes) (λ p symbol says. says.0) _
    symbols.items are) c.map_numbers.ensures.answers

pub returns-clause-symbols : goal.returns-clause-symbols
returns-clause-symbols g c =
    let masters = c.args.masters.now in
    let layouts = c.args.coords.now in
    let P : ℕ → Symbol → Type 0 = λ m symbol. IsDrawingAt masters layouts m (drawing_of symbol) in
    IfOk-weaker c.map_numbers.result _ _ (λ symbols are.
    all_drawn masters layouts symbols.items c.requires.counted
    (one_for_each _ _ _ symbols.items are P (λ p symbol says. says.1))
    (answer_has _ _ _ symbols.items are P (λ p symbol says. says.1))) c.map_numbers.ensures.answers
