use Rattle.std.proofs.Common.{◌≡◌, ℕ, List, [], ◌∷◌, length, map, Vec, Global, refl, sym, ap, ◌∙◌}
use Rattle.std.proofs.lemmas.{List.length-map, Result.IfOk-weaker}
use Rattle.std.specs.List.{AllZip, range_with_len}
use Rattle.rule_table.specs.Technology.{numbers_of}
use Rattle.mask_out.specs.Pictures.{drawing_of}
use Rattle.cif_text.specs.{Calls.text_at, Cutting.IsOfLines}
use Rattle.par_phase.proofs.Answers.{answers_have, answers_all}
use Rattle.cif_text.proofs.pictures.symbol_texts.Goals as goal

abbrev items : Vec ℕ Global → List ℕ
items text = text.items

-- texts that are given one by one
are_texts : (f : ℕ → List ℕ) (numbers : List ℕ) (texts : List (Vec ℕ Global))
    → AllZip (λ k text. items text ≡ f k) numbers texts → map items texts ≡ map f numbers
are_texts f [] [] h = refl
are_texts f [] (text ∷ texts) h = absurd h
are_texts f (k ∷ numbers) [] h = absurd h
are_texts f (k ∷ numbers) (text ∷ texts) h =
    ap (λ t. t ∷ map items texts) h.0 ∙ ap (λ ts. f k ∷ ts) (are_texts f numbers texts h.1)

pub returns-clause-texts : goal.returns-clause-texts
returns-clause-texts g c =
    let symbols = c.args.symbols.now in
    let f : ℕ → List ℕ = text_at (numbers_of c.args.tech.now).unit (map drawing_of symbols) in
    let numbers = range_with_len 0 (length symbols) in
    IfOk-weaker c.map_numbers.result _ _ (λ texts zipped.
    are_texts f numbers texts.items
    (answers_have _ _ (λ k text. items text ≡ f k) (λ p text says. says.0) numbers texts.items zipped)
    ∙ ap (λ n. map f (range_with_len 0 n)) (sym (length-map symbols drawing_of))) c.map_numbers.ensures.answers

pub returns-clause-lines : goal.returns-clause-lines
returns-clause-lines g c =
    IfOk-weaker c.map_numbers.result _ _ (λ texts zipped.
    answers_all _ _ (λ (text : Vec ℕ Global). IsOfLines text.items) (λ p text says. says.1)
    (range_with_len 0 (length c.args.symbols.now)) texts.items zipped)
    c.map_numbers.ensures.answers
