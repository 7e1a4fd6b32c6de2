use Rattle.std.proofs.Common.{◌≡◌, ℕ, ◌+◌, ◌-◌, cond, ltb, length, take, drop, List, ◌∷◌, [], Some, None, refl, sym, ap}
use Rattle.std.proofs.{Common.{◌∙◌, arith, rules, tests}, lemmas.{Bool.ltb-false, List.{take_rest, drop_all}}}
use Rattle.std.proofs.lemmas.Iterator.{YieldsList-from_slice, Search.position_from_yields_List}
use Rattle.std.specs.{List.position_or_len, Str.Lines.lines}
use borrow.Author.Tests.{ltb-true}
use Rattle.stick_text.proofs.FirstLine.{is_end, found_at, not_found, first_of, whole_of}
use Rattle.stick_words.proofs.line.first_line.Goals.{After-position}
use Rattle.stick_words.proofs.line.first_line.Goals as goal

found : (c : After-position)
    → c.position.result ≡ cond (ltb (position_or_len is_end c.args.text.now) (length c.args.text.now))
    (Some (position_or_len is_end c.args.text.now)) None
found c = position_from_yields_List is_end _ _ c.position.result c.position.ensures.ran
    (YieldsList-from_slice c.args.text.now cc) (λ x b q k. search (rules, tests))

pub returns-in-None-clause-first : goal.returns-in-None-clause-first
returns-in-None-clause-first c =
    let text = c.args.text.now in
    let past =
    ltb-false _ _
    (not_found _ _ (sym (found (goal.at.returns-in-None-clause-first c).After-position) ∙ c.in-None.is)) in
    let nothing : take (length text - length text) (drop (length text) text) ≡ [] = take_rest text (length text)
    ∙ drop_all (length text) text (omega arith) in
    whole_of text c.requires past ∙ ap (λ (rest : List ℕ). text ∷ lines rest) (sym nothing)

pub returns-in-Some-clause-first : goal.returns-in-Some-clause-first
returns-in-Some-clause-first c =
    let text = c.args.text.now in
    let at = found_at _ _ _ (sym (found (goal.at.returns-in-Some-clause-first c).After-position) ∙ c.in-Some.is) in
    let one = first_of text c.in-Some.at at.1 (omega (arith, ltb-true _ _ at.0, at.1)) in
    let line = c.without_carriage_return.ensures.line in
    let rest = take_rest text (c.in-Some.at + 1) in
    one ∙ rw (line, rest) refl
