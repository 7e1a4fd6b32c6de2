use Rattle.std.proofs.Common.{◌≡◌, ℕ, ◌+◌, cond, ltb, length, take, List, ◌∷◌, Some, None, sym, ap, ◌∙◌, arith, rules}
use Rattle.std.proofs.{Common.tests, lemmas.{Bool.ltb-false, List.take_rest, Iterator.YieldsList-from_slice}}
use Rattle.std.{proofs.lemmas.Iterator.Search.position_from_yields_List, specs.List.position_or_len}
use borrow.Author.Tests.{ltb-true}
use Rattle.stick_lex.specs.Tokens.{names}
use Rattle.stick_text.proofs.FirstLine.{found_at, not_found}
use Rattle.stick_cell.proofs.{FirstName.{is_dot, first_of, whole_of}, paths.split_first.Goals.After-position}
use Rattle.stick_cell.proofs.paths.split_first.Goals as goal

found : (c : After-position)
    → c.position.result ≡ cond (ltb (position_or_len is_dot c.args.path.now) (length c.args.path.now))
    (Some (position_or_len is_dot c.args.path.now)) None
found c = position_from_yields_List is_dot _ _ c.position.result c.position.ensures.ran
    (YieldsList-from_slice c.args.path.now cc) (λ x b q k. search (rules, tests))

pub returns-in-None-clause-names : goal.returns-in-None-clause-names
returns-in-None-clause-names c =
    whole_of c.args.path.now
    (ltb-false _ _
    (not_found _ _ (sym (found (goal.at.returns-in-None-clause-names c).After-position) ∙ c.in-None.is)))

pub returns-in-Some-clause-names : goal.returns-in-Some-clause-names
returns-in-Some-clause-names c =
    let path = c.args.path.now in
    let at = found_at _ _ _ (sym (found (goal.at.returns-in-Some-clause-names c).After-position) ∙ c.in-Some.is) in
    let one = first_of path c.in-Some.at at.1 (omega (arith, ltb-true _ _ at.0, at.1)) in
    let rest = take_rest path (c.in-Some.at + 1) in
    one ∙ ap (λ (after : List ℕ). take c.in-Some.at path ∷ names after) (sym rest)
