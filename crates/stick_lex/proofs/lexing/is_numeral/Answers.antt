use Rattle.std.proofs.{Common.{◌≡◌, sym, ◌∙◌, rules, tests}, lemmas.Iterator.YieldsList-from_slice}
use Rattle.std.{proofs.lemmas.Iterator.Search.all_from_yields_List, specs.{List.list_all, Char.is_ascii_digit}}
use Rattle.stick_lex.proofs.Words.{numeral_by_all}
use Rattle.stick_lex.proofs.lexing.is_numeral.Goals as goal

pub returns-then-not-is_empty : goal.returns-then-not-is_empty
returns-then-not-is_empty c =
    let all : c.all.result ≡ list_all is_ascii_digit c.args.digits.now =
    all_from_yields_List is_ascii_digit _ _ c.all.result c.all.ensures.ran
    (YieldsList-from_slice c.args.digits.now cc) (λ x b q k. search (rules, tests)) in
    all ∙ sym (numeral_by_all c.args.digits.now _ c.is_empty.ensures c.if-not-is_empty.true)
