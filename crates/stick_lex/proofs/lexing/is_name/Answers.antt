use Rattle.std.proofs.{Common.{◌≡◌, ◌≤◌, length, drop, ap, sym, ◌∙◌, arith, rules, tests}, lemmas.List.take_rest}
use Rattle.std.{proofs.lemmas.Iterator.{YieldsList-from_slice, Search.all_from_yields_List}, specs.List.list_all}
use Rattle.stick_lex.{specs.Tokens.is_name_byte, proofs.Words.name_by_rest}
use Rattle.stick_lex.proofs.lexing.is_name.Goals as goal

pub returns-then-rest-lt-LONGEST_NAME : goal.returns-then-rest-lt-LONGEST_NAME
returns-then-rest-lt-LONGEST_NAME c =
    let text = c.args.text.now in
    let all : c.all.result ≡ list_all is_name_byte (drop 1 text) =
    all_from_yields_List is_name_byte _ _ c.all.result c.all.ensures.ran
    (YieldsList-from_slice (drop 1 text) (c.iter.ensures.rest ∙ take_rest text 1))
    (λ x b q k. search (rules, tests)) in
    let short : length (drop 1 text) ≤ 31 =
    omega (arith, ap length (take_rest text 1), c.if-rest-lt-LONGEST_NAME.true.1) in
    all ∙ sym
    (name_by_rest text (omega arith) (sym c.is_ascii_alphabetic.ensures.value ∙ c.if-rest-lt-LONGEST_NAME.true.0)
    short)
