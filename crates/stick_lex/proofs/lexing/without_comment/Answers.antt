use Rattle.std.proofs.Common.{◌≡◌, ℕ, eqb, cond, ltb, length, Some, None, take, unwrap_or, ap, ◌∙◌, rules, tests}
use Rattle.std.proofs.lemmas.Iterator.{YieldsList-from_slice, Search.position_from_yields_List}
use Rattle.std.specs.List.{position_or_len}
use Rattle.stick_lex.proofs.Words.{position_place}
use Rattle.stick_lex.proofs.lexing.without_comment.Goals as goal

pub returns : goal.returns
returns c =
    let line = c.args.line.now in
    let hash = λ (b : ℕ). eqb b 35 in
    let found : c.position.result ≡ cond (ltb (position_or_len hash line) (length line))
    (Some (position_or_len hash line)) None =
    position_from_yields_List hash _ _ c.position.result c.position.ensures.ran (YieldsList-from_slice line cc)
    (λ x b q k. search (rules, tests)) in
    let at : c.unwrap_or-at.result ≡ position_or_len hash line = c.unwrap_or-at.ensures
    ∙ ap (λ o. unwrap_or o (length line)) found ∙ position_place hash line in
    ap (λ (n : ℕ). take n line) at
