use Rattle.std.proofs.Common.{ℕ, eqb, rules, tests}
use Rattle.std.proofs.lemmas.Iterator.{Splits.YieldsList-from_slice_split, Search.all_from_yields_List}
use Rattle.stick_lex.specs.Tokens.{is_name}
use Rattle.stick_lex.proofs.lexing.is_path.Goals as goal

pub returns : goal.returns
returns c = all_from_yields_List is_name _ _ c.all.result c.all.ensures.ran
    (YieldsList-from_slice_split _ (λ (b : ℕ). eqb b 46) c.args.text.now c.split.ensures.rest c.split.ensures.done
    c.split.ensures.closure (λ x b q k. search (rules, tests))) (λ x b q k. search (rules, tests))
