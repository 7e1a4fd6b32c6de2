use Rattle.std.proofs.Common.{◌≡◌, Some, None, Err, subst}
use Rattle.clap.{proofs.WalkLemmas.both, specs.Words.{App, found_of, rows_of}}
use Rattle.run_words.specs.{Lines.found_in, Words.texts_of, declared.commands.WordsFault.TheVariants.Usage}
use Rattle.run_words.proofs.{Found.{refused, taken}, Named.free_as}
use Rattle.run_words.proofs.lines.found_in.Goals as goal

pub returns-in_err-try_get_matches_from-clause-usage : goal.returns-in_err-try_get_matches_from-clause-usage
returns-in_err-try_get_matches_from-clause-usage c =
    let free = free_as c.args.name _ c.in_ok-line.ensures in
    subst (λ (a : App). c.from_residual-in_err-try_get_matches_from.result ≡ Err Usage
    → found_in a (texts_of c.args.words.now) ≡ None) c.in_ok-line.ensures
    (refused _ _ c.in_err-try_get_matches_from.field-0.0 c.from_residual-in_err-try_get_matches_from.result
    (c.in_err-try_get_matches_from.ensures.kinds free)
    c.from_residual-in_err-try_get_matches_from.ensures.1)

pub returns-clause-found : goal.returns-clause-found
returns-clause-found c =
    let free = free_as c.args.name _ c.in_ok-line.ensures in
    subst (λ (a : App). found_in a (texts_of c.args.words.now)
    ≡ Some (rows_of (found_of c.in_ok-try_get_matches_from.field-0))) c.in_ok-line.ensures
    (taken _ _ _ (c.in_ok-try_get_matches_from.ensures.kinds free)
    (c.in_ok-try_get_matches_from.ensures.matches (both _ _ free).0).0)
