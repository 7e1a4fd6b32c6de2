use Rattle.std.proofs.{Common.{ℕ, List, sym, ◌∙◌, subst, drop}, lemmas.List.take_rest}
use Rattle.cif_lex.specs.{Words.number, Reading.{IsRead, IsNumberRead, IsPairAnswer}}
use Rattle.cif_lex.proofs.{OneWord.same_number, ReadNumbers.both_read}
use Rattle.cif_lex.proofs.numbers.read_pair.Goals as goal

pub returns-in_err-first : goal.returns-in_err-first
returns-in_err-first c = subst (IsPairAnswer c.args.text.now) (sym c.from_residual.ensures)
    (λ m n rest is. c.in_err-first.ensures m is.0 is.1)

pub returns-in_err-second : goal.returns-in_err-second
returns-in_err-second c =
    let text = c.args.text.now in
    let a = c.in_ok-first.first in
    subst (IsPairAnswer text) (sym c.from_residual-in_err-second.ensures) (λ m n rest is.
    let same = same_number m a.value text is.0 (drop a.length text) is.1 c.in_ok-first.ensures.is_read in
    c.in_err-second.ensures n is.2.0
    (subst (λ (t : List ℕ). IsRead (number n) t is.2.0) (same.1 ∙ sym (take_rest text a.length)) is.2.1))

pub returns : goal.returns
returns c =
    let text = c.args.text.now in
    let a = c.in_ok-first.first in
    let b = c.in_ok-second.second in
    both_read text a b c.in_ok-first.ensures
    (subst (λ (t : List ℕ). IsNumberRead t b) (take_rest text a.length) c.in_ok-second.ensures)
