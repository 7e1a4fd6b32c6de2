use Rattle.std.proofs.Common.{◌≡◌, ◌∙◌, Bool, true, length, arith, rules, tests}
use Rattle.std.proofs.lemmas.{Iterator.{YieldsList-from_slice, Search.all_from_yields_List}, Bool.Decides.nat_tests}
use Rattle.std.specs.{Prelude.{◌&&◌, nat_le}, Char.is_ascii_digit, List.list_all}
use Rattle.run_words.proofs.values.is_number.Goals as goal

-- the last of three tests
last_of : (a b c : Bool) → a ≡ true → b ≡ true → c ≡ (a && (b && c))
last_of a b c e f = rw (e, f)

pub returns-then-digits-most_digits : goal.returns-then-digits-most_digits
returns-then-digits-most_digits c =
    let w = c.args.word.now in
    let some : nat_le 1 (length w) ≡ true = grind (arith, nat_tests) in
    let few : nat_le (length w) c.args.most_digits ≡ true = grind (arith, nat_tests) in
    let all : c.all.result ≡ list_all is_ascii_digit w =
    all_from_yields_List is_ascii_digit _ _ c.all.result c.all.ensures.ran (YieldsList-from_slice w cc)
    (λ x b q k. search (rules, tests)) in
    all ∙ last_of (nat_le 1 (length w)) (nat_le (length w) c.args.most_digits) (list_all is_ascii_digit w) some few
