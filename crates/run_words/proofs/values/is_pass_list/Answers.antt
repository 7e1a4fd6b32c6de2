use Rattle.std.proofs.Common.{◌≡◌, Bool, true, false, length, sym, ◌∙◌, arith, rules, tests}
use Rattle.std.proofs.lemmas.Iterator.{YieldsList-from_slice, Search.{all_from_yields_List, any_from_yields_List}}
use Rattle.std.{proofs.lemmas.Bool.Decides.nat_tests, specs.{Prelude.{◌&&◌, ◌||◌, nat_le}, List.{list_any, list_all}}}
use Rattle.run_words.specs.Values.{is_x, is_y}
use Rattle.run_words.proofs.values.is_pass_list.Goals as goal

-- the third and the fourth of four tests
third_of : (a b c d : Bool) → a ≡ true → b ≡ true → c ≡ false → false ≡ (a && (b && (c && d)))
third_of a b c d e f g = rw (e, f, g)

fourth_of : (a b c d : Bool) → a ≡ true → b ≡ true → c ≡ true → d ≡ (a && (b && (c && d)))
fourth_of a b c d e f g = rw (e, f, g)

pub returns-then-any : goal.returns-then-any
returns-then-any c =
    let w = c.args.word.now in
    let few : nat_le (length w) 16 ≡ true = grind (arith, nat_tests) in
    let all : c.all.result ≡ list_all (λ b. is_x b || is_y b) w =
    all_from_yields_List (λ b. is_x b || is_y b) _ _ c.all.result c.all.ensures.ran (YieldsList-from_slice w cc)
    (λ x b q k. search (rules, tests)) in
    let an_x : c.any.result ≡ list_any is_x w =
    any_from_yields_List is_x _ _ c.any.result c.any.ensures.ran (YieldsList-from_slice w cc)
    (λ x b q k. search (rules, tests)) in
    let a_y : c.any-then-any.result ≡ list_any is_y w =
    any_from_yields_List is_y _ _ c.any-then-any.result c.any-then-any.ensures.ran (YieldsList-from_slice w cc)
    (λ x b q k. search (rules, tests)) in
    a_y ∙ fourth_of (nat_le (length w) 16) (list_all (λ b. is_x b || is_y b) w) (list_any is_x w) (list_any is_y w)
    few (sym all ∙ c.if-all.true) (sym an_x ∙ c.if-any.true)

pub returns-else-any : goal.returns-else-any
returns-else-any c =
    let w = c.args.word.now in
    let few : nat_le (length w) 16 ≡ true = grind (arith, nat_tests) in
    let all : c.all.result ≡ list_all (λ b. is_x b || is_y b) w =
    all_from_yields_List (λ b. is_x b || is_y b) _ _ c.all.result c.all.ensures.ran (YieldsList-from_slice w cc)
    (λ x b q k. search (rules, tests)) in
    let an_x : c.any.result ≡ list_any is_x w =
    any_from_yields_List is_x _ _ c.any.result c.any.ensures.ran (YieldsList-from_slice w cc)
    (λ x b q k. search (rules, tests)) in
    c.if-any.false ∙ third_of (nat_le (length w) 16) (list_all (λ b. is_x b || is_y b) w) (list_any is_x w)
    (list_any is_y w) few (sym all ∙ c.if-all.true) (sym an_x ∙ c.if-any.false)
