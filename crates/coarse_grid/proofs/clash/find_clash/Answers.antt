use Rattle.std.proofs.Common.{◌≡◌, ◌∙◌, ℕ, true, false, sym, arith, ◌<◌, subst}
use Rattle.coarse_grid.{specs.Clash.is_near_at, proofs.Nears.{by_lt, all_clean, clean_not_near}}
use Rattle.coarse_grid.proofs.clash.find_clash.Goals as goal

pub loop-i-preserved : goal.loop-i-preserved
loop-i-preserved c = λ k m below after among.
    by_lt k c.loop-i.i (λ before. c.loop-i.invariant k m before after among)
    (λ at. let same : c.loop-i.i ≡ k = omega arith in
    let h = c.in_default.ensures.none in
    let F : ℕ → Type 0 = λ i. i < m → is_near_at c.args.tech.now c.args.coords.now c.args.items.now i m ≡ false in
    subst F same (λ lt. h m lt among) after)

pub returns-clause-none : goal.returns-clause-none
returns-clause-none c = all_clean c.args.tech.now c.args.coords.now c.args.items.now
    (λ i j below among. c.loop-i.invariant i j (omega (arith, below, among)) below among)

pub returns-in-Some-clause-clean : goal.returns-in-Some-clause-clean
returns-in-Some-clause-clean c = λ clean.
    let some = c.in-Some.ensures.some in
    let apart : is_near_at c.args.tech.now c.args.coords.now c.args.items.now c.loop-i.i c.in-Some.j ≡ false =
    clean_not_near c.args.tech.now c.args.coords.now c.args.items.now c.loop-i.i c.in-Some.j clean
    c.loop-i-test.true some.1 in
    let near : is_near_at c.args.tech.now c.args.coords.now c.args.items.now c.loop-i.i c.in-Some.j ≡ true = some.2 in
    absurd (let both : true ≡ false = sym near ∙ apart in cc)
