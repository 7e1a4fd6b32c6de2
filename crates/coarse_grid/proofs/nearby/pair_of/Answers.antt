use Rattle.std.proofs.Common.{◌≡◌, ◌∙◌, true, false, sym, arith}
use Rattle.coarse_grid.{specs.Clash.is_near_at, proofs.{Nears.clean_not_near, FirstNear.{none_before, some_after}}}
use Rattle.coarse_grid.proofs.nearby.pair_of.Goals as goal

pub returns-then-first-items-clause-none : goal.returns-then-first-items-clause-none
returns-then-first-items-clause-none c = none_before c.args.tech.now c.args.coords.now c.args.items.now c.args.first
    c.requires.first (omega arith)

pub returns-in_err-other-clause-none : goal.returns-in_err-other-clause-none
returns-in_err-other-clause-none c =
    let within = c.requires.first.within in
    absurd (some_after c.args.tech.now c.args.coords.now c.args.items.now c.args.first c.requires.first (omega arith)
    c.in_err-other.ensures.none)

pub returns-clause-clean : goal.returns-clause-clean
returns-clause-clean c = λ clean.
    let some = c.in_ok-other.ensures.some in
    let apart : is_near_at c.args.tech.now c.args.coords.now c.args.items.now c.args.first c.in_ok-other.other ≡ false =
    clean_not_near c.args.tech.now c.args.coords.now c.args.items.now c.args.first c.in_ok-other.other clean
    (omega (arith, some.0, some.1)) some.1 in
    let near : is_near_at c.args.tech.now c.args.coords.now c.args.items.now c.args.first c.in_ok-other.other ≡ true =
    some.2 in
    absurd (let both : true ≡ false = sym near ∙ apart in cc)
