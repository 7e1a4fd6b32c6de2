use Rattle.std.proofs.Common.{refl}
use Rattle.cif_lex.proofs.Turning.{plain_plain, plain_mirror, mirror_plain, mirror_mirror}
use Rattle.cif_lex.proofs.placement.turn_after.Goals as goal

pub returns-then-inner-lt4-clause-same : goal.returns-then-inner-lt4-clause-same
returns-then-inner-lt4-clause-same c =
    λ p. plain_plain c.args.outer c.args.inner _ p c.if-outer-lt4.true c.if-inner-lt4.true refl

pub returns-else-inner-lt4-clause-same : goal.returns-else-inner-lt4-clause-same
returns-else-inner-lt4-clause-same c =
    λ p. plain_mirror c.args.outer c.args.inner _ p c.if-outer-lt4.true c.if-inner-lt4.false refl

pub returns-then-inner-lt4-2-clause-same : goal.returns-then-inner-lt4-2-clause-same
returns-then-inner-lt4-2-clause-same c =
    λ p. mirror_plain c.args.outer c.args.inner _ p c.if-outer-lt4.false c.if-inner-lt4-2.true refl

pub returns-else-inner-lt4-2-clause-same : goal.returns-else-inner-lt4-2-clause-same
returns-else-inner-lt4-2-clause-same c =
    λ p. mirror_mirror c.args.outer c.args.inner _ p c.if-outer-lt4.false c.if-inner-lt4-2.false refl
