use Rattle.std.proofs.Common.{◌≡◌, ℕ, Bool, MatchBool, subst, arith}
use Rattle.coarse_grid.{specs.Nearby.{HasNear, IsNearOf}, proofs.Nears.by_lt}
use Rattle.coarse_grid.proofs.nearby.first_of.Goals as goal

pub loop-i-preserved : goal.loop-i-preserved
loop-i-preserved c = λ m k lt near.
    let none = λ (i : ℕ). (k : ℕ) → IsNearOf c.args.tech.now c.args.coords.now c.args.items.now
    c.in_ok-tree.tree.class i k → ⊥ in
    by_lt m c.loop-i.i (λ before. c.loop-i.invariant m k before near)
    (λ at. let same : c.loop-i.i ≡ m = omega arith in
    subst none same (subst (λ (b : Bool). MatchBool b (HasNear c.args.tech.now c.args.coords.now c.args.items.now
    c.loop-i.i) (none c.loop-i.i)) c.if-has_near.false c.has_near.ensures) k near)
