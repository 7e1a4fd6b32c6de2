use Rattle.std.proofs.{Common.{◌≡◌, to_z, of_z, w64, sym, subst, arith}, lemmas.Int.ints}
use Rattle.sym_items.specs.declared.items.End.{End}
use Rattle.expand.specs.Bounds.{IsNear}
use Rattle.expand.proofs.inequalities.push_extent.Goals as goal

pub push_between-requires : goal.push_between-requires
push_between-requires c =
    let P : End → Type 0 = λ e. IsNear e.off in
    let near : IsNear c.least.result = subst IsNear (sym c.least.ensures) c.requires.least in
    let low = near.low in
    let high = near.high in
    let same : to_z w64 (of_z w64 c.least.result) ≡ c.least.result = omega (arith, ints, low, high) in
    record {
      len = subst IsNear (sym same) near;
      low = subst P (sym c.low-low.ensures) c.requires.low;
      high = subst P (sym c.high-high.ensures) c.requires.high;
    }
