use Rattle.std.proofs.Common.{ℤ, refl, subst}
use Rattle.lam_geom.specs.Gaps.{EnclosesSpan}
use Rattle.box_tree.proofs.Within.{margin_held}
use Rattle.box_tree.proofs.bounds.all_cover.Goals as goal

pub returns-then-all_enclose : goal.returns-then-all_enclose
returns-then-all_enclose c = λ t own r.
    let same = margin_held c.args.margin c.requires.margin in
    let area = c.args.area.now in (
      subst (λ (m : ℤ). EnclosesSpan own.x area.x m) same (c.if-all_enclose.ensures refl own.x r.0),
      subst (λ (m : ℤ). EnclosesSpan own.y area.y m) same (c.all_enclose-then-all_enclose.ensures t own.y r.1),
    )
