use Rattle.std.proofs.Common.{of_z, to_z, w64, ◌∙◌}
use Rattle.lam_geom.specs.declared.boxes.MaskLayer.TheVariants.{NB}
use Rattle.box_tree.proofs.Within.{margin_held}
use Rattle.crossings.proofs.{Buried.buried_by_window, Grains.margin_passed}
use Rattle.crossings.proofs.windows.is_buried.Goals as goal

pub is_covered-requires-clause-margin : goal.is_covered-requires-clause-margin
is_covered-requires-clause-margin c = margin_passed c.window_margin.result c.window_margin.ensures.margin

pub returns-in-Some : goal.returns-in-Some
returns-in-Some c =
    let shared = c.in-Some.ensures.shared in
    let margin = c.window_margin.ensures in
    buried_by_window c.args.tech.now c.args.boxes.now c.args.poly c.args.diffusion c.in-Some.shared
    (to_z w64 (of_z w64 c.window_margin.result)) c.is_covered.result shared.has_buried shared.overlap
    shared.common
    (margin_held c.window_margin.result margin.margin ∙ margin.value)
    (c.is_covered.ensures c.args.boxes.now NB c.requires.windows)

pub returns-in-None : goal.returns-in-None
returns-in-None c = (λ t. absurd cc, λ h. absurd (c.in-None.ensures.shared h))
