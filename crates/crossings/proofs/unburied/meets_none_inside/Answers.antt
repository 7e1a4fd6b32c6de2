use Rattle.std.proofs.{Common.{◌≡◌, false, true, of_z, to_z, w64, sym, ◌∙◌, subst}, lemmas.List.get_or_default}
use Rattle.lam_geom.specs.{declared.boxes.{MaskBox.MaskBox, MaskLayer.TheVariants.NB}, Gaps.Overlaps}
use Rattle.box_tree.proofs.Within.{margin_held}
use Rattle.crossing_model.specs.Boxes.{IsCommon, area_at, no_box}
use Rattle.crossings.proofs.{Grains.margin_passed, Settling.{apart_meets_none, settled_meets_none}}
use Rattle.crossings.proofs.unburied.meets_none_inside.Goals as goal

pub returns-then-not-overlaps : goal.returns-then-not-overlaps
returns-then-not-overlaps c = λ _ k inside met.
    let boxes = c.args.boxes.now in
    let number = c.args.number in
    let outer = c.args.outer.now in
    let own_is = get_or_default boxes number c.index-boxes-number.result no_box c.requires.among in
    let apart = λ (over : Overlaps (area_at boxes number) outer).
    let t : false ≡ true =
    c.if-not-overlaps.ensures.1 (subst (λ (b : MaskBox). Overlaps b.area outer) (sym own_is) over) in
    let none : ⊥ = cc in none in
    apart_meets_none c.args.tech.now boxes number k outer apart inside met

pub is_covered-requires-clause-margin : goal.is_covered-requires-clause-margin
is_covered-requires-clause-margin c = margin_passed c.window_margin.result c.window_margin.ensures.margin

pub returns-then-has_buried : goal.returns-then-has_buried
returns-then-has_buried c = λ t k inside met.
    let boxes = c.args.boxes.now in
    let number = c.args.number in
    let outer = c.args.outer.now in
    let shared = c.common_box.result in
    let margin = c.window_margin.ensures in
    let own_is = get_or_default boxes number c.index-boxes-number.result no_box c.requires.among in
    let common = subst (λ (b : MaskBox). IsCommon b.area outer shared) own_is c.common_box.ensures.common in
    let covered = (c.is_covered.ensures boxes NB c.requires.windows).0 t in
    settled_meets_none c.args.tech.now boxes number k outer shared (to_z w64 (of_z w64 c.window_margin.result))
    (sym c.has_buried.ensures ∙ c.if-has_buried.true) common covered
    (margin_held c.window_margin.result margin.margin ∙ margin.value) inside met
