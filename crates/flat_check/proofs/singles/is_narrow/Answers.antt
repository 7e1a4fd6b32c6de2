use Rattle.std.proofs.{Common.{refl, sym, subst}, lemmas.List.get_or_read}
use Rattle.lam_geom.specs.{declared.boxes.MaskBox.MaskBox, Places.IsPlacedBox}
use Rattle.crossing_model.specs.Boxes.{no_box}
use Rattle.crossings.proofs.Grains.{grains_held}
use Rattle.flat_check.proofs.Shapes.{narrow_by_width}
use Rattle.flat_check.proofs.singles.is_narrow.Goals as goal

pub returns-in-Some : goal.returns-in-Some
returns-in-Some c =
    let tech = c.args.tech.now in
    let least = c.in_grains in
    let width = c.in-Some.ensures in
    let own_is = get_or_read c.args.boxes.now c.args.a _ c.requires.among c.index-boxes-a.is no_box in
    let length = grains_held tech c.in-Some.width c.in-Some.width least.result width.length refl
    least.ensures.not_negative least.ensures.within least.ensures.value in
    narrow_by_width tech c.args.boxes.now c.args.a _ c.in-Some.width _ c.is_narrower.result c.requires.among own_is
    (sym width.value) length c.is_narrower.ensures

pub is_narrower-requires : goal.is_narrower-requires
is_narrower-requires c =
    let P : MaskBox → Type 0 = λ m. IsPlacedBox m.area in
    subst P (sym (get_or_read c.args.boxes.now c.args.a _ c.requires.among c.index-boxes-a.is no_box))
    (c.requires.searchable.placed c.args.a no_box c.requires.among)
