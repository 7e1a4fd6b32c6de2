use denote.Enum.Bare.{differs_false, differs_true}
use Rattle.std.proofs.{Common.{◌≡◌, ◌∙◌, sym, ap, subst, rules}, lemmas.List.get_or_read}
use Rattle.lam_geom.specs.{contracts.boxes.MaskLayer.the_type, declared.boxes.MaskBox.MaskBox}
use Rattle.lam_geom.specs.{declared.boxes.MaskLayer.TheVariants.NC, Places.IsPlacedBox}
use Rattle.crossing_model.specs.Boxes.{no_box}
use Rattle.crossings.proofs.Grains.{grains_held}
use Rattle.flat_check.proofs.{Covered.odd_by_square, NearAreas.on_layer}
use Rattle.flat_check.proofs.singles.is_odd_cut.Goals as goal

pub returns : goal.returns
returns c =
    let tech = c.args.tech.now in
    let boxes = c.args.boxes.now in
    let a = c.args.a in
    let side = c.in_grains-side in
    let own_is = get_or_read boxes a _ c.requires.among c.index-boxes-a.is no_box in
    let on : c.index-boxes-a.result.layer ≡ NC = differs_false the_type (search rules) _ _ (sym c.if-ne.ensures) in
    let length = grains_held tech _ _ side.result c.numbers.ensures.sound.in_range.cut_size
    (ap (λ n. n.cut_size) c.numbers.ensures.value) side.ensures.not_negative side.ensures.within
    side.ensures.value in
    odd_by_square tech boxes a _ _ c.is_square.result own_is (on_layer boxes a _ NC c.requires.among own_is on) length
    c.is_square.ensures

pub returns-then-ne : goal.returns-then-ne
returns-then-ne c =
    let own_is = get_or_read c.args.boxes.now c.args.a _ c.requires.among c.index-boxes-a.is no_box in (
      λ t. let no : ⊥ = cc in absurd no,
      λ h. absurd
          (differs_true the_type _ _ (sym c.if-ne.ensures) (ap (λ (m : MaskBox). m.layer) own_is ∙ h.is_cut.on)),
    )

pub is_square-requires : goal.is_square-requires
is_square-requires c =
    let P : MaskBox → Type 0 = λ m. IsPlacedBox m.area in
    subst P (sym (get_or_read c.args.boxes.now c.args.a _ c.requires.among c.index-boxes-a.is no_box))
    (c.requires.searchable.placed c.args.a no_box c.requires.among)
