use denote.Enum.Bare.{differs_false}
use Rattle.std.proofs.{Common.{◌≡◌, refl, sym, ◌∙◌, rules}, lemmas.List.get_or_read}
use Rattle.lam_geom.specs.{contracts.boxes.MaskLayer.the_type, declared.boxes.MaskLayer.TheVariants.{ND, NP}}
use Rattle.crossing_model.specs.Boxes.{no_box}
use Rattle.crossings.proofs.Buried.{overlap_read, common_read}
use Rattle.crossings.proofs.windows.shared_area.Goals as goal

pub returns-clause-shared : goal.returns-clause-shared
returns-clause-shared c =
    let boxes = c.args.boxes.now in
    let p = c.args.poly in
    let d = c.args.diffusion in
    let p_is = get_or_read boxes p _ c.requires.poly c.index-boxes-poly.is no_box in
    let d_is = get_or_read boxes d _ c.requires.diffusion c.index-boxes-diffusion.is no_box in
    let p_on : c.index-boxes-poly.result.layer ≡ NP = differs_false the_type (search rules) _ _ (sym c.if-ne.ensures) in
    let d_on : c.index-boxes-diffusion.result.layer ≡ ND =
    differs_false the_type (search rules) _ _ (sym c.if-ne-2.ensures) in
    record {
      has_buried = sym c.has_buried.ensures ∙ c.if-not-has_buried.false;
      overlap = overlap_read boxes p d _ _ c.requires.poly c.requires.diffusion p_is d_is p_on d_on
          (c.if-not-overlaps.ensures.0 refl);
      common = common_read boxes p d _ _ _ p_is d_is c.common_box.ensures.common;
    }
