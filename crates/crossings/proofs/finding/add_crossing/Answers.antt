use Rattle.std.proofs.{Common.{of_z, to_z, w64, get_or, refl, sym, ap, subst}, lemmas.List.get_or_default}
use Rattle.lam_geom.specs.{declared.boxes.{MaskBox.MaskBox, MaskLayer.TheVariants.NI}, Gaps.Overlaps}
use Rattle.crossing_model.specs.Boxes.{no_box, area_at}
use Rattle.crossings.proofs.{Buried.common_read, Covered.implanted_by_cover, Grains.{grains_held, margin_of_grains}}
use Rattle.crossings.proofs.Grains.{margin_passed}
use Rattle.crossings.proofs.finding.add_crossing.Goals as goal

pub common_box-channel-requires-clause-overlap : goal.common_box-channel-requires-clause-overlap
common_box-channel-requires-clause-overlap c =
    let boxes = c.args.boxes.now in
    let pair = c.args.pair in
    let over = c.requires.meeting.overlap in
    let p_is = get_or_default boxes pair.poly c.index-boxes-pair.result no_box over.poly.among in
    let d_is = get_or_default boxes pair.diffusion c.index-boxes-pair-2.result no_box over.diffusion.among in
    let P : MaskBox → Type 0 = λ b. Overlaps b.area (area_at boxes pair.diffusion) in
    let Q : MaskBox → Type 0 = λ b. Overlaps (get_or boxes pair.poly c.index-boxes-pair.result).area b.area in
    subst Q (sym d_is) (subst P (sym p_is) over.overlap)

pub common_box-channel-requires-clause-first : goal.common_box-channel-requires-clause-first
common_box-channel-requires-clause-first c =
    c.requires.searchable.placed c.args.pair.poly c.index-boxes-pair.result c.requires.meeting.overlap.poly.among

pub common_box-channel-requires-clause-second : goal.common_box-channel-requires-clause-second
common_box-channel-requires-clause-second c =
    c.requires.searchable.placed c.args.pair.diffusion c.index-boxes-pair-2.result
    c.requires.meeting.overlap.diffusion.among

pub is_covered-depletion-requires-clause-margin : goal.is_covered-depletion-requires-clause-margin
is_covered-depletion-requires-clause-margin c =
    let margin = c.in_grains-margin in
    margin_passed margin.result (margin_of_grains margin.result margin.ensures.not_negative margin.ensures.within)

pub returns : goal.returns
returns c =
    let tech = c.args.tech.now in
    let boxes = c.args.boxes.now in
    let pair = c.args.pair in
    let channel = c.common_box-channel.result in
    let margin = c.in_grains-margin in
    let numbers = c.numbers.ensures in
    let meeting = c.requires.meeting in
    let depletion = c.is_covered-depletion.result in
    let p_is = get_or_default boxes pair.poly c.index-boxes-pair.result no_box meeting.overlap.poly.among in
    let d_is = get_or_default boxes pair.diffusion c.index-boxes-pair-2.result no_box meeting.overlap.diffusion.among in
    let by_implant = grains_held tech _ _ margin.result numbers.sound.in_range.extension_implant
    (ap (λ n. n.extension_implant) numbers.value) margin.ensures.not_negative margin.ensures.within
    margin.ensures.value in
    record {
      added = record {
        poly = pair.poly;
        diffusion = pair.diffusion;
        axis = c.args.axis;
        channel = channel;
        depletion = depletion;
      };
      items = c.in_ok-push.ensures.items;
      is_crossing = record {
        meeting = meeting;
        along = c.requires.along;
        channel = common_read boxes pair.poly pair.diffusion _ _ channel p_is d_is c.common_box-channel.ensures.common;
        depletion = implanted_by_cover tech boxes channel (to_z w64 (of_z w64 margin.result)) depletion by_implant
            (c.is_covered-depletion.ensures boxes NI c.requires.implants);
      };
      poly = refl;
      diffusion = refl;
    }
