use Rattle.std.proofs.{Common.{false, true, refl}, lemmas.List.get_or_default}
use Rattle.crossing_model.specs.Boxes.{no_box}
use Rattle.crossings.proofs.{Facing.{overlap_by_area, area_overlap}, Meetings.{meets_overlap, overlaps_read}}
use Rattle.crossings.proofs.pairs.meets.Goals as goal

pub returns-then-not-overlaps : goal.returns-then-not-overlaps
returns-then-not-overlaps c =
    let boxes = c.args.boxes.now in
    let a_is = get_or_default boxes c.args.a c.index-boxes-a.result no_box c.requires.facing.a_among in
    let b_is = get_or_default boxes c.args.b c.index-boxes-b.result no_box c.requires.facing.b_among in
    let read = overlaps_read boxes c.args.a c.args.b _ _ false a_is b_is c.if-not-overlaps.ensures in (
      λ t. absurd cc,
      λ h.
          read.1 (area_overlap boxes c.args.a c.args.b (meets_overlap c.args.tech.now boxes c.args.a c.args.b h)),
    )

pub pair_of-pair-requires : goal.pair_of-pair-requires
pair_of-pair-requires c =
    let boxes = c.args.boxes.now in
    let a_is = get_or_default boxes c.args.a c.index-boxes-a.result no_box c.requires.facing.a_among in
    let b_is = get_or_default boxes c.args.b c.index-boxes-b.result no_box c.requires.facing.b_among in
    let read = overlaps_read boxes c.args.a c.args.b _ _ true a_is b_is c.if-not-overlaps.ensures in
    overlap_by_area boxes c.args.a c.args.b c.requires.facing (read.0 refl)
