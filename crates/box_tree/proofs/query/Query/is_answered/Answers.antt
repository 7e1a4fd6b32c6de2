use Rattle.std.proofs.Common.{ap, subst}
use Rattle.box_tree.{specs.Queries.{IsQuestion, reach_of}, proofs.Within.{margin_held, near_of, other_asked, covers_asked}}
use Rattle.box_tree.proofs.Within.{short_asked, outside_asked, apart_asked}
use Rattle.box_tree.proofs.query.Query.is_answered.Goals as goal

pub returns-in-NearOfOther : goal.returns-in-NearOfOther
returns-in-NearOfOther c =
    let query = c.args.self.now in
    let area = c.args.entry.now.area in
    other_asked query.question query.area c.args.entry.now c.in-NearOfOther.reach c.in-NearOfOther.owner
    c.in-NearOfOther.is (near_of query.question query.area area c.in-NearOfOther.reach (ap reach_of c.in-NearOfOther.is) c.requires.near)

pub returns-in-NearApart : goal.returns-in-NearApart
returns-in-NearApart c =
    let query = c.args.self.now in
    let area = c.args.entry.now.area in
    apart_asked query.question query.area c.args.entry.now c.in-NearApart.reach c.overlaps.result c.in-NearApart.is
    (near_of query.question query.area area c.in-NearApart.reach (ap reach_of c.in-NearApart.is) c.requires.near) c.overlaps.ensures

pub returns-in-Covers : goal.returns-in-Covers
returns-in-Covers c =
    let margin = c.in-Covers.margin in
    covers_asked c.args.self.now.question c.args.self.now.area c.args.entry.now margin _ c.contains_by.result
    c.in-Covers.is (margin_held margin (subst IsQuestion c.in-Covers.is c.requires.query.question))
    c.contains_by.ensures

pub returns-in-NearShort : goal.returns-in-NearShort
returns-in-NearShort c =
    let query = c.args.self.now in
    let margin = c.in-NearShort.margin in
    let test = c.contains_by-in-NearShort in
    short_asked query.question query.area c.args.entry.now c.in-NearShort.reach margin _ test.result c.in-NearShort.is
    (margin_held margin (subst IsQuestion c.in-NearShort.is c.requires.query.question))
    (near_of query.question query.area c.args.entry.now.area c.in-NearShort.reach (ap reach_of c.in-NearShort.is) c.requires.near)
    test.ensures

pub returns-in-NearOutside : goal.returns-in-NearOutside
returns-in-NearOutside c =
    let query = c.args.self.now in
    let margin = c.in-NearOutside.margin in
    let test = c.contains_by-in-NearOutside in
    outside_asked query.question query.area c.args.entry.now c.in-NearOutside.reach margin _ test.result
    c.in-NearOutside.is (margin_held margin (subst IsQuestion c.in-NearOutside.is c.requires.query.question))
    (near_of query.question query.area c.args.entry.now.area c.in-NearOutside.reach (ap reach_of c.in-NearOutside.is) c.requires.near)
    test.ensures
