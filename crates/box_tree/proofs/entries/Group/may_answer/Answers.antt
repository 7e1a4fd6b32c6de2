use Rattle.std.proofs.Common.{subst}
use Rattle.box_tree.{specs.Queries.IsQuestion, proofs.Within.{margin_held, none_covers, none_short, none_outside}}
use Rattle.box_tree.proofs.entries.Group.may_answer.Goals as goal

pub returns-in-Covers : goal.returns-in-Covers
returns-in-Covers c = λ f entry b holds.
    let margin = c.in-Covers.margin in
    none_covers c.args.query.now.question c.args.query.now.area c.args.self.now.outer entry margin _
    c.contains_by.result c.in-Covers.is
    (margin_held margin (subst IsQuestion c.in-Covers.is c.requires.query.question)) c.contains_by.ensures b.outer
    f holds

pub returns-in-NearShort : goal.returns-in-NearShort
returns-in-NearShort c = λ f entry b holds.
    let margin = c.in-NearShort.margin in
    none_short c.args.query.now.question c.args.query.now.area c.args.self.now.inner entry _ margin _
    c.all_cover.result c.in-NearShort.is
    (margin_held margin (subst IsQuestion c.in-NearShort.is c.requires.query.question)) c.all_cover.ensures
    b.inner f holds

pub returns-in-NearOutside : goal.returns-in-NearOutside
returns-in-NearOutside c = λ f entry b holds.
    let margin = c.in-NearOutside.margin in let test = c.contains_by-in-NearOutside in
    none_outside c.args.query.now.question c.args.query.now.area c.args.self.now.outer entry _ margin _ test.result
    c.in-NearOutside.is (margin_held margin (subst IsQuestion c.in-NearOutside.is c.requires.query.question))
    test.ensures b.outer f holds
