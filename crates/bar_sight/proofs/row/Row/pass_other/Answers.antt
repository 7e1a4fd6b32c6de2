use Rattle.std.proofs.Common.{◌≡◌, ◌<◌, w64, FitsSigned, arith, rules, length}
use Rattle.std.proofs.lemmas.{Int.to_z-of_z, List.get_or_read, Option.MatchOption-at_some}
use Rattle.bar_rows.specs.{Rows.{bar_at, no_bar}}
use Rattle.bar_sight.specs.{Sight.IsScreen}
use Rattle.bar_sight.proofs.{Behind.late_more, Asked.end_fits}
use Rattle.bar_sight.proofs.row.Row.pass_other.Goals as goal

pub returns-then-hides_others : goal.returns-then-hides_others
returns-then-hides_others c = λ above low h.
    let row = c.args.self.now in
    let items = row.bars.items in
    let place = c.args.place in
    let far = c.args.far in
    let k = c.in-Some.k in
    let among = c.requires.among in
    let screen = MatchOption-at_some _ (IsScreen row place far) k c.in-Some.is c.requires.screen in
    let before = screen.before in
    let here : k < length items = omega (arith, before, among) in
    let k_is : c.index.result.now ≡ bar_at items k =
    get_or_read items k c.index.result.now here c.index.ensures no_bar in
    let late : FitsSigned w64 c.args.late = search rules in
    let known = c.hides_others.ensures.0 c.if-hides_others.true in
    let value = rw (
      to_z-of_z w64 c.args.late late,
      k_is,
      to_z-of_z w64 (bar_at items k).end (end_fits row k c.requires.row here),
    ) at c.max.ensures.value in
    rw (to_z-of_z w64 c.max.result (record { sfits = c.max.type_inv }), value)
    (late_more row place above far k c.args.late c.requires.row screen c.requires.other known.0 known.1 low h)
