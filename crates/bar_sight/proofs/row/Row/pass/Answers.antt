use Rattle.std.proofs.Common.{◌≡◌, ◌∙◌, sym, ap, ◌<◌, w64, FitsSigned, arith, rules, length}
use Rattle.std.proofs.lemmas.{Int.to_z-of_z, List.get_or_read, Option.MatchOption-at_some}
use Rattle.bar_rows.specs.{declared.bars.Bar.Bar, Rows.{bar_at, no_bar}}
use Rattle.bar_sight.specs.Sight.{IsScreen}
use Rattle.bar_sight.proofs.{Behind.passed_more, Asked.end_fits}
use Rattle.bar_sight.proofs.row.Row.pass.Goals as goal

pub returns-then-hides_mains : goal.returns-then-hides_mains
returns-then-hides_mains c = λ above low h.
    let row = c.args.self.now in
    let items = row.bars.items in
    let place = c.args.place in
    let far = c.args.far in
    let k = c.in-Some.k in
    let among = c.requires.among in
    let screen = MatchOption-at_some _ (IsScreen row place far) k c.in-Some.is c.requires.screen in
    let before = screen.before in
    let here : k < length items = omega (arith, before, among) in
    let far_is : c.index.result.now ≡ bar_at items far = get_or_read items far c.index.result.now among c.index.ensures
    no_bar in
    let k_is : c.index-then-hides_mains.result.now ≡ bar_at items k =
    get_or_read items k c.index-then-hides_mains.result.now here c.index-then-hides_mains.ensures no_bar in
    let late : FitsSigned w64 c.args.passed.late = search rules in
    let known = c.hides_mains.ensures.0 c.if-hides_mains.true in
    let value = rw (
      to_z-of_z w64 c.args.passed.late late,
      k_is,
      to_z-of_z w64 (bar_at items k).end (end_fits row k c.requires.row here),
    ) at c.max-late.ensures.value in
    let first = rw far_is at c.unwrap_or-first.ensures in
    rw (to_z-of_z w64 c.max-late.result (record { sfits = c.max-late.type_inv }), first)
    (passed_more row place above far k c.args.passed c.max-late.result c.requires.row screen c.requires.main known.0
    known.1 low (sym first ∙ (c.if-first-key.true ∙ ap (λ (b : Bar). b.key) far_is)) value h)
