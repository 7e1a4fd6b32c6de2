use Rattle.std.proofs.{Common.{arith}, lemmas.Int.{ints}}
use Rattle.bar_rows.specs.Rows.{bar_at}
use Rattle.bar_sight.proofs.{Asked.{if_none, other_asked, start_fits}, Widths.max_before}
use Rattle.bar_sight.proofs.row.Row.other_screen.Goals as goal

pub returns : goal.returns
returns c =
    let row = c.args.self.now in
    let same = c.as_slice-bars.ensures.value in
    let place = c.args.place in
    let far = c.args.far in
    let a = bar_at row.bars.items place in
    let b = bar_at row.bars.items far in
    let before = c.requires.in_order in
    let among = c.requires.among in
    let first_fits = start_fits row place c.requires.row (omega (arith, before, among)) in
    let second_fits = start_fits row far c.requires.row among in
    let max = rw same at c.max.ensures.value in
    if_none c.screen_in.result _ _ _ (λ none k other screen.
    let behind_first = screen.screens.first.meet.0 in
    let behind_second = screen.screens.second.meet.1 in
    none k
    (other_asked row c.args.place c.args.far k _ _ c.requires.row c.requires.begun c.requires.among screen other
    (max_before c.max.result a.start b.start (bar_at row.bars.items k).end (record { sfits = c.max.type_inv })
    first_fits second_fits max behind_first behind_second) (omega (arith, ints))) screen)
    c.screen_in.ensures
