use Rattle.std.proofs.{Common.{◌∙◌, arith}, lemmas.Int.{ints}}
use Rattle.bar_rows.specs.{Contacts.ShareContact, Rows.bar_at}
use Rattle.bar_sight.proofs.Asked.{main_asked, not_its_key, apart_of_second, apart_of_first, start_fits}
use Rattle.bar_sight.proofs.Widths.{max_before}
use Rattle.bar_sight.proofs.row.Row.main_query.Goals.{then-first, else-first}
use Rattle.bar_sight.proofs.row.Row.main_query.Goals as goal

pub returns-clause-asks : goal.returns-clause-asks
returns-clause-asks c =
    let row = c.args.self.now in
    let place = c.args.place in
    let far = c.args.far in
    let a = bar_at row.bars.items place in
    let b = bar_at row.bars.items far in
    let same = c.as_slice-bars.ensures.value in
    let before = c.requires.in_order in
    let among = c.requires.among in
    let first_fits = start_fits row place c.requires.row (omega (arith, before, among)) in
    let second_fits = start_fits row far c.requires.row among in
    let max = rw same at c.max.ensures.value in
    λ k main screen.
    let behind_first = screen.screens.first.meet.0 in
    let behind_second = screen.screens.second.meet.1 in
    let k_bar = bar_at row.bars.items k in
    let apart : ShareContact c.if-first.contacts k_bar.contacts → ⊥ = elim c.if-first.branch [
      | then-first w ↦ apart_of_second row.self_rule a b k_bar c.if-first.contacts main screen.screens
          (let is = rw same at w.contacts_of-contacts.ensures in w.contacts-is ∙ is)
      | else-first w ↦ apart_of_first row.self_rule a b k_bar c.if-first.contacts (rw same at w.if-first.false) main
          screen.screens (let is = w.contacts-is in rw same at is)
    ] in
    main_asked row place far k _ _ _ _ _ c.requires.row c.requires.begun c.requires.among screen main
    (max_before c.max.result a.start b.start k_bar.end (record { sfits = c.max.type_inv }) first_fits second_fits max
    behind_first behind_second) (omega (arith, ints)) (rw same at c.key_of.ensures)
    (rw same at c.key_of-2.ensures) apart

pub returns-clause-not_far : goal.returns-clause-not_far
returns-clause-not_far c = λ asked.
    let same = c.as_slice-bars.ensures.value in
    not_its_key (bar_at c.args.self.now.bars.items c.args.far) _ (c.requires.row.only_mains c.args.far asked.0)
    (rw same at c.key_of-2.ensures) asked.1.second
