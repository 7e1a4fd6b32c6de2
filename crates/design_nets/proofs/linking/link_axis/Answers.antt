use Rattle.smallvec.specs.SmallVec.{SmallVec}
use Rattle.std.proofs.Common.{ℕ, ◌+◌, List, length, get_or, Contains, Vec, Global, ap, ◌∙◌, sym, subst, arith}
use Rattle.std.proofs.lemmas.List.Elements.{Contains-get_or}
use Rattle.plan_model.specs.{declared.plan.Match.Match, Plan.matches_in}
use Rattle.design_nets.specs.{declared.meetings.Meeting.Meeting, Instances.master_no, Joining.own_net, Linking.AreAdded}
use Rattle.design_nets.{specs.{Linking.IsMeetLink, Meetings.AreMeetings}, proofs.AxisLinks.{read_row, read_list}}
use Rattle.design_nets.proofs.AxisLinks.{master_lt, meeting_before, meeting_after, none_linked, axis_linked}
use Rattle.design_nets.proofs.{NetNumbers.number_small, linking.link_axis.Goals.{in-Some+in_ok-link_listed, in_default}}
use Rattle.design_nets.proofs.linking.link_axis.Goals as goal

abbrev row_items : Vec (SmallVec Meeting) Global → List (SmallVec Meeting)
row_items v = v.items

abbrev list_items : SmallVec Meeting → List Meeting
list_items v = v.items

pub bounds-row-instances : goal.bounds-row-instances
bounds-row-instances c =
    let lt = master_lt c.args.axis c.args.plan.now c.args.nets.now c.args.instances.now c.requires.nets in
    let row = read_row c.in_ok-table.table.items (length c.args.nets.now) (master_no c.args.instances.now c.loop-s.s)
    c.index.result.now c.as_slice-row.result.now c.in_ok-table.ensures.square (lt c.loop-s.s c.loop-s-test.true)
    (c.as_slice-row.ensures.value ∙ ap row_items c.index.ensures) in
    let there = lt c.in-Some.t c.in-Some.ensures.within in
    omega (arith, there, row.1)

pub link_listed-requires : goal.link_listed-requires
link_listed-requires c = λ k d lt_list. (
    let axis = c.args.axis in
    let plan = c.args.plan.now in
    let nets = c.args.nets.now in
    let instances = c.args.instances.now in
    let s = c.loop-s.s in
    let t = c.in-Some.t in
    let table = c.in_ok-table.table.items in
    let m_s = master_no instances s in
    let m_t = master_no instances t in
    let is : AreMeetings nets (matches_in axis plan) table =
    subst (λ (ms : List Match). AreMeetings nets ms table) c.matches_along.ensures c.in_ok-table.ensures in
    let lt = master_lt axis plan nets instances c.requires.nets in
    let row = read_row table (length nets) m_s c.index.result.now c.as_slice-row.result.now is.square
    (lt s c.loop-s-test.true) (c.as_slice-row.ensures.value ∙ ap row_items c.index.ensures) in
    let there = lt t c.in-Some.ensures.within in
    let list = read_list table m_s m_t c.index-row-instances.result c.as_slice-row.result.now
    c.as_slice-list.result.now row.0 (omega (arith, there, row.1))
    (c.as_slice-list.ensures ∙ ap list_items c.index-row-instances.is) in
    let m : Meeting = get_or c.as_slice-list.result.now k d in
    let met =
    is.sound m_s m_t m
    (subst (λ (ms : List Meeting). Contains ms m) list
    (Contains-get_or c.as_slice-list.result.now k d lt_list)) in (
      number_small nets instances c.args.firsts.now (own_net s m.before) c.requires.firsts
          (meeting_before axis plan nets instances c.requires.nets s t m c.loop-s-test.true met),
      number_small nets instances c.args.firsts.now (own_net t m.after) c.requires.firsts
          (meeting_after axis plan nets instances c.requires.nets s t m c.in-Some.ensures.within met),
    ))

pub loop-s-preserved : goal.loop-s-preserved
loop-s-preserved c =
    let axis = c.args.axis in
    let plan = c.args.plan.now in
    let nets = c.args.nets.now in
    let instances = c.args.instances.now in
    let s = c.loop-s.s in
    let table = c.in_ok-table.table.items in
    let is : AreMeetings nets (matches_in axis plan) table =
    subst (λ (ms : List Match). AreMeetings nets ms table) c.matches_along.ensures c.in_ok-table.ensures in
    let lt = master_lt axis plan nets instances c.requires.nets in
    let P : Vec (ℕ × ℕ) Global → Type 0 =
    λ links. AreAdded (IsMeetLink axis plan nets instances c.args.firsts.now (s + 1)) c.args.links.now.items
    links.items in
    elim c.match-next_instance.branch [
      | in-Some+in_ok-link_listed w ↦
          (let t = w.in-Some.t in
          let m_s = master_no instances s in
          let m_t = master_no instances t in
          let row = read_row table (length nets) m_s w.index.result.now w.as_slice-row.result.now is.square
          (lt s c.loop-s-test.true) (w.as_slice-row.ensures.value ∙ ap row_items w.index.ensures) in
          let there = lt t w.in-Some.ensures.within in
          let list = read_list table m_s m_t w.index-row-instances.result w.as_slice-row.result.now
          w.as_slice-list.result.now row.0 (omega (arith, there, row.1))
          (w.as_slice-list.ensures ∙ ap list_items w.index-row-instances.is) in
          subst P (sym w.links-is)
          (axis_linked axis plan nets instances c.requires.nets c.args.firsts.now s c.loop-s-test.true table t
          w.as_slice-list.result.now c.args.links.now.items c.loop-s.links.items w.link_listed.new.links.items is
          w.in-Some.ensures.within
          w.in-Some.ensures.found list c.loop-s.invariant w.in_ok-link_listed.ensures))
      | in_default w ↦
          subst P (sym w.links-is)
          (none_linked axis plan nets instances c.requires.nets c.args.firsts.now s c.loop-s-test.true
          c.args.links.now.items c.loop-s.links.items w.in_default.ensures.none c.loop-s.invariant)
    ]
