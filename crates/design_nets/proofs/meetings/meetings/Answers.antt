use Rattle.smallvec.specs.SmallVec.{SmallVec}
use Rattle.std.proofs.Common.{ℕ, List, ◌∷◌, [], ◌++◌, Vec, Global, length, take, get_or, set, ap, ◌∙◌, sym, subst}
use Rattle.std.proofs.{Common.arith, lemmas.List.take_more}
use Rattle.plan_model.specs.declared.plan.Match.{Match}
use Rattle.design_nets.specs.{declared.meetings.Meeting.Meeting, Listing.list_in, Meetings.{wire_net, meeting_of}}
use Rattle.design_nets.specs.Meetings.{row_of, AreMeetings}
use Rattle.design_nets.proofs.Table.{row_read, IsGrown, table_grown, meetings_more}
use Rattle.design_nets.proofs.meetings.meetings.Goals as goal

abbrev none : Match
none = record { a = 0; a_wire = 0; b = 0; b_wire = 0 }

abbrev meeting : ℕ → ℕ → Meeting
meeting n m = record { before = n; after = m }

pub push_to-requires : goal.push_to-requires
push_to-requires c =
    let met : Match = get_or c.args.matches.now c.loop-met.met-index none in
    let is = c.requires c.loop-met.met-index none c.loop-met-test.true in
    let square = c.loop-met.invariant.square in
    let lt = is.first in
    let rows = square.rows in
    let row = ap (λ (v : Vec (SmallVec Meeting) Global). length v.items) c.index_mut-row.ensures.value
    ∙ ap (λ (r : List (SmallVec Meeting)). length r)
    (row_read c.loop-met.table.items met.a c.index_mut-row.result.now (omega (arith, lt, rows))) in
    let columns = square.columns met.a lt in
    let second = is.second in
    omega (arith, row, columns, second)

pub loop-met-preserved : goal.loop-met-preserved
loop-met-preserved c =
    let nets = c.args.nets.now in
    let matches : List Match = c.args.matches.now in
    let i = c.loop-met.met-index in
    let met : Match = get_or matches i none in
    let is = c.requires i none c.loop-met-test.true in
    let table = c.loop-met.table.items in
    let lt = is.first in
    let rows = c.loop-met.invariant.square.rows in
    let here = c.index_mut-row.ensures.value in
    let row = ap (λ (v : Vec (SmallVec Meeting) Global). v.items) here
    ∙ row_read table met.a c.index_mut-row.result.now (omega (arith, lt, rows)) in
    let one = ap (λ n. meeting n c.wire_net-in-loop-met.result) c.wire_net.ensures
    ∙ ap (meeting (wire_net nets met.a met.a_wire)) c.wire_net-in-loop-met.ensures in
    let grown : IsGrown (row_of table met.a) c.push_to.new.lists.items met.b (meeting_of nets met) = record {
      counted = c.in_ok-push_to.ensures.counted ∙ ap (λ (r : List (SmallVec Meeting)). length r) row;
      grown = c.in_ok-push_to.ensures.grown
          ∙ (ap (λ (m : Meeting). list_in c.index_mut-row.result.now.items met.b ++ m ∷ []) one
          ∙ ap (λ (r : List (SmallVec Meeting)). list_in r met.b ++ meeting_of nets met ∷ []) row);
      kept = λ k ne. c.in_ok-push_to.ensures.kept k ne ∙ ap (λ (r : List (SmallVec Meeting)). list_in r k) row;
    } in
    let all = table_grown table met.a met.b c.push_to.new.lists (meeting_of nets met) (omega (arith, lt, rows)) grown in
    subst (λ (ms : List Match). AreMeetings nets ms (set table met.a c.push_to.new.lists))
    (sym (take_more matches i none c.loop-met-test.true))
    (meetings_more nets (take i matches) met table (set table met.a c.push_to.new.lists) c.loop-met.invariant all)
