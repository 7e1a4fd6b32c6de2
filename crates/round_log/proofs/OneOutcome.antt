-- The rounds of a plan come out in one way.
use Rattle.std.proofs.Common.{◌≡◌, ℕ, zero, suc, ◌≤◌, true, List, length, inl, inr, sym, ap, ◌∙◌, arith}
use Rattle.std.proofs.lemmas.Bool.{true≢false, cases_eq, cases_lt, cases_order}
use Rattle.cons_graph.specs.Constraints.{Constraints, IsConstraintGraph}
use Rattle.round_log.specs.{declared.log.Entry.Entry, Orders.NamesEachOnce, Outcomes.{EndInOneWay, StopInOneWay}}
use Rattle.round_log.specs.{Outcomes.DoNotEndAndStop, Rounds.{Schedule, schedule_of, after_rounds, Stops}}
use Rattle.round_log.{specs.WalksBack.cycle_of, proofs.{Ends.back_of, Least.{label_value, positive_cycle_excludes}}}
use Rattle.round_log.proofs.{Outcomes.{stop_cycle, has_cycle, ended_from_rounds, ended_least}, Planned.planned}
use Rattle.round_log.proofs.RoundSteps.{rounds_give, one_more_stopped}

pub one_end : (p : Schedule) → EndInOneWay p
one_end p r s rs ss a b =
    let same : a.before ≡ b.before = elim (cases_order a.before b.before) as (λ _. a.before ≡ b.before) [
      | inl e ↦ e
      | inr ne ↦ elim ne as (λ _. a.before ≡ b.before) [
        | inl lt ↦ absurd (b.busy_before a.before lt a.quiet)
        | inr gt ↦
            absurd (a.busy_before b.before gt b.quiet)
      ]
    ] in
    let rounds : r ≡ s = a.count ∙ ap suc same ∙ sym b.count in
    (rounds, sym a.reached ∙ ap (λ n. (after_rounds p n).raises) rounds ∙ b.reached)

-- rounds that have stopped stay as they are
stays : (p : Schedule) (n m : ℕ) → (after_rounds p n).stopped ≡ true → n ≤ m → after_rounds p m ≡ after_rounds p n
stays p n zero t le = let e : zero ≡ n = omega arith in ap (after_rounds p) e
stays p n (suc m) t le =
    elim (cases_eq n (suc m)) as (λ _. after_rounds p (suc m) ≡ after_rounds p n) [
      | inl e ↦ ap (after_rounds p) (sym e)
      | inr ne ↦
          let before : after_rounds p m ≡ after_rounds p n = stays p n m t (omega arith) in
          one_more_stopped p (after_rounds p m) (ap (λ s. s.stopped) before ∙ t) ∙ before
    ]

stops_below : (p : Schedule) (rs ss : List Entry) (a : Stops p rs) (b : Stops p ss) → a.rounds ≤ b.rounds → rs ≡ ss
stops_below p rs ss a b le = sym a.reached ∙ ap (λ s. s.raises) (sym (stays p a.rounds b.rounds a.stopped le))
    ∙ b.reached

pub one_stop : (p : Schedule) → StopInOneWay p
one_stop p rs ss a b = elim (cases_lt a.rounds b.rounds) as (λ _. rs ≡ ss) [
  | inl lt ↦ stops_below p rs ss a b (omega arith)
  | inr le ↦ sym (stops_below p ss rs b a le)
]

-- at a stop of a constraint graph's rounds there is a cycle, at an end a solution
pub end_or_stop : (g : Constraints) (order : List ℕ) → IsConstraintGraph g → NamesEachOnce g.vars order
    → DoNotEndAndStop (schedule_of g.edges order)
end_or_stop g order s o r rs ss end stop =
    let p : Schedule = schedule_of g.edges order in
    elim (rounds_give p (back_of g order) (length g.edges) (planned g order s o) stop.rounds) as (λ _. ⊥) [
      | inl going ↦ true≢false (sym stop.stopped ∙ going.0)
      | inr t ↦ (
          let raises : List Entry = (after_rounds p stop.rounds).raises in
          let cycle = has_cycle g.edges (cycle_of g.edges raises) (stop_cycle g (back_of g order) raises t.1) in
          positive_cycle_excludes g.edges cycle.0 (label_value rs) cycle.1
          (ended_least g order rs s (ended_from_rounds g order s o r rs end)).solves)
    ]
