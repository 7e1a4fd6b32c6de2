-- Logs of rounds that end: one with all their raises is such a log, and any two of one graph and order tell alike.
use Rattle.std.proofs.Common.{◌≡◌, ℕ, Bool, List, [], ◌∷◌, length, refl, sym, ap, ◌∙◌, arith}
use Rattle.round_log.specs.{declared.log.{Entry.Entry, Log.Log}, Looks.latest, Logs.{raises_in, ComeFromOlder}}
use Rattle.round_log.specs.{Logs.{HoldsRaises, IsLogOfRounds}, Orders.NamesEachOnce, Rounds.{schedule_of, EndsInRound}}
use Rattle.round_log.{specs.Told.{told_by, TellAlike}, proofs.{Raises.latest_in_log, Parts.IsLog, Least.edge_among}}
use Rattle.round_log.proofs.{Ends.back_of, Outcomes.{IsEnded, ended_from_rounds}, OneOutcome.one_end}
use Rattle.cons_graph.specs.{Constraints.{Constraints, IsConstraintGraph}, EdgeNumbers.edge_at}

-- each raise of a log is of one of the variables and comes from an older entry
pub log_older : (g : Constraints) (back : ℕ → Bool) (rs : List Entry) → IsConstraintGraph g
    → IsLog (edge_at g.edges) back (length g.edges) rs → ComeFromOlder g.vars rs
log_older g back [] s l = tt
log_older g back (r ∷ rs) s l =
    let var : r.var ≡ (edge_at g.edges r.edge).to = l.0.raise.var_is in
    let prev : r.prev ≡ latest rs (edge_at g.edges r.edge).from = l.0.raise.prev_is in
    let inside = (edge_among g s r.edge l.0.among).to_in_range in (
      omega (arith, var, inside),
      omega (arith, prev, latest_in_log rs (edge_at g.edges r.edge).from),
      log_older g back
          rs s l.1,
    )

-- a log with all raises of the rounds
pub whole_log : (g : Constraints) (order : List ℕ) (rounds : ℕ) (log : Log) → IsConstraintGraph g
    → NamesEachOnce g.vars order → HoldsRaises g.vars log (raises_in log)
    → EndsInRound (schedule_of g.edges order) rounds (raises_in log) → IsLogOfRounds g order rounds log
whole_log g order rounds log s o h e =
    let end : IsEnded g order (raises_in log) = ended_from_rounds g order s o rounds (raises_in log) e in
    record {
      holds = h;
      older = log_older g (back_of g order) (raises_in log) s end.log;
      raises = raises_in log;
      ended = e;
      alike = λ v. refl;
    }

-- two logs of the rounds of a graph and an order: the rounds end in one round, and the logs tell alike
pub record AreLogsAlike (rounds rounds' : ℕ) (log log' : Log) : Type 0 where
  pub same_rounds : rounds ≡ rounds'
  pub alike : TellAlike (raises_in log) (raises_in log')

pub logs_alike : (g : Constraints) (order : List ℕ) (rounds rounds' : ℕ) (log log' : Log)
    → IsLogOfRounds g order rounds log → IsLogOfRounds g order rounds' log' → AreLogsAlike rounds rounds' log log'
logs_alike g order rounds rounds' log log' a b =
    let one = one_end (schedule_of g.edges order) rounds rounds' a.raises b.raises a.ended b.ended in
    record {
      same_rounds = one.0;
      alike = λ v. a.alike v ∙ ap (λ rs. told_by rs (latest rs v)) one.1 ∙ sym (b.alike v);
    }
