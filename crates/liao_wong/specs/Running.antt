use Rattle.std.specs.Prelude.{◌≡◌, ℕ, ◌<◌, ◌≤◌, false, ℤ, Option, None, Some, List, [], length, All}
use Rattle.round_log.specs.{declared.log.{Entry.Entry, Log.Log}, Logs.{IsLogOfRounds, raises_in}, Orders.NamesEachOnce}
use Rattle.round_log.specs.{Rounds.{schedule_of, after_rounds, IsQuietAfter, Stops, EndsInRound}, Looks.label}
use Rattle.round_log.specs.{Looks.backward_numbers, Told.TellAlike}
use Rattle.round_log.proofs.{Parts.IsStopAt, Alike.NewestAlike, Ends.{GoingOf, LogOf, back_of}}
use Rattle.cons_graph.specs.{Constraints.{Constraints, IsConstraintGraph}, Solutions.{IsLeastSolution, value_of}}
use Rattle.cons_graph.specs.EdgeNumbers.{edge_at}
use Rattle.liao_wong.specs.{Held.Held, Answers.IsWithinLimit}

-- a working log for the graph's variables without a raise
pub record StartsEmpty (g : Constraints) (held : Held) : Type 0 where
  pub shape : IsConstraintGraph g
  pub vars : held.vars ≡ g.vars
  pub none : held.raises ≡ []

-- a log at which the rounds have stopped: its newest raise has the chain of the one that stopped them
pub record IsStoppedLog (g : Constraints) (order : List ℕ) (raises : List Entry) : Type 0 where
  pub at_raise : IsStopAt (edge_at g.edges) (back_of g order) (length g.edges) raises
  pub all : List Entry
  pub stops : Stops (schedule_of g.edges order) all
  pub newest : NewestAlike raises all

-- a log that tells what all raises of the rounds tell, and has all of them where it is never swept
pub record IsLogFor (g : Constraints) (order : List ℕ) (floor : Option ℕ) (raises all : List Entry) : Type 0 where
  pub log : LogOf g order raises
  pub alike : TellAlike raises all
  pub whole : floor ≡ None → raises ≡ all

-- where n rounds have come that did not stop, each with a raise in its backward part
pub record HasCome (g : Constraints) (order : List ℕ) (n : ℕ) (floor : Option ℕ) (held : Held) : Type 0 where
  pub vars : held.vars ≡ g.vars
  pub all : List Entry
  pub here : after_rounds (schedule_of g.edges order) n ≡ record { raises = all; stopped = false }
  pub going : GoingOf g order n all
  pub held_for : IsLogFor g order floor held.raises all
  pub busy : (m : ℕ) → m < n → IsQuietAfter (schedule_of g.edges order) m → ⊥
  pub few : n ≤ length (backward_numbers g.edges order)

-- a log of rounds that have ended
pub record IsEndLog (g : Constraints) (order : List ℕ) (rounds : ℕ) (floor : Option ℕ) (raises : List Entry) : Type
    0 where
  pub all : List Entry
  pub ended : EndsInRound (schedule_of g.edges order) rounds all
  pub held_for : IsLogFor g order floor raises all

-- a working log of rounds that have ended
pub record IsEndedHeld (g : Constraints) (order : List ℕ) (rounds : ℕ) (floor : Option ℕ) (held : Held) : Type 0 where
  pub shape : IsConstraintGraph g
  pub names : NamesEachOnce g.vars order
  pub vars : held.vars ≡ g.vars
  pub end_log : IsEndLog g order rounds floor held.raises

-- what is read out of a log of ended rounds
pub record IsReadOut (g : Constraints) (order : List ℕ) (backward rounds : ℕ) (floor : Option ℕ) (x : List ℤ)
    (backward' rounds' : ℕ) (log : Log) : Type 0 where
  pub same_backward : backward' ≡ backward
  pub same_rounds : rounds' ≡ rounds
  pub one_each : length x ≡ g.vars
  pub of_rounds : IsLogOfRounds g order rounds log
  pub ended : floor ≡ None → EndsInRound (schedule_of g.edges order) rounds (raises_in log)
  pub labels : (v : ℕ) → v < g.vars → label (raises_in log) v ≡ Some (value_of x v)
  pub small : All IsWithinLimit x
  pub least : IsLeastSolution g.vars g.edges (value_of x)
