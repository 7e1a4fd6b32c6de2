use Rattle.std.specs.Prelude.{◌≡◌, ℕ, ◌^◌, ℤ, pos, neg_ℤ, ◌≤ℤ◌, List, length}
use Rattle.cons_graph.specs.{declared.edges.Edge.Edge, Constraints.Constraints, Solutions.{IsLeastSolution, value_of}}
use Rattle.round_log.specs.{declared.log.{Entry.Entry, Log.Log}, Logs.{HoldsRaises, IsLogOfRounds, raises_in}}
use Rattle.round_log.specs.{Told.TellAlike, Rounds.{schedule_of, EndsInRound, Stops}, WalksBack.{cycle_of, walk_of}}
use Rattle.liao_wong.specs.declared.solving.Unsolved.{Unsolved, TheVariants.{Cycle, OutOfMemory}}

-- a fact of the cycle, where that is the refusal
abbrev pub IfCycle : Unsolved → (List ℕ → Type 0) → Type 0
IfCycle (Cycle cycle) P = P cycle
IfCycle OutOfMemory P = Unit {0}

-- a value within 2^55 of 0
abbrev pub IsWithinLimit : ℤ → Type 0
IsWithinLimit a = (neg_ℤ (pos (2 ^ 55)) ≤ℤ a) × (a ≤ℤ pos (2 ^ 55))

-- the cycle at which the rounds stop
pub record IsCycleOf (edges : List Edge) (order cycle : List ℕ) : Type 0 where
  pub raises : List Entry
  pub stops : Stops (schedule_of edges order) raises
  pub is : cycle ≡ cycle_of edges raises

-- the rounds stop at one cycle
abbrev pub HasOneCycle : List Edge → List ℕ → Type 0
HasOneCycle edges order = (c d : List ℕ) → IsCycleOf edges order c → IsCycleOf edges order d → c ≡ d

-- the answers over a graph and an order that have ended: their values, and the walk of each variable that their logs
-- tell
pub record IsEndAnswer (g : Constraints) (order : List ℕ) (x : List ℤ) (rounds : ℕ) (log : Log) : Type 0 where
  pub one_each : length x ≡ g.vars
  pub least : IsLeastSolution g.vars g.edges (value_of x)
  pub of_rounds : IsLogOfRounds g order rounds log

-- two answers are the same, and their logs tell the same: they have one solution, one number of rounds, and of each
-- variable one chain and one walk
pub record AreSameAnswers (x : List ℤ) (rounds : ℕ) (log : Log) (x' : List ℤ) (rounds' : ℕ) (log' : Log) : Type 0 where
  pub values : x ≡ x'
  pub same_rounds : rounds ≡ rounds'
  pub told : TellAlike (raises_in log) (raises_in log')
  pub walks : (v : ℕ) → walk_of (raises_in log) v ≡ walk_of (raises_in log') v

-- all answers over a graph and an order are the same, those that have ended and those that a cycle stops
pub record HasOneAnswer (g : Constraints) (order : List ℕ) : Type 0 where
  pub ends : (x x' : List ℤ) (rounds rounds' : ℕ) (log log' : Log) → IsEndAnswer g order x rounds log
      → IsEndAnswer g order x' rounds' log' → AreSameAnswers x rounds log x' rounds' log'
  pub stops : HasOneCycle g.edges order

-- what `solve` says of its log makes its answer one
abbrev pub WholeLogTells : Constraints → List ℕ → Type 0
WholeLogTells g order = (rounds : ℕ) (log : Log) → HoldsRaises g.vars log (raises_in log)
    → EndsInRound (schedule_of g.edges order) rounds (raises_in log) → IsLogOfRounds g order rounds log
