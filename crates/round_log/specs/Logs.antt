use Rattle.std.specs.Prelude.{◌≡◌, ℕ, ◌≤◌, ◌-◌, ◌<◌, true, pos, Some, List, [], ◌∷◌, length, reverse, drop, slice_index}
use Rattle.round_log.specs.{declared.log.{Entry.Entry, Log.Log}, Looks.{latest, raise_of, comes_back}, Orders.IsOrder}
use Rattle.round_log.specs.{Rounds.{schedule_of, EndsInRound}, Told.TellAlike}
use Rattle.cons_graph.specs.{declared.edges.Edge.Edge, Constraints.Constraints, EdgeNumbers.edge_at}

-- entry 0, which stands for the origin
abbrev pub origin_entry : Entry
origin_entry = record { var = 0; value = pos 0; edge = 0; prev = 0 }

-- the raises among the entries of a log, the newest first
abbrev pub raises_of : List Entry → List Entry
raises_of entries = reverse (drop 1 entries)

abbrev pub raises_in : Log → List Entry
raises_in log = raises_of log.entries

-- each raise is of one of the variables and comes from an older entry
abbrev pub ComeFromOlder : ℕ → List Entry → Type 0
ComeFromOlder vars [] = Unit {0}
ComeFromOlder vars (r ∷ rs) = (r.var < vars) × (r.prev ≤ length rs) × ComeFromOlder vars rs

-- the log has these raises, and `last` has each variable's latest entry
pub record HoldsRaises (vars : ℕ) (log : Log) (raises : List Entry) : Type 0 where
  pub entries_are : log.entries ≡ origin_entry ∷ reverse raises
  pub one_last_each : length log.last ≡ vars
  pub last_are : (v : ℕ) → v < vars → slice_index log.last v ≡ latest raises v

-- a log of the rounds that end in a round: it tells of each variable what their raises tell, and may have fewer of them
pub record IsLogOfRounds (g : Constraints) (order : List ℕ) (rounds : ℕ) (log : Log) : Type 0 where
  pub holds : HoldsRaises g.vars log (raises_in log)
  pub older : ComeFromOlder g.vars (raises_in log)
  pub raises : List Entry
  pub ended : EndsInRound (schedule_of g.edges order) rounds raises
  pub alike : TellAlike (raises_in log) raises

-- a log of the rounds of a graph in some order of its variables that end without a cycle
pub record IsEndedLog (g : Constraints) (log : Log) : Type 0 where
  pub order : List ℕ
  pub rounds : ℕ
  pub is_order : IsOrder g.vars order
  pub of_rounds : IsLogOfRounds g order rounds log

-- each raise is the one that a look at its edge makes on the log before it
abbrev pub IsMadeByLooks : (ℕ → Edge) → ℕ → List Entry → Type 0
IsMadeByLooks edge m [] = Unit {0}
IsMadeByLooks edge m (r ∷ rs) = (r.edge < m) × (raise_of edge rs r.edge ≡ Some r) × IsMadeByLooks edge m rs

-- a log that looks at the edges of a graph leave
pub record IsLogOfLooks (g : Constraints) (log : Log) : Type 0 where
  pub holds : HoldsRaises g.vars log (raises_in log)
  pub made : IsMadeByLooks (edge_at g.edges) (length g.edges) (raises_in log)

-- the raises up to the entry with a number, that entry on top
abbrev pub up_to_entry : List Entry → ℕ → List Entry
up_to_entry raises n = drop (length raises - n) raises

-- the newest raise has its variable earlier in its own chain
abbrev pub NewestComesBack : List Entry → Type 0
NewestComesBack [] = ⊥
NewestComesBack (r ∷ rs) = comes_back rs r ≡ true
