-- What the parts of a plan name among the masters, and what the joint variables of wires are.
use Rattle.std.specs.Prelude.{◌≡◌, ◌≢◌, ℕ, ◌+◌, ◌<◌, ◌^◌, List, [], length, slice_index, slice_index_or}
use Rattle.lam_geom.specs.declared.boxes.Axis.{Axis}
use Rattle.cons_graph.specs.declared.edges.{Edge.Edge, Why.TheVariants.Pitch}
use Rattle.cell_model.specs.Sound.{wire_at}
use Rattle.expand.specs.{declared.master.Master.Master, Bounds.AreCrosses, Variables.crossing}
use Rattle.plan_model.specs.declared.plan.{Match.Match, Same.Same}
use Rattle.pitch_join.specs.{Masters.master_at, Joined.{joined, equal_edges, tied_edges}}

-- two of so many masters
pub record IsSameAmong (count : ℕ) (same : Same) : Type 0 where
  pub a : same.a < count
  pub b : same.b < count
  pub apart : same.a ≢ same.b

-- a wire of a master that has its cross coordinate on the axis
pub record IsCrossWire (axis : Axis) (masters : List Master) (m wire : ℕ) : Type 0 where
  pub master : m < length masters
  pub wire_among : wire < length (master_at masters m).cell.wires
  pub along : (wire_at (master_at masters m).cell.wires wire).along ≡ crossing axis

-- wires of two ports that meet
pub record IsMatchAmong (axis : Axis) (masters : List Master) (met : Match) : Type 0 where
  pub a : IsCrossWire axis masters met.a met.a_wire
  pub b : IsCrossWire axis masters met.b met.b_wire

-- ---- as lists give them

-- the far borders of two masters are equal, where the first variables of all are listed
abbrev pub listed_pitch : List ℕ → Same → List Edge
listed_pitch bases same = equal_edges (slice_index bases same.a) (slice_index bases same.b) Pitch

-- the local cross coordinates of the wires of each master
pub record AreAllCrosses (masters : List Master) (crosses : List (List ℕ)) : Type 0 where
  pub counted : length crosses ≡ length masters
  pub each : (m : ℕ) → m < length masters
      → AreCrosses (master_at masters m).cell (length (master_at masters m).cell.wires) (slice_index_or crosses m [])

-- the joint variable of a wire's cross coordinate, and the inequalities of two wires
abbrev pub listed_wire : List ℕ → List (List ℕ) → ℕ → ℕ → ℕ
listed_wire bases crosses m wire = joined (slice_index bases m) (slice_index (slice_index_or crosses m []) wire)

abbrev pub listed_ports : List ℕ → List (List ℕ) → Match → List Edge
listed_ports bases crosses met =
    tied_edges (listed_wire bases crosses met.a met.a_wire) (listed_wire bases crosses met.b met.b_wire)

-- a wire that the lists have
pub record IsListedWire (bases : List ℕ) (crosses : List (List ℕ)) (m wire : ℕ) : Type 0 where
  pub based : m < length bases
  pub crossed : m < length crosses
  pub wire_among : wire < length (slice_index_or crosses m [])
  pub small : slice_index bases m + slice_index (slice_index_or crosses m []) wire < 2 ^ 32

pub record IsListedMatch (bases : List ℕ) (crosses : List (List ℕ)) (met : Match) : Type 0 where
  pub a : IsListedWire bases crosses met.a met.a_wire
  pub b : IsListedWire bases crosses met.b met.b_wire
