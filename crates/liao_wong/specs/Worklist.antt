-- What the rounds may leave out: looks that would append nothing.
use Rattle.std.specs.Prelude.{◌≡◌, ℕ, ◌<◌, ◌≤◌, ◌⊎◌, Bool, true, false, None, List, length, All}
use Rattle.cons_graph.specs.{declared.edges.Edge.Edge, EdgeNumbers.edge_at}
use Rattle.round_log.specs.{declared.log.Entry.Entry, Looks.{raise_of, is_forward, place_in}}
use Rattle.liao_wong.specs.Marked.{is_marked}

-- a look at edge k appends nothing to the log
abbrev pub AppendsNothing : List Edge → List Entry → ℕ → Type 0
AppendsNothing edges raises k = raise_of (edge_at edges) raises k ≡ None

-- whether the tail of edge k is ready
abbrev pub has_ready_tail : List Edge → List ℕ → List Bool → ℕ → Bool
has_ready_tail edges order ready k = is_marked ready (place_in order (edge_at edges k).from)

-- flags by which looks may be left out: `ready` for the places of variables in the order, `waiting` for the backward
-- edges. An edge whose tail is not ready, and that does not wait if it is backward, appends nothing.
pub record IsWorklist (edges : List Edge) (order : List ℕ) (ready waiting : List Bool) (raises : List Entry) : Type
    0 where
  pub one_ready_each : length ready ≡ length order
  pub one_waiting_each : length waiting ≡ length edges
  pub only_backward : (k : ℕ) → is_marked waiting k ≡ true → is_forward order (edge_at edges k) ≡ false
  pub forward : (k : ℕ) → k < length edges → is_forward order (edge_at edges k) ≡ true
      → has_ready_tail edges order ready k ≡ false → AppendsNothing edges raises k
  pub backward : (k : ℕ) → k < length edges → is_forward order (edge_at edges k) ≡ false
      → has_ready_tail edges order ready k ≡ false → is_marked waiting k ≡ false → AppendsNothing edges raises k

-- the edges that waited still wait, and those that wait now besides are backward
pub record WaitToo (edges : List Edge) (order : List ℕ) (old new : List Bool) : Type 0 where
  pub same_length : length new ≡ length old
  pub kept : (k : ℕ) → is_marked old k ≡ true → is_marked new k ≡ true
  pub only_backward : (k : ℕ) → is_marked new k ≡ true → (is_marked old k ≡ true)
      ⊎ (is_forward order (edge_at edges k) ≡ false)

-- those of these edges that are backward wait
abbrev pub BackwardOnesWait : List Edge → List ℕ → List ℕ → List Bool → Type 0
BackwardOnesWait edges order numbers waiting =
    All (λ k. is_forward order (edge_at edges k) ≡ false → is_marked waiting k ≡ true) numbers

-- after a look at those of these edges that are forward, which leave one variable: another look at them appends
-- nothing, and up to the variable's place the same places are ready as before
pub record HasLookedForward (edges : List Edge) (order numbers : List ℕ) (tail : ℕ) (old new : List Bool)
    (raises : List Entry) : Type 0 where
  pub quiet : All (λ k. is_forward order (edge_at edges k) ≡ true → AppendsNothing edges raises k) numbers
  pub after : (n : ℕ) → n ≤ place_in order tail → is_marked new n ≡ is_marked old n

-- no variable is ready
abbrev pub HasNoneReady : List Bool → Type 0
HasNoneReady ready = (n : ℕ) → is_marked ready n ≡ false

-- the variable at a place is ready no more, and those before it are as they were
pub record HasLookedAtPlace (place : ℕ) (old new : List Bool) : Type 0 where
  pub done : is_marked new place ≡ false
  pub before : (n : ℕ) → n < place → is_marked new n ≡ is_marked old n
