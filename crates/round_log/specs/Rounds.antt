use Rattle.std.specs.Prelude.{◌≡◌, ℕ, zero, suc, ◌<◌, Bool, true, false, if◌then◌else◌, Option, Some, None, List, []}
use Rattle.std.specs.Prelude.{◌∷◌, fold}
use Rattle.cons_graph.specs.{declared.edges.Edge.Edge, EdgeNumbers.edge_at}
use Rattle.round_log.specs.declared.log.Entry.{Entry}
use Rattle.round_log.specs.Looks.{look, raise_of, comes_back, forward_numbers, backward_numbers}

-- how far the rounds have come: the raises so far, newest first, and whether a raise has stopped them
pub record Progress : Type 0 where
  pub raises : List Entry
  pub stopped : Bool

-- what follows a look at a backward edge: without a raise the rounds go on with the log as it was; with one they go on
-- with it on top, or stop where its variable stands earlier in its own chain
abbrev pub after_look : Option Entry → List Entry → (List Entry → Progress) → Progress
after_look None rs go_on = go_on rs
after_look (Some r) rs go_on = if comes_back rs r then record { raises = r ∷ rs; stopped = true } else go_on (r ∷ rs)

-- the backward part of a round: the looks at these edges one after another, up to the first raise that stops the rounds
abbrev pub backward_part : (ℕ → Edge) → List ℕ → List Entry → Progress
backward_part edge [] rs = record { raises = rs; stopped = false }
backward_part edge (k ∷ ks) rs = after_look (raise_of edge rs k) rs (backward_part edge ks)

-- the edges that a round looks at: all edges by their numbers, and the numbers of the forward and the backward ones in
-- the order of the looks
pub record Schedule : Type 0 where
  pub edge : ℕ → Edge
  pub forward : List ℕ
  pub backward : List ℕ

-- the rounds of a list of edges and an order of their variables
abbrev pub schedule_of : List Edge → List ℕ → Schedule
schedule_of edges order =
    record { edge = edge_at edges; forward = forward_numbers edges order; backward = backward_numbers edges order }

-- the forward part of a round: the looks at the forward edges, one after another
abbrev pub forward_part : Schedule → List Entry → List Entry
forward_part p rs = fold (look p.edge) rs p.forward

-- one round from a log
abbrev pub round : Schedule → List Entry → Progress
round p rs = backward_part p.edge p.backward (forward_part p rs)

-- one more round, unless a raise has stopped them
abbrev pub one_more : Schedule → Progress → Progress
one_more p s = if s.stopped then s else round p s.raises

-- how far so many rounds come, from the log without a raise
abbrev pub after_rounds : Schedule → ℕ → Progress
after_rounds p zero = record { raises = []; stopped = false }
after_rounds p (suc n) = one_more p (after_rounds p n)

-- the backward part of the round after n rounds appends nothing
abbrev pub IsQuietAfter : Schedule → ℕ → Type 0
IsQuietAfter p n = (after_rounds p (suc n)).raises ≡ forward_part p (after_rounds p n).raises

-- the rounds end without a cycle in a round with these raises: it is not stopped, and it is the first one whose
-- backward part appends nothing
pub record EndsInRound (p : Schedule) (rounds : ℕ) (raises : List Entry) : Type 0 where
  pub before : ℕ
  pub count : rounds ≡ suc before
  pub not_stopped : (after_rounds p rounds).stopped ≡ false
  pub reached : (after_rounds p rounds).raises ≡ raises
  pub quiet : IsQuietAfter p before
  pub busy_before : (n : ℕ) → n < before → IsQuietAfter p n → ⊥

-- the rounds stop with these raises, the newest of which has its variable earlier in its own chain
pub record Stops (p : Schedule) (raises : List Entry) : Type 0 where
  pub rounds : ℕ
  pub stopped : (after_rounds p rounds).stopped ≡ true
  pub reached : (after_rounds p rounds).raises ≡ raises
