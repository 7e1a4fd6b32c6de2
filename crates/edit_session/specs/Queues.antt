-- Variables that wait. Only private functions cite these.
use Rattle.std.specs.Prelude.{◌≡◌, ℕ, ◌<◌, ◌≤◌, Bool, false, true, List, length, slice_index_or}
use Rattle.round_log.proofs.{Chains.In, Members.IsDistinct}

-- how many wait, and for each variable whether it does
pub record Waits : Type 0 where
  pub count : ℕ
  pub marks : List Bool

-- a queue of variables: those that are marked, each once; it has room for all that there are
pub record IsQueueOf (queue : List ℕ) (marks : List Bool) (room : ℕ) : Type 0 where
  pub in_range : (v : ℕ) → In v queue → v < length marks
  pub marked : (v : ℕ) → In v queue → slice_index_or marks v false ≡ true
  pub listed : (v : ℕ) → slice_index_or marks v false ≡ true → In v queue
  pub once : IsDistinct queue
  pub enough : length marks ≤ room
