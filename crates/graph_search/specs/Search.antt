-- Lists of neighbours, the marks that a search over parts leaves, and the numbers that it gives.
use Rattle.std.specs.Prelude.{◌≡◌, ℕ, ◌+◌, ◌<◌, ◌≤◌, Option, Some, None, is_none, List, [], length, count_by}
use Rattle.std.specs.Prelude.{slice_index, slice_index_or, Contains, ◌⊎◌}
use Rattle.smallvec.specs.SmallVec.{SmallVec}
use Rattle.graph_search.specs.Netting.{Attached, Reaches, IsNumberedInOrder}

-- ---- neighbours

-- a part past the end has none
abbrev pub no_neighbours : SmallVec ℕ
no_neighbours = record { items = []; capacity = 0 }

abbrev pub neighbours_of : List (SmallVec ℕ) → ℕ → List ℕ
neighbours_of lists a = (slice_index_or lists a no_neighbours).items

-- part b stands in the list of part a
abbrev pub IsBeside : List (SmallVec ℕ) → ℕ → ℕ → Type 0
IsBeside lists a b = Contains (neighbours_of lists a) b

-- each part stands in the lists of those in its own
pub record AreMutual (lists : List (SmallVec ℕ)) : Type 0 where
  pub within : (a b : ℕ) → IsBeside lists a b → b < length lists
  pub back : (a b : ℕ) → IsBeside lists a b → IsBeside lists b a

-- so many lists, which say what some links attach
pub record AreNeighbours (count : ℕ) (links : List (ℕ × ℕ)) (lists : List (SmallVec ℕ)) : Type 0 where
  pub counted : length lists ≡ count
  pub attached : (a b : ℕ) → IsBeside lists a b → Attached links a b
  pub beside : (a b : ℕ) → Attached links a b → IsBeside lists a b

-- ---- marks: the nets of the parts that have been reached

abbrev pub mark_of : List (Option ℕ) → ℕ → Option ℕ
mark_of marks k = slice_index_or marks k None

abbrev pub IsMarked : List (Option ℕ) → ℕ → Type 0
IsMarked marks k = (net : ℕ) × (mark_of marks k ≡ Some net)

abbrev pub unmarked : List (Option ℕ) → ℕ
unmarked marks = count_by is_none marks

-- marks have been added only
abbrev pub AreKept : List (Option ℕ) → List (Option ℕ) → Type 0
AreKept old new = (k net : ℕ) → mark_of old k ≡ Some net → mark_of new k ≡ Some net

-- the parts with a property that had no mark, and no others, have been given a net and put at the end of the queue
pub record AreReached (Is : ℕ → Type 0) (net : ℕ) (old new : List (Option ℕ)) (before after : List ℕ) : Type 0 where
  pub counted : length new ≡ length old
  pub kept : AreKept old new
  pub fresh : (k n : ℕ) → mark_of old k ≡ None → mark_of new k ≡ Some n → (n ≡ net) × Contains after k
  pub among : (k n : ℕ) → mark_of old k ≡ None → mark_of new k ≡ Some n → Is k
  pub marked : (k : ℕ) → Is k → IsMarked new k
  pub longer : length before ≤ length after
  pub prefix : (j : ℕ) → j < length before → slice_index after j ≡ slice_index before j
  pub queued : (k : ℕ) → Contains after k → Contains before k
      ⊎ ((mark_of old k ≡ None) × (mark_of new k ≡ Some net) × Is k)
  pub left : unmarked new + length after ≡ unmarked old + length before

-- the same of the parts of a list
abbrev pub AreVisited : List ℕ → ℕ → List (Option ℕ) → List (Option ℕ) → List ℕ → List ℕ → Type 0
AreVisited parts net old new before after = AreReached (Contains parts) net old new before after

-- ---- whole searches, where some parts are beside others

-- all that a part reaches over parts with no mark has been given a net
pub record IsSpread (Beside : ℕ → ℕ → Type 0) (start net : ℕ) (old new : List (Option ℕ)) : Type 0 where
  pub counted : length new ≡ length old
  pub kept : AreKept old new
  pub fresh : (k n : ℕ) → mark_of old k ≡ None → mark_of new k ≡ Some n → (n ≡ net) × Reaches Beside start k
  pub begun : mark_of new start ≡ Some net
  pub closed : (k n b : ℕ) → mark_of old k ≡ None → mark_of new k ≡ Some n → Beside k b → IsMarked new b

-- the marks are nets below `next`, each of them whole
pub record AreWhole (Beside : ℕ → ℕ → Type 0) (next : ℕ) (marks : List (Option ℕ)) : Type 0 where
  pub below : (a net : ℕ) → mark_of marks a ≡ Some net → net < next
  pub joined : (a b net : ℕ) → mark_of marks a ≡ Some net → mark_of marks b ≡ Some net → Reaches Beside a b
  pub closed : (a b net : ℕ) → mark_of marks a ≡ Some net → Beside a b → mark_of marks b ≡ Some net

-- a number for each part: equal ones exactly where neighbours lead from part to part
pub record AreNumbers (lists : List (SmallVec ℕ)) (nets : List ℕ) : Type 0 where
  pub counted : length nets ≡ length lists
  pub joined : (a b : ℕ) → a < length lists → b < length lists → slice_index nets a ≡ slice_index nets b
      → Reaches (IsBeside lists) a b
  pub beside : (a b : ℕ) → a < length lists → IsBeside lists a b → slice_index nets a ≡ slice_index nets b
  pub in_order : IsNumberedInOrder nets
