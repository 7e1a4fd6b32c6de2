-- What shelves and sinks tell, and how their counts of faults grow.
use Rattle.std.specs.Prelude.{◌≡◌, ℕ, ◌+◌, ◌-◌, ◌^◌, ◌≤◌, min, List, [], ◌∷◌, ◌++◌, take, Option, Some}
use Rattle.std.specs.{Option.option_map, Ordering.nat_cmp, Cmp.Lexicographic.slice_cmp, FinMap.{FinMap, get}}

abbrev pub Bytes : Type 0
Bytes = List ℕ

-- the files of a shelf, by the bytes of their names
abbrev pub Files : Type 0
Files = FinMap (slice_cmp nat_cmp) Bytes

-- what a shelf tells: its files, and the names that were fetched so far, in order
pub record Telling : Type 0 where
  pub files : Files
  pub asked : List Bytes

-- the same files, and the name asked for after the others
abbrev pub with_asked : Bytes → Telling → Telling
with_asked name telling = record telling { asked = telling.asked ++ name ∷ [] }

-- a name was asked for, and no file changed
abbrev pub Asks : Option Telling → Option Telling → Bytes → Type 0
Asks old new name = new ≡ option_map (with_asked name) old

-- these bytes are the file of that name, or its first limit + 1 bytes if it has more
abbrev pub IsFileStart : Files → Bytes → ℕ → Bytes → Type 0
IsFileStart files name limit bytes = (file : Bytes) × (get files name ≡ Some file) × (bytes ≡ take (limit + 1) file)

-- where the shelf tells its files, these bytes are the start of one of them
abbrev pub IsFetched : Option Telling → Bytes → ℕ → Bytes → Type 0
IsFetched told name limit bytes = (telling : Telling) → told ≡ Some telling → IsFileStart telling.files name limit bytes

-- the bytes put so far grew by the text
abbrev pub Appends : Option Bytes → Option Bytes → Bytes → Type 0
Appends old new text = new ≡ option_map (λ bytes. bytes ++ text) old

-- the bytes put so far grew by a prefix of the text
abbrev pub AppendsPrefix : Option Bytes → Option Bytes → Bytes → Type 0
AppendsPrefix old new text = (sent : Bytes) × (rest : Bytes) × (text ≡ sent ++ rest) × Appends old new sent

-- one fault more. A count of 64 bits stands still at its type's end
abbrev pub raised : ℕ → ℕ
raised count = min (count + 1) (2 ^ 64 - 1)

-- the count rose by a fault or more
abbrev pub Rose : ℕ → ℕ → Type 0
Rose old new = raised old ≤ new
