-- Lists, one for each of so many numbers.
use Rattle.smallvec.specs.SmallVec.{SmallVec}
use Rattle.std.specs.Prelude.{ℕ, List, [], map, slice_index_or}

-- the list for number k
abbrev pub list_in : {A : Type 0} → List (SmallVec A) → ℕ → List A
list_in lists k = slice_index_or (map (λ v. v.items) lists) k []
