-- How a list is divided into blocks.
use Rattle.std.specs.Prelude.{ℕ, ◌+◌, ◌*◌, ◌/◌, List, length, take, drop}

-- where block k begins in a list of n elements
abbrev pub block_start : ℕ → ℕ → ℕ → ℕ
block_start n blocks k = k * n / blocks

-- the elements of block k
abbrev pub block_of : {X : Type 0} → List X → ℕ → ℕ → List X
block_of xs blocks k = drop (block_start (length xs) blocks k) (take (block_start (length xs) blocks (k + 1)) xs)
