-- The nets of some parts: chains of links between them. They are numbered in order of their first parts.
use Rattle.std.specs.Prelude.{◌≡◌, ℕ, zero, suc, ◌+◌, ◌<◌, ◌≤◌, max, List, length, take, fold, slice_index, Contains}
use Rattle.std.specs.Prelude.{◌⊎◌}

-- two parts are attached, in either order
abbrev pub Attached : List (ℕ × ℕ) → ℕ → ℕ → Type 0
Attached links a b = Contains links (a, b) ⊎ Contains links (b, a)

-- a chain of n steps
abbrev pub Chain : (ℕ → ℕ → Type 0) → ℕ → ℕ → ℕ → Type 0
Chain Step zero a b = a ≡ b
Chain Step (suc n) a b = (c : ℕ) × Step a c × Chain Step n c b

-- some chain leads from a to b
abbrev pub Reaches : (ℕ → ℕ → Type 0) → ℕ → ℕ → Type 0
Reaches Step a b = (n : ℕ) × Chain Step n a b

-- equal numbers stand exactly for parts that a chain of links joins
pub record IsNetting (count : ℕ) (links : List (ℕ × ℕ)) (nets : List ℕ) : Type 0 where
  pub counted : length nets ≡ count
  pub joined : (a b : ℕ) → a < count → b < count → slice_index nets a ≡ slice_index nets b
      → Reaches (Attached links) a b
  pub same : (a b : ℕ) → a < count → b < count → Reaches (Attached links) a b → slice_index nets a ≡ slice_index nets b

-- the least number above all of these
abbrev pub next_net : List ℕ → ℕ
next_net nets = fold (λ next net. max next (net + 1)) 0 nets

-- nets are numbered in order of their first parts: each number stood before, or is the next one
abbrev pub IsNumberedInOrder : List ℕ → Type 0
IsNumberedInOrder nets = (k : ℕ) → k < length nets → slice_index nets k ≤ next_net (take k nets)
