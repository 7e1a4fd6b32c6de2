-- Sets of pairs of numbers.
use Rattle.std.specs.Prelude.{◌≡◌, ◌⊎◌, ℕ, ◌^◌, ◌/◌, ◌%◌, ◌<◌, List, length, map, AllPairs}
use Rattle.pair_set.specs.declared.set.{PairSet.PairSet, SetFault.{SetFault, TheVariants.{TooMany, OutOfMemory}}}

-- a number as a pair of two below 2 ^ 32: these pairs stand in the same order as the numbers
abbrev pub pair_of : ℕ → ℕ × ℕ
pair_of key = (key / 2 ^ 32, key % 2 ^ 32)

-- the pairs of a set, as a list, and the most that it takes
abbrev pub pairs_of : PairSet → List (ℕ × ℕ)
pairs_of set = map pair_of set.keys.items

abbrev pub limit_of : PairSet → ℕ
limit_of set = set.limit

-- one pair comes before another: by the first number, and then by the second
abbrev pub IsBefore : ℕ × ℕ → ℕ × ℕ → Type 0
IsBefore p q = (p.0 < q.0) ⊎ ((p.0 ≡ q.0) × (p.1 < q.1))

-- why a set did not take a pair, by what it holds then: more pairs than its limit, each once; that memory runs out may
-- come whatever their number
abbrev pub RefusesPair : PairSet → SetFault → Type 0
RefusesPair set TooMany = AllPairs IsBefore (pairs_of set) × (limit_of set < length (pairs_of set))
RefusesPair set OutOfMemory = Unit {0}
