-- What a log tells of its variables, whatever numbers its entries have.
use Rattle.std.specs.Prelude.{◌≡◌, ℕ, ℤ, List, map}
use Rattle.round_log.specs.{declared.log.Entry.Entry, Looks.{latest, chain}}

-- what a raise says: its variable, the new value and the edge
abbrev pub said : Entry → ℕ × ℤ × ℕ
said r = (r.var, r.value, r.edge)

-- what the chain of an entry tells, the newest raise first
abbrev pub told_by : List Entry → ℕ → List (ℕ × ℤ × ℕ)
told_by raises n = map said (chain raises n)

-- two logs tell alike: each variable's latest raise has the same chain in both, but for the numbers of the entries
abbrev pub TellAlike : List Entry → List Entry → Type 0
TellAlike some all = (v : ℕ) → told_by some (latest some v) ≡ told_by all (latest all v)
