-- The rounds of a plan come out in one way.
use Rattle.std.specs.Prelude.{◌≡◌, ℕ, List}
use Rattle.round_log.specs.{declared.log.Entry.Entry, Rounds.{Schedule, EndsInRound, Stops}}

-- they end in one round, with one log
abbrev pub EndInOneWay : Schedule → Type 0
EndInOneWay p = (r s : ℕ) (rs ss : List Entry) → EndsInRound p r rs → EndsInRound p s ss → (r ≡ s) × (rs ≡ ss)

-- they stop with one log
abbrev pub StopInOneWay : Schedule → Type 0
StopInOneWay p = (rs ss : List Entry) → Stops p rs → Stops p ss → rs ≡ ss

-- those that end do not stop
abbrev pub DoNotEndAndStop : Schedule → Type 0
DoNotEndAndStop p = (r : ℕ) (rs ss : List Entry) → EndsInRound p r rs → Stops p ss → ⊥
