-- Which calls a plan makes fail.
use Rattle.std.specs.{Prelude.{ℕ, Bool, List, ◌==◌}, List.list_any}

-- whether the plan names the call of this number, counted from 0
abbrev pub is_planned : List ℕ → ℕ → Bool
is_planned plan call = list_any (λ planned. planned == call) plan
