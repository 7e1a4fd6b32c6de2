-- A part of a log that keeps what its chains reach.
use Rattle.std.specs.Prelude.{◌≡◌, ℕ, zero, suc, Bool, true, if◌then◌else◌, List, [], ◌∷◌, length}
use Rattle.round_log.specs.{declared.log.Entry.Entry, Looks.latest}

-- how many of the entries 1 to n are kept: the new number of entry n, if it is kept
abbrev pub new_number : (ℕ → Bool) → ℕ → ℕ
new_number keeps zero = 0
new_number keeps (suc n) = if keeps (suc n) then suc (new_number keeps n) else new_number keeps n

-- a raise that comes from the entry with the new number
abbrev pub renumbered : (ℕ → Bool) → Entry → Entry
renumbered keeps r = record { var = r.var; value = r.value; edge = r.edge; prev = new_number keeps r.prev }

-- the raises whose entries are kept, in their order, the newest first
abbrev pub kept_part : (ℕ → Bool) → List Entry → List Entry
kept_part keeps [] = []
kept_part keeps (r ∷ rs) = if keeps (length (r ∷ rs)) then renumbered keeps r ∷ kept_part keeps rs
    else kept_part keeps rs

-- with each raise that is kept the one that it comes from is
abbrev pub KeepsBack : (ℕ → Bool) → List Entry → Type 0
KeepsBack keeps [] = Unit {0}
KeepsBack keeps (r ∷ rs) = (keeps (length (r ∷ rs)) ≡ true → keeps r.prev ≡ true) × KeepsBack keeps rs

-- all that chains reach from the latest raises is kept
pub record KeepsChains (keeps : ℕ → Bool) (raises : List Entry) : Type 0 where
  pub latest_kept : (v : ℕ) → keeps (latest raises v) ≡ true
  pub back : KeepsBack keeps raises
