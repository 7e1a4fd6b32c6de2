use Rattle.std.specs.Prelude.{◌≡◌, ℕ, ◌^◌, ◌<◌, ◌≤◌, ℤ, pos, neg_ℤ, ◌≤ℤ◌, Some, List, ◌∷◌, length, reverse, slice_index}
use Rattle.std.specs.Prelude.{Bool, true, Option, None, int_lt, slice_index_or, unwrap_or}
use Rattle.round_log.specs.declared.log.Entry.{Entry}
use Rattle.round_log.specs.{Looks.{label, latest, place_in}, Logs.{origin_entry, ComeFromOlder}}

-- what the working log shows: how many variables it is for, and its raises, the newest first
pub record Held : Type 0 where
  pub vars : ℕ
  pub raises : List Entry

-- the arrays of a working log: the origin's entry, then the raises from the oldest on, and each variable's latest entry
pub record AreArraysOf (vars : ℕ) (entries : List Entry) (last : List ℕ) (raises : List Entry) : Type 0 where
  pub entries_are : entries ≡ origin_entry ∷ reverse raises
  pub one_last_each : length last ≡ vars
  pub last_are : (v : ℕ) → v < vars → slice_index last v ≡ latest raises v
  pub older : ComeFromOlder vars raises

-- the label of each variable, and the least number of 64 bits where it has none
pub record AreValuesOf (vars : ℕ) (values : List ℤ) (raises : List Entry) : Type 0 where
  pub one_each : length values ≡ vars
  pub are : (v : ℕ) → v < vars → slice_index_or values v (pos 0) ≡ unwrap_or (label raises v) (neg_ℤ (pos (2 ^ 63)))

-- the arrays of a working log, with the labels
pub record AreLogArrays (entries : List Entry) (last : List ℕ) (values : List ℤ) (raises : List Entry) : Type 0 where
  pub arrays : AreArraysOf (length last) entries last raises
  pub labels : AreValuesOf (length last) values raises

-- no label, or one below this value
abbrev pub is_below : Option ℤ → ℤ → Bool
is_below None value = true
is_below (Some a) value = int_lt a value

-- each label is within 2^55 of 0
abbrev pub HasSmallLabels : Held → Type 0
HasSmallLabels h = (v : ℕ) (a : ℤ) → v < h.vars → label h.raises v ≡ Some a
    → (neg_ℤ (pos (2 ^ 55)) ≤ℤ a) × (a ≤ℤ pos (2 ^ 55))

-- a raise that may be put on top of the log
abbrev pub IsPushable : Held → Entry → Type 0
IsPushable h r = (r.var < h.vars) × (r.prev ≤ length h.raises)

-- where each variable stands in an order
abbrev pub ArePlaces : List ℕ → ℕ → List ℕ → Type 0
ArePlaces order vars places = (length places ≡ vars) × ((v : ℕ) → v < vars → slice_index places v ≡ place_in order v)
