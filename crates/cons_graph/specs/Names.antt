-- A name, as it is kept among the bytes of all names.
use Rattle.std.specs.Prelude.{ℕ, ◌≤◌, List, slice_range}
use Rattle.cons_graph.specs.declared.names.Place.{Place}

-- the bytes from where a place starts up to where it ends
abbrev pub name_at : List ℕ → Place → List ℕ
name_at bytes place = slice_range bytes place.start place.end

-- a place among so many bytes
pub record IsPlaceAmong (bytes : ℕ) (place : Place) : Type 0 where
  pub in_order : place.start ≤ place.end
  pub within : place.end ≤ bytes
