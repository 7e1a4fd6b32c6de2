-- The nets of two masters that ports join where an instance of one stands after one of the other.
use Rattle.smallvec.specs.SmallVec.{SmallVec}
use Rattle.std.specs.Prelude.{◌≡◌, ℕ, ◌<◌, Contains, Vec, List, [], length, map, slice_index, slice_index_or}
use Rattle.std.specs.declared.alloc.Global.{Global}
use Rattle.cell_model.specs.declared.cell.Nets.{Nets}
use Rattle.plan_model.specs.declared.plan.Match.{Match}
use Rattle.design_nets.specs.{declared.meetings.Meeting.Meeting, Listing.list_in, Nets.nets_no}

-- the nets of the wires of two ports that meet
abbrev pub wire_net : List Nets → ℕ → ℕ → ℕ
wire_net nets m wire = slice_index (nets_no nets m).wire wire

abbrev pub meeting_of : List Nets → Match → Meeting
meeting_of nets met = record { before = wire_net nets met.a met.a_wire; after = wire_net nets met.b met.b_wire }

-- two wires of masters with nets
pub record IsMatchIn (nets : List Nets) (met : Match) : Type 0 where
  pub first : met.a < length nets
  pub second : met.b < length nets
  pub first_wire : met.a_wire < length (nets_no nets met.a).wire
  pub second_wire : met.b_wire < length (nets_no nets met.b).wire

-- ---- the table of them

-- the lists of a row, and of them that for an instance of master a and one of master b after it
abbrev pub row_of : List (Vec (SmallVec Meeting) Global) → ℕ → List (SmallVec Meeting)
row_of table a = slice_index_or (map (λ v. v.items) table) a []

abbrev pub meetings_at : List (Vec (SmallVec Meeting) Global) → ℕ → ℕ → List Meeting
meetings_at table a b = list_in (row_of table a) b

-- a table has a list for each two of so many masters
pub record IsSquare (count : ℕ) (table : List (Vec (SmallVec Meeting) Global)) : Type 0 where
  pub rows : length table ≡ count
  pub columns : (a : ℕ) → a < count → length (row_of table a) ≡ count

-- these nets of two masters are joined
pub record IsMeeting (nets : List Nets) (matches : List Match) (a b : ℕ) (m : Meeting) : Type 0 where
  pub met : Match
  pub matched : Contains matches met
  pub first : met.a ≡ a
  pub second : met.b ≡ b
  pub nets_are : meeting_of nets met ≡ m

-- the lists of the nets that ports join
pub record AreMeetings (nets : List Nets) (matches : List Match) (table : List (Vec (SmallVec Meeting) Global)) : Type
    0 where
  pub square : IsSquare (length nets) table
  pub sound : (a b : ℕ) (m : Meeting) → Contains (meetings_at table a b) m → IsMeeting nets matches a b m
  pub complete : (met : Match) → Contains matches met → Contains (meetings_at table met.a met.b) (meeting_of nets met)
