-- Where the parts of a cell go when one of its wires that run up is bent: after the bend's row there is room for one
-- more row, and after its column for one more column, onto which the upper or the lower part of the wire's column
-- moves.
use Rattle.std.specs.Prelude.{ℕ, ◌+◌, ◌==◌, Bool, true, false, nat_lt, if◌then◌else◌}
use Rattle.lam_geom.specs.declared.boxes.Side.{Side, TheVariants.{Left, Right, Bottom, Top}}
use Rattle.stick_text.specs.declared.design.Form.{Form, TheVariants.{Joint, Contact, Buried, Fet, Port, Inst, Wire}}
use Rattle.stick_text.specs.declared.design.Form.TheVariants.{Limit}

-- The column of the wire, the row above which it is bent, and whether the lower part moves (the upper part then lies
-- to its left) or the upper one.
pub record Bend : Type 0 where
  pub col : ℕ
  pub row : ℕ
  pub left : Bool

-- after a line there is room for one more
abbrev pub past : ℕ → ℕ → ℕ
past line n = if nat_lt line n then n + 1 else n

-- the column of the upper part of the bend's column, and that of the lower one
abbrev pub part_col : Bend → Bool → ℕ
part_col bend true = if bend.left then bend.col else bend.col + 1
part_col bend false = if bend.left then bend.col + 1 else bend.col

-- where a column goes, for what belongs to the upper part or to the lower one
abbrev pub moved_col : Bend → Bool → ℕ → ℕ
moved_col bend upper col = if col == bend.col then part_col bend upper else past bend.col col

-- where a row goes
abbrev pub moved_row : Bend → ℕ → ℕ
moved_row bend row = past bend.row row

-- a node above the bend's row belongs to the upper part
abbrev pub node_col : Bend → ℕ → ℕ → ℕ
node_col bend col row = moved_col bend (nat_lt bend.row row) col

-- so does a port at the top; one at the bottom belongs to the lower part
abbrev pub moved_place : Bend → Side → ℕ → ℕ
moved_place bend Left place = moved_row bend place
moved_place bend Right place = moved_row bend place
moved_place bend Bottom place = moved_col bend false place
moved_place bend Top place = moved_col bend true place

-- where the form of a line goes
abbrev pub moved_form : Bend → Form → Form
moved_form bend (Joint name layer col row width) = Joint name layer (node_col bend col row) (moved_row bend row) width
moved_form bend (Contact name lower col row) = Contact name lower (node_col bend col row) (moved_row bend row)
moved_form bend (Buried name col row) = Buried name (node_col bend col row) (moved_row bend row)
moved_form bend (Fet name depletion vertical col row w l) =
    Fet name depletion vertical (node_col bend col row) (moved_row bend row) w l
moved_form bend (Port name side layer place) = Port name side layer (moved_place bend side place)
moved_form bend (Inst name cell col row) = Inst name cell col row
moved_form bend (Wire layer a b width) = Wire layer a b width
moved_form bend (Limit vertical a b at_most n) = Limit vertical a b at_most n
