-- How far the parts of a cell reach from their grid points, and the pitch of its coarse grid. Lengths are in u.
use Rattle.std.specs.{Prelude.{ℤ, pos, ◌+ℤ◌, ◌*ℤ◌, Bool, true, false, ◌++◌, map, fold}, Int.int_max}
use Rattle.rule_table.specs.{declared.technology.Tech.Tech, Technology.{numbers_of, pad_of, widest_of}}
use Rattle.cell_model.specs.declared.cell.{NodeKind.{NodeKind, TheVariants.{Joint, Contact, Buried, Fet}}, Node.Node}
use Rattle.cell_model.specs.{declared.cell.{Wire.Wire, Cell.Cell}, Wiring.buried_pad}
use Rattle.expand.specs.Variables.{half}

-- how far the implant of a transistor goes past its channel; an enhancement one has none
abbrev pub implant_past : Tech → Bool → ℤ
implant_past tech true = (numbers_of tech).extension_implant
implant_past tech false = pos 0

-- The greatest half size of the items of a transistor with a channel of W by L: its poly goes on past the channel
-- along the gate, its diffusion across the gate, and its implant both ways.
abbrev pub fet_reach : Tech → Bool → ℤ → ℤ → ℤ
fet_reach tech depletion w l =
    int_max
    (half w +ℤ int_max (numbers_of tech).extension_poly (implant_past tech depletion))
    (half l +ℤ int_max (numbers_of tech).extension_diffusion (implant_past tech depletion))

-- The greatest half size, on both axes, of the items at a node: of a joint's square, of a contact's pad and its cut,
-- of a buried contact's window, of a transistor's boxes.
abbrev pub reach_of : Tech → NodeKind → ℤ
reach_of tech (Joint layer width) = half width
reach_of tech (Contact lower) = int_max (half (pad_of tech)) (half (numbers_of tech).cut_size)
reach_of tech Buried = half (buried_pad tech) +ℤ (numbers_of tech).extension_buried
reach_of tech (Fet depletion gate w l) = fet_reach tech depletion w l

-- the half extent of a cell: the greatest half size of an item at a node, and half width of a wire; 0 if there is none
unfoldable pub half_extent_of : Tech → Cell → ℤ
half_extent_of tech cell =
    fold int_max (pos 0)
    (map (λ (node : Node). reach_of tech node.kind) cell.nodes ++ map (λ (wire : Wire). half wire.width) cell.wires)

-- the pitch: what two grid points lie apart, so that the parts at them are the widest spacing apart
unfoldable pub pitch_of : Tech → Cell → ℤ
pitch_of tech cell = (pos 2 *ℤ half_extent_of tech cell) +ℤ widest_of tech
