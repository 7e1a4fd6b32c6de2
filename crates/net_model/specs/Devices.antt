-- Where the pieces of a box stand, and what the boxes of a crossing must have.
use Rattle.std.specs.Prelude.{◌≡◌, ℕ, ◌+◌, ◌<◌, ◌≤◌, List, length, slice_index, slice_index_or}
use Rattle.lam_geom.specs.Places.{IsPlacedBox}
use Rattle.crossing_model.specs.declared.crossing.Crossing.{Crossing}
use Rattle.box_pieces.specs.declared.placing.Part.TheVariants.{Whole}
use Rattle.net_model.specs.declared.netlist.Piece.{Piece}

abbrev pub no_netted : Piece
no_netted = record { box_no = 0; part = Whole; net = 0 }

abbrev pub box_of_netted : List Piece → ℕ → ℕ
box_of_netted pieces a = (slice_index_or pieces a no_netted).box_no

-- the pieces of each box are those from its first one to before that of the next
pub record ArePieceRanges (pieces : List Piece) (starts : List ℕ) : Type 0 where
  pub within : (k : ℕ) → k + 1 < length starts → slice_index starts (k + 1) ≤ length pieces
  pub of_box : (k a : ℕ) → k + 1 < length starts → slice_index starts k ≤ a → a < slice_index starts (k + 1)
      → box_of_netted pieces a ≡ k
  pub own : (k a : ℕ) → a < length pieces → box_of_netted pieces a ≡ k
      → (slice_index starts k ≤ a) × (a < slice_index starts (k + 1))

-- a crossing of boxes that have pieces, with a channel that can be measured
pub record HasBoxes (starts : List ℕ) (c : Crossing) : Type 0 where
  pub poly : c.poly + 1 < length starts
  pub diffusion : c.diffusion + 1 < length starts
  pub channel : IsPlacedBox c.channel
