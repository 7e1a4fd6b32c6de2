-- The pieces of boxes with the areas that they cover, and the numbers of the first pieces of boxes.
use Rattle.std.specs.Prelude.{◌≡◌, ℕ, ◌+◌, ◌*◌, ◌<◌, ◌≤◌, pos, All, List, length, map, Option, Some, slice_index}
use Rattle.std.specs.Prelude.{slice_index_or}
use Rattle.lam_geom.specs.declared.boxes.{BoxXY.BoxXY, MaskBox.MaskBox, MaskLayer.{MaskLayer, TheVariants.{ND, NP, NC}}}
use Rattle.lam_geom.specs.{declared.boxes.MaskLayer.TheVariants.{NM, NI, NB}, Gaps.Encloses}
use Rattle.crossing_model.specs.{declared.crossing.Crossing.Crossing, Boxes.{area_at, layer_at, no_box}}
use Rattle.box_pieces.specs.declared.placing.{Part.{Part, TheVariants.{Whole, Low, High}}, Pieces.Pieces, Placed.Placed}
use Rattle.box_pieces.specs.{Places.{Place, place, places_of}, Areas.{IsAreaOf, IsLowPiece, IsHighPiece}}

-- ---- pieces by number

abbrev pub no_piece : Placed
no_piece = record { box_no = 0; part = Whole; area = no_box.area }

abbrev pub piece_at : List Placed → ℕ → Placed
piece_at pieces a = slice_index_or pieces a no_piece

-- the box of a piece
abbrev pub box_of : List Placed → ℕ → ℕ
box_of pieces a = (piece_at pieces a).box_no

abbrev pub area_of : List Placed → ℕ → BoxXY
area_of pieces a = (piece_at pieces a).area

abbrev pub stand_of : Placed → Place
stand_of piece = place piece.box_no piece.part

-- ---- what pieces there are

-- diffusion, poly and metal conduct
abbrev pub Conducts : MaskLayer → Type 0
Conducts ND = Unit {0}
Conducts NP = Unit {0}
Conducts NM = Unit {0}
Conducts NC = ⊥
Conducts NI = ⊥
Conducts NB = ⊥

pub record IsPiece (boxes : List MaskBox) (crossings : List Crossing) (piece : Placed) : Type 0 where
  pub of_box : piece.box_no < length boxes
  pub conducts : Conducts (layer_at boxes piece.box_no)
  pub area : IsAreaOf boxes crossings (stand_of piece) piece.area
  pub inside : Encloses (area_at boxes piece.box_no) piece.area (pos 0)

-- Entries, each of one of so many boxes, stand in order of their boxes: of each box the number of its first entry,
-- and then that of all entries.
pub record AreStarts (owner : ℕ → ℕ) (entries count : ℕ) (starts : List ℕ) : Type 0 where
  pub counted : length starts ≡ count + 1
  pub within : (k : ℕ) → k ≤ count → slice_index starts k ≤ entries
  pub of_box : (k a : ℕ) → k < count → slice_index starts k ≤ a → a < slice_index starts (k + 1) → owner a ≡ k
  pub own : (a : ℕ) → a < entries → (owner a < count) × (slice_index starts (owner a) ≤ a)
      × (a < slice_index starts (owner a + 1))

-- the pieces of some boxes
pub record ArePieces (boxes : List MaskBox) (crossings : List Crossing) (pieces : List Placed)
    (starts : List ℕ) : Type 0 where
  pub places : map stand_of pieces ≡ places_of crossings boxes
  pub each : All (IsPiece boxes crossings) pieces
  pub ranges : AreStarts (box_of pieces) (length pieces) (length boxes) starts
  pub few : length pieces ≤ 2 * length boxes

abbrev pub ArePiecesOf : List MaskBox → Pieces → Type 0
ArePiecesOf boxes pieces = ArePieces boxes pieces.crossings.items pieces.placed.items pieces.starts.items

-- ---- how they are found

-- the channel lies within its diffusion
abbrev pub IsWithinDiffusion : List MaskBox → Crossing → Type 0
IsWithinDiffusion boxes c = Encloses (area_at boxes c.diffusion) c.channel (pos 0)

-- the diffusion of a crossing by its number
abbrev pub diffusion_at : List Crossing → ℕ → ℕ
diffusion_at crossings i = slice_index (map (λ (c : Crossing). c.diffusion) crossings) i

-- the crossings before this number are those of the boxes before box number k
pub record IsCursor (crossings : List Crossing) (next k : ℕ) : Type 0 where
  pub within : next ≤ length crossings
  pub passed : (i : ℕ) → i < next → diffusion_at crossings i < k
  pub ahead : (i : ℕ) → next ≤ i → i < length crossings → k ≤ diffusion_at crossings i

-- the area of a part of a box that is crossed, or not
abbrev pub IsPartOf : BoxXY → Option Crossing → Part → BoxXY → Type 0
IsPartOf box crossing Whole area = area ≡ box
IsPartOf box crossing Low area = (c : Crossing) × (crossing ≡ Some c) × IsLowPiece c box area
IsPartOf box crossing High area = (c : Crossing) × (crossing ≡ Some c) × IsHighPiece c box area
