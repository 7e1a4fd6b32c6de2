-- With which boxes a box breaks a rule, and the queries that tell them.
use Rattle.std.specs.Prelude.{◌≡◌, ◌≢◌, ℕ, ◌+◌, ◌≤◌, ◌<◌, ◌⊎◌, ℤ, ◌<ℤ◌, Contains, List, slice_index}
use Rattle.std.specs.List.Sorted.{IsStrictlyIncreasing}
use Rattle.lam_geom.specs.{declared.boxes.{BoxXY.BoxXY, MaskBox.MaskBox, MaskLayer.MaskLayer}, Gaps.gap_of_boxes}
use Rattle.rule_table.specs.declared.technology.Tech.{Tech}
use Rattle.box_tree.specs.declared.query.{Query.Query, Question.{Question, TheVariants.{NearApart, NearOfOther}}}
use Rattle.box_tree.specs.declared.query.Question.TheVariants.{NearOfOtherTag, NearOutside, NearShort}
use Rattle.box_tree.specs.{declared.entries.Entry.Entry, Queries.Holds}
use Rattle.crossing_model.specs.Boxes.{area_at, grains, IsOn}
use Rattle.box_pieces.specs.Pieces.{area_of, box_of}
use Rattle.rule_breaks.specs.declared.rule.Rule.{Rule, TheVariants.{ImplantToChannel, PolyToDiffusion}}
use Rattle.rule_breaks.specs.{Breaks.{IsBreak, IsChannel}, Reaches.{extension_of, reach_of}}
use Rattle.flat_check.specs.{declared.flat_layout.FlatLayout.FlatLayout, Trees.IsPieceOn}

-- ---- partners

-- two boxes break a rule, whichever number is the lesser
abbrev pub BreakTogether : Tech → List MaskBox → Rule → ℕ → ℕ → Type 0
BreakTogether tech boxes rule a b = IsBreak tech boxes rule a b ⊎ IsBreak tech boxes rule b a

-- another box stands in this way to a box
abbrev pub WithOther : (ℕ → ℕ → Type 0) → ℕ → ℕ → Type 0
WithOther AreBad a b = (a ≢ b) × AreBad a b

-- all boxes with which a box breaks a rule, in order, each once
pub record ArePartners (tech : Tech) (boxes : List MaskBox) (rule : Rule) (a : ℕ) (found : List ℕ) : Type 0 where
  pub sound : (b : ℕ) → Contains found b → BreakTogether tech boxes rule a b
  pub complete : (b : ℕ) → BreakTogether tech boxes rule a b → Contains found b
  pub rising : IsStrictlyIncreasing found

-- ---- queries

-- it has an entry that holds a query
pub record IsOwner (entries : List Entry) (query : Query) (b : ℕ) : Type 0 where
  pub entry : Entry
  pub there : Contains entries entry
  pub holds : Holds query entry
  pub owner : entry.owner ≡ b

-- what a rule on pairs asks of the boxes and channels beside a box
abbrev pub question_of : Tech → Rule → ℕ → Question
question_of tech PolyToDiffusion a = NearApart (reach_of tech PolyToDiffusion)
question_of tech ImplantToChannel a = NearOutside (reach_of tech ImplantToChannel) (extension_of tech)
question_of tech rule a = NearOfOther (reach_of tech rule) a

-- and a rule on nets of the pieces beside a piece
abbrev pub net_question : Tech → Rule → Question
net_question tech rule = NearOfOtherTag (reach_of tech rule) 0 0

-- and of the boxes beside its channel
abbrev pub channel_question_of : Tech → Rule → ℕ → Question
channel_question_of tech ImplantToChannel a = NearShort (reach_of tech ImplantToChannel) (extension_of tech)
channel_question_of tech rule a = NearOfOther (reach_of tech rule) a

-- box a is on a layer, and b has an entry that answers a question beside it
abbrev pub IsBesideBox : List MaskBox → MaskLayer → Question → List Entry → ℕ → ℕ → Type 0
IsBesideBox boxes layer question entries a b =
    IsOn boxes layer a × IsOwner entries (record { area = area_at boxes a; question = question }) b

-- box a has a channel, and b an entry that answers a question beside that
abbrev pub IsBesideChannel : Tech → List MaskBox → Question → List Entry → ℕ → ℕ → Type 0
IsBesideChannel tech boxes question entries a b =
    (channel : BoxXY) × IsChannel tech boxes a channel
    × IsOwner entries (record { area = channel; question = question }) b

-- ---- pieces by their numbers in a flat layout

-- piece number i is of box number k
pub record IsPieceOf (flat : FlatLayout) (k i : ℕ) : Type 0 where
  pub low : slice_index flat.pieces.starts.items k ≤ i
  pub high : i < slice_index flat.pieces.starts.items (k + 1)

-- pieces number i and j lie nearer to one another than so many u, and are of different nets
pub record AreNearPieces (flat : FlatLayout) (spacing : ℤ) (i j : ℕ) : Type 0 where
  pub near : gap_of_boxes (area_of flat.pieces.placed.items i) (area_of flat.pieces.placed.items j) <ℤ grains
      flat.tech.now spacing
  pub apart : slice_index flat.nets.items i ≢ slice_index flat.nets.items j

-- so does piece number i with one of another box b, on a layer
pub record HasNearPiece (flat : FlatLayout) (layer : MaskLayer) (spacing : ℤ) (i b : ℕ) : Type 0 where
  pub j : ℕ
  pub on : IsPieceOn flat layer j
  pub of_box : box_of flat.pieces.placed.items j ≡ b
  pub other : b ≢ box_of flat.pieces.placed.items i
  pub near : AreNearPieces flat spacing i j

-- so does one of the pieces from one number up to before another
pub record HaveNearPiece (flat : FlatLayout) (layer : MaskLayer) (spacing : ℤ) (from to b : ℕ) : Type 0 where
  pub i : ℕ
  pub low : from ≤ i
  pub high : i < to
  pub near : HasNearPiece flat layer spacing i b
