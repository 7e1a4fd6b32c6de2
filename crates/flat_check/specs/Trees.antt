-- The trees by which it is found out whether a box breaks a rule: what entries they are of.
use Rattle.std.specs.Prelude.{◌≡◌, ℕ, ◌<◌, ◌⊎◌, Contains, List, Bool, MatchBool, length, slice_index}
use Rattle.lam_geom.specs.declared.boxes.{BoxXY.BoxXY, MaskBox.MaskBox, MaskLayer.{MaskLayer, TheVariants.{ND, NP, NC}}}
use Rattle.lam_geom.specs.declared.boxes.MaskLayer.TheVariants.{NM}
use Rattle.rule_table.specs.declared.technology.Tech.{Tech}
use Rattle.box_tree.specs.declared.entries.Entry.{Entry}
use Rattle.crossing_model.specs.{Boxes.layer_at, Crossings.{AreProper, IsBadPair}}
use Rattle.crossings.specs.Entries.{AreBoxesOn, AreEntriesBelow}
use Rattle.crossings.specs.Entries as crossing
use Rattle.box_pieces.specs.Pieces.{area_of, box_of}
use Rattle.flat_check.specs.declared.{flat_layout.FlatLayout.FlatLayout, trees.Trees.Trees}
use Rattle.rule_breaks.specs.Breaks.{IsChannel}

-- ---- entries

-- piece number i, of its box, with its net
abbrev pub piece_entry : FlatLayout → ℕ → Entry
piece_entry flat i =
    record {
      area = area_of flat.pieces.placed.items i;
      owner = box_of flat.pieces.placed.items i;
      tag = slice_index flat.nets.items i;
    }

-- a channel, which goes by its diffusion
abbrev pub channel_entry : BoxXY → ℕ → Entry
channel_entry channel d = record { area = channel; owner = d; tag = 0 }

-- ---- lists of entries

-- there is a piece with this number, of a box on a layer
abbrev pub IsPieceOn : FlatLayout → MaskLayer → ℕ → Type 0
IsPieceOn flat layer i = (i < length flat.nets.items)
    × (layer_at flat.boxes.now (box_of flat.pieces.placed.items i) ≡ layer)

-- the pieces of a layer
abbrev pub ArePiecesOn : FlatLayout → MaskLayer → List Entry → Type 0
ArePiecesOn flat layer entries = AreEntriesBelow (IsPieceOn flat layer) (piece_entry flat) (length flat.nets.items)
    entries

-- all channels
pub record AreChannels (tech : Tech) (boxes : List MaskBox) (entries : List Entry) : Type 0 where
  pub sound : (s : Entry) → Contains entries s → IsChannel tech boxes s.owner s.area
  pub complete : (d : ℕ) (channel : BoxXY) → IsChannel tech boxes d channel → Contains entries (channel_entry channel d)

-- poly and metal, whose boxes are pieces as a whole
abbrev pub IsUncut : MaskLayer → Type 0
IsUncut layer = (layer ≡ NP) ⊎ (layer ≡ NM)

-- ---- all trees

-- some pair does not cross properly
pub record HasImproper (tech : Tech) (boxes : List MaskBox) : Type 0 where
  pub a : ℕ
  pub b : ℕ
  pub bad : IsBadPair tech boxes a b

-- whether poly and diffusion cross properly everywhere
abbrev pub ArePerhapsProper : Tech → List MaskBox → Bool → Type 0
ArePerhapsProper tech boxes proper = MatchBool proper (AreProper tech boxes) (HasImproper tech boxes)

pub record AreRuleTreesOf (flat : FlatLayout) (trees : Trees) : Type 0 where
  pub boxes : crossing.AreTreesOf flat.boxes.now trees.boxes
  pub proper : ArePerhapsProper flat.tech.now flat.boxes.now trees.proper
  pub metal : ArePiecesOn flat NM trees.metal
  pub poly : ArePiecesOn flat NP trees.poly
  pub pieces : ArePiecesOn flat ND trees.pieces
  pub cuts : AreBoxesOn flat.boxes.now NC trees.cuts
  pub channels : AreChannels flat.tech.now flat.boxes.now trees.channels
