-- Boxes with what is known of them, and the rules on nets.
use Rattle.std.specs.Prelude.{◌≡◌, ◌⊎◌, ℕ, All, Contains, List}
use Rattle.lam_geom.specs.declared.boxes.{BoxXY.BoxXY, MaskBox.MaskBox}
use Rattle.rule_table.specs.declared.technology.Tech.{Tech}
use Rattle.crossing_model.specs.{declared.crossing.Crossing.Crossing, Boxes.AreSearchable, Crossings.AreProper}
use Rattle.crossing_model.specs.Crossings.{AreCrossings, AreInOrder}
use Rattle.crossings.specs.Entries.{AreTreesOf}
use Rattle.box_pieces.specs.{Pieces.ArePiecesOf}
use Rattle.net_model.specs.Extraction.{AreNets}
use Rattle.rule_breaks.specs.declared.rule.Rule.{Rule, TheVariants.{MetalSpacing, PolySpacing, DiffusionSpacing}}
use Rattle.rule_breaks.specs.Breaks.{IsChannel}
use Rattle.flat_check.specs.{declared.flat_layout.{Crossed.Crossed, FlatLayout.FlatLayout}, Trees.ArePerhapsProper}

-- crossings that have all channels, in order of their diffusion: none where poly and diffusion do not cross properly
pub record HaveChannels (tech : Tech) (boxes : List MaskBox) (crossings : List Crossing) : Type 0 where
  pub each : All (λ (c : Crossing). IsChannel tech boxes c.diffusion c.channel) crossings
  pub in_order : AreInOrder crossings
  pub complete : (d : ℕ) (channel : BoxXY) → IsChannel tech boxes d channel
      → (c : Crossing) × Contains crossings c × (c.diffusion ≡ d) × (c.channel ≡ channel)

-- what is found by crossings: the trees, the pieces, and whether all crossings are proper
pub record AreCrossed (tech : Tech) (boxes : List MaskBox) (crossed : Crossed) : Type 0 where
  pub trees : AreTreesOf boxes crossed.trees
  pub channels : HaveChannels tech boxes crossed.pieces.crossings.items
  pub crossings : AreProper tech boxes → AreCrossings tech boxes crossed.pieces.crossings.items
  pub pieces : ArePiecesOf boxes crossed.pieces
  pub proper : ArePerhapsProper tech boxes crossed.proper

-- The boxes can be searched, and the channels, the pieces and their nets are those of the boxes. Where poly and
-- diffusion do not cross properly all boxes are pieces as a whole.
pub record IsFlatLayout (flat : FlatLayout) : Type 0 where
  pub searchable : AreSearchable flat.boxes.now
  pub channels : HaveChannels flat.tech.now flat.boxes.now flat.pieces.crossings.items
  pub crossings : AreProper flat.tech.now flat.boxes.now
      → AreCrossings flat.tech.now flat.boxes.now flat.pieces.crossings.items
  pub pieces : ArePiecesOf flat.boxes.now flat.pieces
  pub nets : AreNets flat.tech.now flat.boxes.now flat.pieces.crossings.items flat.nets.items

-- a rule that looks at nets: what shapes rules 1 to 5 ask of all boxes is known to hold there
abbrev pub IsOnNets : Rule → Type 0
IsOnNets rule = (rule ≡ MetalSpacing) ⊎ ((rule ≡ PolySpacing) ⊎ (rule ≡ DiffusionSpacing))
