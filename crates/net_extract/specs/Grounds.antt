-- What a search for nets goes over, and the search on it.
use Rattle.std.specs.Prelude.{ℕ, List}
use Rattle.lam_geom.specs.declared.boxes.MaskLayer.TheVariants.{NB}
use Rattle.crossing_model.specs.Boxes.{AreSearchable}
use Rattle.crossings.specs.Entries.{AreBoxesOn}
use Rattle.net_extract.specs.{declared.{ground.Ground.Ground, searches.Search.Search}, Linking.AreBeside}
use Rattle.net_extract.specs.Spreading.{IsSearch, IsStep}
use Rattle.box_pieces.specs.{declared.placing.Placed.Placed, Pieces.ArePiecesOf}

-- The boxes can be searched, the tree is that of their windows, and the pieces are theirs.
pub record IsGround (g : Ground) : Type 0 where
  pub searchable : AreSearchable g.boxes.now
  pub windows : AreBoxesOn g.boxes.now NB g.windows.now
  pub pieces : ArePiecesOf g.boxes.now g.pieces.now

abbrev pub placed_on : Ground → List Placed
placed_on g = g.pieces.now.placed.items

abbrev pub AreBesideOn : Ground → ℕ → ℕ → Type 0
AreBesideOn g = AreBeside g.tech.now g.boxes.now (placed_on g)

abbrev pub IsSearchOn : Ground → Search → Type 0
IsSearchOn g = IsSearch g.tech.now g.boxes.now (placed_on g)

abbrev pub IsStepOn : Ground → (ℕ → Type 0) → ℕ → Search → Search → Type 0
IsStepOn g = IsStep g.tech.now g.boxes.now (placed_on g)
