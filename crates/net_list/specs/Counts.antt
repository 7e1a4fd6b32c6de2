-- How many pieces a net has, by layer.
use Rattle.std.specs.Prelude.{ℕ, ◌+◌, List, [], ◌∷◌, ◌++◌, slice_index_or}
use Rattle.lam_geom.specs.declared.boxes.MaskLayer.{MaskLayer, TheVariants.{ND, NP, NC, NM, NI, NB}}
use Rattle.crossing_model.specs.Boxes.{no_box}
use Rattle.net_model.specs.declared.netlist.Piece.{Piece}
use Rattle.net_list.specs.declared.counting.PieceCounts.{PieceCounts}
use Rattle.net_list.specs.Lines.{is_diffusion, is_poly, is_metal, pieces_on, net_words}

abbrev pub no_pieces : PieceCounts
no_pieces = record { diffusion = 0; poly = 0; metal = 0 }

-- one piece more on a layer
abbrev pub one_more : PieceCounts → MaskLayer → PieceCounts
one_more c ND = record c { diffusion = c.diffusion + 1 }
one_more c NP = record c { poly = c.poly + 1 }
one_more c NM = record c { metal = c.metal + 1 }
one_more c NC = c
one_more c NI = c
one_more c NB = c

-- the layer of box number k, from the layer of each
abbrev pub layer_in : List MaskLayer → ℕ → MaskLayer
layer_in layers k = slice_index_or layers k no_box.layer

abbrev pub counts_of : (ℕ → MaskLayer) → List Piece → ℕ → PieceCounts
counts_of layer pieces net = record {
  diffusion = pieces_on is_diffusion layer pieces net;
  poly = pieces_on is_poly layer pieces net;
  metal = pieces_on is_metal layer pieces net;
}

abbrev pub counts_words : ℕ → PieceCounts → List ℕ
counts_words net c = net_words net c.diffusion c.poly c.metal

abbrev pub counts_line : ℕ → PieceCounts → List ℕ
counts_line net c = counts_words net c ++ (10 ∷ [])

-- nets, numbered from n on
abbrev pub counts_lines : ℕ → List PieceCounts → List ℕ
counts_lines n [] = []
counts_lines n (c ∷ counts) = counts_line n c ++ counts_lines (n + 1) counts
