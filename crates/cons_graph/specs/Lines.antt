use Rattle.std.specs.{Prelude.{ℕ, List, [], ◌++◌, codes, flat_map, slice_index_or}, Fmt.signed_decimal}
use Rattle.cons_graph.specs.declared.edges.{Edge.Edge, Why.{Why, TheVariants.{Size, Extent, Overlap, Margin, Limit}}}
use Rattle.cons_graph.specs.{declared.edges.Why.TheVariants.{Pitch, Port, Space}, EdgeNumbers.edge_at}

-- the word of a reason
abbrev pub word_of : Why → List ℕ
word_of Size = codes "size"
word_of Extent = codes "extent"
word_of Overlap = codes "overlap"
word_of Margin = codes "margin"
word_of Limit = codes "limit"
word_of Pitch = codes "pitch"
word_of Port = codes "port"
word_of Space = codes "space"

-- the name of a variable
abbrev pub name_of : List (List ℕ) → ℕ → List ℕ
name_of names v = slice_index_or names v []

-- the line of an edge: the names of its tail and its head, its length and the word of its reason, and a line end
abbrev pub line_of : List (List ℕ) → Edge → List ℕ
line_of names e =
    name_of names e.from ++ codes " -> " ++ name_of names e.to ++ codes " " ++ signed_decimal e.len ++ codes " "
    ++ word_of e.why ++ codes "\n"

-- the lines of the edges with these numbers, in their order
abbrev pub lines_of : List Edge → List (List ℕ) → List ℕ → List ℕ
lines_of edges names numbers = flat_map (λ k. line_of names (edge_at edges k)) numbers
