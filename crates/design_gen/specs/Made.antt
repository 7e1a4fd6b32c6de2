-- The design that is made from a number n: one cell with a node at each point of a square for which one is drawn, and
-- wires between neighbours.
use Rattle.std.specs.Prelude.{ℕ, ◌+◌, ◌-◌, ◌/◌, ◌%◌, nat_lt, Bool, true, false, ◌&&◌, if◌then◌else◌, List, [], ◌∷◌}
use Rattle.std.specs.{Prelude.{◌++◌, length, map, Option, Some, None, codes, decimal}, List.filter_map}
use Rattle.std.specs.List.{enumerate_from}
use Rattle.stick_text.specs.declared.design.Layer.TheVariants as layers
use Rattle.stick_text.specs.declared.design.{Form.Form, Line.Line, Design.Design}
use Rattle.stick_text.specs.declared.design.Form.TheVariants as forms
use Rattle.design_gen.specs.declared.draws.{Stand.{Stand, TheVariants.{Nothing, Metal, Poly, Contact}}, Point.Point}
use Rattle.design_gen.specs.Draws.{point_at, points}

-- the name of point k by its column and its row, such as n3_0
abbrev pub name_at : ℕ → ℕ → List ℕ
name_at n k = codes "n" ++ (decimal (k % n) ++ (codes "_" ++ decimal (k / n)))

-- ---- nodes

-- what stands at a point, with its name, its column and its row
abbrev pub node_of : Stand → List ℕ → ℕ → ℕ → Option Form
node_of Nothing name col row = None
node_of Metal name col row = Some (forms.Joint name layers.Metal col row None)
node_of Poly name col row = Some (forms.Joint name layers.Poly col row None)
node_of Contact name col row = Some (forms.Contact name layers.Diffusion col row)

-- the node at point k, if one stands there
unfoldable pub node_at : ℕ → ℕ → Option Form
node_at n k = node_of (point_at n k).stand (name_at n k) (k % n) (k / n)

-- ---- wires

abbrev pub is_metal : Stand → Bool
is_metal Nothing = false
is_metal Metal = true
is_metal Poly = false
is_metal Contact = false

-- both are metal joints, and the right one is to be joined to the left one
abbrev pub are_joined : Point → Point → Bool
are_joined left right = is_metal left.stand && (is_metal right.stand && right.is_joined)

-- point k has a left neighbour, and they are joined
abbrev pub is_wired : ℕ → ℕ → Bool
is_wired n k = nat_lt 0 (k % n) && are_joined (point_at n (k - 1)) (point_at n k)

-- the wire from the left neighbour of point k to it, if there is one
unfoldable pub wire_at : ℕ → ℕ → Option Form
wire_at n k = if is_wired n k then Some (forms.Wire layers.Metal (name_at n (k - 1)) (name_at n k) None) else None

-- ---- the design

-- the nodes, then the wires, both point by point
unfoldable pub forms_of : ℕ → List Form
forms_of n = filter_map (node_at n) (points n) ++ filter_map (wire_at n) (points n)

-- forms on lines that follow one another, the first on the line of this number
abbrev pub lines_from : ℕ → List Form → List Line
lines_from number forms = map (λ entry. record { number = entry.0; form = entry.1 }) (enumerate_from number forms)

-- The cell `bench` after the line of the version, and a grid of this one cell, each line after the one before it.
unfoldable pub made : ℕ → Design
made n = record {
  version = 1;
  cells = record {
    name = codes "bench";
    line = 2;
    end_line = 3 + length (forms_of n);
    lines = lines_from 3 (forms_of n);
  } ∷ [];
  grids = record { name = None; line = 4 + length (forms_of n); rows = record { names = codes "bench" ∷ [] } ∷ [] } ∷
      [];
}
