-- Where the ends of items lie.
use Rattle.std.specs.Prelude.{ℕ, ℤ, pos, ◌+ℤ◌, List, slice_index_or}
use Rattle.sym_items.specs.declared.items.End.{End}

-- the values of the variables of an axis, as a map: a list of values stands for it
abbrev pub value_of : List ℤ → ℕ → ℤ
value_of values v = slice_index_or values v (pos 0)

-- where an end lies under some values of the variables
abbrev pub end_under : (ℕ → ℤ) → End → ℤ
end_under x e = x e.var +ℤ e.off

-- where an end lies in a list of values
abbrev pub value_at : End → List ℤ → ℤ
value_at e values = end_under (value_of values) e
