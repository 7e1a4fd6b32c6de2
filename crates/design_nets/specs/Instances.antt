-- The instances of all grids, one by one.
use Rattle.std.specs.{Prelude.{ℕ, List, length, map, flat_map, slice_index, slice_index_or}, List.range_with_len}
use Rattle.plan_model.specs.{Instances.{InstancePlace, master_at_spot, spots_of}, Rows.row_at}
use Rattle.design_nets.specs.declared.instances.Instance.{Instance}

-- the instance at a spot
abbrev pub instance_at : List (List (List ℕ)) → InstancePlace → Instance
instance_at grids p = record { grid = p.grid; row = p.row; col = p.col; master = master_at_spot grids p }

-- grids in order, of each the rows from the bottom, and each row from the left
abbrev pub instances_of : List (List (List ℕ)) → List Instance
instances_of grids = map (instance_at grids) (spots_of grids)

-- where an instance stands
abbrev pub spot_of : Instance → InstancePlace
spot_of i = record { grid = i.grid; row = i.row; col = i.col }

-- instance number s
abbrev pub no_instance : Instance
no_instance = record { grid = 0; row = 0; col = 0; master = 0 }

abbrev pub instance_no : List Instance → ℕ → Instance
instance_no instances s = slice_index_or instances s no_instance

abbrev pub spot_no : List Instance → ℕ → InstancePlace
spot_no instances s = spot_of (instance_no instances s)

abbrev pub master_no : List Instance → ℕ → ℕ
master_no instances s = (instance_no instances s).master

-- ---- row by row

-- those of a row, by the numbers of its grid and its own
abbrev pub instance_in_row : ℕ → ℕ → List ℕ → ℕ → Instance
instance_in_row g r cells c = record { grid = g; row = r; col = c; master = slice_index cells c }

abbrev pub instances_in_row : ℕ → ℕ → List ℕ → List Instance
instances_in_row g r cells = map (instance_in_row g r cells) (range_with_len 0 (length cells))

-- those of a grid
abbrev pub instances_in_row_at : ℕ → List (List ℕ) → ℕ → List Instance
instances_in_row_at g rows r = instances_in_row g r (row_at rows r)

abbrev pub instances_in_grid : ℕ → List (List ℕ) → List Instance
instances_in_grid g rows = flat_map (instances_in_row_at g rows) (range_with_len 0 (length rows))
