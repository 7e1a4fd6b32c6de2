-- The limits of the program.
use Rattle.std.specs.Prelude.{ℕ, ◌^◌}

-- the bytes of a design's text
abbrev pub most_design_bytes : ℕ
most_design_bytes = 1048576

-- the bytes of a technology's text
abbrev pub most_technology_bytes : ℕ
most_technology_bytes = 65536

-- the bytes of a CIF text
abbrev pub most_cif_bytes : ℕ
most_cif_bytes = 2 ^ 26

-- the bytes of a script
abbrev pub most_script_bytes : ℕ
most_script_bytes = 65536

-- the passes of a command
abbrev pub most_passes : ℕ
most_passes = 16
