-- What is told of how far each part of some masters could move on an axis.
use Rattle.std.specs.Prelude.{ℕ, suc, ℤ, ◌-ℤ◌, List, [], ◌∷◌, ◌++◌, codes, decimal, drop, flat_map}
use Rattle.std.specs.Fmt.{signed_decimal}
use Rattle.lam_geom.specs.declared.boxes.Axis.{Axis, TheVariants.{X, Y}}
use Rattle.cons_graph.specs.Solutions.{value_of}
use Rattle.expand.specs.declared.master.Master.{Master}
use Rattle.pitch_join.specs.{Masters.{master_at, master_numbers}, Names.own_names, Joined.{base_of, far_of}}

abbrev pub letter : Axis → List ℕ
letter X = codes "x"
letter Y = codes "y"

-- `axis A pass P`
abbrev pub axis_line : Axis → ℕ → List ℕ
axis_line axis pass = codes "axis " ++ (letter axis ++ (codes " pass " ++ (decimal pass ++ codes "\n")))

-- `cell CELL size S`
abbrev pub size_line : List ℕ → ℤ → List ℕ
size_line name size = codes "cell " ++ (name ++ (codes " size " ++ (signed_decimal size ++ codes "\n")))

-- ` least L most G slack D`: the slack is how far the part could move
abbrev pub places_text : ℤ → ℤ → List ℕ
places_text least most =
    codes " least "
    ++ (signed_decimal least
    ++ (codes " most "
    ++ (signed_decimal most ++ (codes " slack " ++ (signed_decimal (most -ℤ least) ++ codes "\n")))))

-- `NAME least L most G slack D`
abbrev pub slack_line : List ℕ → ℤ → ℤ → List ℕ
slack_line name least most = name ++ places_text least most

-- the lines of variables with these names, which follow one another from this number on
abbrev pub slack_lines : List (List ℕ) → ℕ → List ℤ → List ℤ → List ℕ
slack_lines [] v least most = []
slack_lines (name ∷ names) v least most =
    slack_line name (value_of least v) (value_of most v) ++ slack_lines names (suc v) least most

-- master m: its size, which is the value of its far border, and a line for each of its variables but the borders
abbrev pub master_slack : Axis → List Master → List ℤ → List ℤ → ℕ → List ℕ
master_slack axis masters least most m =
    size_line (master_at masters m).cell.name (value_of least (far_of axis masters m))
    ++ slack_lines (drop 1 (own_names axis (master_at masters m).cell)) (suc (base_of axis masters m)) least most

-- the values of the pass with this number, from 1, and the greatest ones
abbrev pub axis_slack : Axis → ℕ → List Master → List ℤ → List ℤ → List ℕ
axis_slack axis pass masters least most =
    axis_line axis pass ++ flat_map (master_slack axis masters least most) (master_numbers masters)
