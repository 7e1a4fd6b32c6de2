-- The report of the passes of a plan.
use Rattle.std.specs.Prelude.{ℕ, suc, ℤ, List, [], ◌∷◌, ◌++◌, codes, decimal, flat_map, slice_index, slice_index_or}
use Rattle.std.specs.Fmt.{signed_decimal}
use Rattle.lam_geom.specs.declared.boxes.Axis.{Axis, TheVariants.{X, Y}}
use Rattle.rule_table.specs.declared.technology.Tech.{Tech}
use Rattle.cons_graph.specs.{declared.edges.Edge.Edge, Lines.lines_of, SimpleWalks.length_of, Solutions.value_of}
use Rattle.sym_items.specs.declared.items.Coords.{Coords}
use Rattle.cell_model.specs.declared.cell.Cell.{Cell}
use Rattle.expand.specs.declared.master.Master.{Master}
use Rattle.plan_model.specs.declared.plan.Plan.{Plan}
use Rattle.pitch_join.specs.{Masters.{master_at, master_numbers}, Names.system_names, Joined.{far_of, pruned_system}}
use Rattle.pass_run.specs.{declared.step.{Step.Step, Walk.Walk}, Layouts.moved_by}

abbrev pub letter : Axis → List ℕ
letter X = codes "x"
letter Y = codes "y"

-- what each line of a pass begins with: its number and its axis
abbrev pub pass_head : ℕ → Axis → List ℕ
pass_head pass axis = codes "pass " ++ decimal pass ++ codes " " ++ letter axis

-- the line of the numbers of a pass
abbrev pub count_line : ℕ → ℕ → ℕ → List ℕ
count_line edges backward rounds = codes " edges " ++ decimal edges ++ codes " backward " ++ decimal backward
    ++ codes " rounds " ++ decimal rounds ++ codes "\n"

-- the line of the size of a cell and its number of kept pairs
abbrev pub size_line : Cell → ℤ → ℕ → List ℕ
size_line cell size kept = codes "cell " ++ cell.name ++ codes " size " ++ signed_decimal size ++ codes " kept "
    ++ decimal kept ++ codes "\n"

-- the walk of a pass to the far border of master m, and the value there
abbrev pub walk_at : Step → ℕ → Walk
walk_at step m = slice_index_or step.walks m (record { edges = [] })

abbrev pub size_at : List Master → Step → ℕ → ℤ
size_at masters step m = value_of step.x (far_of step.axis masters m)

-- the text of a master in a pass: its size, its kept pairs, and its critical path
abbrev pub master_text : List Master → List Edge → Step → ℕ → List ℕ
master_text masters edges step m =
    size_line (master_at masters m).cell (size_at masters step m) (slice_index step.kept m)
    ++ lines_of edges (system_names step.axis masters) (walk_at step m).edges

-- the text of a pass: its numbers, and the text of each master
abbrev pub pass_text : List Master → List Edge → ℕ → Step → List ℕ
pass_text masters edges pass step =
    pass_head pass step.axis
    ++ (count_line step.edges step.backward step.rounds ++ flat_map (master_text masters edges step)
    (master_numbers masters))

-- the texts of some passes, counted from this number on
abbrev pub report_from : Tech → Plan → List Master → ℕ → List Coords → List Step → List ℕ
report_from tech plan masters pass before [] = []
report_from tech plan masters pass before (step ∷ steps) =
    pass_text masters (pruned_system step.axis tech plan masters before) pass step
    ++ report_from tech plan masters (suc pass) (moved_by masters before step) steps

-- the report of all passes
abbrev pub report_of : Tech → Plan → List Master → List Coords → List Step → List ℕ
report_of tech plan masters starts steps = report_from tech plan masters 1 starts steps

-- what is said of a pass whose system has a positive cycle: the cycle's length, and its lines, with these names
abbrev pub cycle_text : List (List ℕ) → List Edge → ℕ → Axis → List ℕ → List ℕ
cycle_text names edges pass axis cycle =
    pass_head pass axis
    ++ (codes " unsatisfiable length "
    ++ (signed_decimal (length_of edges cycle) ++ (codes "\n" ++ lines_of edges names cycle)))
