-- The texts of passes and cycles, put together.
use Rattle.std.proofs.Common.{◌≡◌, ℕ, ℤ, List, ◌++◌, ap, ◌∙◌, append_assoc, slice_index}
use Rattle.cons_graph.specs.{declared.edges.Edge.Edge, Lines.lines_of, Solutions.value_of}
use Rattle.expand.specs.declared.master.Master.{Master}
use Rattle.pitch_join.specs.{Masters.master_at, Names.system_names, Joined.far_of}
use Rattle.pass_run.specs.{declared.step.Step.Step, Report.{size_line, walk_at, master_text}}

-- the text of a master, from what the code has of it
pub master_said : (masters : List Master) (edges : List Edge) (step : Step) (m far : ℕ) (master : Master) (size : ℤ)
    (kept : ℕ) (names : List (List ℕ)) (walk lines old mid new : List ℕ)
    → master ≡ master_at masters m → far ≡ far_of step.axis masters m → size ≡ value_of step.x far
    → kept ≡ slice_index step.kept m → names ≡ system_names step.axis masters
    → walk ≡ (walk_at step m).edges → lines ≡ lines_of edges names walk → mid ≡ old ++ size_line master.cell size kept
    → new ≡ mid ++ lines → new ≡ old ++ master_text masters edges step m
master_said masters edges step m far master size kept names walk lines old mid new is border sized counted named
    walked lined begins ends =
    let parts : new ≡ old ++ (size_line master.cell size kept ++ lines) =
    ends ∙ (ap (λ ns. ns ++ lines) begins ∙ append_assoc old (size_line master.cell size kept) lines) in
    rw (lined, named, walked, sized, border, counted, is) at parts
