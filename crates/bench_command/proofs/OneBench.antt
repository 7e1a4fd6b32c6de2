-- What `bench` writes is determined.
use Rattle.std.proofs.Common.{◌≡◌, ℕ, List, sym, ap, ◌∙◌, subst}
use Rattle.lam_io.specs.Io.{Bytes}
use Rattle.rule_table.specs.declared.technology.Tech.{Tech}
use Rattle.expand.specs.declared.master.Master.{Master}
use Rattle.plan_model.specs.declared.plan.Plan.{Plan}
use Rattle.pass_run.specs.declared.step.Step.{Step}
use Rattle.net_model.specs.{declared.netlist.Netlist.Netlist, Laws.IsExtractionDetermined}
use Rattle.net_model.proofs.SameExtracted.{extracted_same}
use Rattle.instance_laws.specs.Sticks.{IsSticksNetlist}
use Rattle.design_gen.specs.Made.{made}
use Rattle.command_files.specs.{declared.status.{What.TheVariants.Extent, Status.Status}, Fetches.IsDecided}
use Rattle.command_files.proofs.{Readers.same_tech, Once.MakesOnce}
use Rattle.bench_command.specs.Bench.{IsBenched, IsMadeRefused, RefusesBench, IsShipped, bench_line, tally_of}
use Rattle.bench_command.specs.Bench.{x_then_y}
use Rattle.design_layouts.specs.Designs.{ArePlaced, RefusesDesign, last_layouts}
use Rattle.design_layouts.proofs.{OneMaster.one_passes, OneLayout.{design_refused_once, has_memory, placed_not_refused}}
use Rattle.design_masters.{proofs.Determined.one_masters, specs.Plans.AreMastersOf}
use Rattle.command_files.specs.declared.status.Status.TheVariants as statuses

one_tech : (t u : Tech) → IsShipped t → IsShipped u → t ≡ u
one_tech t u is are = same_tech t u (is ∙ sym are)

-- ---- the line

-- the sticks of placed masters have one netlist
one_list : IsExtractionDetermined → (tech : Tech) (plan : Plan) (masters : List Master) (steps : List Step)
    → ArePlaced tech plan masters x_then_y steps
    → (a b : Netlist) → IsSticksNetlist tech plan masters (last_layouts tech masters steps) a
    → IsSticksNetlist tech plan masters (last_layouts tech masters steps) b → a ≡ b
one_list extraction tech plan masters steps placed a b h k =
    let boxes = placed.nets.boxes in
    let equal = placed.nets.nets.equal in
    extracted_same tech boxes extraction a b ((equal a).1 h) ((equal b).1 k)

-- the line, over the same technology, plan and masters
one_line_over : IsExtractionDetermined
    → (n : ℕ) (tech : Tech) (plan : Plan) (masters : List Master) (s t : List Step) (a b : Netlist)
    → ArePlaced tech plan masters x_then_y s → ArePlaced tech plan masters x_then_y t
    → IsSticksNetlist tech plan masters (last_layouts tech masters s) a
    → IsSticksNetlist tech plan masters (last_layouts tech masters t) b
    → bench_line n (tally_of masters s (last_layouts tech masters s) a)
    ≡ bench_line n (tally_of masters t (last_layouts tech masters t) b)
one_line_over extraction n tech plan masters s t a b p q h k =
    let steps : s ≡ t = one_passes tech plan masters x_then_y s t p.made q.made in
    let N : List Step → Type 0 = λ zs. IsSticksNetlist tech plan masters (last_layouts tech masters zs) b in
    let lists : a ≡ b = one_list extraction tech plan masters s p a b h (subst N (sym steps) k) in
    ap (λ (z : Netlist). bench_line n (tally_of masters s (last_layouts tech masters s) z)) lists
    ∙ ap (λ (zs : List Step). bench_line n (tally_of masters zs (last_layouts tech masters zs) b)) steps

one_line : IsExtractionDetermined → (n : ℕ) (o p : Bytes) → IsBenched n o → IsBenched n p → o ≡ p
one_line extraction n o p h k =
    let tech : h.technology ≡ k.technology = one_tech h.technology k.technology h.shipped k.shipped in
    let A : Tech → Type 0 = λ t. AreMastersOf t (made n) k.plan k.masters in
    let masters = one_masters h.technology (made n) h.plan k.plan h.masters k.masters h.are_masters
    (subst A (sym tech) k.are_masters) in
    let L : Tech → Plan → List Master → Type 0 = λ t z ms. ArePlaced t z ms x_then_y k.line.steps
    × IsSticksNetlist t z ms (last_layouts t ms k.line.steps) k.line.list
    × (p ≡ bench_line n (tally_of ms k.line.steps (last_layouts t ms k.line.steps) k.line.list)) in
    let in_masters = subst (λ ms. L k.technology k.plan ms) (sym masters.1)
    (k.line.laid_out, k.line.is_netlist, k.line.written) in
    let in_plan = subst (λ z. L k.technology z h.masters) (sym masters.0) in_masters in
    let other = subst (λ t. L t h.plan h.masters) (sym tech) in_plan in
    h.line.written
    ∙ (one_line_over extraction n h.technology h.plan h.masters h.line.steps k.line.steps h.line.list k.line.list
    h.line.laid_out other.0 h.line.is_netlist other.1 ∙ sym other.2)

-- ---- the command

-- why `bench` is refused is why its design is
as_made : (n : ℕ) (status : Status) (message : Bytes) → RefusesBench n status message → IsDecided status
    → IsMadeRefused n status message
as_made n statuses.OutOfMemory message why d = absurd d
as_made n (statuses.BadSticks fault) message why d = absurd why
as_made n (statuses.TooLarge Extent) message why d = absurd why
as_made n other message why d = why

-- and that is so under any technology that the program ships with
as_shipped : (n : ℕ) (status : Status) (message : Bytes) (tech : Tech) → IsShipped tech
    → IsMadeRefused n status message → RefusesDesign tech x_then_y (made n) status message
as_shipped n status message tech is h =
    subst (λ (t : Tech). RefusesDesign t x_then_y (made n) status message) (one_tech h.technology tech h.shipped is)
    h.why

pub bench_once : IsExtractionDetermined → (n : ℕ) → MakesOnce (IsBenched n) (RefusesBench n)
bench_once extraction n = record {
  one_made = one_line extraction n;
  not_both = λ status message line h why d.
      placed_not_refused h.technology x_then_y (made n) status message
      (as_shipped n status message h.technology h.shipped (as_made n status message why d)) (has_memory status d)
      h.plan h.masters h.line.steps h.are_masters h.line.laid_out;
  one = λ status other message told why reason d g.
      (let h = as_made n status message why d in
      let k = as_shipped n other told h.technology h.shipped (as_made n other told reason g) in
      design_refused_once h.technology x_then_y (made n) status other message told h.why k d g);
}
