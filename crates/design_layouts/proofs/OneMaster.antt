-- Start layouts, passes and their extent are one, and so is why masters have none.
use Rattle.std.proofs.Common.{◌≡◌, ℕ, ◌<◌, true, false, ℤ, ◌≤ℤ◌, ◌<ℤ◌, List, length, take, ◌⊎◌, inl, inr, refl, sym, ap}
use Rattle.std.proofs.{Common.{◌∙◌, subst, arith}, lemmas.{Int.ints, Bool.cases_order, List.length-take-le}}
use Rattle.std.{proofs.lemmas.List.{get_or-take, Elements.All-get_or}, specs.Prelude.All}
use Rattle.rule_table.specs.declared.technology.Tech.{Tech}
use Rattle.lam_geom.specs.declared.boxes.Axis.{Axis}
use Rattle.lam_io.specs.Io.{Bytes}
use Rattle.sym_items.specs.declared.items.{Item.Item, Coords.Coords}
use Rattle.stick_text.specs.declared.design.Design.{Design}
use Rattle.expand.specs.declared.master.Master.{Master}
use Rattle.pair_rules.specs.{Bound.item_at, Clean.IsClean}
use Rattle.coarse_grid.{specs.{Start.start_of, Clash.{IsFirstClash, is_near_at}}, proofs.Nears.clean_not_near}
use Rattle.plan_model.specs.declared.plan.Plan.{Plan}
use Rattle.pitch_join.specs.Masters.{master_at, no_master}
use Rattle.pass_run.specs.{declared.{step.Step.Step, passes.PassFault.PassFault}, Layouts.starts_of, Laid.StartsClean}
use Rattle.pass_run.specs.PassFaults.{AreRefusedInOneWay, RefusesPasses}
use Rattle.pass_run.proofs.{Determined.passes_determined, OneRefusal.refused_in_one_way}
use Rattle.pass_run.specs.declared.passes.PassFault.TheVariants as stop
use Rattle.command_files.specs.{declared.status.{What.TheVariants.{Edges, Extent}, Status.Status}, StepLists.Steps}
use Rattle.command_files.{specs.Fetches.IsDecided, proofs.Once.{AreOne, ComeOnce, IsFault, MakesOnce, once_by}}
use Rattle.design_layouts.specs.Designs.{refusal_of, ArePassesOn, ArePlaced, HasClash, IsFirstUnclean, NoStarts}
use Rattle.design_layouts.specs.Designs.{NoPasses, NoExtent, last_layouts, clean_starts, with_passes, with_starts}
use Rattle.design_layouts.{specs.Designs.with_layout, proofs.OnePlan.masters_come}
use Rattle.fault_lines.specs.Clash.{clash_text}
use Rattle.extents.specs.Extents.{IsWithin, IsPast}
use Rattle.design_masters.specs.Plans.{AreMastersOf}
use Rattle.command_files.specs.declared.status.Status.TheVariants as statuses

-- ---- start layouts

-- two first clashes are one
first_once : (tech : Tech) (c : Coords) (items : List Item) (i j k l : ℕ) → IsFirstClash tech c items i j
    → IsFirstClash tech c items k l → (i ≡ k) × (j ≡ l)
first_once tech c items i j k l a b =
    elim (cases_order i k) as (λ _. (i ≡ k) × (j ≡ l)) [
      | inl e ↦
          elim (cases_order j l) as (λ _. (i ≡ k) × (j ≡ l)) [
            | inl f ↦ (e, f)
            | inr ne ↦
                elim ne as (λ _. (i ≡ k) × (j ≡ l)) [
                  | inl lt ↦ absurd (clash tech c items i j a.near (b.least i j a.ordered a.among (inr (e, lt))))
                  | inr gt ↦ absurd (clash tech c items k l b.near (a.least k l b.ordered b.among (inr (sym e, gt))))
                ]
          ]
      | inr ne ↦
          elim ne as (λ _. (i ≡ k) × (j ≡ l)) [
            | inl lt ↦ absurd (clash tech c items i j a.near (b.least i j a.ordered a.among (inl lt)))
            | inr gt ↦ absurd (clash tech c items k l b.near (a.least k l b.ordered b.among (inl gt)))
          ]
    ]
  where
    clash : (tech : Tech) (c : Coords) (items : List Item) (i j : ℕ) → is_near_at tech c items i j ≡ true
        → is_near_at tech c items i j ≡ false → ⊥
    clash tech c items i j t f = cc

one_clash : (tech : Tech) (master : Master) (a b c d : ℕ) (line told : Bytes) → HasClash tech master a b line
    → HasClash tech master c d told → (a ≡ c) × (b ≡ d) × (line ≡ told)
one_clash tech master a b c d line told p q =
    let same = first_once tech (start_of tech master.cell) master.items.list a b c d p.first q.first in
    let text : ℕ → ℕ → Bytes = λ i j. clash_text master.cell (item_at master.items.list i).owner
    (item_at master.items.list j).owner in
    (same.0, same.1, p.says ∙ (ap (λ (n : ℕ). text n b) same.0 ∙ (ap (λ (n : ℕ). text c n) same.1 ∙ sym q.says)))

-- a layout with a clash is not clean
not_clean : (tech : Tech) (master : Master) (a b : ℕ) (line : Bytes) → HasClash tech master a b line
    → IsClean tech (start_of tech master.cell) master.items.list → ⊥
not_clean tech master a b line p clean =
    let first = p.first in
    let ordered = first.ordered in
    let among = first.among in
    let far = clean_not_near tech (start_of tech master.cell) master.items.list a b clean
    (omega (arith, ordered, among)) among in
    let near = first.near in
    cc

-- the start layout of a master that is one of some is clean where all of theirs are
clean_at : (tech : Tech) (masters : List Master) (number : ℕ) → number < length masters
    → All (StartsClean tech) masters → StartsClean tech (master_at masters number)
clean_at tech masters number lt all = All-get_or (StartsClean tech) masters number no_master lt all

-- and where those of the first are, and it is one of these
clean_before : (tech : Tech) (masters : List Master) (number other : ℕ) → number < other → other < length masters
    → All (StartsClean tech) (take other masters) → StartsClean tech (master_at masters number)
clean_before tech masters number other before among all =
    let count : length (take other masters) ≡ other = length-take-le other masters (omega (arith, among)) in
    let at = All-get_or (StartsClean tech) (take other masters) number no_master (omega (arith, count, before)) all in
    rw (get_or-take other masters number no_master before) at at

one_unclean : (tech : Tech) (masters : List Master) (m n a b c d : ℕ) (line told : Bytes)
    → IsFirstUnclean tech masters m a b line → IsFirstUnclean tech masters n c d told
    → (m ≡ n) × (a ≡ c) × (b ≡ d) × (line ≡ told)
one_unclean tech masters m n a b c d line told p q =
    elim (cases_order m n) as (λ _. (m ≡ n) × (a ≡ c) × (b ≡ d) × (line ≡ told)) [
      | inl e ↦
          let C : ℕ → Type 0 = λ k. HasClash tech (master_at masters k) c d told in
          let same = one_clash tech (master_at masters m) a b c d line told p.clash (subst C (sym e) q.clash) in
          (e, same.0, same.1, same.2)
      | inr ne ↦
          elim ne as (λ _. (m ≡ n) × (a ≡ c) × (b ≡ d) × (line ≡ told)) [
            | inl lt ↦
                absurd (not_clean tech (master_at masters m) a b line p.clash
                (clean_before tech masters m n lt q.among q.before))
            | inr gt ↦
                absurd (not_clean tech (master_at masters n) c d told q.clash
                (clean_before tech masters n m gt p.among p.before))
          ]
    ]

-- where one has a clash, not all are clean
pub not_unclean : (tech : Tech) (masters : List Master) (status : Status) (message : Bytes)
    → All (StartsClean tech) masters → NoStarts tech masters status message → ⊥
not_unclean tech masters (statuses.Clash number a b) message all why =
    not_clean tech (master_at masters number) a b message why.clash (clean_at tech masters number why.among all)
not_unclean tech masters other message all why = why

-- ---- passes

pub one_passes : (tech : Tech) (plan : Plan) (masters : List Master) (axes : List Axis) (s t : List Step)
    → ArePassesOn tech plan masters axes s → ArePassesOn tech plan masters axes t → s ≡ t
one_passes tech plan masters axes s t a b =
    passes_determined tech plan masters (starts_of tech masters) s t a.passes b.passes (a.on_axes ∙ sym b.on_axes)

not_above : (a b : ℤ) → a ≤ℤ b → b <ℤ a → ⊥
not_above a b le lt = omega (arith, ints, le, lt)

-- layouts are not within the extent and past it
pub not_within : (tech : Tech) (plan : Plan) (layouts : List Coords) → IsWithin tech plan layouts
    → IsPast tech plan layouts → ⊥
not_within tech plan layouts w (inl past) = not_above _ _ w.width past
not_within tech plan layouts w (inr past) = not_above _ _ w.height past

-- why passes are refused, as a fault of theirs
without : (tech : Tech) (plan : Plan) (masters : List Master) (axes : List Axis) (status : Status) (message : Bytes)
    → NoPasses tech plan masters axes status message
    → IsFault (RefusesPasses tech plan masters axes) stop.OutOfMemory refusal_of status message
without tech plan masters axes (statuses.TooLarge Edges) message why =
    (stop.TooManyEdges why.0, why.1, λ e. cc, refl, refl)
without tech plan masters axes (statuses.Unsatisfiable pass) message why =
    (stop.Unsatisfiable pass message, why, λ e. cc, refl, refl)
without tech plan masters axes other message why = absurd why

-- ---- the steps

starts_once : (tech : Tech) (masters : List Master)
    → MakesOnce (λ (u : Unit {0}). All (StartsClean tech) masters) (NoStarts tech masters)
starts_once tech masters =
    record {
      one_made = λ u v h k. refl;
      not_both = λ status message u clean why d.
          not_unclean tech masters status message clean why;
      one = alike;
    }
  where
    alike : (e f : Status) (message told : Bytes) → NoStarts tech masters e message → NoStarts tech masters f told
        → IsDecided e → IsDecided f → AreOne e f message told
    alike (statuses.Clash m a b) (statuses.Clash n c d) message told p q de df =
        let same = one_unclean tech masters m n a b c d message told p q in (
          ap (λ (k : ℕ). statuses.Clash k a b) same.0
              ∙ (ap (λ (k : ℕ). statuses.Clash n k b) same.1 ∙ ap (λ (k : ℕ). statuses.Clash n c k) same.2),
          same.3,
        )
    alike (statuses.Clash m a b) f message told p q de df = absurd q
    alike e f message told p q de df = absurd p

passes_once : (tech : Tech) (plan : Plan) (masters : List Master) (axes : List Axis)
    → MakesOnce (ArePassesOn tech plan masters axes) (NoPasses tech plan masters axes)
passes_once tech plan masters axes =
    once_by (RefusesPasses tech plan masters axes) stop.OutOfMemory refusal_of
    (λ e f h k has have. go e f has have (in_one_way.one e f h k)) (without tech plan masters axes)
    (one_passes tech plan masters axes)
    (λ status message steps made why.
    (let w = without tech plan masters axes status message why in w.2
    (in_one_way.none_made steps w.0 made.passes made.on_axes w.1)))
  where
    in_one_way : AreRefusedInOneWay tech plan masters axes
    in_one_way = refused_in_one_way tech plan masters axes

    go : (e f : PassFault) → (e ≡ stop.OutOfMemory → ⊥) → (f ≡ stop.OutOfMemory → ⊥)
        → (e ≡ stop.OutOfMemory) ⊎ (f ≡ stop.OutOfMemory) ⊎ (e ≡ f) → e ≡ f
    go e f has have (inl none) = absurd (has none)
    go e f has have (inr (inl none)) = absurd (have none)
    go e f has have (inr (inr same)) = same

extent_once : (tech : Tech) (plan : Plan) (masters : List Master) (axes : List Axis) (steps : List Step)
    → MakesOnce (λ (u : Unit {0}). ArePlaced tech plan masters axes steps) (NoExtent tech plan masters steps)
extent_once tech plan masters axes steps =
    record { one_made = λ u v h k. refl; not_both = λ status message u. both status message; one = alike }
  where
    both : (status : Status) (message : Bytes) → ArePlaced tech plan masters axes steps
        → NoExtent tech plan masters steps status message → IsDecided status → ⊥
    both (statuses.TooLarge Extent) message placed why d =
        not_within tech plan (last_layouts tech masters steps) placed.within why
    both other message placed why d = why

    alike : (e f : Status) (message told : Bytes) → NoExtent tech plan masters steps e message
        → NoExtent tech plan masters steps f told → IsDecided e → IsDecided f → AreOne e f message told
    alike (statuses.TooLarge Extent) (statuses.TooLarge Extent) message told p q de df = (refl, refl)
    alike (statuses.TooLarge Extent) f message told p q de df = absurd q
    alike e f message told p q de df = absurd p

pub starts_come : (tech : Tech) (design : Design) (rest : Plan → List Master → Steps)
    → ((plan : Plan) (masters : List Master) → AreMastersOf tech design plan masters → ComeOnce (rest plan masters))
    → ComeOnce (with_starts tech design rest)
starts_come tech design rest then =
    masters_come tech design (λ plan masters. clean_starts tech masters (rest plan masters))
    (λ plan masters are. (starts_once tech masters, λ u clean. then plan masters are))

pub layout_come : (tech : Tech) (axes : List Axis) (design : Design) (rest : Plan → List Master → List Step → Steps)
    → ((plan : Plan) (masters : List Master) (steps : List Step) → AreMastersOf tech design plan masters
    → ArePlaced tech plan masters axes steps → ComeOnce (rest plan masters steps))
    → ComeOnce (with_layout tech axes design rest)
layout_come tech axes design rest then =
    starts_come tech design (λ plan masters. with_passes tech axes plan masters (rest plan masters))
    (λ plan masters are. (
      passes_once tech plan masters axes,
      λ steps made.
          (extent_once tech plan masters axes steps, λ u placed. then plan masters steps are placed),
    ))
