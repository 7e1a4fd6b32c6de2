-- The masters of a plan.
use Rattle.std.proofs.Common.{◌≡◌, ℕ, ◌+◌, ◌<◌, ◌≤◌, Ok, List, [], ◌∷◌, length, map, sum_by, get_or, refl, sym, ap, ◌∙◌}
use Rattle.std.proofs.{Common.{subst, arith}, lemmas.List.{Elements.{All-get_or, All-tail}, Sums.sum_by-cons}}
use Rattle.std.specs.{Prelude.All, List.AllByRecursion}
use Rattle.list_facts.proofs.Elements.{by_number, all_of}
use Rattle.rule_table.specs.declared.technology.Tech.{Tech}
use Rattle.stick_text.specs.{declared.design.{Design.Design, GridText.GridText}, Writable.{IsName, IsWritable}}
use Rattle.checked_cells.specs.{Counts.weight_of, CheckedCell.{CheckedCell, cell_of, known_at}, Ports.ports_of}
use Rattle.checked_cells.specs.{Grids.{grids_after, resolved_cells}, Built.AreBuilt, Lines.known_cells}
use Rattle.checked_cells.proofs.{Accepted.two_bound, Built.{are_built-known_cells, light-cell_of, sound-known_at}}
use Rattle.checked_cells.proofs.TableReads.{number-lt}
use Rattle.stick_cell.proofs.PortsSeen.{light_ports_seen}
use Rattle.cell_model.specs.{declared.cell.{Cell.Cell, CellPort.CellPort}, Ports.ports_of_cell, Sound.IsLight}
use Rattle.cell_model.specs.Sound.{IsSound}
use Rattle.expand.specs.{declared.master.Master.Master, Items.AreItems, Masters.IsMaster}
use Rattle.plan_model.specs.{declared.plan.Plan.Plan, Plan.{AreOfMasters, IsPlanOver, grids_of}}
use Rattle.pitch_join.specs.Masters.{ArePlanned, master_ports, ports_of_masters, parts_in}
use Rattle.grid_plan.specs.{Numbered.ports_of_chosen, Planned.IsPlanOf}
use Rattle.design_masters.specs.Plans.{AreChosen, AreMastersOf, weights_of}
use Rattle.design_masters.proofs.{Chosen.{chosen, of_own_name}, Weights.{fewer_parts, light_each}}

pub are_chosen : (cells : List CheckedCell) (design : Design) (plan : Plan) → IsWritable design
    → IsPlanOf cells design.grids plan → AreChosen cells plan
are_chosen cells design plan writable p = record {
  masters = subst (λ (ks : List ℕ). All (λ k. k < length cells) ks) (sym p.masters)
      (chosen (λ k. k < length cells) cells design.grids (λ name k is found. number-lt cells name k found)
      writable.grids p.no_fault);
  rows = subst (λ (n : ℕ). All (AreOfMasters n) (grids_of plan)) (sym p.over.masters) p.over.of_masters;
}

-- what is told of the cell number k
abbrev cell_at : List CheckedCell → ℕ → Cell
cell_at cells k = cell_of (known_at cells k)

-- masters have no more parts than their cells weigh
parts_below : (cells : List CheckedCell) (masters : List Master) (ks : List ℕ)
    → map (λ (m : Master). m.cell) masters ≡ map (cell_at cells) ks
    → sum_by parts_in masters ≤ sum_by (λ k. weight_of (known_at cells k)) ks
parts_below cells [] [] same = omega arith
parts_below cells [] (k ∷ ks) same = cc
parts_below cells (m ∷ masters) [] same = cc
parts_below cells (m ∷ masters) (k ∷ ks) same =
    let weight : ℕ → ℕ = λ j. weight_of (known_at cells j) in
    let cell : m.cell ≡ cell_at cells k = cc in
    let others : map (λ (z : Master). z.cell) masters ≡ map (cell_at cells) ks = cc in
    let count : parts_in m ≡ length (cell_at cells k).nodes + length (cell_at cells k).wires + length
    (cell_at cells k).limits =
    ap (λ (c : Cell). length c.nodes + length c.wires + length c.limits) cell in
    let own = fewer_parts (known_at cells k) in
    let rest = parts_below cells masters ks others in
    let a = sum_by-cons parts_in m masters in
    let b = sum_by-cons weight k ks in
    omega (arith, count, own, rest, a, b)

-- and the ports that are told of their cells
ports_alike : (cells : List CheckedCell) (masters : List Master) (ks : List ℕ)
    → map (λ (m : Master). m.cell) masters ≡ map (cell_at cells) ks
    → AllByRecursion (λ k. ports_of (known_at cells k) ≡ ports_of_cell (cell_at cells k)) ks
    → ports_of_chosen cells ks ≡ ports_of_masters masters
ports_alike cells [] [] same seen = refl
ports_alike cells [] (k ∷ ks) same seen = cc
ports_alike cells (m ∷ masters) [] same seen = cc
ports_alike cells (m ∷ masters) (k ∷ ks) same seen =
    let cell : m.cell ≡ cell_at cells k = cc in
    let others : map (λ (z : Master). z.cell) masters ≡ map (cell_at cells) ks = cc in
    let first : ports_of (known_at cells k) ≡ master_ports m = seen.0 ∙ ap ports_of_cell (sym cell) in
    ap (λ (ps : List CellPort). ps ∷ ports_of_chosen cells ks) first
    ∙ ap (λ (pss : List (List CellPort)). master_ports m ∷ pss) (ports_alike cells masters ks others seen.1)

pub are_planned : (tech : Tech) (cells : List CheckedCell) (grids : List GridText) (plan : Plan)
    (masters : List Master) → IsPlanOf cells grids plan → AreChosen cells plan
    → weights_of cells plan ≤ 65536 → map (λ (m : Master). m.cell) masters ≡ map (cell_at cells) plan.masters
    → All (IsMaster tech) masters
    → ((k : ℕ) → k < length cells → weight_of (known_at cells k) ≤ 65536
    → ports_of (known_at cells k) ≡ ports_of_cell (cell_at cells k)) → ArePlanned tech plan masters
are_planned tech cells grids plan masters p are light same each seen =
    let weight : ℕ → ℕ = λ k. weight_of (known_at cells k) in
    let one : AllByRecursion (λ k. ports_of (known_at cells k) ≡ ports_of_cell (cell_at cells k)) plan.masters =
    by_number (λ k. ports_of (known_at cells k) ≡ ports_of_cell (cell_at cells k)) plan.masters 0
    (λ i lt. seen (get_or plan.masters i 0) (All-get_or (λ k. k < length cells) plan.masters i 0 lt are.masters)
    (All-get_or (λ k. weight k ≤ 65536) plan.masters i 0 lt (light_each weight plan.masters 65536 light))) in
    let parts = parts_below cells masters plan.masters same in
    record {
      each = each;
      few_parts = omega (arith, parts, light);
      planned = subst (λ (ps : List (List CellPort)). IsPlanOver ps plan)
          (ports_alike cells masters plan.masters same one) p.over;
    }

-- the cells of a design are built one after another
cells_built : (tech : Tech) (design : Design) (cells : List CheckedCell) → IsWritable design
    → resolved_cells tech design ≡ Ok cells → AreBuilt tech cells
unfolding resolved_cells
cells_built tech design cells writable e =
    let read = two_bound (known_cells tech design.cells) (grids_after [] design.grids) (λ known apart. Ok known) cells
    e in
    are_built-known_cells tech design.cells cells writable.cells (read.2 ∙ read.4)

-- so each of them that is light is a master
abbrev IsFit : List CheckedCell → ℕ → Type 0
IsFit cells k = (k < length cells) × (weight_of (known_at cells k) ≤ 65536)

each_sound : (tech : Tech) (cells : List CheckedCell) → AreBuilt tech cells → (masters : List Master) (ks : List ℕ)
    → map (λ (m : Master). m.cell) masters ≡ map (cell_at cells) ks
    → AllByRecursion (IsFit cells) ks → All (λ (m : Master). AreItems tech m.cell m.items) masters
    → AllByRecursion (IsMaster tech) masters
each_sound tech cells built [] ks same fit items = tt
each_sound tech cells built (m ∷ masters) [] same fit items = cc
each_sound tech cells built (m ∷ masters) (k ∷ ks) same fit items =
    let I : Master → Type 0 = λ (z : Master). AreItems tech z.cell z.items in
    let P : Cell → Type 0 = λ c. IsSound tech c × IsLight c in
    let cell : m.cell ≡ cell_at cells k = cc in
    let others : map (λ (z : Master). z.cell) masters ≡ map (cell_at cells) ks = cc in
    let own : P m.cell =
    subst P (sym cell) (sound-known_at tech cells k built fit.0.0, light-cell_of (known_at cells k) fit.0.1) in (
      record { sound = own.0; light = own.1; items = All-get_or I (m ∷ masters) 0 m (omega arith) items },
      each_sound tech cells built masters ks others fit.1 (All-tail I m masters items),
    )

-- the masters of a design are planned
pub masters_planned : (tech : Tech) (design : Design) (plan : Plan) (masters : List Master) → IsWritable design
    → AreMastersOf tech design plan masters → ArePlanned tech plan masters
masters_planned tech design plan masters writable are =
    let cells : List CheckedCell = are.cells in
    let weight : ℕ → ℕ = λ k. weight_of (known_at cells k) in
    let built = cells_built tech design cells writable are.planned.resolved in
    let chosen = are_chosen cells design plan writable are.planned.planned in
    let fit = by_number (IsFit cells) plan.masters 0
    (λ i lt. (
      All-get_or (λ k. k < length cells) plan.masters i 0 lt chosen.masters,
      All-get_or (λ k. weight k ≤ 65536)
          plan.masters i 0 lt (light_each weight plan.masters 65536 are.light.items),
    )) in
    are_planned tech cells design.grids plan masters are.planned.planned chosen are.light.items are.made.are
    (all_of (IsMaster tech) masters (each_sound tech cells built masters plan.masters are.made.are fit are.made.items))
    (λ k lt light. light_ports_seen tech cells k built lt light)

-- ---- names

names_below : (P : List ℕ → Type 0) (cells : List CheckedCell) (masters : List Master) (ks : List ℕ)
    → map (λ (m : Master). m.cell) masters ≡ map (cell_at cells) ks
    → AllByRecursion (λ k. P (known_at cells k).name) ks → AllByRecursion (λ (m : Master). P m.cell.name) masters
names_below P cells [] ks same each = tt
names_below P cells (m ∷ masters) [] same each = cc
names_below P cells (m ∷ masters) (k ∷ ks) same each =
    let cell : m.cell ≡ cell_at cells k = cc in
    let others : map (λ (z : Master). z.cell) masters ≡ map (cell_at cells) ks = cc in
    (subst P (sym (ap (λ (c : Cell). c.name) cell)) each.0, names_below P cells masters ks others each.1)

-- what holds of each name holds of those of the masters
pub are_named : (P : List ℕ → Type 0) → ((name : List ℕ) → IsName name → P name)
    → (cells : List CheckedCell) (design : Design) (plan : Plan) (masters : List Master) → IsWritable design
    → IsPlanOf cells design.grids plan → map (λ (m : Master). m.cell) masters ≡ map (cell_at cells) plan.masters
    → All (λ (m : Master). P m.cell.name) masters
are_named P each cells design plan masters writable p same =
    let S : ℕ → Type 0 = λ k. P (known_at cells k).name in
    let all = subst (λ (ks : List ℕ). All S ks) (sym p.masters)
    (chosen S cells design.grids (of_own_name P cells each) writable.grids p.no_fault) in
    all_of (λ (m : Master). P m.cell.name) masters
    (names_below P cells masters plan.masters same
    (by_number S plan.masters 0 (λ i lt. All-get_or S plan.masters i 0 lt all)))
