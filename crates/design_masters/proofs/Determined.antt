-- The masters of a design are determined, and so is why it has none.
use Rattle.std.proofs.Common.{◌≡◌, ℕ, Some, Ok, Err, List, [], ◌∷◌, map, refl, sym, ap, ◌∙◌, subst, arith}
use Rattle.std.{proofs.lemmas.List.Elements.{All-get_or, All-tail}, specs.Prelude.All}
use Rattle.rule_table.specs.declared.technology.Tech.{Tech}
use Rattle.sym_items.specs.declared.items.Items.{Items}
use Rattle.stick_text.specs.declared.{fault.{StickFault.StickFault, GridFault.GridFault}, design.Design.Design}
use Rattle.checked_cells.specs.{Grids.resolved_cells, CheckedCell.{CheckedCell, cell_of, known_at}}
use Rattle.cell_model.specs.declared.cell.{Cell.Cell, Nets.Nets}
use Rattle.cell_nets.proofs.Determined.{nets_same}
use Rattle.expand.specs.{declared.master.Master.Master, Items.{items_of, AreItems}}
use Rattle.plan_model.specs.declared.plan.Plan.{Plan}
use Rattle.grid_plan.{specs.{Faults.plan_fault, Planned.IsPlanOf}, proofs.Determined.determined}
use Rattle.design_masters.specs.declared.fault.MastersFault.{MastersFault, TheVariants.{Stick, Grid, TooManyItems}}
use Rattle.design_masters.specs.declared.fault.MastersFault.TheVariants.{TooManyBoxes, OutOfMemory}
use Rattle.design_masters.specs.Plans.{IsPlanned, AreMastersOf, HasNoMasters, weights_of, boxes_of_all}

-- ---- the masters

pub one_cells : (tech : Tech) (design : Design) (c d : List CheckedCell) (p q : Plan) → IsPlanned tech design c p
    → IsPlanned tech design d q → c ≡ d
one_cells tech design c d p q a b = let e = sym a.resolved ∙ b.resolved in cc

pub one_plan : (tech : Tech) (design : Design) (c d : List CheckedCell) (p q : Plan) → IsPlanned tech design c p
    → IsPlanned tech design d q → p ≡ q
one_plan tech design c d p q a b =
    let cells = one_cells tech design c d p q a b in
    determined c design.grids p q a.planned
    (subst (λ (ks : List CheckedCell). IsPlanOf ks design.grids q) (sym cells) b.planned)

one_items : (tech : Tech) (cell : Cell) (s t : Items) → AreItems tech cell s → AreItems tech cell t → s ≡ t
one_items tech cell s t a b = a.are
    ∙ (ap (λ (nets : Nets). items_of tech cell nets) (nets_same cell a.nets b.nets a.of_cell b.of_cell) ∙ sym b.are)

-- masters of one cell
one_master : (tech : Tech) (m n : Master) → m.cell ≡ n.cell → AreItems tech m.cell m.items
    → AreItems tech n.cell n.items → m ≡ n
one_master tech m n cell a b =
    let A : Cell → Type 0 = λ c. AreItems tech c n.items in
    let items : m.items ≡ n.items = one_items tech m.cell m.items n.items a (subst A (sym cell) b) in
    ap (λ (c : Cell). record m { cell = c }) cell ∙ ap (λ (s : Items). record n { items = s }) items

same_masters : (tech : Tech) (ms ns : List Master) → map (λ (m : Master). m.cell) ms ≡ map (λ (m : Master). m.cell) ns
    → All (λ (m : Master). AreItems tech m.cell m.items) ms
    → All (λ (m : Master). AreItems tech m.cell m.items) ns → ms ≡ ns
same_masters tech [] [] cells a b = refl
same_masters tech [] (n ∷ ns) cells a b = cc
same_masters tech (m ∷ ms) [] cells a b = cc
same_masters tech (m ∷ ms) (n ∷ ns) cells a b =
    let I : Master → Type 0 = λ (z : Master). AreItems tech z.cell z.items in
    let cell : m.cell ≡ n.cell = cc in
    let others : map (λ (z : Master). z.cell) ms ≡ map (λ (z : Master). z.cell) ns = cc in
    let one = one_master tech m n cell (All-get_or I (m ∷ ms) 0 m (omega arith) a)
    (All-get_or I (n ∷ ns) 0 n (omega arith) b) in
    let rest = same_masters tech ms ns others (All-tail I m ms a) (All-tail I n ns b) in
    ap (λ (z : Master). z ∷ ms) one ∙ ap (λ (zs : List Master). n ∷ zs) rest

pub one_masters : (tech : Tech) (design : Design) (p q : Plan) (ms ns : List Master) → AreMastersOf tech design p ms
    → AreMastersOf tech design q ns → (p ≡ q) × (ms ≡ ns)
one_masters tech design p q ms ns a b =
    let plan = one_plan tech design a.cells b.cells p q a.planned b.planned in
    let cells = one_cells tech design a.cells b.cells p q a.planned b.planned in
    let chosen : map (λ k. cell_of (known_at a.cells k)) p.masters ≡ map (λ k. cell_of (known_at b.cells k)) q.masters =
    ap (λ (z : Plan). map (λ k. cell_of (known_at a.cells k)) z.masters) plan
    ∙ ap (λ (ks : List CheckedCell). map (λ k. cell_of (known_at ks k)) q.masters) cells in
    (plan, same_masters tech ms ns (a.made.are ∙ (chosen ∙ sym b.made.are)) a.made.items b.made.items)

-- ---- no masters

-- names and sizes do not have a fault and none
not_resolved : (tech : Tech) (design : Design) (fault : StickFault) (cells : List CheckedCell)
    → resolved_cells tech design ≡ Err fault → resolved_cells tech design ≡ Ok cells → ⊥
not_resolved tech design fault cells a b = let e = sym a ∙ b in cc

not_planned : (tech : Tech) (design : Design) (cells others : List CheckedCell) (grid : ℕ) (fault : GridFault)
    (plan : Plan) → resolved_cells tech design ≡ Ok cells
    → plan_fault cells design.grids ≡ Some (grid, fault) → IsPlanned tech design others plan → ⊥
not_planned tech design cells others grid fault plan is first planned =
    let resolved = sym is ∙ planned.resolved in
    let same : cells ≡ others = cc in
    let none = ap (λ (ks : List CheckedCell). plan_fault ks design.grids) same ∙ planned.planned.no_fault in
    let e = sym first ∙ none in
    cc

-- what holds of one plan holds of the other
of_other : (tech : Tech) (design : Design) (c d : List CheckedCell) (p q : Plan) → IsPlanned tech design c p
    → IsPlanned tech design d q → (F : List CheckedCell → Plan → ℕ) → F c p ≡ F d q
of_other tech design c d p q a b F = ap (λ (ks : List CheckedCell). F ks p) (one_cells tech design c d p q a b)
    ∙ ap (F d) (one_plan tech design c d p q a b)

-- a design does not have masters and none
pub has_masters : (tech : Tech) (design : Design) (plan : Plan) (masters : List Master) (fault : MastersFault)
    → AreMastersOf tech design plan masters → HasNoMasters tech design fault
    → (fault ≡ OutOfMemory → ⊥) → ⊥
has_masters tech design plan masters OutOfMemory m why has = has refl
has_masters tech design plan masters (Stick fault) m why has =
    not_resolved tech design fault m.cells why m.planned.resolved
has_masters tech design plan masters (Grid grid fault) m why has =
    not_planned tech design why.cells m.cells grid fault plan why.resolved why.first m.planned
has_masters tech design plan masters TooManyItems m why has =
    let same = of_other tech design why.cells m.cells why.plan plan why.planned m.planned weights_of in
    let light = m.light.items in
    let many = why.why in
    omega (arith, same, light, many)
has_masters tech design plan masters TooManyBoxes m why has =
    let same = of_other tech design why.cells m.cells why.plan plan why.planned m.planned boxes_of_all in
    let light = m.light.boxes in
    let many = why.why in
    omega (arith, same, light, many)

few_and_many : (tech : Tech) (design : Design) → HasNoMasters tech design TooManyItems
    → HasNoMasters tech design TooManyBoxes → ⊥
few_and_many tech design a b =
    let same = of_other tech design a.cells b.cells a.plan b.plan a.planned b.planned weights_of in
    let many = a.why in
    let few = b.why.0 in
    omega (arith, same, many, few)

-- it has none for one cause, unless memory runs out
pub one_fault : (tech : Tech) (design : Design) (a b : MastersFault) → HasNoMasters tech design a
    → HasNoMasters tech design b → (a ≡ OutOfMemory → ⊥) → (b ≡ OutOfMemory → ⊥) → a ≡ b
one_fault tech design OutOfMemory b p q has have = absurd (has refl)
one_fault tech design a OutOfMemory p q has have = absurd (have refl)
one_fault tech design (Stick a) (Stick b) p q has have = let both = sym p ∙ q in cc
one_fault tech design (Stick a) (Grid h b) p q has have = absurd (not_resolved tech design a q.cells p q.resolved)
one_fault tech design (Stick a) TooManyItems p q has have =
    absurd (not_resolved tech design a q.cells p q.planned.resolved)
one_fault tech design (Stick a) TooManyBoxes p q has have =
    absurd (not_resolved tech design a q.cells p q.planned.resolved)
one_fault tech design (Grid g a) (Stick b) p q has have = absurd (not_resolved tech design b p.cells q p.resolved)
one_fault tech design (Grid g a) (Grid h b) p q has have =
    let both = sym p.resolved ∙ q.resolved in
    let cells : p.cells ≡ q.cells = cc in
    let found = sym p.first ∙ (ap (λ (ks : List CheckedCell). plan_fault ks design.grids) cells ∙ q.first) in
    let pair : (let x : ℕ × GridFault = (g, a) in x) ≡ (h, b) = cc in
    let grid : g ≡ h = ap (λ (x : ℕ × GridFault). x.0) pair in
    let fault : a ≡ b = ap (λ (x : ℕ × GridFault). x.1) pair in
    ap (λ (n : ℕ). Grid n a) grid ∙ ap (λ (f : GridFault). Grid h f) fault
one_fault tech design (Grid g a) TooManyItems p q has have =
    absurd (not_planned tech design p.cells q.cells g a q.plan p.resolved p.first q.planned)
one_fault tech design (Grid g a) TooManyBoxes p q has have =
    absurd (not_planned tech design p.cells q.cells g a q.plan p.resolved p.first q.planned)
one_fault tech design TooManyItems (Stick b) p q has have =
    absurd (not_resolved tech design b p.cells q p.planned.resolved)
one_fault tech design TooManyItems (Grid h b) p q has have =
    absurd (not_planned tech design q.cells p.cells h b p.plan q.resolved q.first p.planned)
one_fault tech design TooManyItems TooManyItems p q has have = refl
one_fault tech design TooManyItems TooManyBoxes p q has have = absurd (few_and_many tech design p q)
one_fault tech design TooManyBoxes (Stick b) p q has have =
    absurd (not_resolved tech design b p.cells q p.planned.resolved)
one_fault tech design TooManyBoxes (Grid h b) p q has have =
    absurd (not_planned tech design q.cells p.cells h b p.plan q.resolved q.first p.planned)
one_fault tech design TooManyBoxes TooManyItems p q has have = absurd (few_and_many tech design q p)
one_fault tech design TooManyBoxes TooManyBoxes p q has have = refl
