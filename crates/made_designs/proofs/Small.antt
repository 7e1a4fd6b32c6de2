-- The masters of a made design are plain, and a pass on its one master has few variables.
use Rattle.std.proofs.Common.{◌≡◌, ℕ, zero, suc, ◌+◌, ◌*◌, ◌^◌, ◌≤◌, cond, Bool, true, false, List, [], ◌∷◌, length}
use Rattle.std.proofs.{Common.{map, get_or, Result, Ok, refl, sym, subst, ◌∙◌, arith}, Math.Nat.mul-le-mul}
use Rattle.std.{proofs.lemmas.List.Sums.sum_by-cons, specs.List.{All, sum_by}}
use Rattle.lam_geom.specs.declared.boxes.Axis.{Axis}
use Rattle.rule_table.specs.declared.technology.Tech.{Tech}
use Rattle.stick_text.specs.declared.fault.StickFault.{StickFault}
use Rattle.cell_model.specs.{declared.cell.{Axis2.Axis2, Cell.Cell, Wire.Wire}, Wiring.is_same_axis}
use Rattle.checked_cells.specs.{Grids.resolved_cells, CheckedCell.{CheckedCell, cell_of, known_at}}
use Rattle.expand.specs.{declared.master.Master.Master, Variables.{running, crossing}}
use Rattle.pitch_join.{specs.Joined.{own_variables, system_variables}, proofs.Lists.of_images}
use Rattle.design_gen.specs.Made.{made}
use Rattle.made_designs.proofs.{Plain.IsPlain, Checked.design_read}

-- ---- the masters

plain_more : (tech : Tech) (a b c d : ℕ) (cell : Cell) → a ≤ c → b ≤ d → IsPlain tech a b cell → IsPlain tech c d cell
plain_more tech a b c d cell more_nodes more_wires h = record {
  nodes = h.nodes;
  few_nodes = (let few = h.few_nodes in omega (arith, few, more_nodes));
  wires = h.wires;
  few_wires = (let few = h.few_wires in omega (arith, few, more_wires));
  limits = h.limits;
}

-- the one cell is, and so is what is read past it
plain_at : (tech : Tech) (n : ℕ) (known : CheckedCell) → IsPlain tech n n (cell_of known) → (k : ℕ)
    → IsPlain tech n n (cell_of (known_at (known ∷ []) k))
plain_at tech n known plain zero = plain
plain_at tech n known plain (suc k) =
    record { nodes = tt; few_nodes = omega arith; wires = tt; few_wires = omega arith; limits = refl }

only_cells : (cells one : List CheckedCell) → ◌≡◌ {A = Result (List CheckedCell) StickFault} (Ok cells) (Ok one)
    → cells ≡ one
only_cells cells one e = cc

pub masters_plain : (tech : Tech) (n : ℕ) (cells : List CheckedCell) (masters : List Master) (numbers : List ℕ)
    → n ≤ 64 → resolved_cells tech (made n) ≡ Ok cells
    → map (λ (m : Master). m.cell) masters ≡ map (λ k. cell_of (known_at cells k)) numbers
    → All (λ (m : Master). IsPlain tech (2 ^ 12) (2 ^ 12) m.cell) masters
masters_plain tech n cells masters numbers few read same =
    let own = design_read tech n few in
    let known : CheckedCell = own.0 in
    let are : cells ≡ known ∷ [] = only_cells cells (known ∷ []) (sym read ∙ own.2) in
    let square : n * n ≤ 64 * 64 = mul-le-mul few few in
    let P : Cell → Type 0 = IsPlain tech (2 ^ 12) (2 ^ 12) in
    let plain : IsPlain tech (2 ^ 12) (2 ^ 12) (cell_of known) =
    plain_more tech (n * n) (n * n) (2 ^ 12) (2 ^ 12) (cell_of known) (omega (arith, square))
    (omega (arith, square)) own.1 in
    let each : (k : ℕ) → P (cell_of (known_at cells k)) =
    λ k. subst (λ (cs : List CheckedCell). P (cell_of (known_at cs k))) (sym are)
    (plain_at tech (2 ^ 12) known plain k) in
    (of_images P (λ (m : Master). m.cell) masters).0
    (subst (λ (all : List Cell). All P all) (sym same)
    ((of_images P (λ k. cell_of (known_at cells k)) numbers).1 (λ i d lt. each (get_or numbers i d))))

-- ---- the variables

one_at_most : (b : Bool) → cond b 1 0 ≤ 1
one_at_most true = omega arith
one_at_most false = omega arith

running_few : (along : Axis2) (wires : List Wire) → running along wires ≤ length wires
running_few along [] = omega arith
running_few along (w ∷ wires) =
    let f : Wire → ℕ = λ v. cond (is_same_axis v.along along) 1 0 in
    let sum : running along (w ∷ wires) ≡ f w + running along wires = sum_by-cons f w wires in
    omega (arith, sum, one_at_most (is_same_axis w.along along), running_few along wires)

pub few_variables : (axis : Axis) (tech : Tech) (masters : List Master) → length masters ≡ 1
    → All (λ (m : Master). IsPlain tech (2 ^ 12) (2 ^ 12) m.cell) masters → system_variables axis masters ≤ 2 ^ 13 + 2
few_variables axis tech [] alone plain = absurd (omega (arith, alone))
few_variables axis tech (m ∷ []) alone plain =
    let own = plain 0 m (omega arith) in
    let nodes = own.few_nodes in
    let wires = own.few_wires in
    let sum : sum_by (own_variables axis) (m ∷ []) ≡ own_variables axis m + sum_by (own_variables axis) [] =
    sum_by-cons (own_variables axis) m [] in
    omega (arith, sum, nodes, wires, running_few (crossing axis) m.cell.wires)
few_variables axis tech (m ∷ k ∷ masters) alone plain = absurd (omega (arith, alone))
