-- Ports whose wires' numbers are put to 0 one by one.
use Rattle.std.proofs.Common.{◌≡◌, ℕ, zero, suc, ◌+◌, ◌<◌, ◌≤◌, List, [], ◌∷◌, ◌++◌, map, length, get_or, set, take}
use Rattle.std.proofs.Common.{drop, refl, sym, ap, ◌∙◌, add-one, arith}
use Rattle.std.proofs.lemmas.List.{take_all, drop_all, append-nil, length-map}
use Rattle.cell_model.specs.declared.cell.CellPort.{CellPort}
use Rattle.stick_cell.specs.CellBuilder.{without_wire}

-- the first so many
abbrev pub forgotten : ℕ → List CellPort → List CellPort
forgotten i ports = map without_wire (take i ports) ++ drop i ports

-- and one more
forgotten_next : (ports : List CellPort) (i : ℕ) (d : CellPort) → i < length ports
    → set (forgotten i ports) i (without_wire (get_or (forgotten i ports) i d)) ≡ forgotten (suc i) ports
forgotten_next [] i d lt = absurd (omega arith)
forgotten_next (port ∷ ports) zero d lt = refl
forgotten_next (port ∷ ports) (suc i) d lt =
    ap (λ rest. without_wire port ∷ rest) (forgotten_next ports i d (omega arith))

pub forgotten-step : (ports : List CellPort) (i : ℕ) (d : CellPort) → i < length ports
    → set (forgotten i ports) i (without_wire (get_or (forgotten i ports) i d)) ≡ forgotten (i + 1) ports
forgotten-step ports i d lt = forgotten_next ports i d lt ∙ ap (λ n. forgotten n ports) (sym (add-one i))

-- until it is all of them
pub forgotten-all : (ports : List CellPort) (i : ℕ) → length ports ≤ i → forgotten i ports ≡ map without_wire ports
forgotten-all [] zero le = refl
forgotten-all [] (suc i) le = refl
forgotten-all (port ∷ ports) zero le = absurd (omega arith)
forgotten-all (port ∷ ports) (suc i) le = ap (λ rest. without_wire port ∷ rest) (forgotten-all ports i (omega arith))

-- which is written back
pub forgotten-back : (ports items : List CellPort) (i len : ℕ) → items ≡ forgotten i ports → length ports ≤ i
    → len ≡ length ports → take len (items ++ drop (length items) ports) ≡ map without_wire ports
forgotten-back ports items i len e le many =
    let all : items ≡ map without_wire ports = e ∙ forgotten-all ports i le in
    let long : length items ≡ length ports = ap length all ∙ length-map ports without_wire in
    ap (λ rest. take len (items ++ rest)) (drop_all (length items) ports (omega (arith, long)))
    ∙ ap (take len) (append-nil items) ∙ take_all len items (omega (arith, long)) ∙ all
