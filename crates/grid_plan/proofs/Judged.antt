-- What is answered to the first fault, read back.
use Rattle.std.proofs.Common.{◌≡◌, ℕ, ◌<◌, ◌≤◌, ◌∙◌, All, IfErr, List, Option, Some, None, Result, Ok, Err, refl, sym}
use Rattle.std.{proofs.Common.{subst, arith}, specs.Result.IsErrAnd}
use Rattle.stick_text.specs.declared.{design.GridText.GridText, fault.GridFault.GridFault}
use Rattle.checked_cells.specs.CheckedCell.{CheckedCell}
use Rattle.grid_plan.specs.declared.fault.PlanFault.{PlanFault, TheVariants.{Grid, OutOfMemory}}
use Rattle.grid_plan.specs.Faults.{judged, plan_fault, RefusesPlan}

pub no_fault : (first : Option (ℕ × GridFault)) → judged first ≡ Ok tt → first ≡ None
no_fault None e = refl
no_fault (Some found) e = cc

fault_told : (first : Option (ℕ × GridFault)) (grid : ℕ) (fault : GridFault) → judged first ≡ Err (Grid grid fault)
    → first ≡ Some (grid, fault)
fault_told None grid fault e = cc
fault_told (Some (g, f)) grid fault e = cc

pub told : (cells : List CheckedCell) (grids : List GridText) (fault : PlanFault)
    → judged (plan_fault cells grids) ≡ Err fault → RefusesPlan cells grids fault
told cells grids (Grid grid fault) e = fault_told (plan_fault cells grids) grid fault e
told cells grids OutOfMemory e = tt

-- ---- as the code has it

pub passed : (first : Option (ℕ × GridFault)) (r : Result (Unit {0}) PlanFault) (u : Unit {0}) → r ≡ judged first
    → r ≡ Ok u → first ≡ None
passed first r u is ok = no_fault first (sym is ∙ ok)

pub refused : {A : Type 0} (cells : List CheckedCell) (grids : List GridText) (r : Result (Unit {0}) PlanFault)
    (fault : PlanFault) (answer : Result A PlanFault) → r ≡ judged (plan_fault cells grids) → r ≡ Err fault
    → IsErrAnd answer (λ e. e ≡ fault) → IfErr answer (RefusesPlan cells grids)
refused cells grids r fault (Ok x) is was from = tt
refused cells grids r fault (Err e) is was from = let P : PlanFault
    → Type 0 = RefusesPlan cells grids in subst P (sym from) (told cells grids fault (sym is ∙ was))

pub small_numbers : (n : ℕ) (grids : List (List (List ℕ))) → n ≤ 256 → All (All (All (λ k. k < n))) grids
    → All (All (All (λ k. k < 256))) grids
small_numbers n grids few within = λ g dg lg r dr lr c dc lc. (let h = within g dg lg r dr lr c dc lc in omega arith)
