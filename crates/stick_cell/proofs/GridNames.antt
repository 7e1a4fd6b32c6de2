-- The names of grids, and the cells of a design whose grids have been checked.
use Rattle.std.proofs.Common.{◌≡◌, ℕ, ◌||◌, List, [], ◌∷◌, map, Result, Ok, refl, sym, ap, subst, ◌∙◌}
use Rattle.std.specs.{Prelude.bytes_eq, List.list_any}
use Rattle.rule_table.specs.declared.technology.Tech.{Tech}
use Rattle.stick_text.specs.declared.{fault.{StickFault.StickFault, ParseFault.ParseFault}, design.GridText.GridText}
use Rattle.stick_text.{specs.{declared.design.Design.Design, Reading.{◌>>=◌, Fails}}, proofs.Failing.fails_on}
use Rattle.checked_cells.specs.{CheckedCell.CheckedCell, Lines.known_cells, Grids.{grids_after, resolved_cells}}

-- a name among keys, seen by their bytes
pub any_seen : {K : Type 0} (bytes : K → List ℕ) (name : List ℕ) (ks : List K)
    → list_any (λ k. bytes_eq name (bytes k)) ks ≡ list_any (bytes_eq name) (map bytes ks)
any_seen bytes name [] = refl
any_seen bytes name (k ∷ ks) = ap (λ rest. bytes_eq name (bytes k) || rest) (any_seen bytes name ks)

-- a fault of the cells
pub cells-fail : (tech : Tech) (design : Design) (fault : ParseFault) → Fails fault (known_cells tech design.cells)
    → Fails fault (resolved_cells tech design)
unfolding resolved_cells
cells-fail tech design fault h =
    fails_on fault (known_cells tech design.cells) (λ cells. grids_after [] design.grids >>= λ apart. Ok cells) h

-- what is left where the cells have none
resolved_after : (tech : Tech) (design : Design) (cells : List CheckedCell) → known_cells tech design.cells ≡ Ok cells
    → resolved_cells tech design ≡ (grids_after [] design.grids >>= λ apart. Ok cells)
unfolding resolved_cells
resolved_after tech design cells known =
    ap (λ (read : Result (List CheckedCell) StickFault). read >>= λ all. grids_after [] design.grids >>= λ apart.
    Ok all) known

-- a fault of the grids, as they are lent
pub grids-fail : (tech : Tech) (design : Design) (cells : List CheckedCell) (grids : List GridText)
    (fault : ParseFault) → known_cells tech design.cells ≡ Ok cells → grids ≡ design.grids
    → Fails fault (grids_after [] grids) → Fails fault (resolved_cells tech design)
grids-fail tech design cells grids fault known lent h =
    let here : Fails fault (grids_after [] design.grids) =
    subst (λ (gs : List GridText). Fails fault (grids_after [] gs)) lent h in
    subst (Fails fault) (sym (resolved_after tech design cells known))
    (fails_on fault (grids_after [] design.grids) (λ apart. Ok cells) here)

-- and none
pub no-fault : (tech : Tech) (design : Design) (cells : List CheckedCell) (grids : List GridText)
    → known_cells tech design.cells ≡ Ok cells → grids ≡ design.grids → grids_after [] grids ≡ Ok tt
    → resolved_cells tech design ≡ Ok cells
no-fault tech design cells grids known lent apart =
    resolved_after tech design cells known
    ∙ ap (λ (read : Result (Unit {0}) StickFault). read >>= λ apart. Ok cells)
    (ap (grids_after []) (sym lent) ∙ apart)
