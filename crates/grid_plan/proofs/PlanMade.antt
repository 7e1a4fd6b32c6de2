-- The plan that is built is that of the grids.
use Rattle.std.proofs.Common.{◌≡◌, ℕ, ◌<◌, List, [], ◌∷◌, ◌++◌, length, map, get_or, refl, ap, sym, subst, ◌∙◌, arith}
use Rattle.std.{proofs.lemmas.List.{get_or-map, length-map}, specs.List.{All, AllByRecursion, flat_map, zip}}
use Rattle.lam_geom.specs.declared.boxes.Axis.{Axis, TheVariants.{X, Y}}
use Rattle.cell_model.specs.declared.cell.CellPort.{CellPort}
use Rattle.checked_cells.specs.{CheckedCell.{CheckedCell, known_at}, Ports.ports_of}
use Rattle.plan_model.specs.Borders.{misfit, FitsAt, matches_at, match_of, side_ports, side_before, side_after}
use Rattle.plan_model.specs.{Borders.ports_of_master, Plan.{meeting, borders_of}}
use Rattle.grid_plan.specs.{Numbered.{master_of, ports_of_cells, ports_of_chosen}, Small.IsWithin, Tables.side_at}
use Rattle.grid_plan.{specs.Tables.meeting_of, proofs.{CellPorts.ports_at, GoodGrids.IsGood, Mapped.both}}
use Rattle.grid_plan.proofs.{Mapped.borders_map, MasterPlaces.HasPlace, PairsWithin.{of_beside, of_above}}
use Rattle.list_facts.proofs.Elements.{all_map, all_of, all_flat, all_weaker}

-- two facts of each element
pub both_facts : {A : Type 0} (P Q R : A → Type 0) → ((x : A) → P x → Q x → R x) → (xs : List A) → AllByRecursion P xs
    → AllByRecursion Q xs → AllByRecursion R xs
both_facts P Q R f [] h k = tt
both_facts P Q R f (x ∷ xs) h k = (f x h.0 k.0, both_facts P Q R f xs h.1 k.1)

-- ---- rows of masters

-- a cell of the design with a place among the masters
pub record IsMaster (cells : List CheckedCell) (masters : List ℕ) (k : ℕ) : Type 0 where
  pub known : k < length cells
  pub placed : HasPlace masters k

abbrev pub AreMasters : List CheckedCell → List ℕ → List (List ℕ) → Type 0
AreMasters cells masters rows = AllByRecursion (λ row. AllByRecursion (IsMaster cells masters) row) rows

pub placed_rows : (cells : List CheckedCell) (masters : List ℕ) (rows : List (List ℕ)) → AreMasters cells masters rows
    → All (All (λ m. m < length masters)) (map (map (master_of masters)) rows)
placed_rows cells masters rows are =
    all_of (All (λ m. m < length masters)) (map (map (master_of masters)) rows)
    (all_map (All (λ m. m < length masters)) (map (master_of masters)) rows
    (all_weaker (λ row. AllByRecursion (IsMaster cells masters) row)
    (λ row. All (λ m. m < length masters) (map (master_of masters) row))
    (λ row h.
    all_of (λ m. m < length masters) (map (master_of masters) row)
    (all_map (λ m. m < length masters) (master_of masters) row
    (all_weaker (IsMaster cells masters) (λ k. master_of masters k < length masters) (λ k is. is.placed.within) row h)))
    rows are))

-- ---- ports of masters

ports_moved : (cells : List CheckedCell) (masters : List ℕ) (k : ℕ) → IsMaster cells masters k
    → ports_of_master (ports_of_chosen cells masters) (master_of masters k) ≡ ports_of_master (ports_of_cells cells) k
ports_moved cells masters k is =
    get_or-map (λ j. ports_of (known_at cells j)) masters (master_of masters k) 0 [] is.placed.within
    ∙ (ap (λ j. ports_of (known_at cells j)) is.placed.there ∙ sym (ports_at cells k is.known))

fit_moved : (axis : Axis) (cells : List CheckedCell) (masters : List ℕ) (pair : ℕ × ℕ)
    → FitsAt axis (ports_of_cells cells) pair → IsMaster cells masters pair.0 × IsMaster cells masters pair.1
    → FitsAt axis (ports_of_chosen cells masters) (both (master_of masters) pair)
fit_moved axis cells masters pair fits are =
    ap (λ ps. misfit (side_ports (side_before axis) ps)
    (side_ports (side_after axis)
    (ports_of_master (ports_of_chosen cells masters)
    (master_of masters pair.1)))) (ports_moved cells masters pair.0 are.0)
    ∙ (ap (λ ps. misfit (side_ports (side_before axis) (ports_of_master (ports_of_cells cells) pair.0))
    (side_ports (side_after axis) ps)) (ports_moved cells masters pair.1 are.1) ∙ fits)

of_meeting : (axis : Axis) (P : ℕ → Type 0) (rows : List (List ℕ)) → AllByRecursion (λ row. AllByRecursion P row) rows
    → AllByRecursion (λ pair. P pair.0 × P pair.1) (meeting axis rows)
of_meeting X P rows h = of_above P rows h
of_meeting Y P rows h = of_beside P rows h

pub fits_moved : (axis : Axis) (cells : List CheckedCell) (masters : List ℕ) (grids : List (List (List ℕ)))
    → AllByRecursion (IsGood cells) grids → AllByRecursion (AreMasters cells masters) grids
    → All (FitsAt axis (ports_of_chosen cells masters)) (borders_of axis (map (map (map (master_of masters))) grids))
fits_moved axis cells masters grids good are =
    let fits = all_flat (FitsAt axis (ports_of_cells cells)) (meeting axis) grids
    (all_weaker (IsGood cells) (λ rows. AllByRecursion (FitsAt axis (ports_of_cells cells)) (meeting axis rows))
    (λ rows is. is.fits axis) grids good) in
    let pairs = all_flat (λ pair. IsMaster cells masters pair.0 × IsMaster cells masters pair.1) (meeting axis) grids
    (all_weaker (AreMasters cells masters)
    (λ rows. AllByRecursion (λ pair. IsMaster cells masters pair.0 × IsMaster cells masters pair.1)
    (meeting axis rows))
    (λ rows h. of_meeting axis (IsMaster cells masters) rows h) grids are) in
    let moved = all_map (FitsAt axis (ports_of_chosen cells masters)) (both (master_of masters)) (borders_of axis grids)
    (both_facts (FitsAt axis (ports_of_cells cells))
    (λ pair. IsMaster cells masters pair.0 × IsMaster cells masters pair.1)
    (λ pair. FitsAt axis (ports_of_chosen cells masters) (both (master_of masters) pair))
    (λ pair h k. fit_moved axis cells masters pair h k) (borders_of axis grids) fits pairs) in
    let P : List (ℕ × ℕ) → Type 0 = AllByRecursion (FitsAt axis (ports_of_chosen cells masters)) in
    all_of (FitsAt axis (ports_of_chosen cells masters)) (borders_of axis (map (map (map (master_of masters))) grids))
    (subst P (sym (borders_map axis (master_of masters) grids)) moved)

-- ---- ports that meet

same_pieces : {A B : Type 0} (f g : A → List B) (xs : List A) → AllByRecursion (λ x. f x ≡ g x) xs
    → flat_map f xs ≡ flat_map g xs
same_pieces f g [] h = refl
same_pieces f g (x ∷ xs) h = ap (λ ys. ys ++ flat_map f xs) h.0 ∙ ap (λ ys. g x ++ ys) (same_pieces f g xs h.1)

side_of_master : (cells : List CheckedCell) (masters : List ℕ) (sides : List (List CellPort))
    (f : List CellPort → List CellPort) (m : ℕ) → sides ≡ map f (ports_of_cells cells)
    → All (λ k. k < length cells) masters → m < length masters
    → side_at sides (get_or masters m 0) ≡ f (ports_of_master (ports_of_chosen cells masters) m)
side_of_master cells masters sides f m e known lt =
    let here : get_or masters m 0 < length cells = known m 0 lt in
    let wide : length (ports_of_cells cells) ≡ length cells = length-map cells ports_of in
    ap (λ ss. side_at ss (get_or masters m 0)) e
    ∙ (get_or-map f (ports_of_cells cells) (get_or masters m 0) [] [] (omega arith)
    ∙ ap f (ports_at cells (get_or masters m 0) here
    ∙ sym (get_or-map (λ j. ports_of (known_at cells j)) masters m 0 [] lt)))

pub matches_moved : (axis : Axis) (cells : List CheckedCell) (masters : List ℕ) (before after : List (List CellPort))
    (pairs : List (ℕ × ℕ))
    → before ≡ map (side_ports (side_before axis)) (ports_of_cells cells)
    → after ≡ map (side_ports (side_after axis)) (ports_of_cells cells)
    → All (λ k. k < length cells) masters → AllByRecursion (IsWithin (length masters)) pairs
    → flat_map (meeting_of before after masters) pairs ≡ flat_map (matches_at axis (ports_of_chosen cells masters))
    pairs
matches_moved axis cells masters before after pairs e f known within =
    same_pieces (meeting_of before after masters) (matches_at axis (ports_of_chosen cells masters)) pairs
    (all_weaker (IsWithin (length masters))
    (λ pair. meeting_of before after masters pair ≡ matches_at axis (ports_of_chosen cells masters) pair)
    (λ pair lt.
    ap (λ ps. map (match_of pair) (zip ps (side_at after (get_or masters pair.1 0))))
    (side_of_master cells masters before (side_ports (side_before axis)) pair.0 e known lt.0)
    ∙ ap (λ ps.
    map (match_of pair)
    (zip (side_ports (side_before axis) (ports_of_master (ports_of_chosen cells masters) pair.0)) ps))
    (side_of_master cells masters after (side_ports (side_after axis)) pair.1 f known lt.1))
    pairs within)
