-- What is kept of a cell while it grows is that of its lines.
use Rattle.std.proofs.Common.{◌≡◌, ℕ, ◌≤◌, Bool, true, false, ◌&&◌, cond, is_none, List, [], ◌∷◌, ◌++◌, Option, Some}
use Rattle.std.proofs.Common.{None, option_map, Result, Ok, Err, refl, sym, ap, subst, ◌∙◌, arith}
use Rattle.std.specs.{List.AllByRecursion, Result.IsErrAnd, Str.bytes_eq, Prelude.{ℤ, pos, MatchResult}}
use Rattle.stick_text.specs.declared.fault.StickKind.{StickKind, TheVariants.{RepeatedName, FarPlace, BadSize}}
use Rattle.stick_text.specs.declared.fault.{StickKind.TheVariants.NoBuried, LineFault.{LineFault, TheVariants.Kind}}
use Rattle.stick_text.specs.declared.{fault.LineFault.TheVariants.OutOfMemory, design.Layer.Layer as DrawnLayer}
use Rattle.stick_text.specs.Reading.{◌>>=◌, demand}
use Rattle.stick_cell.specs.declared.builder.CellBuilder.{CellBuilder}
use Rattle.stick_cell.specs.CellBuilder.{Grows, IsWiredBelow, placed}
use Rattle.checked_cells.specs.{declared.names.Binding.Binding, Checks.{is_fresh, is_place, layer_of, sized}}
use Rattle.checked_cells.specs.{Checks.is_channel, CheckedCell.{CheckedCell, Plug, with_node, with_port}}
use Rattle.checked_cells.specs.Lines.{axis_where, after_joint, after_contact, after_buried, after_fet, after_port}
use Rattle.checked_cells.specs.{Paths.{Names, named}, Kept.{capped_binding, capped_names}}
use Rattle.rule_table.specs.{declared.technology.Tech.Tech, Technology.has_buried_of}
use Rattle.lam_geom.specs.declared.boxes.Side.{Side}
use Rattle.cell_model.specs.declared.cell.NodeKind.TheVariants as kinds

-- two steps and a third
pub bind_assoc : {A B C E : Type 0} (m : Result A E) (f : A → Result B E) (g : B → Result C E)
    → ((m >>= f) >>= g) ≡ (m >>= (λ x. f x >>= g))
bind_assoc (Ok x) f g = refl
bind_assoc (Err e) f g = refl

-- what a name stands for, with numbers capped
pub named-capped : (names : Names) (name : List ℕ)
    → named (capped_names names) name ≡ option_map capped_binding (named names name)
named-capped [] name = refl
named-capped (e ∷ names) name = by_test (bytes_eq name e.0) (named-capped names name)
  where
    by_test : (b : Bool) → named (capped_names names) name ≡ option_map capped_binding (named names name)
        → cond b (Some (capped_binding e.1)) (named (capped_names names) name)
        ≡ option_map capped_binding (cond b (Some e.1) (named names name))
    by_test true rest = refl
    by_test false rest = rest

is_none-option_map : {A B : Type 0} (f : A → B) (o : Option A) → is_none (option_map f o) ≡ is_none o
is_none-option_map f None = refl
is_none-option_map f (Some x) = refl

-- a name is new among names whose numbers are capped exactly where it is among the names
pub is_fresh-capped : (names : Names) (name : List ℕ) → is_fresh (capped_names names) name ≡ is_fresh names name
is_fresh-capped names name = ap is_none (named-capped names name) ∙ is_none-option_map capped_binding (named names name)

placed-capped : (names : Names) (name : List ℕ) (col row : ℕ)
    → placed (capped_names names) name col row ≡ placed names name col row
unfolding placed
placed-capped names name col row =
    ap (λ fresh. demand fresh RepeatedName >>= (λ _. demand (is_place col && is_place row) FarPlace))
    (is_fresh-capped names name)

-- the tests of a name and a place, and what follows them
placed-then : {B : Type 0} (names : Names) (name : List ℕ) (col row : ℕ) (g : Unit {0} → Result B StickKind)
    → (placed names name col row >>= g)
    ≡ (demand (is_fresh names name) RepeatedName >>= (λ _. demand (is_place col && is_place row) FarPlace >>= g))
unfolding placed
placed-then names name col row g =
    bind_assoc (demand (is_fresh names name) RepeatedName) (λ _. demand (is_place col && is_place row) FarPlace) g

-- one more name
pub capped_names-push : (names : Names) (name : List ℕ) (binding : Binding)
    → capped_names (names ++ (name, binding) ∷ []) ≡ capped_names names ++ (name, capped_binding binding) ∷ []
capped_names-push [] name binding = refl
capped_names-push (e ∷ names) name binding =
    ap (λ rest. (e.0, capped_binding e.1) ∷ rest) (capped_names-push names name binding)

-- one more port, which has no wire
pub below-push : (count : ℕ) (plugs : List Plug) (plug : Plug) → AllByRecursion (IsWiredBelow count) plugs
    → IsWiredBelow count plug → AllByRecursion (IsWiredBelow count) (plugs ++ plug ∷ [])
below-push count [] plug all one = (one, tt)
below-push count (p ∷ plugs) plug all one = (all.0, below-push count plugs plug all.1 one)

-- more wires
pub below-more : (count more : ℕ) (plugs : List Plug) → count ≤ more → AllByRecursion (IsWiredBelow count) plugs
    → AllByRecursion (IsWiredBelow more) plugs
below-more count more [] le all = tt
below-more count more (p ∷ plugs) le all = (omega (arith, all.0), below-more count more plugs le all.1)

-- the names with one more
pub names-push : (old new names : Names) (name : List ℕ) (kept binding : Binding) → new ≡ old ++ (name, kept) ∷ []
    → old ≡ capped_names names → kept ≡ capped_binding binding
    → new ≡ capped_names (names ++ (name, binding) ∷ [])
names-push old new names name kept binding more is same =
    more ∙ ap (λ entries. entries ++ (name, kept) ∷ []) is ∙ ap (λ one. capped_names names ++ (name, one) ∷ []) same
    ∙ sym (capped_names-push names name binding)

-- the names that are kept pass these tests where the names do
placed-kept : (names : Names) (name : List ℕ) (col row : ℕ) {kept : Names} {r : Result (Unit {0}) StickKind}
    → kept ≡ capped_names names → r ≡ placed kept name col row → placed names name col row ≡ r
placed-kept names name col row is e =
    sym (e ∙ ap (λ entries. placed entries name col row) is ∙ placed-capped names name col row)

-- ---- each form, by what its tests give

pub joint-by : (tech : Tech) (known : CheckedCell) (name : List ℕ) (layer : DrawnLayer) (col row : ℕ)
    (width : Option ℕ) {kept : Names} {r : Result (Unit {0}) StickKind} {s : Result ℤ StickKind}
    → kept ≡ capped_names known.names → r ≡ placed kept name col row → sized tech (layer_of layer) width ≡ s
    → after_joint tech known name layer col row width
    ≡ (r >>= (λ _. s >>= (λ size. Ok (with_node known name (kinds.Joint (layer_of layer) size) col row))))
unfolding after_joint
joint-by tech known name layer col row width is e sizes =
    rw (← placed-kept known.names name col row is e, ← sizes) (sym (placed-then known.names name col row _))

pub contact-by : (known : CheckedCell) (name : List ℕ) (lower : DrawnLayer) (col row : ℕ) {kept : Names}
    {r : Result (Unit {0}) StickKind} → kept ≡ capped_names known.names → r ≡ placed kept name col row
    → after_contact known name lower col row
    ≡ (r >>= (λ _. Ok (with_node known name (kinds.Contact (layer_of lower)) col row)))
unfolding after_contact
contact-by known name lower col row is e =
    rw (← placed-kept known.names name col row is e) (sym (placed-then known.names name col row _))

pub buried-by : (tech : Tech) (known : CheckedCell) (name : List ℕ) (col row : ℕ) {kept : Names}
    {r : Result (Unit {0}) StickKind} {b : Bool} → kept ≡ capped_names known.names → r ≡ placed kept name col row
    → has_buried_of tech ≡ b
    → after_buried tech known name col row
    ≡ (r >>= (λ _. demand b NoBuried >>= (λ _. Ok (with_node known name kinds.Buried col row))))
unfolding after_buried
buried-by tech known name col row is e there =
    rw (← placed-kept known.names name col row is e, ← there) (sym (placed-then known.names name col row _))

pub fet-by : (tech : Tech) (known : CheckedCell) (name : List ℕ) (depletion vertical : Bool) (col row w l : ℕ)
    {kept : Names} {r : Result (Unit {0}) StickKind} {b : Bool} → kept ≡ capped_names known.names
    → r ≡ placed kept name col row → is_channel tech w l ≡ b
    → after_fet tech known name depletion vertical col row w l
    ≡ (r >>= (λ _.
    demand b BadSize
    >>= (λ _. Ok (with_node known name (kinds.Fet depletion (axis_where vertical) (pos w) (pos l)) col row))))
unfolding after_fet
fet-by tech known name depletion vertical col row w l is e channel =
    rw (← placed-kept known.names name col row is e, ← channel) (sym (placed-then known.names name col row _))

and_true : (b : Bool) → (b && true) ≡ b
and_true true = refl
and_true false = refl

-- a port's place is tested as a column is, and the row beside it is the first
pub port-by : (known : CheckedCell) (name : List ℕ) (side : Side) (layer : DrawnLayer) (place : ℕ) {kept : Names}
    {r : Result (Unit {0}) StickKind} → kept ≡ capped_names known.names → r ≡ placed kept name place 0
    → after_port known name side layer place ≡ (r >>= (λ _. Ok (with_port known name side (layer_of layer) place)))
unfolding after_port
port-by known name side layer place is e =
    rw (← placed-kept known.names name place 0 is e, placed-then, and_true) refl

-- a result that has this fault is it
pub is_err : {X E : Type 0} (result : Result X E) (fault : E) → IsErrAnd result (λ e. e ≡ fault) → result ≡ Err fault
is_err (Ok x) fault is = absurd is
is_err (Err e) fault is = ap Err is

-- the fault of a line, made from its kind, passed on
pub grows-residual : {X : Type 0} (cells : List CheckedCell) (result : Result X LineFault) (builder : CellBuilder)
    (read : Result CheckedCell StickKind) (kind : StickKind)
    → IsErrAnd result (λ e. e ≡ Kind kind) → read ≡ Err kind → Grows cells result builder read
grows-residual cells result builder read kind is refused =
    subst (λ one. Grows cells one builder read) (sym (is_err result (Kind kind) is)) refused

-- the same, of what is told of an `Err`
pub matched-residual : {X E : Type 0} (P : X → Type 0) (Q : E → Type 0) (result : Result X E) (kind : E)
    → IsErrAnd result (λ e. e ≡ kind) → Q kind → MatchResult result P Q
matched-residual P Q result kind is told = subst (λ one. MatchResult one P Q) (sym (is_err result kind is)) told

-- and where memory ran out at a line that has no fault
pub grows-memory : {X : Type 0} (cells : List CheckedCell) (result : Result X LineFault) (builder : CellBuilder)
    (read : Result CheckedCell StickKind) (next : CheckedCell)
    → IsErrAnd result (λ e. e ≡ OutOfMemory) → read ≡ Ok next → Grows cells result builder read
grows-memory cells result builder read next is told =
    subst (λ one. Grows cells one builder read) (sym (is_err result OutOfMemory is)) (next, told)
