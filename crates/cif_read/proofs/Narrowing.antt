-- A file of the plain dialect, as it is handed on.
use Rattle.std.proofs.Common.{◌≡◌, ℕ, suc, ◌+◌, ◌<◌, ◌≤◌, ◌^◌, ℤ, pos, List, [], ◌∷◌, ◌++◌, map, length, get_or, take}
use Rattle.std.proofs.Common.{refl, sym, ap, ◌∙◌, subst, arith, length-append, FitsSigned, of_z, to_z, w64}
use Rattle.std.proofs.lemmas.{Int.to_z-of_z, List.{append-nil, map-append, append_assoc, length_push, length-map}}
use Rattle.std.proofs.lemmas.List.{get_or_at, take_more, Elements.{All-from_recursion, recursion_from_All}}
use Rattle.std.specs.List.{All, AllByRecursion, flat_map, range_with_len}
use Rattle.lam_geom.specs.declared.boxes.MaskBox.{MaskBox}
use Rattle.cif_read.specs.declared.file.{CifStep.CifStep, CifSymbol.CifSymbol, ForeignFile.ForeignFile}
use Rattle.cif_read.specs.declared.file.{ForeignSymbol.ForeignSymbol, ForeignStep.{ForeignStep, TheVariants.Own}}
use Rattle.cif_read.specs.{declared.file.ForeignStep.TheVariants.Called, Hierarchies.{Drawn, Symbol, Step, Hierarchy}}
use Rattle.cif_read.specs.{Hierarchies.{own, called}, Files.{drawn_of, symbol_of, step_of, no_box, hierarchy_of}}
use Rattle.cif_read.specs.Files.{places_of_step, NamesInOrder, IsSolidWithin, IsStepOf, CanBeFlattened}
use Rattle.cif_read.specs.Foreign.{foreign_step, foreign_symbol, foreign_hierarchy, no_foreign_symbol, IsForeignStep}
use Rattle.cif_read.specs.{Foreign.IsForeignFile, Narrow.{IsOwn, IsShift, AreFew, IsPlain, own_box, own_boxes}}
use Rattle.cif_read.{specs.Narrow.{plain_symbol, plain_order, plain_file}, proofs.Flat.flat_more}
use Rattle.cif_read.specs.declared.file.CifStep.TheVariants as plain

-- ---- boxes alone

all_own : (steps : List ForeignStep) → AllByRecursion IsOwn (map foreign_step steps)
    → map own (map drawn_of (own_boxes steps)) ≡ map foreign_step steps
all_own [] h = refl
all_own (Own box ∷ steps) h = ap (λ (ss : List Step). own (drawn_of box) ∷ ss) (all_own steps h.1)
all_own (Called symbol turn x y ∷ steps) h = absurd h.0

few_own : (steps : List ForeignStep) → length (own_boxes steps) ≤ length steps
few_own [] = omega arith
few_own (Own box ∷ steps) = omega (arith, few_own steps)
few_own (Called symbol turn x y ∷ steps) = omega (arith, few_own steps)

solid_own : (n : ℕ) (steps : List ForeignStep) → AllByRecursion (IsForeignStep n) steps
    → AllByRecursion (IsSolidWithin (2 ^ 50)) (map drawn_of (own_boxes steps))
solid_own n [] h = tt
solid_own n (Own box ∷ steps) h = (h.0, solid_own n steps h.1)
solid_own n (Called symbol turn x y ∷ steps) h = solid_own n steps h.1

all_solid_own : (n : ℕ) (steps : List ForeignStep) → All (IsForeignStep n) steps
    → All (IsSolidWithin (2 ^ 50)) (map drawn_of (own_boxes steps))
all_solid_own n steps h = All-from_recursion (IsSolidWithin (2 ^ 50)) (map drawn_of (own_boxes steps))
    (solid_own n steps (recursion_from_All (IsForeignStep n) steps h))

-- ---- the order

order_length : (k : ℕ) (steps : List ForeignStep) → length (plain_order k steps) ≡ length steps
order_length k [] = refl
order_length k (Own box ∷ steps) = ap suc (order_length (k + 1) steps)
order_length k (Called symbol turn x y ∷ steps) = ap suc (order_length k steps)

order_named : (k : ℕ) (steps : List ForeignStep)
    → flat_map places_of_step (plain_order k steps) ≡ range_with_len k (length (own_boxes steps))
order_named k [] = refl
order_named k (Own box ∷ steps) = ap (λ (ks : List ℕ). k ∷ ks) (order_named (k + 1) steps)
order_named k (Called symbol turn x y ∷ steps) = order_named k steps

order_valid : (n m k : ℕ) (steps : List ForeignStep) → AllByRecursion (IsForeignStep n) steps
    → AllByRecursion IsShift (map foreign_step steps) → k + length (own_boxes steps) ≤ m
    → AllByRecursion (IsStepOf n m) (plain_order k steps)
order_valid n m k [] h shifts le = tt
order_valid n m k (Own box ∷ steps) h shifts le =
    (omega (arith, le), order_valid n m (k + 1) steps h.1 shifts.1 (omega (arith, le)))
order_valid n m k (Called symbol turn x y ∷ steps) h shifts le =
    ((h.0.0, shifts.0.1, shifts.0.2), order_valid n m k steps h.1 shifts.1 le)

box_at : (prefix rest : List MaskBox) (box : MaskBox)
    → step_of (prefix ++ box ∷ rest) (plain.Own (length prefix)) ≡ own (drawn_of box)
box_at prefix rest box =
    ap own (ap (λ (ds : List Drawn). get_or ds (length prefix) no_box) (map-append drawn_of prefix (box ∷ rest))
    ∙ get_or_at (map drawn_of prefix) (drawn_of box) (map drawn_of rest) no_box (length prefix)
    (length-map prefix drawn_of))

order_drawn : (prefix : List MaskBox) (steps : List ForeignStep) → AllByRecursion IsShift (map foreign_step steps)
    → map (step_of (prefix ++ own_boxes steps)) (plain_order (length prefix) steps) ≡ map foreign_step steps
order_drawn prefix [] shifts = refl
order_drawn prefix (Own box ∷ steps) shifts =
    let rest = own_boxes steps in
    let more = map (step_of (prefix ++ box ∷ rest)) in
    let next = order_drawn (prefix ++ box ∷ []) steps shifts.1 in
    ap (λ (s : Step). s ∷ more (plain_order (length prefix + 1) steps)) (box_at prefix rest box)
    ∙ ap (λ (ss : List Step). own (drawn_of box) ∷ ss)
    (ap (λ (bs : List MaskBox). map (step_of bs) (plain_order (length prefix + 1) steps))
    (sym (append_assoc prefix (box ∷ []) rest))
    ∙ (ap (λ (k : ℕ). map (step_of ((prefix ++ box ∷ []) ++ rest)) (plain_order k steps))
    (sym (length_push prefix box)) ∙ next))
order_drawn prefix (Called symbol turn x y ∷ steps) shifts =
    let more = map (step_of (prefix ++ own_boxes steps)) (plain_order (length prefix) steps) in
    ap (λ (t : ℕ). let s : Step = called symbol (record { turn = t; x = x; y = y }) in s ∷ more) (sym shifts.0.0)
    ∙ ap (λ (ss : List Step). called symbol (record { turn = turn; x = x; y = y }) ∷ ss)
    (order_drawn prefix steps shifts.1)

-- ---- symbols

symbols_drawn : (n : ℕ) (symbols : List ForeignSymbol)
    → AllByRecursion (λ (s : Symbol). AreFew n IsOwn s.steps) (map foreign_symbol symbols)
    → map symbol_of (map plain_symbol symbols) ≡ map foreign_symbol symbols
symbols_drawn n [] h = refl
symbols_drawn n (s ∷ symbols) h =
    let one = λ (ss : List Step). let t : Symbol = record { number = pos s.number; steps = ss } in t in
    ap (λ (ss : List Step). one ss ∷ map symbol_of (map plain_symbol symbols)) (all_own s.steps h.0.each)
    ∙ ap (λ (ts : List Symbol). foreign_symbol s ∷ ts) (symbols_drawn n symbols h.1)

few_in_symbols : (n : ℕ) (symbols : List ForeignSymbol)
    → AllByRecursion (λ (s : Symbol). AreFew n IsOwn s.steps) (map foreign_symbol symbols)
    → AllByRecursion (λ (s : CifSymbol). length s.boxes ≤ n) (map plain_symbol symbols)
few_in_symbols n [] h = tt
few_in_symbols n (s ∷ symbols) h =
    (omega (arith, few_own s.steps, length-map s.steps foreign_step, h.0.few), few_in_symbols n symbols h.1)

-- symbols, each of which is valid with some number of others
solid_symbols : (m : ℕ) (symbols : List ForeignSymbol)
    → ((k : ℕ) → k < length symbols → All (IsForeignStep (m + k)) (get_or symbols k no_foreign_symbol).steps)
    → AllByRecursion (λ (s : CifSymbol). All (IsSolidWithin (2 ^ 50)) (map drawn_of s.boxes)) (map plain_symbol symbols)
solid_symbols m [] h = tt
solid_symbols m (s ∷ symbols) h = (
  all_solid_own (m + 0) s.steps (h 0 (omega arith)),
  solid_symbols (m + 1) symbols
      (λ k lt. let same : m + suc k ≡ m + 1 + k = omega arith in subst
      (λ (j : ℕ). All (IsForeignStep j) (get_or symbols k no_foreign_symbol).steps) same
      (h (suc k) (omega (arith, lt)))),
)

-- ---- the file

pub record Fits (file : ForeignFile) : Type 0 where
  pub drawn : hierarchy_of (plain_file file) ≡ foreign_hierarchy file
  pub named : NamesInOrder (plain_file file).order (length (plain_file file).boxes)
  pub flat : CanBeFlattened (plain_file file)

pub plain_fits : (n : ℕ) (file : ForeignFile) → n ≤ 2 ^ 26 → IsForeignFile file → IsPlain n (foreign_hierarchy file)
    → Fits file
plain_fits n file small is plain_is =
    let symbols = map plain_symbol file.symbols in
    let order = plain_order 0 file.top in
    let top = recursion_from_All (IsForeignStep (length file.symbols)) file.top is.top in
    let hierarchy =
    λ (ss : List Symbol) (ts : List Step). let s : Hierarchy = record { symbols = ss; steps = ts } in s in
    let count : length symbols ≡ length file.symbols = length-map file.symbols plain_symbol in
    let few : length file.top ≤ n = omega (arith, plain_is.top.few, length-map file.top foreign_step) in
    let each = few_in_symbols n file.symbols plain_is.symbols in
    record {
      drawn = ap (λ (ss : List Symbol). hierarchy ss (map (step_of (own_boxes file.top)) order))
          (symbols_drawn n file.symbols plain_is.symbols)
          ∙ ap (hierarchy (map foreign_symbol file.symbols)) (order_drawn [] file.top plain_is.top.each);
      named = order_named 0 file.top;
      flat = record {
        symbols =
            All-from_recursion _ symbols
            (solid_symbols 0 file.symbols
            (λ k lt. let same : k ≡ 0 + k = omega arith in subst
            (λ (j : ℕ). All (IsForeignStep j) (get_or file.symbols k no_foreign_symbol).steps) same
            (is.symbols k lt)));
        boxes = all_solid_own (length file.symbols) file.top is.top;
        steps = subst (λ (m : ℕ). All (IsStepOf m (length (own_boxes file.top))) order) (sym count)
            (All-from_recursion _ order
            (order_valid (length file.symbols) (length (own_boxes file.top)) 0 file.top top plain_is.top.each
            (omega arith)));
        few_steps = omega (arith, order_length 0 file.top, few, small);
        few_boxes = All-from_recursion _ symbols (fewer symbols each);
      };
    }
  where
    fewer : (symbols : List CifSymbol) → AllByRecursion (λ (s : CifSymbol). length s.boxes ≤ n) symbols
        → AllByRecursion (λ (s : CifSymbol). length s.boxes ≤ 2 ^ 26) symbols
    fewer [] h = tt
    fewer (s ∷ symbols) h = (let le = h.0 in omega (arith, le, small), fewer symbols h.1)

-- ---- one step more

pub own_more : (steps : List ForeignStep) (i : ℕ) (step : ForeignStep) → i < length steps → step ≡ get_or steps i step
    → own_boxes (take (i + 1) steps) ≡ own_boxes (take i steps) ++ own_box step
own_more steps i step lt at = flat_more own_box steps i step lt at

order_push : (k : ℕ) (steps : List ForeignStep) (step : ForeignStep)
    → plain_order k (steps ++ step ∷ []) ≡ plain_order k steps
    ++ plain_order (k + length (own_boxes steps)) (step ∷ [])
order_push k [] step = let at : k ≡ k + 0 = omega arith in ap (λ (j : ℕ). plain_order j (step ∷ [])) at
order_push k (Own box ∷ steps) step =
    let at : k + 1 + length (own_boxes steps) ≡ k + suc (length (own_boxes steps)) = omega arith in
    ap (λ (os : List CifStep). plain.Own k ∷ os)
    (order_push (k + 1) steps step ∙ ap (λ (j : ℕ). plain_order (k + 1) steps ++ plain_order j (step ∷ [])) at)
order_push k (Called symbol turn x y ∷ steps) step =
    ap (λ (os : List CifStep). plain.Called symbol x y ∷ os) (order_push k steps step)

pub order_more : (steps : List ForeignStep) (i boxes : ℕ) (step : ForeignStep) → i < length steps
    → step ≡ get_or steps i step → boxes ≡ length (own_boxes (take i steps))
    → plain_order 0 (take (i + 1) steps) ≡ plain_order 0 (take i steps) ++ plain_order boxes (step ∷ [])
order_more steps i boxes step lt at count =
    let same : 0 + length (own_boxes (take i steps)) ≡ boxes = omega (arith, count) in
    ap (plain_order 0) (take_more steps i step lt ∙ ap (λ (s : ForeignStep). take i steps ++ s ∷ []) (sym at))
    ∙ (order_push 0 (take i steps) step
    ∙ ap (λ (j : ℕ). plain_order 0 (take i steps) ++ plain_order j (step ∷ [])) same)

pub own_pushed : (steps : List ForeignStep) (i : ℕ) (step : ForeignStep) (mask : MaskBox)
    (before after : List MaskBox) → i < length steps → step ≡ get_or steps i step → step ≡ Own mask
    → before ≡ own_boxes (take i steps) → after ≡ before ++ mask ∷ []
    → after ≡ own_boxes (take (i + 1) steps)
own_pushed steps i step mask before after lt at is was e =
    e ∙ (ap (λ (bs : List MaskBox). bs ++ mask ∷ []) was
    ∙ sym (own_more steps i step lt at ∙ ap (λ (s : ForeignStep). own_boxes (take i steps) ++ own_box s) is))

pub none_pushed : (steps : List ForeignStep) (i : ℕ) (step : ForeignStep) (symbol turn : ℕ) (x y : ℤ)
    (before : List MaskBox) → i < length steps → step ≡ get_or steps i step → step ≡ Called symbol turn x y
    → before ≡ own_boxes (take i steps)
    → before ≡ own_boxes (take (i + 1) steps)
none_pushed steps i step symbol turn x y before lt at is was =
    was ∙ sym (own_more steps i step lt at
    ∙ (ap (λ (s : ForeignStep). own_boxes (take i steps) ++ own_box s) is
    ∙ append-nil (own_boxes (take i steps))))

pub order_pushed : (steps : List ForeignStep) (i boxes : ℕ) (step : ForeignStep) (plain_step : CifStep)
    (before after : List CifStep) → i < length steps → step ≡ get_or steps i step
    → boxes ≡ length (own_boxes (take i steps))
    → plain_order boxes (step ∷ []) ≡ plain_step ∷ [] → before ≡ plain_order 0 (take i steps)
    → after ≡ before ++ plain_step ∷ [] → after ≡ plain_order 0 (take (i + 1) steps)
order_pushed steps i boxes step plain_step before after lt at count value was e =
    e ∙ (ap (λ (os : List CifStep). os ++ plain_step ∷ []) was
    ∙ sym (order_more steps i boxes step lt at count
    ∙ ap (λ (os : List CifStep). plain_order 0 (take i steps) ++ os) value))

pub count_pushed : (steps : List ForeignStep) (i boxes more : ℕ) (step : ForeignStep) → i < length steps
    → step ≡ get_or steps i step → boxes ≡ length (own_boxes (take i steps)) → more ≡ length (own_box step)
    → boxes + more ≡ length (own_boxes (take (i + 1) steps))
count_pushed steps i boxes more step lt at count is =
    let sum = ap length (own_more steps i step lt at) ∙ length-append (own_boxes (take i steps)) (own_box step) in
    omega (arith, sum, count, is)

pub called_order : (at symbol turn : ℕ) (x y : ℤ) (step : ForeignStep) → step ≡ Called symbol turn x y
    → FitsSigned w64 x → FitsSigned w64 y
    → plain_order at (step ∷ []) ≡ plain.Called symbol (to_z w64 (of_z w64 x)) (to_z w64 (of_z w64 y)) ∷ []
called_order at symbol turn x y step e fx fy = rw (e, to_z-of_z w64 x fx, to_z-of_z w64 y fy) refl
