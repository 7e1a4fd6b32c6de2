-- The boxes and the depth of each symbol of a file, from those of the symbols that it calls.
use Rattle.std.proofs.Common.{◌≡◌, ℕ, zero, suc, ◌+◌, ◌<◌, ◌≤◌, max, List, [], ◌∷◌, ◌++◌, All, map, length, take, fold}
use Rattle.std.proofs.{Common.{get_or, refl, ap, ◌∙◌, arith}, lemmas.List.{length-map, Elements.recursion_from_All}}
use Rattle.std.specs.List.{AllByRecursion}
use Rattle.cif_read.specs.Hierarchies.{Drawn, Symbol, placed_box, boxes_of_step, boxes_of_steps, boxes_of_symbols}
use Rattle.cif_read.specs.Hierarchies.{depth_of_step, depth_of_steps, depths_of}
use Rattle.cif_read.specs.declared.file.{ForeignSymbol.ForeignSymbol, ForeignStep.{ForeignStep, TheVariants.Own}}
use Rattle.cif_read.specs.{declared.file.ForeignStep.TheVariants.Called, Foreign.{foreign_step, foreign_symbol}}
use Rattle.cif_read.specs.{Foreign.{no_foreign_symbol, IsForeignStep}, Readings.called_depth}
use Rattle.cif_read.proofs.Building.{length_built, built_at, built_before}

-- ---- steps that call those before a position see those alone

step_boxes_same : (n : ℕ) (a b : List (List Drawn)) (step : ForeignStep) → IsForeignStep n step
    → ((k : ℕ) → k < n → get_or a k [] ≡ get_or b k [])
    → boxes_of_step a (foreign_step step) ≡ boxes_of_step b (foreign_step step)
step_boxes_same n a b (Own box) h same = refl
step_boxes_same n a b (Called symbol turn x y) h same =
    ap (map (placed_box (record { turn = turn; x = x; y = y }))) (same symbol h.0)

pub boxes_same : (n : ℕ) (a b : List (List Drawn)) (steps : List ForeignStep) → AllByRecursion (IsForeignStep n) steps
    → ((k : ℕ) → k < n → get_or a k [] ≡ get_or b k [])
    → boxes_of_steps a (map foreign_step steps) ≡ boxes_of_steps b (map foreign_step steps)
boxes_same n a b [] h same = refl
boxes_same n a b (step ∷ steps) h same =
    ap (λ (zs : List Drawn). zs ++ boxes_of_steps a (map foreign_step steps)) (step_boxes_same n a b step h.0 same)
    ∙ ap (λ (zs : List Drawn). boxes_of_step b (foreign_step step) ++ zs) (boxes_same n a b steps h.1 same)

step_depth_same : (n : ℕ) (a b : List ℕ) (step : ForeignStep) → IsForeignStep n step
    → ((k : ℕ) → k < n → get_or a k 0 ≡ get_or b k 0)
    → depth_of_step a (foreign_step step) ≡ depth_of_step b (foreign_step step)
step_depth_same n a b (Own box) h same = refl
step_depth_same n a b (Called symbol turn x y) h same = same symbol h.0

depths_same_from : (n : ℕ) (a b : List ℕ) (steps : List ForeignStep) → AllByRecursion (IsForeignStep n) steps
    → ((k : ℕ) → k < n → get_or a k 0 ≡ get_or b k 0)
    → map (depth_of_step a) (map foreign_step steps) ≡ map (depth_of_step b) (map foreign_step steps)
depths_same_from n a b [] h same = refl
depths_same_from n a b (step ∷ steps) h same =
    ap (λ (d : ℕ). d ∷ map (depth_of_step a) (map foreign_step steps)) (step_depth_same n a b step h.0 same)
    ∙ ap (λ (ds : List ℕ). depth_of_step b (foreign_step step) ∷ ds) (depths_same_from n a b steps h.1 same)

pub depths_same : (n : ℕ) (a b : List ℕ) (steps : List ForeignStep) → AllByRecursion (IsForeignStep n) steps
    → ((k : ℕ) → k < n → get_or a k 0 ≡ get_or b k 0)
    → called_depth a (map foreign_step steps) ≡ called_depth b (map foreign_step steps)
depths_same n a b steps h same = ap (fold max 0) (depths_same_from n a b steps h same)

-- ---- one symbol

abbrev pub AreInOrder : List ForeignSymbol → Type 0
AreInOrder symbols = (k : ℕ) → k < length symbols → All (IsForeignStep k) (get_or symbols k no_foreign_symbol).steps

pub length_depths : (symbols : List ForeignSymbol) → length (depths_of (map foreign_symbol symbols)) ≡ length symbols
length_depths symbols = let e =
    length_built (λ (depths : List ℕ) (symbol : Symbol). depth_of_steps depths symbol.steps) []
    (map foreign_symbol symbols) in omega (arith, e, length-map symbols foreign_symbol)

steps_at : (symbols : List ForeignSymbol) (k : ℕ)
    → (get_or (map foreign_symbol symbols) k (foreign_symbol no_foreign_symbol)).steps
    ≡ map foreign_step (get_or symbols k no_foreign_symbol).steps
steps_at [] k = refl
steps_at (s ∷ symbols) zero = refl
steps_at (s ∷ symbols) (suc k) = steps_at symbols k

pub boxes_at : (symbols : List ForeignSymbol) (k : ℕ) → AreInOrder symbols → k < length symbols
    → get_or (boxes_of_symbols (map foreign_symbol symbols)) k []
    ≡ boxes_of_steps (boxes_of_symbols (map foreign_symbol symbols))
    (map foreign_step (get_or symbols k no_foreign_symbol).steps)
boxes_at symbols k order h =
    let f = λ (boxes : List (List Drawn)) (symbol : Symbol). boxes_of_steps boxes symbol.steps in
    let all : List Symbol = map foreign_symbol symbols in
    let size : length all ≡ length symbols = length-map symbols foreign_symbol in
    let lt : k < length all = omega (arith, h, size) in
    let le : k ≤ length all = omega (arith, h, size) in
    let steps = (get_or symbols k no_foreign_symbol).steps in
    built_at f all k [] (foreign_symbol no_foreign_symbol) lt
    ∙ (ap (boxes_of_steps (boxes_of_symbols (take k all))) (steps_at symbols k)
    ∙ boxes_same k (boxes_of_symbols (take k all)) (boxes_of_symbols all) steps
    (recursion_from_All (IsForeignStep k) steps (order k h)) (λ j below. built_before f all k j [] below le))

pub depth_at : (symbols : List ForeignSymbol) (k : ℕ) → AreInOrder symbols → k < length symbols
    → get_or (depths_of (map foreign_symbol symbols)) k 0 ≡ called_depth (depths_of (map foreign_symbol symbols))
    (map foreign_step (get_or symbols k no_foreign_symbol).steps) + 1
depth_at symbols k order h =
    let f = λ (depths : List ℕ) (symbol : Symbol). depth_of_steps depths symbol.steps in
    let all : List Symbol = map foreign_symbol symbols in
    let size : length all ≡ length symbols = length-map symbols foreign_symbol in
    let lt : k < length all = omega (arith, h, size) in
    let le : k ≤ length all = omega (arith, h, size) in
    let steps = (get_or symbols k no_foreign_symbol).steps in
    built_at f all k 0 (foreign_symbol no_foreign_symbol) lt
    ∙ (ap (depth_of_steps (depths_of (take k all))) (steps_at symbols k)
    ∙ ap (λ (d : ℕ). d + 1)
    (depths_same k (depths_of (take k all)) (depths_of all) steps
    (recursion_from_All (IsForeignStep k) steps (order k h)) (λ j below. built_before f all k j 0 below le)))
