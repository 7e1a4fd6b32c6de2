-- A file without the steps that have no boxes: its boxes are the same, and it can be flattened as well.
use Rattle.std.proofs.Common.{◌≡◌, ℕ, zero, suc, ◌+◌, ◌<◌, ◌≤◌, max, Bool, true, false, cond, List, [], ◌∷◌, ◌++◌, All}
use Rattle.std.proofs.Common.{map, length, take, fold, get_or, refl, sym, ap, ◌∙◌, subst, arith}
use Rattle.std.proofs.lemmas.List.{append-nil, take_more, length_push, length-map, get_or-map, Elements.filter-append}
use Rattle.std.proofs.lemmas.List.Elements.{All-filter, All-weaker, All-from_recursion, recursion_from_All}
use Rattle.std.{proofs.lemmas.Bool.{false≢true, Decides.nat_tests}, specs.List.{AllByRecursion, AllZip, filter}}
use Rattle.cif_read.specs.Hierarchies.{Drawn, Symbol, placed_box, boxes_of_steps, boxes_of_symbols, then_boxes}
use Rattle.cif_read.specs.{Hierarchies.{depth_of_step, depths_of, then_depth, flattened}, Foreign.foreign_step}
use Rattle.cif_read.specs.Foreign.{foreign_symbol, no_foreign_symbol, IsForeignStep}
use Rattle.cif_read.specs.declared.file.{ForeignFile.ForeignFile, ForeignSymbol.ForeignSymbol, ForeignStep.ForeignStep}
use Rattle.cif_read.specs.declared.file.ForeignStep.TheVariants.{Own, Called}
use Rattle.cif_read.proofs.{Building.built_kept, Symbols.AreInOrder, Sound.step_later}
use Rattle.cif_foreign.specs.{Files.{hierarchy_of, CanBeFlattened}, Counts.{AreCounts, has_boxes, filled_symbol}}
use Rattle.cif_foreign.{specs.Counts.filled_file, proofs.{Flat.{drawn_by, none_counted}, Walking.steps_here}}

-- ---- a step that is left out has no boxes

-- these lists begin as those do
abbrev Begins : ℕ → List (List Drawn) → List (List Drawn) → Type 0
Begins n boxes all = (k : ℕ) → k < n → get_or boxes k [] ≡ get_or all k []

none_drawn : (counts : List ℕ) (all boxes : List (List Drawn)) (n : ℕ) (step : ForeignStep) → AreCounts counts all
    → n ≤ length counts → Begins n boxes all → IsForeignStep n step → has_boxes counts step ≡ false
    → drawn_by boxes step ≡ []
none_drawn counts all boxes n (Own box) are le begins is e = absurd (false≢true (sym e))
none_drawn counts all boxes n (Called symbol turn x y) are le begins is e =
    let below = is.0 in
    let none : get_or counts symbol 0 ≡ 0 = grind (arith, nat_tests, e) in
    ap (map (placed_box (record { turn = turn; x = x; y = y })))
    (begins symbol below ∙ none_counted all counts symbol are (omega (arith, below, le)) none)

pub steps_kept : (counts : List ℕ) (all boxes : List (List Drawn)) (n : ℕ) (steps : List ForeignStep)
    → AreCounts counts all → n ≤ length counts → Begins n boxes all → AllByRecursion (IsForeignStep n) steps
    → boxes_of_steps boxes (map foreign_step (filter (has_boxes counts) steps))
    ≡ boxes_of_steps boxes (map foreign_step steps)
steps_kept counts all boxes n [] are le begins is = refl
steps_kept counts all boxes n (step ∷ steps) are le begins is =
    by (has_boxes counts step) refl (steps_kept counts all boxes n steps are le begins is.1)
  where
    by : (kept : Bool) → has_boxes counts step ≡ kept
        → boxes_of_steps boxes (map foreign_step (filter (has_boxes counts) steps))
        ≡ boxes_of_steps boxes (map foreign_step steps)
        → boxes_of_steps boxes
        (map foreign_step (cond kept (step ∷ filter (has_boxes counts) steps) (filter (has_boxes counts) steps)))
        ≡ boxes_of_steps boxes (map foreign_step (step ∷ steps))
    by true e rest = ap (λ (zs : List Drawn). drawn_by boxes step ++ zs) rest
    by false e rest = rest ∙ ap (λ (zs : List Drawn). zs ++ boxes_of_steps boxes (map foreign_step steps))
        (sym (none_drawn counts all boxes n step are le begins is.0 e))

-- ---- symbols, from the first

-- each calls those before it alone, where so many stand before the first
abbrev FollowInOrder : ℕ → List ForeignSymbol → Type 0
FollowInOrder n symbols = (k : ℕ) → k < length symbols
    → All (IsForeignStep (n + k)) (get_or symbols k no_foreign_symbol).steps

first_steps : (n : ℕ) (symbol : ForeignSymbol) (symbols : List ForeignSymbol) → FollowInOrder n (symbol ∷ symbols)
    → All (IsForeignStep n) symbol.steps
first_steps n symbol symbols order =
    subst (λ (k : ℕ). All (IsForeignStep k) symbol.steps) (let e : n + 0 ≡ n = omega arith in e)
    (order 0 (omega arith))

others : (n m : ℕ) (symbol : ForeignSymbol) (symbols : List ForeignSymbol) → m ≡ n + 1
    → FollowInOrder n (symbol ∷ symbols) → FollowInOrder m symbols
others n m symbol symbols e order k lt =
    subst (λ (i : ℕ). All (IsForeignStep i) (get_or symbols k no_foreign_symbol).steps)
    (let same : n + suc k ≡ m + k = omega (arith, e) in same) (order (suc k) (omega (arith, lt)))

symbols_kept : (counts : List ℕ) (all done : List (List Drawn)) (symbols : List ForeignSymbol) → AreCounts counts all
    → all ≡ fold then_boxes done (map foreign_symbol symbols) → length done + length symbols ≤ length counts
    → FollowInOrder (length done) symbols
    → fold then_boxes done (map foreign_symbol (map (filled_symbol counts) symbols)) ≡ all
symbols_kept counts all done [] are is le order = sym is
symbols_kept counts all done (symbol ∷ symbols) are is le order =
    let more : List Drawn = boxes_of_steps done (map foreign_step symbol.steps) in
    let next : List (List Drawn) = done ++ (more ∷ []) in
    let size : length next ≡ length done + 1 = length_push done more in
    let begins : Begins (length done) done all = λ k lt.
    sym (ap (λ (bs : List (List Drawn)). get_or bs k []) is
    ∙ built_kept (λ (boxes : List (List Drawn)) (s : Symbol). boxes_of_steps boxes s.steps) done
    (map foreign_symbol (symbol ∷ symbols)) k [] lt) in
    let one : boxes_of_steps done (map foreign_step (filled_symbol counts symbol).steps) ≡ more =
    steps_kept counts all done (length done) symbol.steps are (omega (arith, le)) begins
    (recursion_from_All (IsForeignStep (length done)) symbol.steps
    (first_steps (length done) symbol symbols order)) in
    ap (λ (zs : List Drawn). fold then_boxes (done ++ (zs ∷ []))
    (map foreign_symbol (map (filled_symbol counts) symbols))) one
    ∙ symbols_kept counts all next symbols are is (omega (arith, le, size))
    (others (length done) (length next) symbol symbols size order)

-- ---- depths

depths_push : (ds es : List ℕ) (d e : ℕ) → AllZip (λ a b. a ≤ b) ds es → d ≤ e
    → AllZip (λ a b. a ≤ b) (ds ++ d ∷ []) (es ++ e ∷ [])
depths_push [] [] d e zip le = (le, tt)
depths_push [] (b ∷ es) d e zip le = absurd zip
depths_push (a ∷ ds) [] d e zip le = absurd zip
depths_push (a ∷ ds) (b ∷ es) d e zip le = (zip.0, depths_push ds es d e zip.1 le)

depth_at_most : (ds es : List ℕ) (k : ℕ) → AllZip (λ a b. a ≤ b) ds es → get_or ds k 0 ≤ get_or es k 0
depth_at_most [] [] k zip = omega arith
depth_at_most [] (b ∷ es) k zip = absurd zip
depth_at_most (a ∷ ds) [] k zip = absurd zip
depth_at_most (a ∷ ds) (b ∷ es) zero zip = zip.0
depth_at_most (a ∷ ds) (b ∷ es) (suc k) zip = depth_at_most ds es k zip.1

step_at_most : (ds es : List ℕ) (step : ForeignStep) → AllZip (λ a b. a ≤ b) ds es
    → depth_of_step ds (foreign_step step) ≤ depth_of_step es (foreign_step step)
step_at_most ds es (Own box) zip = omega arith
step_at_most ds es (Called symbol turn x y) zip = depth_at_most ds es symbol zip

steps_at_most : (counts ds es : List ℕ) (steps : List ForeignStep) (d e : ℕ) → AllZip (λ a b. a ≤ b) ds es → d ≤ e
    → fold max d (map (depth_of_step ds) (map foreign_step (filter (has_boxes counts) steps))) ≤ fold max e
    (map (depth_of_step es) (map foreign_step steps))
steps_at_most counts ds es [] d e zip le = le
steps_at_most counts ds es (step ∷ steps) d e zip le =
    by (has_boxes counts step) (λ x y less. steps_at_most counts ds es steps x y zip less)
  where
    own : depth_of_step ds (foreign_step step) ≤ depth_of_step es (foreign_step step)
    own = step_at_most ds es step zip

    by : (kept : Bool)
        → ((x y : ℕ) → x ≤ y
        → fold max x (map (depth_of_step ds) (map foreign_step (filter (has_boxes counts) steps))) ≤ fold max y
        (map (depth_of_step es) (map foreign_step steps)))
        → fold max d
        (map (depth_of_step ds)
        (map foreign_step
        (cond kept (step ∷ filter (has_boxes counts) steps)
        (filter (has_boxes counts) steps)))) ≤ fold max e (map (depth_of_step es) (map foreign_step (step ∷
        steps)))
    by true goes_on = goes_on (max d (depth_of_step ds (foreign_step step)))
        (max e (depth_of_step es (foreign_step step))) (omega (arith, le, own))
    by false goes_on = goes_on d (max e (depth_of_step es (foreign_step step))) (omega (arith, le))

symbols_at_most : (counts ds es : List ℕ) (symbols : List ForeignSymbol) → AllZip (λ a b. a ≤ b) ds es
    → AllZip (λ a b. a ≤ b) (fold then_depth ds (map foreign_symbol (map (filled_symbol counts) symbols)))
    (fold then_depth es (map foreign_symbol symbols))
symbols_at_most counts ds es [] zip = zip
symbols_at_most counts ds es (symbol ∷ symbols) zip =
    let one = steps_at_most counts ds es symbol.steps 0 0 zip (omega arith) in
    symbols_at_most counts (then_depth ds (foreign_symbol (filled_symbol counts symbol)))
    (then_depth es (foreign_symbol symbol)) symbols (depths_push ds es _ _ zip (omega (arith, one)))

all_at_most : (most : ℕ) (ds es : List ℕ) → AllZip (λ a b. a ≤ b) ds es → AllByRecursion (λ d. d ≤ most) es
    → AllByRecursion (λ d. d ≤ most) ds
all_at_most most [] es zip all = tt
all_at_most most (a ∷ ds) [] zip all = absurd zip
all_at_most most (a ∷ ds) (b ∷ es) zip all = let here = zip.0 in let low =
    all.0 in (omega (arith, here, low), all_at_most most ds es zip.1 all.1)

-- ---- the file

filled_in_order : (counts : List ℕ) (symbols : List ForeignSymbol) → AreInOrder symbols
    → AreInOrder (map (filled_symbol counts) symbols)
filled_in_order counts symbols order k below =
    let lt : k < length symbols = omega (arith, below, length-map symbols (filled_symbol counts)) in
    subst (λ (s : ForeignSymbol). All (IsForeignStep k) s.steps)
    (sym (get_or-map (filled_symbol counts) symbols k no_foreign_symbol no_foreign_symbol lt))
    (All-filter (has_boxes counts) (IsForeignStep k) (get_or symbols k no_foreign_symbol).steps (order k lt))

pub filled_flat : (counts : List ℕ) (file : ForeignFile) → CanBeFlattened file
    → CanBeFlattened (filled_file counts file)
filled_flat counts file flat =
    let depths = depths_of (map foreign_symbol file.symbols) in
    record {
      symbols = filled_in_order counts file.symbols flat.symbols;
      top = subst (λ (n : ℕ). All (IsForeignStep n) (filter (has_boxes counts) file.top))
          (sym (length-map file.symbols (filled_symbol counts)))
          (All-filter (has_boxes counts) (IsForeignStep (length file.symbols)) file.top flat.top);
      shallow =
          All-from_recursion (λ d. d ≤ 64) (depths_of (map foreign_symbol (map (filled_symbol counts) file.symbols)))
          (all_at_most 64 _ depths (symbols_at_most counts [] [] file.symbols tt)
          (recursion_from_All (λ d. d ≤ 64) depths flat.shallow));
    }

pub filled_boxes : (counts : List ℕ) (file : ForeignFile) → CanBeFlattened file
    → AreCounts counts (boxes_of_symbols (map foreign_symbol file.symbols)) → length counts ≡ length file.symbols
    → flattened (hierarchy_of (filled_file counts file)) ≡ flattened (hierarchy_of file)
filled_boxes counts file flat are size =
    let all = boxes_of_symbols (map foreign_symbol file.symbols) in
    let n = length file.symbols in
    let order : FollowInOrder 0 file.symbols =
    λ k lt. subst (λ (i : ℕ). All (IsForeignStep i) (get_or file.symbols k no_foreign_symbol).steps)
    (let e : k ≡ 0 + k = omega arith in e) (flat.symbols k lt) in
    ap (λ (bs : List (List Drawn)). boxes_of_steps bs (map foreign_step (filter (has_boxes counts) file.top)))
    (symbols_kept counts all [] file.symbols are refl (omega (arith, size)) order)
    ∙ steps_kept counts all all n file.top are (omega (arith, size)) (λ k lt. refl)
    (recursion_from_All (IsForeignStep n) file.top flat.top)

-- ---- as the code finds them

-- one step more is looked at
kept_more : (test : ForeignStep → Bool) (steps : List ForeignStep) (i : ℕ) (step : ForeignStep) (kept : Bool)
    → i < length steps → step ≡ get_or steps i step → test step ≡ kept
    → filter test (take (i + 1) steps) ≡ filter test (take i steps) ++ cond kept (step ∷ []) []
kept_more test steps i step kept lt at is =
    let prefix = take i steps in
    ap (filter test) (take_more steps i step lt ∙ ap (λ (s : ForeignStep). prefix ++ s ∷ []) (sym at))
    ∙ (filter-append test prefix (step ∷ []) ∙ ap (λ (b : Bool). filter test prefix ++ cond b (step ∷ []) []) is)

pub one_kept : (test : ForeignStep → Bool) (steps : List ForeignStep) (i : ℕ) (step : ForeignStep)
    (now after : List ForeignStep) → i < length steps → step ≡ get_or steps i step → now ≡ filter test (take i steps)
    → test step ≡ true
    → after ≡ now ++ step ∷ [] → after ≡ filter test (take (i + 1) steps)
one_kept test steps i step now after lt at was is e =
    e ∙ (ap (λ (ss : List ForeignStep). ss ++ step ∷ []) was ∙ sym (kept_more test steps i step true lt at is))

pub one_left_out : (test : ForeignStep → Bool) (steps : List ForeignStep) (i : ℕ) (step : ForeignStep)
    (now after : List ForeignStep) → i < length steps → step ≡ get_or steps i step → now ≡ filter test (take i steps)
    → test step ≡ false
    → after ≡ now → after ≡ filter test (take (i + 1) steps)
one_left_out test steps i step now after lt at was is e =
    e ∙ (was ∙ sym (kept_more test steps i step false lt at is ∙ append-nil (filter test (take i steps))))

pub steps_there : (symbols : List ForeignSymbol) (i : ℕ) (symbol : ForeignSymbol) (steps : List ForeignStep) (n : ℕ)
    → AreInOrder symbols → i < length symbols → symbol ≡ get_or symbols i symbol → steps ≡ symbol.steps
    → n ≡ length symbols → All (IsForeignStep n) steps
steps_there symbols i symbol steps n order lt at same e =
    All-weaker (IsForeignStep i) (IsForeignStep n) (λ s h. step_later i n s (omega (arith, lt, e)) h) steps
    (steps_here symbols i symbol steps i order lt at same refl)
