-- All boxes of a file, step by step.
use Rattle.std.proofs.Common.{◌≡◌, ℕ, zero, suc, ◌+◌, ◌<◌, ◌≤◌, ◌^◌, ℤ, ◌+ℤ◌, ◌≤ℤ◌, List, [], ◌∷◌, ◌++◌, map, length}
use Rattle.std.proofs.Common.{get_or, take, drop, fold, refl, sym, ap, ◌∙◌, arith, length-append}
use Rattle.std.proofs.lemmas.List.{append-nil, append_assoc, take_more, take_all, take-append-drop, map_push}
use Rattle.std.proofs.lemmas.{List.{Concat.flat_map-append, Elements.recursion_from_All}, Int.{ints, clamps}}
use Rattle.std.specs.{List.{flat_map, All, AllByRecursion}, Int.{int_min, int_max}}
use Rattle.lam_geom.specs.declared.boxes.MaskBox.{MaskBox}
use Rattle.cif_read.specs.declared.file.{CifFile.CifFile, CifStep.{CifStep, TheVariants.{Own, Called}}}
use Rattle.cif_read.specs.{declared.file.CifSymbol.CifSymbol, Hierarchies.{Drawn, Symbol, own, moved, placed_box}}
use Rattle.cif_read.specs.{Hierarchies.{boxes_of_step, boxes_of_steps, then_boxes, flattened}, Files.drawn_of}
use Rattle.cif_read.specs.Files.{boxes_in, symbol_of, step_of, drawn_in_step, hierarchy_of, IsSolidWithin}
use Rattle.cif_read.specs.Files.{CanBeFlattened}

-- ---- symbols of boxes alone

own_boxes : (bs : List (List Drawn)) (boxes : List Drawn) → boxes_of_steps bs (map own boxes) ≡ boxes
own_boxes bs [] = refl
own_boxes bs (box ∷ boxes) = ap (λ (zs : List Drawn). box ∷ zs) (own_boxes bs boxes)

pub built_boxes : {X : Type 0} (f : X → Symbol) (g : X → List Drawn) → ((x : X) → (f x).steps ≡ map own (g x))
    → (bs : List (List Drawn)) (xs : List X) → fold then_boxes bs (map f xs) ≡ bs ++ map g xs
built_boxes f g own_alone bs [] = sym (append-nil bs)
built_boxes f g own_alone bs (x ∷ xs) =
    let here = boxes_of_steps bs (f x).steps in
    let is : here ≡ g x = ap (boxes_of_steps bs) (own_alone x) ∙ own_boxes bs (g x) in
    built_boxes f g own_alone (bs ++ (here ∷ [])) xs
    ∙ (append_assoc bs (here ∷ []) (map g xs) ∙ ap (λ (b : List Drawn). bs ++ (b ∷ map g xs)) is)

-- ---- calls that only shift

-- the sides of a box stand in their order
abbrev pub IsSorted : Drawn → Type 0
IsSorted box = (box.left ≤ℤ box.right) × (box.bottom ≤ℤ box.top)

low_moved : (a b x : ℤ) → a ≤ℤ b → int_min (a +ℤ x) (b +ℤ x) ≡ a +ℤ x
low_moved a b x h = omega (arith, ints, clamps, h)

high_moved : (a b x : ℤ) → a ≤ℤ b → int_max (a +ℤ x) (b +ℤ x) ≡ b +ℤ x
high_moved a b x h = omega (arith, ints, clamps, h)

pub moved_same : (x y : ℤ) (box : Drawn) → IsSorted box
    → placed_box (record { turn = 0; x = x; y = y }) box ≡ moved x y box
moved_same x y box h =
    rw (
      low_moved box.left box.right x h.0,
      high_moved box.left box.right x h.0,
      low_moved box.bottom box.top y
          h.1,
      high_moved box.bottom box.top y h.1,
    ) refl

all_moved : (x y : ℤ) (boxes : List Drawn) → AllByRecursion IsSorted boxes
    → map (placed_box (record { turn = 0; x = x; y = y })) boxes ≡ map (moved x y) boxes
all_moved x y [] h = refl
all_moved x y (box ∷ boxes) h =
    ap (λ (b : Drawn). b ∷ map (placed_box (record { turn = 0; x = x; y = y })) boxes) (moved_same x y box h.0)
    ∙ ap (λ (bs : List Drawn). moved x y box ∷ bs) (all_moved x y boxes h.1)

solid_sorted : (reach : ℕ) (boxes : List Drawn) → AllByRecursion (IsSolidWithin reach) boxes
    → AllByRecursion IsSorted boxes
solid_sorted reach [] h = tt
solid_sorted reach (box ∷ boxes) h =
    let wide = h.0.wide in
    let high = h.0.high in
    ((omega (arith, ints, wide), omega (arith, ints, high)), solid_sorted reach boxes h.1)

sorted_at : (symbols : List CifSymbol) (k : ℕ)
    → AllByRecursion (λ (s : CifSymbol). All (IsSolidWithin (2 ^ 50)) (map drawn_of s.boxes)) symbols
    → AllByRecursion IsSorted (get_or (map boxes_in symbols) k [])
sorted_at [] k h = tt
sorted_at (s ∷ symbols) zero h =
    solid_sorted (2 ^ 50) (boxes_in s) (recursion_from_All (IsSolidWithin (2 ^ 50)) (boxes_in s) h.0)
sorted_at (s ∷ symbols) (suc k) h = sorted_at symbols k h.1

step_same : (file : CifFile) → CanBeFlattened file → (step : CifStep)
    → boxes_of_step (map boxes_in file.symbols) (step_of file.boxes step) ≡ drawn_in_step file step
step_same file flat (Own k) = refl
step_same file flat (Called symbol x y) =
    all_moved x y (get_or (map boxes_in file.symbols) symbol [])
    (sorted_at file.symbols symbol (recursion_from_All _ file.symbols flat.symbols))

steps_same : (file : CifFile) → CanBeFlattened file → (order : List CifStep)
    → boxes_of_steps (map boxes_in file.symbols) (map (step_of file.boxes) order)
    ≡ flat_map (drawn_in_step file) order
steps_same file flat [] = refl
steps_same file flat (step ∷ order) =
    ap (λ (zs : List Drawn). zs ++ boxes_of_steps (map boxes_in file.symbols) (map (step_of file.boxes) order))
    (step_same file flat step)
    ∙ ap (λ (zs : List Drawn). drawn_in_step file step ++ zs) (steps_same file flat order)

pub flattened_is : (file : CifFile) → CanBeFlattened file
    → flattened (hierarchy_of file) ≡ flat_map (drawn_in_step file) file.order
flattened_is file flat =
    ap (λ (bs : List (List Drawn)). boxes_of_steps bs (map (step_of file.boxes) file.order))
    (built_boxes symbol_of boxes_in (λ symbol. refl) [] file.symbols)
    ∙ steps_same file flat file.order

-- ---- step by step

pub flat_more : {X Y : Type 0} (f : X → List Y) (xs : List X) (i : ℕ) (x : X) → i < length xs → x ≡ get_or xs i x
    → flat_map f (take (i + 1) xs) ≡ flat_map f (take i xs) ++ f x
flat_more f xs i x lt e =
    ap (flat_map f) (take_more xs i x lt)
    ∙ (flat_map-append f (take i xs) (get_or xs i x ∷ [])
    ∙ (ap (λ zs. flat_map f (take i xs) ++ zs) (append-nil (f (get_or xs i x)))
    ∙ ap (λ y. flat_map f (take i xs) ++ f y) (sym e)))

pub flat_part : {X Y : Type 0} (f : X → List Y) (xs : List X) (i : ℕ)
    → length (flat_map f (take i xs)) ≤ length (flat_map f xs)
flat_part f xs i =
    let whole = ap (λ zs. length (flat_map f zs)) (sym (take-append-drop i xs))
    ∙ (ap length (flat_map-append f (take i xs) (drop i xs))
    ∙ length-append (flat_map f (take i xs)) (flat_map f (drop i xs))) in
    omega (arith, whole)

pub flat_all : {X Y : Type 0} (f : X → List Y) (xs : List X) (i : ℕ) → length xs ≤ i
    → flat_map f (take i xs) ≡ flat_map f xs
flat_all f xs i h = ap (flat_map f) (take_all i xs h)

-- one more box that was moved
pub moved_more : (before now after boxes : List MaskBox) (x y : ℤ) (i : ℕ) (box one : MaskBox) → i < length boxes
    → box ≡ get_or boxes i box → after ≡ now ++ one ∷ [] → drawn_of one ≡ moved x y (drawn_of box)
    → map drawn_of now ≡ map drawn_of before ++ map (moved x y) (map drawn_of (take i boxes))
    → map drawn_of after ≡ map drawn_of before ++ map (moved x y) (map drawn_of (take (i + 1) boxes))
moved_more before now after boxes x y i box one lt at e is was =
    let next = take_more boxes i box lt ∙ ap (λ b. take i boxes ++ b ∷ []) (sym at) in
    let prefix = map (moved x y) (map drawn_of (take i boxes)) in
    let later : map (moved x y) (map drawn_of (take (i + 1) boxes)) ≡ prefix ++ moved x y (drawn_of box) ∷ [] =
    ap (λ bs. map (moved x y) (map drawn_of bs)) next
    ∙ (ap (map (moved x y)) (map_push drawn_of (take i boxes) box)
    ∙ map_push (moved x y) (map drawn_of (take i boxes)) (drawn_of box)) in
    ap (map drawn_of) e ∙ (map_push drawn_of now one
    ∙ (ap (λ zs. zs ++ drawn_of one ∷ []) was
    ∙ (ap (λ d. (map drawn_of before ++ prefix) ++ d ∷ []) is
    ∙ (append_assoc (map drawn_of before) prefix (moved x y (drawn_of box) ∷ [])
    ∙ ap (λ zs. map drawn_of before ++ zs) (sym later)))))

pub step_counted : (file : CifFile) → CanBeFlattened file → (i n total : ℕ) (step : CifStep) → i < length file.order
    → step ≡ get_or file.order i step → n ≡ length (drawn_in_step file step)
    → total ≡ length (flat_map (drawn_in_step file) (take i file.order))
    → total + n ≤ length (flattened (hierarchy_of file))
step_counted file flat i n total step lt e counted so_far =
    let next = ap length (flat_more (drawn_in_step file) file.order i step lt e)
    ∙ length-append (flat_map (drawn_in_step file) (take i file.order)) (drawn_in_step file step) in
    omega (arith, ap length (flattened_is file flat), flat_part (drawn_in_step file) file.order (i + 1), next)
