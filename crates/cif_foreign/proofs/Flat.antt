-- All boxes of a file, step by step.
use Rattle.std.proofs.Common.{◌≡◌, ℕ, zero, suc, ◌+◌, ◌<◌, ◌≤◌, min, max, ℤ, pos, ◌+ℤ◌, ◌≤ℤ◌, List, [], ◌∷◌, ◌++◌, map}
use Rattle.std.proofs.Common.{length, get_or, take, fold, refl, sym, ap, ◌∙◌, arith, length-append}
use Rattle.std.proofs.lemmas.{List.{append_assoc, map_push, map-append, length-map, get_or-map}, Int.{ints, clamps}}
use Rattle.std.specs.{List.{All, AllByRecursion, flat_map}, Int.{int_min, int_max}}
use Rattle.lam_geom.specs.declared.boxes.MaskBox.{MaskBox}
use Rattle.cif_lex.specs.{declared.placement.Placement.Placement, Transformations.{Point, placed}}
use Rattle.cif_read.specs.Hierarchies.{Drawn, placed_box, boxes_of_step, boxes_of_steps, depth_of_step}
use Rattle.cif_read.specs.{Files.{drawn_of, most_boxes}, Foreign.{foreign_step, IsForeignStep}, Readings.called_depth}
use Rattle.cif_read.specs.declared.file.ForeignStep.{ForeignStep, TheVariants.{Own, Called}}
use Rattle.cif_read.proofs.Flat.{IsSorted, flat_more, flat_all}
use Rattle.cif_foreign.{specs.Counts.{counted, AreCounts}, proofs.Placing.placed_twice}

-- the boxes of a step, where those of the symbols are these
abbrev pub drawn_by : List (List Drawn) → ForeignStep → List Drawn
drawn_by boxes step = boxes_of_step boxes (foreign_step step)

pub steps_flat : (boxes : List (List Drawn)) (steps : List ForeignStep)
    → boxes_of_steps boxes (map foreign_step steps) ≡ flat_map (drawn_by boxes) steps
steps_flat boxes [] = refl
steps_flat boxes (step ∷ steps) = ap (λ (zs : List Drawn). drawn_by boxes step ++ zs) (steps_flat boxes steps)

-- ---- counts

pub counted_more : (a b : List Drawn) (total n : ℕ) → total ≡ counted a → n ≡ counted b
    → min (total + n) (most_boxes + 1) ≡ counted (a ++ b)
counted_more a b total n e f = omega (arith, e, f, length-append a b)

pub steps_counted : (boxes : List (List Drawn)) (steps : List ForeignStep) (i total n : ℕ) (step : ForeignStep)
    → i < length steps → step ≡ get_or steps i step → total ≡ counted (flat_map (drawn_by boxes) (take i steps))
    → n ≡ counted (drawn_by boxes step)
    → min (total + n) (most_boxes + 1) ≡ counted (flat_map (drawn_by boxes) (take (i + 1) steps))
steps_counted boxes steps i total n step lt at e f =
    counted_more (flat_map (drawn_by boxes) (take i steps)) (drawn_by boxes step) total n e f
    ∙ ap counted (sym (flat_more (drawn_by boxes) steps i step lt at))

pub none_counted : (boxes : List (List Drawn)) (counts : List ℕ) (k : ℕ) → AreCounts counts boxes → k < length counts
    → get_or counts k 0 ≡ 0 → get_or boxes k [] ≡ []
none_counted boxes counts k are lt none = nothing (get_or boxes k []) (sym none ∙ called)
  where
    called : get_or counts k 0 ≡ counted (get_or boxes k [])
    called =
        let size : length counts ≡ length boxes = ap length are ∙ length-map boxes counted in
        ap (λ (cs : List ℕ). get_or cs k 0) are ∙ get_or-map counted boxes k [] 0 (omega (arith, lt, size))

    nothing : (list : List Drawn) → 0 ≡ counted list → list ≡ []
    nothing [] e = refl
    nothing (d ∷ list) e = absurd (omega (arith, e))

-- ---- boxes that are added

map_twice : (outer inner all : Placement) (boxes : List Drawn)
    → ((p : Point) → placed all p ≡ placed outer (placed inner p))
    → map (placed_box all) boxes ≡ map (placed_box outer) (map (placed_box inner) boxes)
map_twice outer inner all [] same = refl
map_twice outer inner all (box ∷ boxes) same =
    ap (λ (b : Drawn). b ∷ map (placed_box all) boxes) (placed_twice outer inner all box same)
    ∙ ap (λ (bs : List Drawn). placed_box outer (placed_box inner box) ∷ bs)
    (map_twice outer inner all boxes same)

-- what is added to a list, step by step
abbrev pub Adds : List Drawn → List Drawn → Placement → List (List Drawn) → List ForeignStep → Type 0
Adds before now place boxes steps = now ≡ before ++ map (placed_box place) (flat_map (drawn_by boxes) steps)

pub adds_more : (before now after : List Drawn) (place : Placement) (boxes : List (List Drawn))
    (steps : List ForeignStep) (i : ℕ) (step : ForeignStep) → i < length steps → step ≡ get_or steps i step
    → Adds before now place boxes (take i steps) → after ≡ now ++ map (placed_box place) (drawn_by boxes step)
    → Adds before after place boxes (take (i + 1) steps)
adds_more before now after place boxes steps i step lt at was e =
    let part = flat_map (drawn_by boxes) (take i steps) in
    let one = drawn_by boxes step in
    e ∙ (ap (λ (zs : List Drawn). zs ++ map (placed_box place) one) was
    ∙ (append_assoc before (map (placed_box place) part) (map (placed_box place) one)
    ∙ ap (λ (zs : List Drawn). before ++ zs) (sym (map-append (placed_box place) part one)
    ∙ ap (map (placed_box place)) (sym (flat_more (drawn_by boxes) steps i step lt at)))))

pub adds_all : (before now : List Drawn) (place : Placement) (boxes : List (List Drawn)) (steps : List ForeignStep)
    (i : ℕ) → length steps ≤ i → Adds before now place boxes (take i steps)
    → now ≡ before ++ map (placed_box place) (boxes_of_steps boxes (map foreign_step steps))
adds_all before now place boxes steps i le was = was
    ∙ ap (λ (zs : List Drawn). before ++ map (placed_box place) zs)
    (flat_all (drawn_by boxes) steps i le ∙ sym (steps_flat boxes steps))

-- a box of one's own
pub adds_own : (now after : List MaskBox) (box one : MaskBox) (place : Placement) (boxes : List (List Drawn))
    (step : ForeignStep) → after ≡ now ++ one ∷ [] → step ≡ Own box → drawn_of one ≡ placed_box place (drawn_of box)
    → map drawn_of after ≡ map drawn_of now ++ map (placed_box place) (drawn_by boxes step)
adds_own now after box one place boxes step e is value =
    ap (map drawn_of) e
    ∙ (map_push drawn_of now one
    ∙ (ap (λ (d : Drawn). map drawn_of now ++ d ∷ []) value
    ∙ ap (λ (s : ForeignStep). map drawn_of now ++ map (placed_box place) (drawn_by boxes s)) (sym is)))

-- those of a symbol that is called
pub adds_called : (now after : List Drawn) (place all : Placement) (boxes : List (List Drawn)) (symbol turn : ℕ)
    (x y : ℤ) (step : ForeignStep) → step ≡ Called symbol turn x y
    → ((p : Point) → placed all p ≡ placed place (placed (record { turn = turn; x = x; y = y }) p))
    → after ≡ now ++ map (placed_box all) (get_or boxes symbol [])
    → after ≡ now ++ map (placed_box place) (drawn_by boxes step)
adds_called now after place all boxes symbol turn x y step is same e =
    e ∙ (ap (λ (zs : List Drawn). now ++ zs)
    (map_twice place (record { turn = turn; x = x; y = y }) all (get_or boxes symbol []) same)
    ∙ ap (λ (s : ForeignStep). now ++ map (placed_box place) (drawn_by boxes s)) (sym is))

-- ---- boxes whose sides are in their order stay where they are not turned nor shifted

low_stays : (a b : ℤ) → a ≤ℤ b → int_min (a +ℤ pos 0) (b +ℤ pos 0) ≡ a
low_stays a b h = omega (arith, ints, clamps, h)

high_stays : (a b : ℤ) → a ≤ℤ b → int_max (a +ℤ pos 0) (b +ℤ pos 0) ≡ b
high_stays a b h = omega (arith, ints, clamps, h)

abbrev pub still : Placement
still = record { turn = 0; x = pos 0; y = pos 0 }

box_stays : (box : Drawn) → IsSorted box → placed_box still box ≡ box
box_stays box h =
    rw (
      low_stays box.left box.right h.0,
      high_stays box.left box.right h.0,
      low_stays box.bottom box.top
          h.1,
      high_stays box.bottom box.top h.1,
    ) refl

pub boxes_stay : (boxes : List Drawn) → AllByRecursion IsSorted boxes → map (placed_box still) boxes ≡ boxes
boxes_stay [] h = refl
boxes_stay (box ∷ boxes) h = ap (λ (b : Drawn). b ∷ map (placed_box still) boxes) (box_stays box h.0)
    ∙ ap (λ (bs : List Drawn). box ∷ bs) (boxes_stay boxes h.1)

in_order : (a b : ℤ) → int_min a b ≤ℤ int_max a b
in_order a b = omega (arith, ints, clamps)

placed_sorted : (place : Placement) (box : Drawn) → IsSorted (placed_box place box)
placed_sorted place box =
    let p = placed place (box.left, box.bottom) in
    let q = placed place (box.right, box.top) in
    (in_order p.0 q.0, in_order p.1 q.1)

all_placed_sorted : (place : Placement) (boxes : List Drawn) → AllByRecursion IsSorted (map (placed_box place) boxes)
all_placed_sorted place [] = tt
all_placed_sorted place (box ∷ boxes) = (placed_sorted place box, all_placed_sorted place boxes)

pub sorted_append : (a b : List Drawn) → AllByRecursion IsSorted a → AllByRecursion IsSorted b
    → AllByRecursion IsSorted (a ++ b)
sorted_append [] b h k = k
sorted_append (box ∷ a) b h k = (h.0, sorted_append a b h.1 k)

step_sorted : (n : ℕ) (boxes : List (List Drawn)) (step : ForeignStep) → IsForeignStep n step
    → AllByRecursion IsSorted (drawn_by boxes step)
step_sorted n boxes (Own box) h = let wide = h.wide in let high =
    h.high in ((omega (arith, ints, wide), omega (arith, ints, high)), tt)
step_sorted n boxes (Called symbol turn x y) h =
    all_placed_sorted (record { turn = turn; x = x; y = y }) (get_or boxes symbol [])

pub steps_sorted : (n : ℕ) (boxes : List (List Drawn)) (steps : List ForeignStep)
    → AllByRecursion (IsForeignStep n) steps → AllByRecursion IsSorted (boxes_of_steps boxes (map foreign_step steps))
steps_sorted n boxes [] h = tt
steps_sorted n boxes (step ∷ steps) h =
    sorted_append (drawn_by boxes step) (boxes_of_steps boxes (map foreign_step steps)) (step_sorted n boxes step h.0)
    (steps_sorted n boxes steps h.1)

-- ---- depths

max_within : (most first : ℕ) (xs : List ℕ) → first ≤ most → AllByRecursion (λ n. n ≤ most) xs
    → fold max first xs ≤ most
max_within most first [] h k = h
max_within most first (x ∷ xs) h k = max_within most (max first x) xs (let a = k.0 in omega (arith, h, a)) k.1

step_within : (most n : ℕ) (depths : List ℕ) (step : ForeignStep) → All (λ d. d ≤ most) depths → length depths ≡ n
    → IsForeignStep n step → depth_of_step depths (foreign_step step) ≤ most
step_within most n depths (Own box) h size is = omega arith
step_within most n depths (Called symbol turn x y) h size is = h symbol 0 (omega (arith, is.0, size))

each_within : (most n : ℕ) (depths : List ℕ) (steps : List ForeignStep) → All (λ d. d ≤ most) depths
    → length depths ≡ n → AllByRecursion (IsForeignStep n) steps
    → AllByRecursion (λ d. d ≤ most) (map (depth_of_step depths) (map foreign_step steps))
each_within most n depths [] h size is = tt
each_within most n depths (step ∷ steps) h size is =
    (step_within most n depths step h size is.0, each_within most n depths steps h size is.1)

pub called_within : (most n : ℕ) (depths : List ℕ) (steps : List ForeignStep) → All (λ d. d ≤ most) depths
    → length depths ≡ n → AllByRecursion (IsForeignStep n) steps → called_depth depths (map foreign_step steps) ≤ most
called_within most n depths steps h size is =
    max_within most 0 (map (depth_of_step depths) (map foreign_step steps)) (omega arith)
    (each_within most n depths steps h size is)

first_in_max : (first : ℕ) (xs : List ℕ) → first ≤ fold max first xs
first_in_max first [] = omega arith
first_in_max first (x ∷ xs) = let e = first_in_max (max first x) xs in omega (arith, e)

one_in_max : (first : ℕ) (xs : List ℕ) (i : ℕ) → i < length xs → get_or xs i 0 ≤ fold max first xs
one_in_max first [] i h = absurd (omega (arith, h))
one_in_max first (x ∷ xs) zero h = let e = first_in_max (max first x) xs in omega (arith, e)
one_in_max first (x ∷ xs) (suc i) h = one_in_max (max first x) xs i (omega (arith, h))

-- the depth of what a step calls
pub called_below : (depths : List ℕ) (steps : List ForeignStep) (i symbol turn : ℕ) (x y : ℤ) (step : ForeignStep)
    → i < length steps → step ≡ get_or steps i step → step ≡ Called symbol turn x y
    → get_or depths symbol 0 ≤ called_depth depths (map foreign_step steps)
called_below depths steps i symbol turn x y step lt at is =
    let list = map (depth_of_step depths) (map foreign_step steps) in
    let size : length list ≡ length steps = length-map (map foreign_step steps) (depth_of_step depths)
    ∙ length-map steps foreign_step in
    let one : get_or list i 0 ≡ get_or depths symbol 0 =
    get_or-map (depth_of_step depths) (map foreign_step steps) i (foreign_step step) 0
    (omega (arith, lt, length-map steps foreign_step))
    ∙ ap (depth_of_step depths) (get_or-map foreign_step steps i step (foreign_step step) lt
    ∙ ap foreign_step (sym at ∙ is)) in
    let e = one_in_max 0 list i (omega (arith, lt, size)) in
    omega (arith, e, one)
