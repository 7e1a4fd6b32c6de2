-- The walk over the steps of a file.
use Rattle.std.proofs.Common.{◌≡◌, ℕ, ◌+◌, ◌<◌, ◌≤◌, ◌^◌, of_z, to_z, w64, ℤ, List, All, map, length, get_or, refl, sym}
use Rattle.std.proofs.{Common.{ap, ◌∙◌, subst, arith}, lemmas.List.{get_or_default, Elements.All-weaker}}
use Rattle.cif_lex.specs.{declared.placement.Placement.Placement, Transformations.{Point, placed, IsNear}}
use Rattle.cif_read.specs.{Files.IsWithin, Hierarchies.depths_of, declared.file.ForeignSymbol.ForeignSymbol}
use Rattle.cif_read.specs.{declared.file.ForeignStep.{ForeignStep, TheVariants.Called}, Foreign.foreign_step}
use Rattle.cif_read.specs.{Foreign.{foreign_symbol, no_foreign_symbol, IsForeignStep}, Readings.called_depth}
use Rattle.cif_read.proofs.{Symbols.{AreInOrder, depth_at}, Sound.{step_later, word_is, still_within}}
use Rattle.cif_foreign.proofs.Flat.{called_below}

-- ---- counts

pub steps_here : (symbols : List ForeignSymbol) (i : ℕ) (symbol : ForeignSymbol) (steps : List ForeignStep) (n : ℕ)
    → AreInOrder symbols → i < length symbols → symbol ≡ get_or symbols i symbol → steps ≡ symbol.steps → n ≡ i
    → All (IsForeignStep n) steps
steps_here symbols i symbol steps n order lt at same e =
    let here : get_or symbols i no_foreign_symbol ≡ symbol = get_or_default symbols i no_foreign_symbol symbol lt
    ∙ sym at in
    subst (λ (k : ℕ). All (IsForeignStep k) steps) (sym e)
    (subst (All (IsForeignStep i)) (ap (λ (s : ForeignSymbol). s.steps) here ∙ sym same) (order i lt))

-- ---- calls

pub valid_step : (n : ℕ) (steps : List ForeignStep) (i : ℕ) (step : ForeignStep) → All (IsForeignStep n) steps
    → i < length steps → step ≡ get_or steps i step → IsForeignStep n step
valid_step n steps i step all lt at = subst (IsForeignStep n) (sym at) (all i step lt)

pub valid_as : (n : ℕ) (steps : List ForeignStep) (i : ℕ) (step seen : ForeignStep) → All (IsForeignStep n) steps
    → i < length steps → step ≡ get_or steps i step → step ≡ seen → IsForeignStep n seen
valid_as n steps i step seen all lt at is = subst (IsForeignStep n) is (valid_step n steps i step all lt at)

-- what is known of a symbol that is called
pub record IsCalled (symbols : List ForeignSymbol) (steps : List ForeignStep) (symbol : ℕ) : Type 0 where
  pub below : symbol < length symbols
  pub valid : All (IsForeignStep (length symbols)) (get_or symbols symbol no_foreign_symbol).steps
  pub shallower : called_depth (depths_of (map foreign_symbol symbols))
      (map foreign_step (get_or symbols symbol no_foreign_symbol).steps) + 1 ≤ called_depth
      (depths_of (map foreign_symbol symbols)) (map foreign_step steps)

pub is_called : (symbols : List ForeignSymbol) (steps : List ForeignStep) (i symbol turn : ℕ) (x y : ℤ)
    (step : ForeignStep) → AreInOrder symbols → All (IsForeignStep (length symbols)) steps → i < length steps
    → step ≡ get_or steps i step
    → step ≡ Called symbol turn x y → IsCalled symbols steps symbol
is_called symbols steps i symbol turn x y step order all lt at is =
    let valid = valid_as (length symbols) steps i step (Called symbol turn x y) all lt at is in
    let below : symbol < length symbols = valid.0 in
    let own = (get_or symbols symbol no_foreign_symbol).steps in
    let deep = depth_at symbols symbol order below in
    let high = called_below (depths_of (map foreign_symbol symbols)) steps i symbol turn x y step lt at is in
    record {
      below = below;
      valid = All-weaker (IsForeignStep symbol) (IsForeignStep (length symbols))
          (λ s h. step_later symbol (length symbols) s (omega (arith, below)) h) own (order symbol below);
      shallower = omega (arith, deep, high);
    }

-- its steps, as they are found
pub steps_found : (symbols list : List ForeignSymbol) (k : ℕ) (symbol : ForeignSymbol) (steps : List ForeignStep)
    → k < length symbols → list ≡ symbols → steps ≡ (get_or list k symbol).steps
    → steps ≡ (get_or symbols k no_foreign_symbol).steps
steps_found symbols list k symbol steps lt same e =
    e ∙ ap (λ (s : ForeignSymbol). s.steps) (ap (λ (ss : List ForeignSymbol). get_or ss k symbol) same
    ∙ get_or_default symbols k symbol no_foreign_symbol lt)

-- the placement of a call by machine words
pub call_near : (x y : ℤ) → IsWithin (2 ^ 47) x → IsWithin (2 ^ 47) y
    → IsNear (2 ^ 47) (to_z w64 (of_z w64 x), to_z w64 (of_z w64 y))
call_near x y hx hy =
    let a = still_within x x hx in
    let b = still_within y y hy in
    record { left = a.0; right = a.1; below = b.0; above = b.1 }

pub call_words : (turn : ℕ) (x y : ℤ) → IsWithin (2 ^ 47) x → IsWithin (2 ^ 47) y
    → ◌≡◌ {A = Placement} (record { turn = turn; x = to_z w64 (of_z w64 x); y = to_z w64 (of_z w64 y) })
    (record { turn = turn; x = x; y = y })
call_words turn x y hx hy = rw (word_is x hx, word_is y hy) refl

pub call_places : (outer all : Placement) (turn : ℕ) (x y : ℤ) → IsWithin (2 ^ 47) x → IsWithin (2 ^ 47) y
    → ((p : Point)
    → placed all p ≡ placed outer
    (placed (record { turn = turn; x = to_z w64 (of_z w64 x); y = to_z w64 (of_z w64 y) }) p))
    → (p : Point) → placed all p ≡ placed outer (placed (record { turn = turn; x = x; y = y }) p)
call_places outer all turn x y hx hy same p = same p
    ∙ ap (λ (k : Placement). placed outer (placed k p)) (call_words turn x y hx hy)
