-- Steps, as they are kept.
use Rattle.std.proofs.Common.{◌≡◌, ℕ, ◌<◌, List, [], ◌∷◌, ◌++◌, All, map, length, get_or, refl, sym, ap, ◌∙◌}
use Rattle.std.proofs.{Common.arith, lemmas.List.{ext_get_or, get_or-map, map_push, length-map, get_or_append_left}}
use Rattle.std.proofs.lemmas.List.{get_or_at}
use Rattle.std.{proofs.lemmas.List.Elements.recursion_from_All, specs.List.AllByRecursion}
use Rattle.lam_geom.specs.declared.boxes.MaskBox.{MaskBox}
use Rattle.cif_read.specs.declared.{file.ForeignStep.ForeignStep, steps.Place.{Place, TheVariants.{Own, Called}}}
use Rattle.cif_read.specs.Steps.{no_step, step_at, AreBoxes, IsPlaceOf}
use Rattle.cif_read.specs.declared.file.ForeignStep.TheVariants as steps

-- one box more changes no step
place_kept : (boxes : List MaskBox) (box : MaskBox) (place : Place) → IsPlaceOf (length boxes) place
    → step_at (boxes ++ box ∷ []) place ≡ step_at boxes place
place_kept boxes box (Own k) h =
    let own = map steps.Own boxes in
    ap (λ (ss : List ForeignStep). get_or ss k no_step) (map_push steps.Own boxes box)
    ∙ get_or_append_left own (steps.Own box ∷ []) no_step k (omega (arith, h, length-map boxes steps.Own))
place_kept boxes box (Called turn symbol x y) h = refl

places_kept_by : (boxes : List MaskBox) (box : MaskBox) (places : List Place)
    → AllByRecursion (IsPlaceOf (length boxes)) places
    → map (step_at (boxes ++ box ∷ [])) places ≡ map (step_at boxes) places
places_kept_by boxes box [] h = refl
places_kept_by boxes box (place ∷ places) h =
    rw (place_kept boxes box place h.0, places_kept_by boxes box places h.1) refl

pub places_kept : (boxes more : List MaskBox) (box : MaskBox) (places : List Place) → more ≡ boxes ++ box ∷ []
    → All (IsPlaceOf (length boxes)) places → map (step_at more) places ≡ map (step_at boxes) places
places_kept boxes more box places e all =
    ap (λ (bs : List MaskBox). map (step_at bs) places) e
    ∙ places_kept_by boxes box places (recursion_from_All (IsPlaceOf (length boxes)) places all)

pub last_place : (boxes more : List MaskBox) (box : MaskBox) (k : ℕ) → more ≡ boxes ++ box ∷ [] → k ≡ length boxes
    → step_at more (Own k) ≡ steps.Own box
last_place boxes more box k e at =
    ap (λ (bs : List MaskBox). get_or (map steps.Own bs) k no_step) e
    ∙ (ap (λ (ss : List ForeignStep). get_or ss k no_step) (map_push steps.Own boxes box)
    ∙ get_or_at (map steps.Own boxes) (steps.Own box) [] no_step k (length-map boxes steps.Own ∙ sym at))

-- one step more
pub step_pushed : (boxes : List MaskBox) (places more : List Place) (place : Place) (step : ForeignStep)
    → more ≡ places ++ place ∷ [] → step_at boxes place ≡ step
    → map (step_at boxes) more ≡ map (step_at boxes) places ++ step ∷ []
step_pushed boxes places more place step e same =
    ap (map (step_at boxes)) e
    ∙ (map_push (step_at boxes) places place ∙ ap (λ (s : ForeignStep). map (step_at boxes) places ++ s ∷ []) same)

-- places that are those of boxes alone, one after another, keep these boxes
pub boxes_alone : (boxes : List MaskBox) (places : List Place) → length places ≡ length boxes → AreBoxes places
    → map (step_at boxes) places ≡ map steps.Own boxes
boxes_alone boxes places len all =
    let own = map steps.Own boxes in
    ext_get_or no_step (map (step_at boxes) places) own
    (length-map places (step_at boxes) ∙ (len ∙ sym (length-map boxes steps.Own)))
    (λ k lt.
    let at : k < length places = omega (arith, lt, length-map places (step_at boxes)) in
    get_or-map (step_at boxes) places k (Own 0) no_step at
    ∙ ap (step_at boxes) (all k at))
