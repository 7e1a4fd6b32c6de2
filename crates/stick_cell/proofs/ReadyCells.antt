-- What is ready of the cells of a design, taken by number, and what is left of it.
use Rattle.std.proofs.Common.{◌≡◌, ℕ, zero, suc, ◌<◌, ◌≢◌, List, [], ◌∷◌, length, get_or, set, Option, None, Result}
use Rattle.std.proofs.{Common.{refl, sym, ap, subst, inl, inr, ◌∙◌}, lemmas.{List.get_or-set_other, Bool.cases_eq}}
use Rattle.std.specs.Prelude.{◌⊎◌}
use Rattle.rule_table.specs.declared.technology.Tech.{Tech}
use Rattle.stick_text.specs.declared.{fault.ParseFault.ParseFault, design.CellText.CellText}
use Rattle.checked_cells.specs.declared.table.Table.{Table}
use Rattle.stick_cell.specs.Ready.{IsReady, IsReadyAt, AreReady}

-- what is taken is ready
pub ready_taken : (tech : Tech) (texts : List CellText) (ready : List (Option (Result Table ParseFault))) (k : ℕ)
    (text : CellText) (made : Option (Result Table ParseFault)) → AreReady tech texts ready → k < length texts
    → text ≡ get_or texts k text → made ≡ get_or ready k None → IsReady tech text made
ready_taken tech texts ready k text made are lt at is =
    subst (λ (one : Option (Result Table ParseFault)). IsReady tech text one) (sym is) (are k lt text at)

none_set : {X : Type 0} (xs : List (Option X)) (k : ℕ) → get_or (set xs k None) k None ≡ None
none_set [] zero = refl
none_set [] (suc k) = refl
none_set (x ∷ xs) zero = refl
none_set (x ∷ xs) (suc k) = none_set xs k

-- and so is what is left
pub ready_left : (tech : Tech) (texts : List CellText) (ready left : List (Option (Result Table ParseFault))) (k : ℕ)
    → AreReady tech texts ready → left ≡ set ready k None → AreReady tech texts left
ready_left tech texts ready left k are is = λ j lt.
    subst (λ (l : List (Option (Result Table ParseFault))). IsReadyAt tech texts j (get_or l j None)) (sym is)
    (each j lt (cases_eq j k))
  where
    each : (j : ℕ) → j < length texts → (j ≡ k) ⊎ (j ≢ k) → IsReadyAt tech texts j (get_or (set ready k None) j None)
    each j lt (inl e) =
        let none : get_or (set ready k None) j None ≡ None =
        ap (λ i. get_or (set ready k None) i None) e ∙ none_set ready k in
        subst (λ (made : Option (Result Table ParseFault)). IsReadyAt tech texts j made) (sym none) (λ text at. tt)
    each j lt (inr ne) =
        subst (λ (made : Option (Result Table ParseFault)). IsReadyAt tech texts j made)
        (sym (get_or-set_other ready k j None None ne)) (are j lt)
