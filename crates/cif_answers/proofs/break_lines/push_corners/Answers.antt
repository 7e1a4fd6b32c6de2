use Rattle.std.proofs.Common.{◌≡◌, ℕ, List, ◌++◌, Result, Ok, Err, OnOk, append_assoc, ap, ◌∙◌}
use Rattle.std.{specs.Prelude.{ℤ, codes}, proofs.{Common.{to_z, of_z, w64, subst, arith}, lemmas.Int.{ints, to_z-of_z}}}
use Rattle.lam_geom.specs.Places.{IsPlace}
use mir.Val.{SFits}
use Rattle.cif_answers.specs.BreakLines.{microns}
use Rattle.cif_answers.proofs.break_lines.push_corners.Goals as goal

-- words one after another
four_pushed : {T E : Type 0} (r : Result T E) (old first second third new a b c d : List ℕ) → first ≡ old ++ a
    → second ≡ first ++ b → third ≡ second ++ c → OnOk r (new ≡ third ++ d)
    → OnOk r (new ≡ old ++ (a ++ (b ++ (c ++ d))))
four_pushed (Ok found) old first second third new a b c d e f g h =
    h ∙ (ap (λ (z : List ℕ). z ++ d) (g ∙ ap (λ (z : List ℕ). z ++ c) (f ∙ ap (λ (z : List ℕ). z ++ b) e))
    ∙ (append_assoc ((old ++ a) ++ b) c d ∙ (append_assoc (old ++ a) b (c ++ d) ∙ append_assoc old a (b ++ (c ++ d)))))
four_pushed (Err fault) old first second third new a b c d e f g h = tt

-- a place that is passed on stays as it is
place_held : (z : ℤ) → IsPlace z → to_z w64 (of_z w64 z) ≡ z
place_held z h = let fits : SFits w64 z = omega (arith, ints, h.0, h.1) in to_z-of_z w64 z fits

abbrev word : ℤ → List ℕ
word z = codes " " ++ microns z

corners_are : {T E : Type 0} (r : Result T E) (old new : List ℕ) (a b c d w x y z : ℤ) → a ≡ w → b ≡ x → c ≡ y → d ≡ z
    → OnOk r (new ≡ old ++ (word a ++ (word b ++ (word c ++ word d))))
    → OnOk r (new ≡ old ++ (word w ++ (word x ++ (word y ++ word z))))
corners_are r old new a b c d w x y z e f g h are =
    subst (λ (v : ℤ). OnOk r (new ≡ old ++ (word w ++ (word x ++ (word y ++ word v))))) h
    (subst (λ (v : ℤ). OnOk r (new ≡ old ++ (word w ++ (word x ++ (word v ++ word d))))) g
    (subst (λ (v : ℤ). OnOk r (new ≡ old ++ (word w ++ (word v ++ (word c ++ word d))))) f
    (subst (λ (v : ℤ). OnOk r (new ≡ old ++ (word v ++ (word b ++ (word c ++ word d))))) e are)))

pub returns : goal.returns
returns c =
    let area = c.args.area.now in let placed = c.requires in
    let held : ℤ → ℤ = λ z. to_z w64 (of_z w64 z) in
    corners_are c.push_length-4.result _ _ (held area.x.lo) (held area.y.lo) (held area.x.hi) (held area.y.hi) _ _ _ _
    (place_held area.x.lo placed.0.0) (place_held area.y.lo placed.1.0) (place_held area.x.hi placed.0.1)
    (place_held area.y.hi placed.1.1)
    (four_pushed c.push_length-4.result _ _ _ _ _ (word (held area.x.lo)) (word (held area.y.lo))
    (word (held area.x.hi)) (word (held area.y.hi)) c.in_ok-push_length.ensures c.in_ok-push_length-2.ensures
    c.in_ok-push_length-3.ensures c.push_length-4.ensures)
