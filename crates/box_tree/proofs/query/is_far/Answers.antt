use Rattle.std.proofs.Common.{◌≡◌, ◌↔◌, ℤ, Bool, true, false, Option, Some, IsTrue, refl, sym, subst, arith}
use Rattle.std.{proofs.lemmas.Int.ints, specs.Prelude.not}
use Rattle.lam_geom.specs.declared.boxes.BoxXY.{BoxXY}
use Rattle.box_tree.specs.Queries.{IsFar, IsNear}
use Rattle.box_tree.proofs.query.is_far.Goals as goal

not_near : {P : Type 0} (b : Bool) → (IsTrue b ↔ P) → IsTrue (not b) ↔ (P → ⊥)
not_near true is = (λ t. (let no : ⊥ = cc in absurd no), λ none. absurd (none (is.0 refl)))
not_near false is = (λ t p. (let yes = is.1 p in let no : ⊥ = cc in absurd no), λ none. refl)

beyond : (area other : BoxXY) (asked : Option ℤ) (reach held : ℤ) (b : Bool) → asked ≡ Some reach → held ≡ reach
    → (IsTrue b ↔ IsNear area held other) → IsTrue (not b) ↔ IsFar area asked other
beyond area other asked reach held b is same near =
    subst (λ (a : Option ℤ). IsTrue (not b) ↔ IsFar area a other) (sym is)
    (not_near b (subst (λ (r : ℤ). IsTrue b ↔ IsNear area r other) same near))

pub returns-in-Some : goal.returns-in-Some
returns-in-Some c =
    beyond c.args.area.now c.args.other.now c.args.reach c.in-Some.reach _ c.is_near.result c.in-Some.is
    (omega (arith, ints)) c.is_near.ensures
