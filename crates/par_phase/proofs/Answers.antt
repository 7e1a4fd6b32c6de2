-- What the answers at the elements of a list are, where each answer of the function has a fact.
use Rattle.std.proofs.{Common.{◌≡◌, zero, suc, List, [], ◌∷◌, map, All, subst, arith}, lemmas.Slice.Zip.AllZip-map}
use Rattle.std.specs.{List.AllZip, Prelude.{Result, Ok}, Borrow.Bor, Fn.Shared}
use Rattle.par_phase.specs.Answers.{AnswersEach}

module _ {F T U E : Type 0} (g : Shared F (Bor T × Unit {0}) (Result U E)) (f : F) where
  -- each answer has the fact, with its element
  pub answers_have : (Q : T → U → Type 0) → ((p : Bor T) (r : U) → g.post f (p, tt) (Ok r) → Q p.now r)
      → (xs : List T) (rs : List U) → AnswersEach g f xs rs → AllZip Q xs rs
  answers_have Q has [] [] h = h
  answers_have Q has [] (r ∷ rs) h = absurd h
  answers_have Q has (x ∷ xs) [] h = absurd h
  answers_have Q has (x ∷ xs) (r ∷ rs) h =
      (subst (λ y. Q y r) h.0.shows (has h.0.shown r h.0.says.met), answers_have Q has xs rs h.1)

  -- so a fact of the answers alone holds of all
  pub answers_all : (Q : U → Type 0) → ((p : Bor T) (r : U) → g.post f (p, tt) (Ok r) → Q r) → (xs : List T)
      (rs : List U) → AnswersEach g f xs rs → All Q rs
  answers_all Q has [] [] h k d lt = absurd (omega (arith, lt))
  answers_all Q has [] (r ∷ rs) h k d lt = absurd h
  answers_all Q has (x ∷ xs) [] h k d lt = absurd h
  answers_all Q has (x ∷ xs) (r ∷ rs) h zero d lt = has h.0.shown r h.0.says.met
  answers_all Q has (x ∷ xs) (r ∷ rs) h (suc k) d lt = answers_all Q has xs rs h.1 k d (omega (arith, lt))

  -- and they are the images of the elements, where each is that of its own
  pub answers_are : (v : T → U) → ((p : Bor T) (r : U) → g.post f (p, tt) (Ok r) → r ≡ v p.now)
      → (xs : List T) (rs : List U) → AnswersEach g f xs rs → rs ≡ map v xs
  answers_are v is xs rs h = AllZip-map v xs rs (answers_have (λ x r. r ≡ v x) is xs rs h)
