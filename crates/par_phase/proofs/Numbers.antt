-- What the answers at the numbers below a number are, where each answer of the function has a fact.
use Rattle.std.proofs.Common.{◌≡◌, ℕ, zero, suc, ◌+◌, ◌<◌, List, [], ◌∷◌, length, get_or, ◌∙◌, subst, arith}
use Rattle.std.proofs.lemmas.{List.FromFn.{length-range_with_len, get_or-range_with_len}, Slice.Zip.AllZip-long}
use Rattle.std.specs.{List.{AllZip, range_with_len}, Prelude.{Result, Ok}, Borrow.Bor, Fn.Shared}
use Rattle.par_phase.{specs.Answers.AnswersBelow, proofs.Answers.{answers_have}}

-- what holds of two lists element by element, at one place
zipped_at : {A B : Type 0} (R : A → B → Type 0) (xs : List A) (ys : List B) (k : ℕ) (d : A) (e : B) → AllZip R xs ys
    → k < length xs → R (get_or xs k d) (get_or ys k e)
zipped_at R [] ys k d e h lt = absurd (omega (arith, lt))
zipped_at R (x ∷ xs) [] k d e h lt = absurd h
zipped_at R (x ∷ xs) (y ∷ ys) zero d e h lt = h.0
zipped_at R (x ∷ xs) (y ∷ ys) (suc k) d e h lt = zipped_at R xs ys k d e h.1 (omega (arith, lt))

number_at : (n k d : ℕ) → k < n → get_or (range_with_len 0 n) k d ≡ k
number_at n k d lt =
    let e : 0 + k ≡ k = omega arith in
    get_or-range_with_len 0 n k d lt ∙ e

-- each element of a list of numbers below n is one of them
pub is_below : (n k d m : ℕ) → k < length (range_with_len 0 n) → m ≡ get_or (range_with_len 0 n) k d → m < n
is_below n k d m lt is =
    let all = length-range_with_len 0 n in
    let at = number_at n k d (omega (arith, lt, all)) in
    omega (arith, lt, all, is, at)

module _ {F U E : Type 0} (g : Shared F (Bor ℕ × Unit {0}) (Result U E)) (f : F) (n : ℕ) (rs : List U)
    (h : AnswersBelow g f n rs) where
  module _ (P : ℕ → U → Type 0) (has : (p : Bor ℕ) (r : U) → g.post f (p, tt) (Ok r) → P p.now r) where
    zipped : AllZip P (range_with_len 0 n) rs
    zipped = answers_have g f P has (range_with_len 0 n) rs h

    -- there is one for each number
    pub one_for_each : length rs ≡ n
    one_for_each = AllZip-long P (range_with_len 0 n) rs zipped ∙ length-range_with_len 0 n

    -- and each has the fact, with its number
    pub answer_has : (k : ℕ) (d : U) → k < n → P k (get_or rs k d)
    answer_has k d lt =
        let all = length-range_with_len 0 n in
        subst (λ m. P m (get_or rs k d)) (number_at n k 0 lt)
        (zipped_at P (range_with_len 0 n) rs k 0 d zipped (omega (arith, lt, all)))
