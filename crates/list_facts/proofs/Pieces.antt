-- Lists of the pieces of the first numbers.
use Rattle.std.proofs.Common.{◌≡◌, ℕ, zero, suc, ◌+◌, List, [], ◌∷◌, ◌++◌, sym, ap, ◌∙◌, add-zero, zero-add, arith}
use Rattle.std.{proofs.lemmas.List.flat_map_more, specs.List.{flat_map, range_with_len}}

-- one more number
range_more_from : (a n : ℕ) → range_with_len a (suc n) ≡ range_with_len a n ++ (a + n) ∷ []
range_more_from a zero = ap (λ k. k ∷ []) (sym (add-zero a))
range_more_from a (suc n) =
    let step : (a + 1) + n ≡ a + suc n = omega arith in
    ap (λ ks. a ∷ ks) (range_more_from (a + 1) n ∙ ap (λ k. range_with_len (a + 1) n ++ k ∷ []) step)

range_more : (n : ℕ) → range_with_len 0 (n + 1) ≡ range_with_len 0 n ++ n ∷ []
range_more n =
    let next : n + 1 ≡ suc n = omega arith in
    ap (range_with_len 0) next ∙ (range_more_from 0 n ∙ ap (λ k. range_with_len 0 n ++ k ∷ []) (zero-add n))

-- the piece of one more number is added
pub piece_added : {A : Type 0} (f : ℕ → List A) (n : ℕ) (prefix now next : List A)
    → now ≡ prefix ++ flat_map f (range_with_len 0 n) → next ≡ now ++ f n
    → next ≡ prefix ++ flat_map f (range_with_len 0 (n + 1))
piece_added f n prefix now next was is =
    is ∙ (ap (λ zs. zs ++ f n) was
    ∙ (flat_map_more f prefix (range_with_len 0 n) n ∙ ap (λ ks. prefix ++ flat_map f ks) (sym (range_more n))))
