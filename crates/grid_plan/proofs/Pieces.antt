-- Lists of pairs and of images, one more element at a time.
use Rattle.std.proofs.Common.{◌≡◌, ℕ, zero, suc, ◌+◌, ◌-◌, ◌<◌, ◌≤◌, min, Bool, true, false, cond, Option, Some, None}
use Rattle.std.proofs.Common.{List, [], ◌∷◌, ◌++◌, length, map, take, get_or, refl, ap, sym, subst, ◌∙◌, arith}
use Rattle.std.proofs.{Common.{append_assoc, add-one}, lemmas.List.{map_more, get_or_default}}
use Rattle.std.specs.{List.zip, Option.option_map}
use borrow.Author.Count.{below_more}
use Rattle.cell_model.specs.declared.cell.CellPort.{CellPort}
use Rattle.plan_model.specs.{Borders.{may_meet, misfit}, Rows.neighbours}

-- the image of one more element
pub map_step : {X Y : Type 0} (f : X → Y) (prefix : List Y) (xs : List X) (i : ℕ) (d : X) (now next : List Y)
    → i < length xs → now ≡ prefix ++ map f (take i xs)
    → next ≡ now ++ f (get_or xs i d) ∷ [] → next ≡ prefix ++ map f (take (i + 1) xs)
map_step f prefix xs i d now next lt was is =
    is ∙ ap (λ ys. ys ++ f (get_or xs i d) ∷ []) was
    ∙ append_assoc prefix (map f (take i xs)) (f (get_or xs i d) ∷ [])
    ∙ ap (λ ys. prefix ++ ys) (sym (map_more f xs i d lt))

-- ---- neighbours

neighbours_suc : {A : Type 0} (xs : List A) (j : ℕ) (d : A) → suc j < length xs
    → neighbours (take (suc (suc j)) xs) ≡ neighbours (take (suc j) xs) ++ (get_or xs j d, get_or xs (suc j) d) ∷ []
neighbours_suc [] j d lt = absurd (omega arith)
neighbours_suc (x ∷ []) j d lt = absurd (omega arith)
neighbours_suc (x ∷ y ∷ rest) zero d lt = refl
neighbours_suc (x ∷ y ∷ rest) (suc j) d lt = ap (λ pairs. (x, y) ∷ pairs) (neighbours_suc (y ∷ rest) j d (omega arith))

pub neighbours_more : {A : Type 0} (xs : List A) (k : ℕ) (d : A) → 1 ≤ k → k < length xs
    → neighbours (take (k + 1) xs) ≡ neighbours (take k xs) ++ (get_or xs (k - 1) d, get_or xs k d) ∷ []
neighbours_more xs zero d pos lt = absurd (omega arith)
neighbours_more xs (suc j) d pos lt =
    let up : suc j + 1 ≡ suc (suc j) = omega arith in
    let down : suc j - 1 ≡ j = omega arith in
    rw (up, down) (neighbours_suc xs j d lt)

-- ---- two rows

pub zip_more : {A B : Type 0} (xs : List A) (ys : List B) (k : ℕ) (d : A) (e : B) → k < length xs → k < length ys
    → zip (take (k + 1) xs) (take (k + 1) ys) ≡ zip (take k xs) (take k ys) ++ (get_or xs k d, get_or ys k e) ∷ []
zip_more xs ys k d e lt less = rw add-one (go xs ys k d e lt less)
  where
    go : {A B : Type 0} (xs : List A) (ys : List B) (k : ℕ) (d : A) (e : B) → k < length xs → k < length ys
        → zip (take (suc k) xs) (take (suc k) ys) ≡ zip (take k xs) (take k ys) ++ (get_or xs k d, get_or ys k e) ∷ []
    go [] ys k d e lt less = absurd (omega arith)
    go (x ∷ xs) [] k d e lt less = absurd (omega arith)
    go (x ∷ xs) (y ∷ ys) zero d e lt less = refl
    go (x ∷ xs) (y ∷ ys) (suc k) d e lt less = ap (λ pairs. (x, y) ∷ pairs) (go xs ys k d e (omega arith) (omega arith))

pub zip_all : {A B : Type 0} (xs : List A) (ys : List B) (k : ℕ) → min (length xs) (length ys) ≤ k
    → zip (take k xs) (take k ys) ≡ zip xs ys
zip_all [] ys zero le = refl
zip_all [] ys (suc k) le = refl
zip_all (x ∷ xs) [] zero le = refl
zip_all (x ∷ xs) [] (suc k) le = refl
zip_all (x ∷ xs) (y ∷ ys) zero le = absurd (omega arith)
zip_all (x ∷ xs) (y ∷ ys) (suc k) le = ap (λ pairs. (x, y) ∷ pairs) (zip_all xs ys k (omega arith))

-- ---- after what was there

pub added_after : {A : Type 0} (prefix old more full now next : List A) → now ≡ prefix ++ old → next ≡ now ++ more
    → full ≡ old ++ more → next ≡ prefix ++ full
added_after prefix old more full now next was is made =
    is ∙ ap (λ zs. zs ++ more) was ∙ append_assoc prefix old more ∙ ap (λ zs. prefix ++ zs) (sym made)

-- ---- misfits

at_first : (o : Option ℕ) → o ≡ None → option_map suc o ≡ None
at_first o e = ap (option_map suc) e

under : (p : Bool) (o : Option ℕ) → cond p (option_map suc o) (Some 0) ≡ None → (p ≡ true) × (o ≡ None)
under true None e = (refl, refl)
under true (Some k) e = cc
under false o e = cc

-- one more pair of ports that may meet, or may not
pub fits_more : (before after : List CellPort) (k : ℕ) (d e : CellPort) → k < length before → k < length after
    → misfit (take k before) (take k after) ≡ None
    → may_meet (get_or before k d) (get_or after k e) ≡ true → misfit (take (k + 1) before) (take (k + 1) after) ≡ None
fits_more before after k d e lt less was meet = rw add-one (go before after k lt less was meet)
  where
    go : (before after : List CellPort) (k : ℕ) → k < length before → k < length after
        → misfit (take k before) (take k after) ≡ None
        → may_meet (get_or before k d) (get_or after k e) ≡ true
        → misfit (take (suc k) before) (take (suc k) after) ≡ None
    go [] after k lt less was meet = absurd (omega arith)
    go (x ∷ xs) [] k lt less was meet = absurd (omega arith)
    go (x ∷ xs) (y ∷ ys) zero lt less was meet = ap (λ p. cond p None (Some 0)) meet
    go (x ∷ xs) (y ∷ ys) (suc k) lt less was meet =
        let first = under (may_meet x y) (misfit (take k xs) (take k ys)) was in
        ap (λ p. cond p (option_map suc (misfit (take (suc k) xs) (take (suc k) ys))) (Some 0)) first.0
        ∙ at_first _ (go xs ys k (omega arith) (omega arith) first.1 meet)

pub misfit_here : (before after : List CellPort) (k : ℕ) (d e : CellPort) → k < length before → k < length after
    → misfit (take k before) (take k after) ≡ None
    → may_meet (get_or before k d) (get_or after k e) ≡ false → misfit before after ≡ Some k
misfit_here [] after k d e lt less was meet = absurd (omega arith)
misfit_here (x ∷ xs) [] k d e lt less was meet = absurd (omega arith)
misfit_here (x ∷ xs) (y ∷ ys) zero d e lt less was meet = ap (λ p. cond p (option_map suc (misfit xs ys)) (Some 0)) meet
misfit_here (x ∷ xs) (y ∷ ys) (suc k) d e lt less was meet =
    let first = under (may_meet x y) (misfit (take k xs) (take k ys)) was in
    ap (λ p. cond p (option_map suc (misfit xs ys)) (Some 0)) first.0
    ∙ ap (option_map suc) (misfit_here xs ys k d e (omega arith) (omega arith) first.1 meet)

-- one has ended
pub ended_first : (before after : List CellPort) (k : ℕ) → (length before ≡ length after → ⊥)
    → min (length before) (length after) ≡ k → misfit (take k before) (take k after) ≡ None
    → misfit before after ≡ Some k
ended_first [] [] k other e was = absurd (other refl)
ended_first [] (y ∷ ys) k other e was = ap Some (omega arith)
ended_first (x ∷ xs) [] k other e was = ap Some (omega arith)
ended_first (x ∷ xs) (y ∷ ys) zero other e was = absurd (omega arith)
ended_first (x ∷ xs) (y ∷ ys) (suc k) other e was =
    let first = under (may_meet x y) (misfit (take k xs) (take k ys)) was in
    ap (λ p. cond p (option_map suc (misfit xs ys)) (Some 0)) first.0
    ∙ ap (option_map suc) (ended_first xs ys k (λ same. other (omega arith)) (omega arith) first.1)

-- ---- elements so far

-- what holds of the elements before one, and of that one
pub one_further : {A : Type 0} (P : A → Type 0) (xs : List A) (i : ℕ) (x : A) → i < length xs → x ≡ get_or xs i x
    → ((k : ℕ) (d : A) → k < i → P (get_or xs k d)) → P x
    → (k : ℕ) (d : A) → k < i + 1 → P (get_or xs k d)
one_further {A = A} P xs i x lt is so_far here k d less =
    below_more (λ j. (e : A) → P (get_or xs j e)) i (λ j below e. so_far j e below)
    (λ e. subst P (is ∙ get_or_default xs i x e lt) here) k less d
