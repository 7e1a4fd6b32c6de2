-- Lists of images, and of the first numbers.
use Rattle.std.proofs.Common.{◌≡◌, ℕ, zero, suc, ◌+◌, ◌<◌, ◌≤◌, List, [], ◌∷◌, ◌++◌, length, take, map, get_or, refl}
use Rattle.std.proofs.{Common.{sym, ap, ◌∙◌, subst, arith, All, Result, Ok, Err, IfOk}, lemmas.List.map_more}
use Rattle.std.{proofs.lemmas.List.{Elements.All-more, FromFn.map-range_with_len_more}, specs.List.range_with_len}

pub map_twice : {X Y Z : Type 0} (f : Y → Z) (g : X → Y) (xs : List X) → map (λ x. f (g x)) xs ≡ map f (map g xs)
map_twice f g [] = refl
map_twice f g (x ∷ xs) = ap (λ zs. f (g x) ∷ zs) (map_twice f g xs)

first_numbers_from : (a k n : ℕ) → k ≤ n → take k (range_with_len a n) ≡ range_with_len a k
first_numbers_from a zero n le = refl
first_numbers_from a (suc k) zero le = absurd (omega arith)
first_numbers_from a (suc k) (suc n) le = ap (λ ns. a ∷ ns) (first_numbers_from (a + 1) k n (omega arith))

pub first_numbers : (k n : ℕ) → k ≤ n → take k (range_with_len 0 n) ≡ range_with_len 0 k
first_numbers k n le = first_numbers_from 0 k n le

-- the image of one more number is added
pub image_added : {X : Type 0} (f : ℕ → X) (k : ℕ) (next : X) (old new : List X) → old ≡ map f (range_with_len 0 k)
    → next ≡ f k → new ≡ old ++ next ∷ [] → new ≡ map f (range_with_len 0 (k + 1))
image_added f k next old new was is added =
    let e : 0 + k ≡ k = omega arith in
    added ∙ (ap (λ xs. xs ++ next ∷ []) was
    ∙ (ap (λ x. map f (range_with_len 0 k) ++ x ∷ []) is ∙ sym (map-range_with_len_more f 0 k k e)))

-- the image of one more element, which a loop has read
pub image_read : {X Y : Type 0} (f : X → Y) (xs read : List X) (k : ℕ) (d : X) (old new : List Y) → read ≡ xs
    → k < length read → old ≡ map f (take k xs) → new ≡ old ++ f (get_or read k d) ∷ []
    → new ≡ map f (take (k + 1) xs)
image_read f xs read k d old new is lt was added =
    let here : get_or read k d ≡ get_or xs k d = ap (λ ys. get_or ys k d) is in
    let among : length read ≡ length xs = ap (λ ys. length ys) is in
    added ∙ (ap (λ ys. ys ++ f (get_or read k d) ∷ []) was
    ∙ (ap (λ x. map f (take k xs) ++ f x ∷ []) here ∙ sym (map_more f xs k d (omega arith))))

-- what holds of it too
pub holds_read : {X : Type 0} (P : X → Type 0) (xs read : List X) (k : ℕ) (d : X) → read ≡ xs → k < length read
    → All P (take k xs) → P (get_or read k d) → All P (take (k + 1) xs)
holds_read P xs read k d is lt so_far own =
    let here : get_or read k d ≡ get_or xs k d = ap (λ ys. get_or ys k d) is in
    let among : length read ≡ length xs = ap (λ ys. length ys) is in
    All-more P xs k d (omega arith) so_far (subst P here own)

-- what two facts of a result give together
pub both_if_ok : {X Y : Type 0} (r : Result X Y) (P Q R : X → Type 0) → ((x : X) → P x → Q x → R x) → IfOk r P
    → IfOk r Q → IfOk r R
both_if_ok (Ok x) P Q R then p q = then x p q
both_if_ok (Err e) P Q R then p q = p
