-- Sums over joined lists, over images and over lists that are read by number.
use Rattle.std.proofs.Common.{◌≡◌, ℕ, ◌+◌, ◌*◌, ◌≤◌, List, [], ◌∷◌, length, map, get_or, refl, sym, ap, ◌∙◌, arith}
use Rattle.std.proofs.{lemmas.List.{Concat.length-flat_map, Sums.{sum_by-cons, sum_by-append}}, Math.Nat.add-mul}
use Rattle.std.specs.List.{AllByRecursion, flat_map, range_with_len, sum_by}
use Rattle.instance_laws.proofs.PictureLists.{by_numbers}
use Rattle.master_counts.proofs.Sums.{sum_images}

-- of the same terms
pub sum_same : {X : Type 0} (f g : X → ℕ) (xs : List X) → AllByRecursion (λ x. f x ≡ g x) xs → sum_by f xs ≡ sum_by g xs
sum_same f g [] h = refl
sum_same f g (x ∷ xs) h = omega (arith, sum_by-cons f x xs, sum_by-cons g x xs, h.0, sum_same f g xs h.1)

pub sum_joined : {X Y : Type 0} (f : Y → ℕ) (g : X → List Y) (xs : List X)
    → sum_by f (flat_map g xs) ≡ sum_by (λ x. sum_by f (g x)) xs
sum_joined f g [] = refl
sum_joined f g (x ∷ xs) =
    omega (arith, sum_by-append f (g x) (flat_map g xs), sum_by-cons (λ y. sum_by f (g y)) x xs, sum_joined f g xs)

-- the elements of a list by their numbers
pub sum_numbers : {X : Type 0} (f : X → ℕ) (d : X) (xs : List X)
    → sum_by (λ k. f (get_or xs k d)) (range_with_len 0 (length xs)) ≡ sum_by f xs
sum_numbers f d xs = sym (sum_images f (λ k. get_or xs k d) (range_with_len 0 (length xs)))
    ∙ ap (sum_by f) (by_numbers xs d)

pub sum_ones : {X : Type 0} (xs : List X) → sum_by (λ (x : X). 1) xs ≡ length xs
sum_ones [] = refl
sum_ones (x ∷ xs) = omega (arith, sum_by-cons (λ _. 1) x xs, sum_ones xs)

-- ---- orders

-- of terms that are no larger
pub sum_less : {X : Type 0} (f g : X → ℕ) (xs : List X) → AllByRecursion (λ x. f x ≤ g x) xs → sum_by f xs ≤ sum_by g xs
sum_less f g [] h = omega arith
sum_less f g (x ∷ xs) h = omega (arith, sum_by-cons f x xs, sum_by-cons g x xs, h.0, sum_less f g xs h.1)

-- a joined list is no longer than its pieces may be
pub pieces_short : {X Y : Type 0} (f : X → List Y) (most : X → ℕ) (xs : List X)
    → AllByRecursion (λ x. length (f x) ≤ most x) xs → length (flat_map f xs) ≤ sum_by most xs
pieces_short f most xs h = omega (arith, length-flat_map f xs, sum_less (λ x. length (f x)) most xs h)

-- so much for each, and so much for each of its parts
pub sum_of_parts : {X : Type 0} (parts : X → ℕ) (each one : ℕ) (xs : List X)
    → sum_by (λ x. each + parts x * one) xs ≡ length xs * each + sum_by parts xs * one
sum_of_parts parts each one [] = omega arith
sum_of_parts parts each one (x ∷ xs) =
    let all = sum_by-cons (λ y. each + parts y * one) x xs in
    let rest = sum_of_parts parts each one xs in
    let more : sum_by parts (x ∷ xs) * one ≡ parts x * one + sum_by parts xs * one =
    ap (λ n. n * one) (sum_by-cons parts x xs) ∙ add-mul (parts x) (sum_by parts xs) one in
    omega (arith, all, rest, more)
