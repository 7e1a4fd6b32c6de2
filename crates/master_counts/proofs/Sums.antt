-- Sums of equal terms, and over images.
use Rattle.std.proofs.{Common.{◌≡◌, ℕ, List, [], ◌∷◌, map, refl, arith}, lemmas.List.Sums.sum_by-cons}
use Rattle.std.specs.List.{sum_by}

pub sum_every : {X : Type 0} (f g : X → ℕ) (xs : List X) → ((x : X) → f x ≡ g x) → sum_by f xs ≡ sum_by g xs
sum_every f g [] h = refl
sum_every f g (x ∷ xs) h = omega (arith, sum_by-cons f x xs, sum_by-cons g x xs, h x, sum_every f g xs h)

pub sum_images : {X Y : Type 0} (f : Y → ℕ) (g : X → Y) (xs : List X) → sum_by f (map g xs) ≡ sum_by (λ x. f (g x)) xs
sum_images f g [] = refl
sum_images f g (x ∷ xs) =
    omega (arith, sum_by-cons f (g x) (map g xs), sum_by-cons (λ y. f (g y)) x xs, sum_images f g xs)
