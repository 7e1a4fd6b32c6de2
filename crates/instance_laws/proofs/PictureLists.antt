-- Joined lists and images whose pieces are the same, and what is picked by number.
use Rattle.std.proofs.Common.{◌≡◌, ℕ, suc, ◌+◌, ◌<◌, Bool, true, false, cond, List, [], ◌∷◌, ◌++◌, length, map, filter}
use Rattle.std.proofs.{Common.{get_or, refl, sym, ap, ◌∙◌, arith}, lemmas.List.map-append}
use Rattle.std.specs.List.{AllByRecursion, flat_map, range_with_len}

pub all_every : {X : Type 0} (P : X → Type 0) → ((x : X) → P x) → (xs : List X) → AllByRecursion P xs
all_every P h [] = tt
all_every P h (x ∷ xs) = (h x, all_every P h xs)

pub same_images : {X Y : Type 0} (f g : X → Y) (xs : List X) → AllByRecursion (λ x. f x ≡ g x) xs → map f xs ≡ map g xs
same_images f g [] h = refl
same_images f g (x ∷ xs) h = ap (λ y. y ∷ map f xs) h.0 ∙ ap (λ ys. g x ∷ ys) (same_images f g xs h.1)

pub image_of_pieces : {X Y Z : Type 0} (h : Y → Z) (f : X → List Y) (xs : List X)
    → map h (flat_map f xs) ≡ flat_map (λ x. map h (f x)) xs
image_of_pieces h f [] = refl
image_of_pieces h f (x ∷ xs) = map-append h (f x) (flat_map f xs)
    ∙ ap (λ zs. map h (f x) ++ zs) (image_of_pieces h f xs)

image_of_cond : {X Y : Type 0} (f : X → Y) (b : Bool) (x : X) (xs : List X)
    → map f (cond b (x ∷ xs) xs) ≡ cond b (f x ∷ map f xs) (map f xs)
image_of_cond f true x xs = refl
image_of_cond f false x xs = refl

-- picked and then imaged
pub picked_images : {X Y : Type 0} (test : Y → Bool) (f : X → Y) (xs : List X)
    → filter test (map f xs) ≡ map f (filter (λ x. test (f x)) xs)
picked_images test f [] = refl
picked_images test f (x ∷ xs) =
    ap (λ ys. cond (test (f x)) (f x ∷ ys) ys) (picked_images test f xs)
    ∙ sym (image_of_cond f (test (f x)) x (filter (λ x. test (f x)) xs))

picked_step : {X : Type 0} (test : X → Bool) (P : X → Type 0) (b : Bool) (x : X) (xs : List X) → (b ≡ true → P x)
    → AllByRecursion P xs → AllByRecursion P (cond b (x ∷ xs) xs)
picked_step test P true x xs one more = (one refl, more)
picked_step test P false x xs one more = more

-- what is picked passes
pub picked_pass : {X : Type 0} (test : X → Bool) (P : X → Type 0) → ((x : X) → test x ≡ true → P x) → (xs : List X)
    → AllByRecursion P (filter test xs)
picked_pass test P h [] = tt
picked_pass test P h (x ∷ xs) = picked_step test P (test x) x (filter test xs) (h x) (picked_pass test P h xs)

-- a list by the numbers of its elements
by_numbers_from : {X : Type 0} (xs : List X) (d : X) (a : ℕ) (f : ℕ → X)
    → ((k : ℕ) → k < length xs → f (a + k) ≡ get_or xs k d) → map f (range_with_len a (length xs)) ≡ xs
by_numbers_from [] d a f h = refl
by_numbers_from (x ∷ xs) d a f h =
    let here : a + 0 ≡ a = omega arith in
    ap (λ y. y ∷ map f (range_with_len (a + 1) (length xs))) (ap f (sym here) ∙ h 0 (omega arith))
    ∙ ap (λ ys. x ∷ ys)
    (by_numbers_from xs d (a + 1) f (λ k lt. let e : (a + 1) + k ≡ a + suc k = omega arith in ap f e
    ∙ h (suc k) (omega (arith, lt))))

pub by_numbers : {X : Type 0} (xs : List X) (d : X) → map (λ k. get_or xs k d) (range_with_len 0 (length xs)) ≡ xs
by_numbers xs d = by_numbers_from xs d 0 (λ k. get_or xs k d)
    (λ k lt. let e : 0 + k ≡ k = omega arith in ap (λ j. get_or xs j d) e)
