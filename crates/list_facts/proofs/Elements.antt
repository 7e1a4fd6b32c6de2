-- What holds of each element of a list, of joined lists, of images and of numbers.
use Rattle.std.proofs.Common.{ℕ, zero, suc, ◌+◌, ◌<◌, ◌≤◌, List, [], ◌∷◌, ◌++◌, length, map, get_or, arith}
use Rattle.std.specs.List.{AllByRecursion, All, flat_map, range_with_len}

-- of two lists, one after the other
pub all_append : {X : Type 0} (P : X → Type 0) (xs ys : List X) → AllByRecursion P xs → AllByRecursion P ys
    → AllByRecursion P (xs ++ ys)
all_append P [] ys h k = k
all_append P (x ∷ xs) ys h k = (h.0, all_append P xs ys h.1 k)

-- what follows from it for each element
pub all_weaker : {X : Type 0} (P Q : X → Type 0) (imp : (x : X) → P x → Q x) (xs : List X) → AllByRecursion P xs
    → AllByRecursion Q xs
all_weaker P Q imp [] h = tt
all_weaker P Q imp (x ∷ xs) h = (imp x h.0, all_weaker P Q imp xs h.1)

-- of the images
pub all_map : {X Y : Type 0} (P : Y → Type 0) (f : X → Y) (xs : List X) → AllByRecursion (λ x. P (f x)) xs
    → AllByRecursion P (map f xs)
all_map P f [] h = tt
all_map P f (x ∷ xs) h = (h.0, all_map P f xs h.1)

-- of the element of each number
pub all_at : {X : Type 0} (P : X → Type 0) (xs : List X) (d : X) (k : ℕ) → AllByRecursion P xs → k < length xs
    → P (get_or xs k d)
all_at P [] d k h lt = absurd (omega arith)
all_at P (x ∷ xs) d zero h lt = h.0
all_at P (x ∷ xs) d (suc k) h lt = all_at P xs d k h.1 (omega arith)

-- what holds at each number
pub by_number : {X : Type 0} (P : X → Type 0) (xs : List X) (d : X) → ((k : ℕ) → k < length xs → P (get_or xs k d))
    → AllByRecursion P xs
by_number P [] d h = tt
by_number P (x ∷ xs) d h = (h zero (omega arith), by_number P xs d (λ k lt. h (suc k) (omega arith)))

-- what holds of each piece, of the whole
pub all_flat : {X Y : Type 0} (P : Y → Type 0) (f : X → List Y) (xs : List X)
    → AllByRecursion (λ x. AllByRecursion P (f x)) xs → AllByRecursion P (flat_map f xs)
all_flat P f [] h = tt
all_flat P f (x ∷ xs) h = all_append P (f x) (flat_map f xs) h.0 (all_flat P f xs h.1)

-- of two lists, one after the other, and of images
pub all_parts : {X : Type 0} (P : X → Type 0) (xs ys : List X) → AllByRecursion P (xs ++ ys)
    → AllByRecursion P xs × AllByRecursion P ys
all_parts P [] ys h = (tt, h)
all_parts P (x ∷ xs) ys h = let rest = all_parts P xs ys h.1 in ((h.0, rest.0), rest.1)

pub all_unmap : {X Y : Type 0} (P : Y → Type 0) (f : X → Y) (xs : List X) → AllByRecursion P (map f xs)
    → AllByRecursion (λ x. P (f x)) xs
all_unmap P f [] h = tt
all_unmap P f (x ∷ xs) h = (h.0, all_unmap P f xs h.1)

-- of the pieces of a joined list
pub all_pieces : {X Y : Type 0} (P : Y → Type 0) (f : X → List Y) (xs : List X) → AllByRecursion P (flat_map f xs)
    → AllByRecursion (λ x. AllByRecursion P (f x)) xs
all_pieces P f [] h = tt
all_pieces P f (x ∷ xs) h = let parts = all_parts P (f x) (flat_map f xs) h in (parts.0, all_pieces P f xs parts.1)

-- what holds of each of some numbers
pub all_numbers : (P : ℕ → Type 0) (a n : ℕ) → ((k : ℕ) → a ≤ k → k < a + n → P k)
    → AllByRecursion P (range_with_len a n)
all_numbers P a zero h = tt
all_numbers P a (suc n) h =
    (h a (omega arith) (omega arith), all_numbers P (a + 1) n (λ k ge lt. h k (omega arith) (omega arith)))

-- the same in std's word
pub all_of : {A : Type 0} (P : A → Type 0) (xs : List A) → AllByRecursion P xs → All P xs
all_of P xs h = λ k d lt. all_at P xs d k h lt
