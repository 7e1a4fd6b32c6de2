-- How a text grows in a loop that writes a list piece by piece. In it `ys` is the list as the loop has it.
use Rattle.std.proofs.Common.{◌≡◌, ℕ, ◌+◌, ◌<◌, ◌≤◌, List, [], ◌∷◌, ◌++◌, length, take, get_or, append_assoc}
use Rattle.std.{proofs.lemmas.List.{flat_map_more, take_more, take_all}, specs.List.flat_map}

-- one more piece
pub one_more : {X : Type 0} (f : X → List ℕ) (a b : List ℕ) (xs ys : List X) (i : ℕ) (x : X) (before after : List ℕ)
    → ys ≡ xs → i < length ys → x ≡ get_or ys i x
    → before ≡ a ++ (b ++ flat_map f (take i xs)) → after ≡ before ++ f x
    → after ≡ a ++ (b ++ flat_map f (take (i + 1) xs))
one_more f a b xs ys i x before after same h is so_far more =
    let t = take_more ys i x h in let m = flat_map_more f (a ++ b) (take i xs) x in
    let p = append_assoc a b (flat_map f (take i xs)) in let q =
    append_assoc a b (flat_map f (take i xs ++ x ∷ [])) in cc

-- every piece
pub every_one : {X : Type 0} (f : X → List ℕ) (a b : List ℕ) (xs ys : List X) (i : ℕ) (text : List ℕ) → ys ≡ xs
    → length ys ≤ i
    → text ≡ a ++ (b ++ flat_map f (take i xs)) → text ≡ a ++ (b ++ flat_map f xs)
every_one f a b xs ys i text same h so_far = let t = take_all i ys h in cc

-- every piece, and an end after them
pub every_one_ended : {X : Type 0} (f : X → List ℕ) (a b : List ℕ) (xs ys : List X) (i : ℕ)
    (end before after : List ℕ) → ys ≡ xs → length ys ≤ i
    → before ≡ a ++ (b ++ flat_map f (take i xs)) → after ≡ before ++ end → after ≡ a ++ (b ++ (flat_map f xs ++ end))
every_one_ended f a b xs ys i end before after same h so_far more =
    let w = every_one f a b xs ys i before same h so_far in
    let p = append_assoc a (b ++ flat_map f xs) end in let q = append_assoc b (flat_map f xs) end in cc
