use Rattle.std.proofs.{Common.{◌≡◌, ℕ, ◌+◌, ◌<◌, ◌≤◌, List, length, get_or, take, subst, sym}, lemmas.List.take_all}
use Rattle.std.{proofs.lemmas.List.Elements.All-more, specs.List.All}

-- what holds of the elements up to an index, and of the element there, holds of those up to the next index:
-- `xs` is the list as a loop reads it
pub All-take_more_of : {X : Type 0} (P : X → Type 0) (xs ys : List X) (i : ℕ) (d : X) → xs ≡ ys → i < length xs
    → All P (take i ys) → P (get_or xs i d) → All P (take (i + 1) ys)
All-take_more_of {X} P xs ys i d e lt h p =
    let F : List X → Type 0 = λ zs. All P (take (i + 1) zs) in
    let G : List X → Type 0 = λ zs. All P (take i zs) in
    subst F e (All-more P xs i d lt (subst G (sym e) h) p)

-- what holds of the elements up to the end holds of all
pub All-take_end_of : {X : Type 0} (P : X → Type 0) (xs ys : List X) (i : ℕ) → xs ≡ ys → length xs ≤ i
    → All P (take i ys) → All P ys
All-take_end_of {X} P xs ys i e le h =
    let F : List X → Type 0 = λ zs. length zs ≤ i in
    let G : List X → Type 0 = λ zs. All P zs in
    subst G (take_all i ys (subst F e le)) h
