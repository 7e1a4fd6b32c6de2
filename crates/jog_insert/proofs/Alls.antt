-- What holds of each element, in the two words for it.
use Rattle.std.proofs.{Common.{List, [], ◌∷◌, get_or}, lemmas.List.Elements.{All-contains, Contains-get_or}}
use Rattle.std.specs.{Prelude.All, List.AllByRecursion}
use Rattle.list_facts.proofs.Elements.{by_number}

pub by_all : {X : Type 0} (P : X → Type 0) (xs : List X) → All P xs → AllByRecursion P xs
by_all P [] all = tt
by_all P (x ∷ xs) all =
    by_number P (x ∷ xs) x
    (λ k lt. All-contains P (x ∷ xs) (get_or (x ∷ xs) k x) all (Contains-get_or (x ∷ xs) k x lt))
