-- The image of a list, made one by one after what there was.
use Rattle.std.proofs.Common.{◌≡◌, ℕ, ◌+◌, ◌<◌, List, [], ◌∷◌, ◌++◌, length, take, map, get_or, sym, ap, ◌∙◌}
use Rattle.std.proofs.lemmas.List.{append_assoc, map_more}

-- one image more
pub image_more : {X Y : Type 0} (f : X → Y) (xs : List X) (k : ℕ) (d : X) (start now next : List Y) (y : Y)
    → k < length xs → now ≡ start ++ map f (take k xs) → y ≡ f (get_or xs k d) → next ≡ now ++ y ∷ []
    → next ≡ start ++ map f (take (k + 1) xs)
image_more f xs k d start now next y lt was is added =
    added ∙ (ap (λ ys. ys ++ y ∷ []) was ∙ (append_assoc start (map f (take k xs)) (y ∷ [])
    ∙ (ap (λ x. start ++ (map f (take k xs) ++ x ∷ [])) is ∙ ap (λ ys. start ++ ys) (sym (map_more f xs k d lt)))))
