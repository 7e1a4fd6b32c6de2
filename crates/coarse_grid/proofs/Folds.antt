-- Folds and lists over some elements, as loops make them.
use Rattle.std.proofs.Common.{◌≡◌, ℕ, ◌+◌, ◌<◌, ◌≤◌, List, [], ◌∷◌, ◌++◌, length, map, fold, get_or, take, sym, ap, ◌∙◌}
use Rattle.std.proofs.{Common.{subst, append_assoc}, lemmas.List.{take_all, take_more, map_more, append-nil}}
use Rattle.std.{proofs.lemmas.List.{Sums.fold-append, Concat.flat_map-append}, specs.List.flat_map}

-- a fold that goes on over one more piece
pub fold_on : {A Z : Type 0} (f : Z → A → Z) (a : Z) (prefix done piece : List A) (now next : Z)
    → now ≡ fold f a (prefix ++ done) → next ≡ fold f now piece → next ≡ fold f a (prefix ++ (done ++ piece))
fold_on f a prefix done piece now next was is =
    is ∙ (ap (λ z. fold f z piece) was
    ∙ (sym (fold-append f a (prefix ++ done) piece) ∙ ap (fold f a) (append_assoc prefix done piece)))

-- one more element, read by a loop, in a map and in joined pieces
pub map_read : {X Y : Type 0} (g : X → Y) (read xs : List X) (i : ℕ) (d : X) → read ≡ xs → i < length read
    → map g (take (i + 1) xs) ≡ map g (take i xs) ++ g (get_or read i d) ∷ []
map_read {X} g read xs i d e lt =
    let P : List X → Type 0 = λ zs. map g (take (i + 1) zs) ≡ map g (take i zs) ++ g (get_or read i d) ∷ [] in
    subst P e (map_more g read i d lt)

pub flat_read : {X Y : Type 0} (g : X → List Y) (read xs : List X) (i : ℕ) (d : X) → read ≡ xs → i < length read
    → flat_map g (take (i + 1) xs) ≡ flat_map g (take i xs) ++ g (get_or read i d)
flat_read {X} g read xs i d e lt =
    let P : List X → Type 0 = λ zs. flat_map g (take (i + 1) zs) ≡ flat_map g (take i zs) ++ g (get_or read i d) in
    subst P e (ap (flat_map g) (take_more read i d lt)
    ∙ (flat_map-append g (take i read) (get_or read i d ∷ [])
    ∙ ap (λ zs. flat_map g (take i read) ++ zs) (append-nil (g (get_or read i d)))))

-- all of it, once the loop has ended
pub all_read : {X : Type 0} (read xs : List X) (i : ℕ) → read ≡ xs → length read ≤ i → take i xs ≡ xs
all_read {X} read xs i e le =
    let P : List X → Type 0 = λ zs. take i zs ≡ zs in
    subst P e (take_all i read le)

-- the same steps of a fold
pub fold_map_on : {A X Z : Type 0} (f : Z → A → Z) (a : Z) (g : X → A) (prefix : List A) (read xs : List X) (i : ℕ)
    (d : X) (now next : Z)
    → read ≡ xs → i < length read → now ≡ fold f a (prefix ++ map g (take i xs)) → next ≡ f now (g (get_or read i d))
    → next ≡ fold f a (prefix ++ map g (take (i + 1) xs))
fold_map_on f a g prefix read xs i d now next e lt was is =
    fold_on f a prefix (map g (take i xs)) (g (get_or read i d) ∷ []) now next was is
    ∙ ap (λ zs. fold f a (prefix ++ zs)) (sym (map_read g read xs i d e lt))

-- and of a list that grows at its end
pub list_flat_on : {X Y : Type 0} (g : X → List Y) (prefix : List Y) (read xs : List X) (i : ℕ) (d : X)
    (now next : List Y)
    → read ≡ xs → i < length read → now ≡ prefix ++ flat_map g (take i xs) → next ≡ now ++ g (get_or read i d)
    → next ≡ prefix ++ flat_map g (take (i + 1) xs)
list_flat_on g prefix read xs i d now next e lt was is =
    is ∙ (ap (λ zs. zs ++ g (get_or read i d)) was
    ∙ (append_assoc prefix (flat_map g (take i xs)) (g (get_or read i d))
    ∙ ap (λ zs. prefix ++ zs) (sym (flat_read g read xs i d e lt))))

pub list_map_on : {X Y : Type 0} (g : X → Y) (prefix : List Y) (read xs : List X) (i : ℕ) (d : X) (now next : List Y)
    → read ≡ xs → i < length read → now ≡ prefix ++ map g (take i xs) → next ≡ now ++ g (get_or read i d) ∷ []
    → next ≡ prefix ++ map g (take (i + 1) xs)
list_map_on g prefix read xs i d now next e lt was is =
    is ∙ (ap (λ zs. zs ++ g (get_or read i d) ∷ []) was
    ∙ (append_assoc prefix (map g (take i xs)) (g (get_or read i d) ∷ [])
    ∙ ap (λ zs. prefix ++ zs) (sym (map_read g read xs i d e lt))))
