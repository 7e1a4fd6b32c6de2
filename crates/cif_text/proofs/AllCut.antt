-- Texts cut one after another.
use Rattle.std.proofs.{Common.{◌≡◌, List, [], ◌∷◌, ◌++◌, ℕ, refl, sym, ap, ◌∙◌}, lemmas.List.append-nil}
use Rattle.std.{proofs.lemmas.List.Concat.flat_map-append, specs.{Prelude.flat_map, List.AllZip}}
use Rattle.cif_text.specs.Cutting.{IsCut, AreCut}

all_zip_push : {A B : Type 0} (R : A → B → Type 0) (xs : List A) (ys : List B) (x : A) (y : B) → AllZip R xs ys
    → R x y → AllZip R (xs ++ (x ∷ [])) (ys ++ (y ∷ []))
all_zip_push R [] [] x y h r = (r, tt)
all_zip_push R [] (b ∷ ys) x y h r = absurd h
all_zip_push R (a ∷ xs) [] x y h r = absurd h
all_zip_push R (a ∷ xs) (b ∷ ys) x y h r = (h.0, all_zip_push R xs ys x y h.1 r)

pub text_cut : (texts chunks : List (List ℕ)) (text : List ℕ) (cut next : List (List ℕ)) → AreCut texts chunks
    → IsCut text cut → next ≡ chunks ++ cut → AreCut (texts ++ (text ∷ [])) next
text_cut texts chunks text cut next so is grown = record {
  cuts = so.cuts ++ (cut ∷ []);
  together = grown
      ∙ (ap (λ ps. ps ++ cut) so.together
      ∙ (ap (λ ps. flat_map (λ one. one) so.cuts ++ ps) (sym (append-nil cut))
      ∙ sym (flat_map-append (λ one. one) so.cuts (cut ∷ []))));
  each = all_zip_push IsCut texts so.cuts text cut so.each is;
}

joined_each : (texts : List (List ℕ)) (cuts : List (List (List ℕ))) → AllZip IsCut texts cuts
    → flat_map (λ chunk. chunk) (flat_map (λ cut. cut) cuts) ≡ flat_map (λ text. text) texts
joined_each [] [] h = refl
joined_each [] (cut ∷ cuts) h = absurd h
joined_each (text ∷ texts) [] h = absurd h
joined_each (text ∷ texts) (cut ∷ cuts) h =
    flat_map-append (λ chunk. chunk) cut (flat_map (λ one. one) cuts)
    ∙ (ap (λ t. t ++ flat_map (λ chunk. chunk) (flat_map (λ one. one) cuts)) h.0.joined
    ∙ ap (λ t. text ++ t) (joined_each texts cuts h.1))

-- joined, the chunks are the texts
pub all_joined : (texts chunks : List (List ℕ)) → AreCut texts chunks
    → flat_map (λ chunk. chunk) chunks ≡ flat_map (λ text. text) texts
all_joined texts chunks so = ap (flat_map (λ chunk. chunk)) so.together ∙ joined_each texts so.cuts so.each
