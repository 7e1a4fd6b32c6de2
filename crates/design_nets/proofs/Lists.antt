-- Lists that stand one after another, and the numbers of their first elements.
use Rattle.std.proofs.Common.{◌≡◌, ℕ, zero, suc, ◌+◌, ◌-◌, ◌<◌, ◌≤◌, Bool, true, false, cond, filter, List, [], ◌∷◌}
use Rattle.std.proofs.Common.{◌++◌, length, get_or, take, map, Some, refl, sym, ap, ◌∙◌, subst, arith, inl, inr}
use Rattle.std.proofs.{Common.{zero-add, append_assoc, length-append}, lemmas.{Bool.cases_lt, List.map-id}}
use Rattle.std.proofs.lemmas.List.{append-nil, length_push, get_or_append_left, get_or_push, Concat.get_or-flat_map}
use Rattle.std.proofs.lemmas.List.FromFn.{take-map-range_with_len, length-range_with_len, get_or-range_with_len}
use Rattle.std.proofs.lemmas.List.FromFn.{map-range_with_len_more, filter_of_map_range_with_len_more}
use Rattle.std.proofs.lemmas.Option.{slice_get_within, slice_get-get_or, get_or_from_slice_get}
use Rattle.std.specs.{Prelude.slice_get, List.{flat_map, range_with_len}}
use Rattle.list_facts.proofs.Pieces.{piece_added}
use Rattle.design_nets.specs.Firsts.{together, AreFirsts}

-- ---- numbers

range_taken : (n i : ℕ) → i ≤ n → take i (range_with_len 0 n) ≡ range_with_len 0 i
range_taken n i le =
    ap (take i) (sym (map-id (range_with_len 0 n)))
    ∙ (take-map-range_with_len (λ (k : ℕ). k) 0 n i le ∙ map-id (range_with_len 0 i))

-- one more number
pub numbers_more : (n : ℕ) → range_with_len 0 (n + 1) ≡ range_with_len 0 n ++ n ∷ []
numbers_more n = sym (map-id (range_with_len 0 (n + 1)))
    ∙ (map-range_with_len_more (λ (k : ℕ). k) 0 n n (zero-add n)
    ∙ ap (λ (ks : List ℕ). ks ++ n ∷ []) (map-id (range_with_len 0 n)))

-- the image of one more number is added
pub image_added : {A : Type 0} (f : ℕ → A) (n : ℕ) (prefix now next : List A)
    → now ≡ prefix ++ map f (range_with_len 0 n) → next ≡ now ++ f n ∷ []
    → next ≡ prefix ++ map f (range_with_len 0 (n + 1))
image_added f n prefix now next was is =
    is ∙ (ap (λ zs. zs ++ f n ∷ []) was
    ∙ (append_assoc prefix (map f (range_with_len 0 n)) (f n ∷ [])
    ∙ ap (λ zs. prefix ++ zs) (sym (map-range_with_len_more f 0 n n (zero-add n)))))

-- ---- lists, one after another

pub together_more : {A : Type 0} (lists : ℕ → List A) (n : ℕ) → together lists (n + 1) ≡ together lists n ++ lists n
together_more lists n = sym (piece_added lists n [] (together lists n) (together lists n ++ lists n) refl refl)

-- they grow longer
grown : {A : Type 0} (lists : ℕ → List A) (i k : ℕ) → length (together lists i) ≤ length (together lists (i + k))
grown lists i zero = (let e : i + 0 ≡ i = omega arith in rw e (omega arith))
grown lists i (suc k) =
    let e : i + suc k ≡ (i + k) + 1 = omega arith in
    let before = grown lists i k in
    let more = ap (λ (xs : List _). length xs) (together_more lists (i + k))
    ∙ length-append (together lists (i + k)) (lists (i + k)) in
    rw e (omega (arith, before, more))

pub together_longer : {A : Type 0} (lists : ℕ → List A) (i n : ℕ) → i ≤ n
    → length (together lists i) ≤ length (together lists n)
together_longer lists i n le =
    (let e : i + (n - i) ≡ n = omega arith in subst (λ (k : ℕ). length (together lists i) ≤ length (together lists k))
    e (grown lists i (n - i)))

pub together_within : {A : Type 0} (lists : ℕ → List A) (n i j : ℕ) → i < n → j < length (lists i)
    → length (together lists i) + j < length (together lists n)
together_within lists n i j lt among =
    let longer = together_longer lists (i + 1) n (omega arith) in
    let more = ap (λ (xs : List _). length xs) (together_more lists i) ∙ length-append (together lists i) (lists i) in
    omega (arith, longer, more)

-- what stands after the first lists is in the next one
pub together_read : {A : Type 0} (lists : ℕ → List A) (n i j : ℕ) (d : A) → i < n → j < length (lists i)
    → get_or (together lists n) (length (together lists i) + j) d ≡ get_or (lists i) j d
together_read lists n i j d lt among =
    let numbers : List ℕ = range_with_len 0 n in
    let here : get_or numbers i 0 ≡ i = get_or-range_with_len 0 n i 0 lt ∙ zero-add i in
    let inside : i < length numbers = omega (arith, length-range_with_len 0 n) in
    let short : j < length (lists (get_or numbers i 0)) = subst (λ (k : ℕ). j < length (lists k)) (sym here) among in
    ap (λ (ks : List ℕ). get_or (together lists n) (length (flat_map lists ks) + j) d)
    (sym (range_taken n i (omega arith)))
    ∙ (get_or-flat_map lists numbers i j 0 d inside short ∙ ap (λ (k : ℕ). get_or (lists k) j d) here)

pub together_get : {A : Type 0} (lists : ℕ → List A) (n i j : ℕ) (x : A) → i < n → slice_get (lists i) j ≡ Some x
    → slice_get (together lists n) (length (together lists i) + j) ≡ Some x
together_get lists n i j x lt there =
    let among = slice_get_within (lists i) j x there in
    slice_get-get_or (together lists n) (length (together lists i) + j) x (together_within lists n i j lt among)
    ∙ ap Some (together_read lists n i j x lt among ∙ get_or_from_slice_get (lists i) j x x there)

-- ---- the numbers of their first elements

pub firsts_more : {A : Type 0} (lists : ℕ → List A) (count first next : ℕ) (firsts : List ℕ)
    → AreFirsts lists count first firsts → next ≡ first + length (together lists (count + 1))
    → AreFirsts lists (count + 1) first (firsts ++ next ∷ [])
firsts_more lists count first next firsts h is =
    let n = h.counted in
    record {
      counted = omega (arith, length_push firsts next);
      each = λ k le. elim (cases_lt k (count + 1)) [
        | inl lt ↦ get_or_append_left firsts (next ∷ []) 0 k (omega arith) ∙ h.each k (omega arith)
        | inr past ↦
            (let e : k ≡ count + 1 = omega arith in
            get_or_push firsts next 0 k (omega arith)
            ∙ (is ∙ ap (λ (i : ℕ). first + length (together lists i)) (sym e)))
      ];
    }

-- each number of all elements is that of an element of one list
pub record StandsIn {A : Type 0} (lists : ℕ → List A) (n s : ℕ) : Type 0 where
  pub i : ℕ
  pub j : ℕ
  pub list : i < n
  pub element : j < length (lists i)
  pub is : s ≡ length (together lists i) + j

pub together_split : {A : Type 0} (lists : ℕ → List A) (n s : ℕ) → s < length (together lists n) → StandsIn lists n s
together_split lists zero s lt = absurd (omega (arith, lt))
together_split lists (suc n) s lt =
    let e : suc n ≡ n + 1 = omega arith in
    let more = ap (λ (k : ℕ). length (together lists k)) e
    ∙ (ap (λ (xs : List _). length xs) (together_more lists n) ∙ length-append (together lists n) (lists n)) in
    elim (cases_lt s (length (together lists n))) [
      | inl before ↦
          (let r = together_split lists n s before in
          let in_list = r.list in
          record { i = r.i; j = r.j; list = omega (arith, in_list); element = r.element; is = r.is })
      | inr past ↦
          record {
            i = n;
            j = s - length (together lists n);
            list = omega arith;
            element = omega (arith, lt, more, past);
            is = omega (arith, past);
          }
    ]

-- ---- the numbers that pass a test

pub filtered_more : (p : ℕ → Bool) (n : ℕ)
    → filter p (range_with_len 0 (n + 1)) ≡ filter p (range_with_len 0 n) ++ cond (p n) (n ∷ []) []
filtered_more p n =
    ap (filter p) (sym (map-id (range_with_len 0 (n + 1))))
    ∙ (filter_of_map_range_with_len_more p (λ (k : ℕ). k) 0 n n (zero-add n)
    ∙ ap (λ (ks : List ℕ). filter p ks ++ cond (p n) (n ∷ []) []) (map-id (range_with_len 0 n)))

pub number_kept : (p : ℕ → Bool) (n : ℕ) (prefix now next : List ℕ) → now ≡ prefix ++ filter p (range_with_len 0 n)
    → p n ≡ true → next ≡ now ++ n ∷ [] → next ≡ prefix ++ filter p (range_with_len 0 (n + 1))
number_kept p n prefix now next was pass is =
    is ∙ (ap (λ zs. zs ++ n ∷ []) was
    ∙ (append_assoc prefix (filter p (range_with_len 0 n)) (n ∷ [])
    ∙ ap (λ zs. prefix ++ zs) (ap (λ b. filter p (range_with_len 0 n) ++ cond b (n ∷ []) []) (sym pass)
    ∙ sym (filtered_more p n))))

pub number_passed : (p : ℕ → Bool) (n : ℕ) (prefix now : List ℕ) → now ≡ prefix ++ filter p (range_with_len 0 n)
    → p n ≡ false → now ≡ prefix ++ filter p (range_with_len 0 (n + 1))
number_passed p n prefix now was fail =
    was ∙ ap (λ zs. prefix ++ zs) (sym (append-nil (filter p (range_with_len 0 n)))
    ∙ (ap (λ b. filter p (range_with_len 0 n) ++ cond b (n ∷ []) []) (sym fail) ∙ sym (filtered_more p n)))

pub together_pushed : {A : Type 0} (lists : ℕ → List A) (n : ℕ) (now next : List A) → now ≡ together lists n
    → next ≡ now ++ lists n → next ≡ together lists (n + 1)
together_pushed lists n now next was is = is ∙ (ap (λ zs. zs ++ lists n) was ∙ sym (together_more lists n))

-- lists that are the same, one after another
joined_from : {A : Type 0} (f g : ℕ → List A) (a n : ℕ) → ((k : ℕ) → a ≤ k → k < a + n → f k ≡ g k)
    → flat_map f (range_with_len a n) ≡ flat_map g (range_with_len a n)
joined_from f g a zero h = refl
joined_from f g a (suc n) h =
    ap (λ z. z ++ flat_map f (range_with_len (a + 1) n)) (h a (omega arith) (omega arith))
    ∙ ap (λ z. g a ++ z) (joined_from f g (a + 1) n (λ k low high. h k (omega (arith, low)) (omega (arith, high))))

pub together_same : {A : Type 0} (f g : ℕ → List A) (n : ℕ) → ((k : ℕ) → k < n → f k ≡ g k)
    → together f n ≡ together g n
together_same f g n h = joined_from f g 0 n (λ k low high. h k (omega (arith, high)))
