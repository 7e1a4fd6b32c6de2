-- The steps of a sweep: which entries are kept, their new numbers, and the arrays that are left.
use Rattle.std.proofs.Common.{◌≡◌, ◌≢◌, ℕ, zero, suc, ◌+◌, ◌-◌, ◌<◌, ◌≤◌, ℤ, Bool, true, false, List, [], ◌∷◌, ◌++◌}
use Rattle.std.proofs.Common.{take, inl, inr, length, get_or, set, refl, sym, ap, subst, ◌∙◌, arith, pos, neg_ℤ, ◌^◌}
use Rattle.std.proofs.{Common.unwrap_or, Math.Seq.take-suc, lemmas.List.{length-set, take_more_set, get_or-set_other}}
use Rattle.std.proofs.lemmas.List.{length-reverse, reverse-append, reverse-reverse, length-take-le}
use Rattle.std.proofs.lemmas.{List.Elements.All-from_get_or, Bool.{cases_eq, cases_lt, cases_Bool}, Grind.get_or-set_at}
use Rattle.std.specs.List.{All}
use Rattle.round_log.specs.{declared.log.Entry.Entry, Kept.{new_number, renumbered, kept_part, KeepsBack, KeepsChains}}
use Rattle.round_log.specs.{Looks.{latest, label}, Logs.{origin_entry, raises_of, ComeFromOlder}}
use Rattle.round_log.proofs.Entries.{array_of, length-array, entry-newest, entry-older, IsChainStep, chain_step}
use Rattle.round_log.proofs.Kept.{number-kept, number-left, part-kept, part-left, part_older, part_latest, part_alike}
use Rattle.round_log.proofs.{Raises.{latest-other, latest_in_log}, Walking.reverse-cons, Alike.same_label}
use Rattle.liao_wong.specs.{Held.{AreArraysOf, AreValuesOf}, Sweeping.{keeps_of, AreNewNumbers, AreRenumbered, IsSwept}}

-- ---- flags

pub set_keeps : (flags : List Bool) (i j : ℕ) → i < length flags → keeps_of flags j ≡ true
    → keeps_of (set flags i true) j ≡ true
set_keeps flags i j lt h =
    elim (cases_eq j i) [
      | inl e ↦ get_or-set_at flags i j true false e lt
      | inr n ↦ get_or-set_other flags i j true false n ∙ h
    ]

pub set_here : (flags : List Bool) (i : ℕ) → i < length flags → keeps_of (set flags i true) i ≡ true
set_here flags i lt = get_or-set_at flags i i true false refl lt

pub set_before : (flags : List Bool) (i j : ℕ) → j ≢ i → keeps_of (set flags i true) j ≡ true → keeps_of flags j ≡ true
set_before flags i j n h = sym (get_or-set_other flags i j true false n) ∙ h

-- ---- what the flags keep

-- a variable past the last has no raise
latest_outside : (vars : ℕ) (rs : List Entry) (v : ℕ) → ComeFromOlder vars rs → vars ≤ v → latest rs v ≡ 0
latest_outside vars [] v o le = refl
latest_outside vars (r ∷ rs) v o le = latest-other r rs v (λ e. let lt : r.var < vars = o.0 in omega arith)
    ∙ latest_outside vars rs v o.2 le

keeps_back : (keeps : ℕ → Bool) (rs : List Entry)
    → ((k : ℕ) → 0 < k → k ≤ length rs → keeps k ≡ true → keeps (get_or (array_of rs) k origin_entry).prev ≡ true)
    → KeepsBack keeps rs
keeps_back keeps [] h = tt
keeps_back keeps (r ∷ rs) h =
    let P : Entry → Type 0 = λ e. keeps e.prev ≡ true in (
      λ t. subst P (entry-newest r rs origin_entry) (h (length (r ∷ rs)) (omega arith) (omega arith) t),
      keeps_back keeps rs (λ k one le t. subst P (entry-older r rs k origin_entry le) (h k one (omega arith) t)),
    )

-- the entry that an entry comes from is older
pub comes_from_older : (entries : List Entry) (vars k : ℕ) (d : Entry) → entries ≡ array_of (raises_of entries)
    → ComeFromOlder vars (raises_of entries) → 0 < k → k < length entries → (get_or entries k d).prev < k
comes_from_older entries vars k d e o one lt =
    let P : List Entry → Type 0 = λ l. (get_or l k d).prev < k in
    let step : IsChainStep (raises_of entries) k (get_or (array_of (raises_of entries)) k d) =
    chain_step vars (raises_of entries) k d o (omega arith)
    (let l = ap length e in omega (arith, l, length-array (raises_of entries))) in
    subst P (sym e) step.older

-- which entries are marked when those past n have marked the ones that they come from
pub record IsMarked (entries : List Entry) (last : List ℕ) (flags : List Bool) (n : ℕ) : Type 0 where
  pub one_each : length flags ≡ length entries
  pub in_log : n < length entries
  pub origin : keeps_of flags 0 ≡ true
  pub marked : (v : ℕ) → v < length last → keeps_of flags (get_or last v 0) ≡ true
  pub back : (k : ℕ) → n < k → k < length entries → keeps_of flags k ≡ true
      → keeps_of flags (get_or entries k origin_entry).prev ≡ true

pub mark_back : (entries : List Entry) (last : List ℕ) (flags : List Bool) (n : ℕ)
    → AreArraysOf (length last) entries last (raises_of entries) → IsMarked entries last flags n → 0 < n
    → IsMarked entries last (set flags (get_or entries n origin_entry).prev true) (n - 1)
mark_back entries last flags n a m one =
    let p : ℕ = (get_or entries n origin_entry).prev in
    let older : p < n = comes_from_older entries (length last) n origin_entry a.entries_are a.older one m.in_log in
    let inside : p < length flags = (let x = m.one_each in let y = m.in_log in omega (arith, older, x, y)) in
    record {
      one_each = length-set flags p true ∙ m.one_each;
      in_log = (let y = m.in_log in omega (arith, y));
      origin = set_keeps flags p 0 inside m.origin;
      marked = λ v lt. set_keeps flags p (get_or last v 0) inside (m.marked v lt);
      back = λ k lt le t.
          elim (cases_eq k n) as (λ _. keeps_of (set flags p true) (get_or entries k origin_entry).prev ≡ true) [
            | inl e ↦ ap (λ j. keeps_of (set flags p true) (get_or entries j origin_entry).prev) e
                ∙ set_here flags p inside
            | inr ne ↦ set_keeps flags p (get_or entries k origin_entry).prev inside
                (m.back k (omega arith) le (set_before flags p k (λ e. omega arith) t))
          ];
    }

pub mark_skip : (entries : List Entry) (last : List ℕ) (flags : List Bool) (n : ℕ) → IsMarked entries last flags n
    → 0 < n → (keeps_of flags n ≡ true → ⊥) → IsMarked entries last flags (n - 1)
mark_skip entries last flags n m one left =
    record {
      one_each = m.one_each;
      in_log = (let y = m.in_log in omega (arith, y));
      origin = m.origin;
      marked = m.marked;
      back = λ k lt le t. elim (cases_eq k n) as (λ _. keeps_of flags (get_or entries k origin_entry).prev ≡ true) [
        | inl e ↦ absurd (left (ap (keeps_of flags) (sym e) ∙ t))
        | inr ne ↦ m.back k (omega arith) le t
      ];
    }

pub keeps_chains : (entries : List Entry) (last : List ℕ) (flags : List Bool) (n : ℕ)
    → AreArraysOf (length last) entries last (raises_of entries) → IsMarked entries last flags n → n ≤ 0
    → KeepsChains (keeps_of flags) (raises_of entries)
keeps_chains entries last flags n a m none =
    let rs : List Entry = raises_of entries in
    record {
      latest_kept = λ v. elim (cases_lt v (length last)) as (λ _. keeps_of flags (latest rs v) ≡ true) [
        | inl lt ↦ ap (keeps_of flags) (sym (a.last_are v lt)) ∙ m.marked v lt
        | inr le ↦ ap (keeps_of flags) (latest_outside (length last) rs v a.older le) ∙ m.origin
      ];
      back = keeps_back (keeps_of flags) rs (λ k one le t. (
          let P : List Entry → Type 0 = λ l. keeps_of flags (get_or l k origin_entry).prev ≡ true in
          let inside : k < length entries = (let e = ap length a.entries_are in omega (arith, e, length-array rs)) in
          subst P a.entries_are (m.back k (omega arith) inside t)));
    }

-- each variable's latest entry is one of the entries
pub last_inside : (entries : List Entry) (last : List ℕ) (v : ℕ)
    → AreArraysOf (length last) entries last (raises_of entries) → v < length last → get_or last v 0 < length entries
last_inside entries last v a lt =
    (let e = ap length a.entries_are in let l = a.last_are v lt in
    omega (arith, e, l, length-array (raises_of entries), latest_in_log (raises_of entries) v))

pub last_numbered : (entries : List Entry) (last numbers : List ℕ) (flags : List Bool)
    → AreArraysOf (length last) entries last (raises_of entries) → length flags ≡ length entries
    → AreNewNumbers flags numbers → All (λ n. n < length numbers) last
last_numbered entries last numbers flags a len n =
    All-from_get_or (λ k. k < length numbers) last 0
    (λ v lt. let i = last_inside entries last v a lt in let m = n.one_each in omega (arith, i, m, len))

-- ---- new numbers

pub number_low : (keeps : ℕ → Bool) (n : ℕ) → new_number keeps n ≤ n
number_low keeps zero = omega arith
number_low keeps (suc n) =
    let low : new_number keeps n ≤ n = number_low keeps n in
    elim (cases_Bool (keeps (suc n))) [
      | inl t ↦ (let e = number-kept keeps n t in omega (arith, e))
      | inr f ↦ (let e = number-left keeps n f in omega (arith, e))
    ]

-- ---- the entries that are kept

-- the raises of one entry more
raises_more : (es : List Entry) (n : ℕ) (d : Entry) → 0 < n → n < length es
    → raises_of (take (n + 1) es) ≡ get_or es n d ∷ raises_of (take n es)
raises_more [] n d one lt = absurd (omega arith)
raises_more (e ∷ es) zero d one lt = absurd (omega arith)
raises_more (e ∷ es) (suc n) d one lt =
    let x : Entry = get_or es n d in
    let more : take (suc n + 1) (e ∷ es) ≡ e ∷ (take n es ++ x ∷ []) =
    ap (λ k. take k (e ∷ es)) (let q : suc n + 1 ≡ suc (suc n) = omega arith in q)
    ∙ ap (λ l. e ∷ l) (take-suc es n d (omega arith)) in
    ap raises_of more ∙ reverse-append (take n es) (x ∷ [])

raises_before : (es : List Entry) (n : ℕ) → 0 < n → n ≤ length es → suc (length (raises_of (take n es))) ≡ n
raises_before [] n one le = absurd (omega arith)
raises_before (e ∷ es) zero one le = absurd (omega arith)
raises_before (e ∷ es) (suc n) one le = ap suc (length-reverse (take n es) ∙ length-take-le n es (omega arith))

array-cons : (r : Entry) (rs : List Entry) → array_of (r ∷ rs) ≡ array_of rs ++ r ∷ []
array-cons r rs = ap (λ l. origin_entry ∷ l) (reverse-cons r rs)

kept_more : (keeps : ℕ → Bool) (es kept : List Entry) (n prev : ℕ) (value : ℤ) (e : Entry) → 0 < n → n < length es
    → keeps n ≡ true → e ≡ get_or es n e → prev ≡ new_number keeps e.prev → value ≡ e.value
    → kept ≡ array_of (kept_part keeps (raises_of (take n es)))
    → kept ++ record { var = e.var; value = value; edge = e.edge; prev = prev } ∷ []
    ≡ array_of (kept_part keeps (raises_of (take (n + 1) es)))
kept_more keeps es kept n prev value e one lt t q p z h =
    let rs : List Entry = raises_of (take n es) in
    let here : keeps (length (e ∷ rs)) ≡ true = ap keeps (raises_before es n one (omega arith)) ∙ t in
    let R : ℤ → ℕ → Entry = λ a k. record { var = e.var; value = a; edge = e.edge; prev = k } in
    let more : raises_of (take (n + 1) es) ≡ e ∷ rs = raises_more es n e one lt ∙ ap (λ x. x ∷ rs) (sym q) in
    ap (λ a. kept ++ R a prev ∷ []) z ∙ ap (λ k. kept ++ R e.value k ∷ []) p
    ∙ ap (λ l. l ++ renumbered keeps e ∷ []) h ∙ sym (array-cons (renumbered keeps e) (kept_part keeps rs))
    ∙ ap array_of (sym (part-kept keeps e rs here)) ∙ ap (λ l. array_of (kept_part keeps l)) (sym more)

kept_same : (keeps : ℕ → Bool) (es kept : List Entry) (n : ℕ) → 0 < n → n < length es → keeps n ≡ false
    → kept ≡ array_of (kept_part keeps (raises_of (take n es)))
    → kept ≡ array_of (kept_part keeps (raises_of (take (n + 1) es)))
kept_same keeps es kept n one lt f h =
    let e : Entry = get_or es n origin_entry in
    let rs : List Entry = raises_of (take n es) in
    let here : keeps (length (e ∷ rs)) ≡ false = ap keeps (raises_before es n one (omega arith)) ∙ f in
    h ∙ ap array_of (sym (part-left keeps e rs here))
    ∙ ap (λ l. array_of (kept_part keeps l)) (sym (raises_more es n origin_entry one lt))

-- the array when the entries before n have been looked at: those that are kept are a prefix of it
pub record IsCompacted (keeps : ℕ → Bool) (es now : List Entry) (n kept : ℕ) : Type 0 where
  pub same_length : length now ≡ length es
  pub some : 0 < kept
  pub low : kept ≤ n
  pub prefix : take kept now ≡ array_of (kept_part keeps (raises_of (take n es)))
  pub rest : (k : ℕ) (d : Entry) → n ≤ k → get_or now k d ≡ get_or es k d

pub compact_keep : (keeps : ℕ → Bool) (es now : List Entry) (n kept prev : ℕ) (value : ℤ) (e : Entry)
    → IsCompacted keeps es now n kept → n < length es → keeps n ≡ true → e ≡ get_or now n e
    → prev ≡ new_number keeps e.prev → value ≡ e.value
    → IsCompacted keeps es (set now kept (record { var = e.var; value = value; edge = e.edge; prev = prev })) (n + 1)
    (kept + 1)
compact_keep keeps es now n kept prev value e c lt t q p z =
    let new : Entry = record { var = e.var; value = value; edge = e.edge; prev = prev } in
    let some = c.some in
    let low = c.low in
    let long = c.same_length in
    record {
      same_length = length-set now kept new ∙ long;
      some = omega arith;
      low = omega (arith, low);
      prefix = take_more_set now kept new (omega (arith, low, lt, long))
          ∙ kept_more keeps es (take kept now) n prev value e (omega (arith, some, low)) lt t
          (q ∙ c.rest n e (omega arith)) p z c.prefix;
      rest = λ k d le. get_or-set_other now kept k new d (λ x. omega (arith, low)) ∙ c.rest k d (omega arith);
    }

pub compact_drop : (keeps : ℕ → Bool) (es now : List Entry) (n kept : ℕ) → IsCompacted keeps es now n kept
    → n < length es → keeps n ≡ false → IsCompacted keeps es now (n + 1) kept
compact_drop keeps es now n kept c lt f =
    let some = c.some in
    let low = c.low in
    record {
      same_length = c.same_length;
      some = some;
      low = omega (arith, low);
      prefix = kept_same keeps es (take kept now) n (omega (arith, some, low)) lt f c.prefix;
      rest = λ k d le. c.rest k d (omega arith);
    }

-- ---- the arrays that are left

raises_back : (rs : List Entry) → raises_of (array_of rs) ≡ rs
raises_back rs = reverse-reverse rs

-- the arrays after a sweep
pub record AreLeft (vars : ℕ) (raises : List Entry) (entries : List Entry) (last : List ℕ) : Type 0 where
  pub arrays : AreArraysOf (length last) entries last (raises_of entries)
  pub swept : IsSwept (record { vars = vars; raises = raises })
      (record { vars = length last; raises = raises_of entries })

pub are_left : (vars : ℕ) (entries kept : List Entry) (last left numbers : List ℕ) (flags : List Bool)
    → length last ≡ vars → AreArraysOf vars entries last (raises_of entries) → length flags ≡ length entries
    → KeepsChains (keeps_of flags) (raises_of entries) → AreNewNumbers flags numbers
    → kept ≡ array_of (kept_part (keeps_of flags) (raises_of entries)) → AreRenumbered numbers last left
    → AreLeft vars (raises_of entries) kept left
are_left vars entries kept last left numbers flags w a len c n k r =
    let rs : List Entry = raises_of entries in
    let keeps : ℕ → Bool = keeps_of flags in
    let part : List Entry = kept_part keeps rs in
    let raises : raises_of kept ≡ part = ap raises_of k ∙ raises_back part in
    let P : List Entry → Type 0 = λ l. AreArraysOf (length left) kept left l in
    let older : ComeFromOlder (length left) part =
    (let O : ℕ → Type 0 = λ m. ComeFromOlder m part in subst O (sym (r.one_each ∙ w))
    (part_older vars keeps rs a.older)) in
    let inside : (v : ℕ) → latest rs v < length flags =
    λ v. (let e = ap length a.entries_are in omega (arith, e, length-array rs, latest_in_log rs v, len)) in
    record {
      arrays = subst P (sym raises) (record {
        entries_are = k;
        one_last_each = refl;
        last_are = λ v lt. (
            let low : v < vars = (let x = r.one_each in omega (arith, x, w, lt)) in
            let old : get_or last v 0 ≡ latest rs v = a.last_are v low in
            r.are v (omega (arith, w, low)) ∙ ap (λ m. get_or numbers m 0) old ∙ n.are (latest rs v) (inside v)
            ∙ sym (part_latest keeps rs v (c.latest_kept v)));
        older = older;
      });
      swept = record { same_vars = r.one_each ∙ w; older = a.older; keeps = keeps; chains = c; raises = raises };
    }

-- the same by the slices that the parts of a sweep are given
pub left_by : (entries es es' kept : List Entry) (last old left numbers ns : List ℕ) (flags fs fs' : List Bool)
    → AreArraysOf (length last) entries last (raises_of entries) → es ≡ entries → length flags ≡ length es
    → KeepsChains (keeps_of flags) (raises_of es) → fs ≡ flags → AreNewNumbers fs numbers → es' ≡ entries
    → fs' ≡ flags → kept ≡ array_of (kept_part (keeps_of fs') (raises_of es')) → old ≡ last → ns ≡ numbers
    → AreRenumbered ns old left → AreLeft (length last) (raises_of entries) kept left
left_by entries es es' kept last old left numbers ns flags fs fs' a e len c f n e' f' k o m r =
    let K : List Entry → Type 0 = λ l. KeepsChains (keeps_of flags) (raises_of l) in
    let F : List Bool → Type 0 = λ l. AreNewNumbers l numbers in
    let O : List ℕ → Type 0 = λ l. AreRenumbered numbers l left in
    let N : List ℕ → Type 0 = λ l. AreRenumbered l old left in
    are_left (length last) entries kept last left numbers flags refl a (len ∙ ap length e) (subst K e c) (subst F f n)
    (k ∙ ap (λ l. array_of (kept_part (keeps_of l) (raises_of es'))) f'
    ∙ ap (λ l. array_of (kept_part (keeps_of flags) (raises_of l))) e') (subst O o (subst N m r))

-- an entry that is looked at comes from an older one
pub compact_older : (keeps : ℕ → Bool) (es now : List Entry) (vars n kept : ℕ) (e : Entry)
    → es ≡ array_of (raises_of es) → ComeFromOlder vars (raises_of es) → IsCompacted keeps es now n kept
    → n < length es → e ≡ get_or now n e → e.prev < n
compact_older keeps es now vars n kept e is o c lt q =
    let P : Entry → Type 0 = λ x. x.prev < n in
    let some = c.some in
    let low = c.low in
    subst P (sym (q ∙ c.rest n e (omega arith))) (comes_from_older es vars n e is o (omega (arith, some, low)) lt)

-- the labels stay as they were
pub labels_left : (vars : ℕ) (raises entries : List Entry) (last : List ℕ) (values : List ℤ)
    → AreLeft vars raises entries last → AreValuesOf vars values raises
    → AreValuesOf (length last) values (raises_of entries)
labels_left vars raises entries last values left a =
    let s = left.swept in
    let same_vars : length last ≡ vars = s.same_vars in
    let least : ℤ = neg_ℤ (pos (2 ^ 63)) in
    record {
      one_each = a.one_each ∙ sym same_vars;
      are = λ v lt. a.are v (omega (arith, same_vars, lt))
          ∙ ap (λ o. unwrap_or o least)
          (sym (ap (λ rs. label rs v) s.raises
          ∙ same_label (kept_part s.keeps raises) raises v (part_alike vars s.keeps raises s.older s.chains v)));
    }
