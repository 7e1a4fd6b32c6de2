-- Marks of parts: one mark, what a step of a search adds, and what the code reads.
use Rattle.std.proofs.Common.{◌≡◌, ℕ, ◌+◌, ◌<◌, ◌≤◌, ◌≢◌, Option, Some, None, List, [], ◌∷◌, ◌++◌, length, take, get_or}
use Rattle.std.proofs.Common.{set, Contains, ◌⊎◌, inl, inr, refl, sym, ◌∙◌, ap, subst, arith, get_or-set_other}
use Rattle.std.proofs.Common.{get_or-set_same, cond}
use Rattle.std.proofs.lemmas.List.{take_more, length-set, length_push, get_or_append_left, get_or_default, get_or_read}
use Rattle.std.proofs.lemmas.List.{get_or_past, Elements.{Contains-append_left, Contains-push, Contains-push_cases}}
use Rattle.std.proofs.lemmas.{List.Sums.sum_by-set, Option.{none-some, same_Some}, Bool.{cases_eq, cases_lt}}
use Rattle.std.specs.Prelude.{is_none, is_some, Bool, true, false, not}
use Rattle.graph_search.specs.Search.{mark_of, IsMarked, unmarked, AreKept, AreReached, AreVisited}

-- ---- one mark

-- a value or none
option_cases : (o : Option ℕ) → (o ≡ None) ⊎ ((n : ℕ) × (o ≡ Some n))
option_cases None = inl refl
option_cases (Some n) = inr (n, refl)

-- a part has a mark or none
pub mark_cases : (marks : List (Option ℕ)) (k : ℕ) → (mark_of marks k ≡ None) ⊎ IsMarked marks k
mark_cases marks k = option_cases (mark_of marks k)

-- below n + 1 is below n, or n
pub below_cases : (j n : ℕ) → j < n + 1 → (j < n) ⊎ (j ≡ n)
below_cases j n lt = grind arith

-- the mark of part k after part p has been given one
mark_set_cases : (marks : List (Option ℕ)) (p net k : ℕ) → p < length marks
    → ((k ≡ p) × (mark_of (set marks p (Some net)) k ≡ Some net))
    ⊎ ((k ≢ p) × (mark_of (set marks p (Some net)) k ≡ mark_of marks k))
mark_set_cases marks p net k lt = elim (cases_eq k p) [
  | inl e ↦
      inl (
        e,
        (let P : ℕ → Type 0 = λ x. mark_of (set marks p (Some net)) x
            ≡ Some net in subst P (sym e) (get_or-set_same marks p (Some net) None lt)),
      )
  | inr ne ↦ inr (ne, get_or-set_other marks p k (Some net) None ne)
]

-- a part with no mark at the end had none before
pub unmarked_before : (old new : List (Option ℕ)) (k : ℕ) → AreKept old new → mark_of new k ≡ None
    → mark_of old k ≡ None
unmarked_before old new k kept none = elim (mark_cases old k) [
  | inl e ↦ e
  | inr (n, e) ↦ absurd (none-some n (sym none ∙ kept k n e))
]

-- a mark that stays is the same
pub same_mark : (old new : List (Option ℕ)) (k m n : ℕ) → AreKept old new → mark_of old k ≡ Some m
    → mark_of new k ≡ Some n → m ≡ n
same_mark old new k m n kept before after = same_Some m n (sym (kept k m before) ∙ after)

-- a mark given to a part that had none keeps the others
kept_set : (marks : List (Option ℕ)) (p net : ℕ) → p < length marks → mark_of marks p ≡ None
    → AreKept marks (set marks p (Some net))
kept_set marks p net lt none = λ k n e. elim (mark_set_cases marks p net k lt) [
  | inl (at, _) ↦ absurd (none-some n (sym none ∙ ap (mark_of marks) (sym at) ∙ e))
  | inr (_, same) ↦ same ∙ e
]

pub kept_trans : (old middle new : List (Option ℕ)) → AreKept old middle → AreKept middle new → AreKept old new
kept_trans old middle new first second = λ k n e. second k n (first k n e)

-- one part fewer has no mark
unmarked_set : (marks : List (Option ℕ)) (p net : ℕ) → p < length marks → mark_of marks p ≡ None
    → unmarked (set marks p (Some net)) + 1 ≡ unmarked marks
unmarked_set marks p net lt none =
    let f : Option ℕ → ℕ = λ o. cond (is_none o) 1 0 in
    let e = sum_by-set f marks p (Some net) None lt in
    let one : f (mark_of marks p) ≡ 1 = ap f none in
    omega arith

pub kept_marked : (old new : List (Option ℕ)) (k : ℕ) → AreKept old new → IsMarked old k → IsMarked new k
kept_marked old new k kept m = (m.0, kept k m.0 m.1)

-- ---- one step

pub reached_none : (Is : ℕ → Type 0) (net : ℕ) (marks : List (Option ℕ)) (queue : List ℕ) → ((k : ℕ) → Is k → ⊥)
    → AreReached Is net marks marks queue queue
reached_none Is net marks queue nothing = record {
  counted = refl;
  kept = λ _ _ e. e;
  fresh = λ k n none some. absurd (none-some n (sym none ∙ some));
  among = λ k n none some. absurd (none-some n (sym none ∙ some));
  marked = λ k is. absurd (nothing k is);
  longer = omega arith;
  prefix = λ _ _. refl;
  queued = λ k c. inl c;
  left = refl;
}

-- one part that had no mark
pub reached_one : (p net : ℕ) (marks : List (Option ℕ)) (queue : List ℕ) → p < length marks → mark_of marks p ≡ None
    → AreReached (λ k. k ≡ p) net marks (set marks p (Some net)) queue (queue ++ p ∷ [])
reached_one p net marks queue lt none =
    let at : mark_of (set marks p (Some net)) p ≡ Some net = get_or-set_same marks p (Some net) None lt in
    let l = length_push queue p in
    record {
      counted = length-set marks p (Some net);
      kept = kept_set marks p net lt none;
      fresh = λ k n before_none some. elim (mark_set_cases marks p net k lt) [
        | inl (e, set_to) ↦ (
          same_Some n net (sym some ∙ set_to),
          (let P : ℕ → Type 0 = λ x. Contains (queue ++ p ∷ []) x in subst P (sym e) (Contains-push queue p)),
        )
        | inr (_, same) ↦ absurd (none-some n (sym before_none ∙ sym same ∙ some))
      ];
      among = λ k n before_none some. elim (mark_set_cases marks p net k lt) [
        | inl (e, _) ↦ e
        | inr (_, same) ↦ absurd (none-some n (sym before_none ∙ sym same ∙ some))
      ];
      marked = λ k e. (let P : ℕ → Type 0 = IsMarked (set marks p (Some net)) in subst P (sym e) (net, at));
      longer = omega arith;
      prefix = λ j j_lt. get_or_append_left queue (p ∷ []) 0 j j_lt;
      queued = λ k c. elim (Contains-push_cases queue p k c) [
        | inl before ↦ inl before
        | inr e ↦
            inr (let P : ℕ → Type 0 = λ x. (mark_of marks x ≡ None) × (mark_of (set marks p (Some net)) x ≡ Some net)
            × (x ≡ p) in subst P e (none, at, refl))
      ];
      left = (let u = unmarked_set marks p net lt none in omega arith);
    }

-- the same parts by another property, but for some that have a mark
pub reached_as : (P Q : ℕ → Type 0) (net : ℕ) (old new : List (Option ℕ)) (before after : List ℕ)
    → ((k : ℕ) → P k → Q k) → ((k : ℕ) → Q k → IsMarked new k ⊎ P k)
    → AreReached P net old new before after → AreReached Q net old new before after
reached_as P Q net old new before after forth back f = record {
  counted = f.counted;
  kept = f.kept;
  fresh = f.fresh;
  among = λ k n none some. forth k (f.among k n none some);
  marked = λ k q. elim (back k q) [ inl m ↦ m | inr p ↦ f.marked k p ];
  longer = f.longer;
  prefix = f.prefix;
  queued = λ k c. elim (f.queued k c) [ inl c ↦ inl c | inr (none, some, p) ↦ inr (none, some, forth k p) ];
  left = f.left;
}

-- what stood in a queue stands in the longer one
pub contains_prefix : (before after : List ℕ) (k : ℕ) → length before ≤ length after
    → ((j : ℕ) → j < length before → get_or after j 0 ≡ get_or before j 0)
    → Contains before k → Contains after k
contains_prefix before after k longer prefix (j, lt, e) =
    (j, omega arith, get_or_default after j k 0 (omega arith) ∙ prefix j lt ∙ get_or_default before j 0 k lt ∙ e)

-- first some, then others
pub reached_more : (P Q R : ℕ → Type 0) (net : ℕ) (old middle new : List (Option ℕ)) (before between after : List ℕ)
    → ((k : ℕ) → P k ⊎ Q k → R k) → ((k : ℕ) → R k → P k ⊎ Q k)
    → AreReached P net old middle before between → AreReached Q net middle new between after
    → AreReached R net old new before after
reached_more P Q R net old middle new before between after forth back f g = record {
  counted = g.counted ∙ f.counted;
  kept = kept_trans old middle new f.kept g.kept;
  fresh = λ k n none some. elim (mark_cases middle k) [
    | inl e ↦ g.fresh k n e some
    | inr (m, e) ↦
        (let h : (m ≡ net) × Contains between k = f.fresh k m none e in
        (sym (same_mark middle new k m n g.kept e some) ∙ h.0, contains_prefix between after k g.longer g.prefix h.1))
  ];
  among = λ k n none some. elim (mark_cases middle k) [
    | inl e ↦ forth k (inr (g.among k n e some))
    | inr (m, e) ↦ forth k (inl (f.among k m none e))
  ];
  marked = λ k r. elim (back k r) [ inl p ↦ kept_marked middle new k g.kept (f.marked k p) | inr q ↦ g.marked k q ];
  longer = (let l = f.longer in let m = g.longer in omega arith);
  prefix = λ j lt. (let l = f.longer in g.prefix j (omega arith) ∙ f.prefix j lt);
  queued = λ k c. elim (g.queued k c) [
    | inl c ↦
        elim (f.queued k c) [ inl c ↦ inl c | inr (none, some, p) ↦ inr (none, g.kept k net some, forth k (inl p)) ]
    | inr (none, some, q) ↦ inr (unmarked_before old middle k f.kept none, some, forth k (inr q))
  ];
  left = g.left ∙ f.left;
}

-- ---- the parts of a list, one after the other

pub taken_earlier : (xs : List ℕ) (i x : ℕ) → i < length xs → Contains (take i xs) x → Contains (take (i + 1) xs) x
taken_earlier xs i x lt c = let P : List ℕ → Type 0 =
    λ ys. Contains ys x in subst P (sym (take_more xs i 0 lt))
    (Contains-append_left (take i xs) (get_or xs i 0 ∷ []) x c)

pub taken_last : (xs : List ℕ) (i x : ℕ) → i < length xs → x ≡ get_or xs i 0 → Contains (take (i + 1) xs) x
taken_last xs i x lt e =
    let P : List ℕ → Type 0 = λ ys. Contains ys x in
    let Q : ℕ → Type 0 = λ y. Contains (take i xs ++ get_or xs i 0 ∷ []) y in
    subst P (sym (take_more xs i 0 lt)) (subst Q (sym e) (Contains-push (take i xs) (get_or xs i 0)))

pub taken_cases : (xs : List ℕ) (i x : ℕ) → i < length xs → Contains (take (i + 1) xs) x
    → Contains (take i xs) x ⊎ (x ≡ get_or xs i 0)
taken_cases xs i x lt c =
    let P : List ℕ → Type 0 = λ ys. Contains ys x in
    elim (Contains-push_cases (take i xs) (get_or xs i 0) x (subst P (take_more xs i 0 lt) c))
    [ inl o ↦ inl o | inr e ↦ inr (sym e) ]

-- one more part that has a mark
pub visited_seen : (parts : List ℕ) (net : ℕ) (old new : List (Option ℕ)) (before after : List ℕ) (i : ℕ)
    → i < length parts
    → IsMarked new (get_or parts i 0) → AreVisited (take i parts) net old new before after
    → AreVisited (take (i + 1) parts) net old new before after
visited_seen parts net old new before after i lt seen v =
    let P : ℕ → Type 0 = IsMarked new in
    reached_as (Contains (take i parts)) (Contains (take (i + 1) parts)) net old new before after
    (λ k c. taken_earlier parts i k lt c)
    (λ k c. elim (taken_cases parts i k lt c) [ inl earlier ↦ inr earlier | inr e ↦ inl (subst P (sym e) seen) ]) v

-- one more part that has none
pub visited_new : (parts : List ℕ) (net : ℕ) (old new : List (Option ℕ)) (before after : List ℕ) (i : ℕ)
    → i < length parts
    → get_or parts i 0 < length new → mark_of new (get_or parts i 0) ≡ None
    → AreVisited (take i parts) net old new before after
    → AreVisited (take (i + 1) parts) net old (set new (get_or parts i 0) (Some net)) before
    (after ++ get_or parts i 0 ∷ [])
visited_new parts net old new before after i lt in_range none v =
    let p : ℕ = get_or parts i 0 in
    reached_more (Contains (take i parts)) (λ k. k ≡ p) (Contains (take (i + 1) parts)) net old new
    (set new p (Some net)) before after (after ++ p ∷ [])
    (λ k h. elim h [ inl earlier ↦ taken_earlier parts i k lt earlier | inr last ↦ taken_last parts i k lt last ])
    (λ k c. taken_cases parts i k lt c)
    v (reached_one p net new after in_range none)

-- ---- what the code reads

-- a test that finds no mark
none_by_test : (o : Option ℕ) (b : Bool) → is_some o ≡ not b → b ≡ true → o ≡ None
none_by_test None b test answer = refl
none_by_test (Some n) true test answer = cc
none_by_test (Some n) false test answer = cc

-- a mark read, where there is none
pub read_none : (marks : List (Option ℕ)) (k : ℕ) (o : Option ℕ) (b : Bool) → k < length marks → o ≡ get_or marks k o
    → is_some o ≡ not b → b ≡ true → mark_of marks k ≡ None
read_none marks k o b lt read test answer = sym (get_or_read marks k o lt read None) ∙ none_by_test o b test answer

-- a test that finds one
some_by_test : (o : Option ℕ) (b : Bool) → is_some o ≡ not b → b ≡ false → (n : ℕ) × (o ≡ Some n)
some_by_test (Some n) b test answer = (n, refl)
some_by_test None true test answer = absurd (cc)
some_by_test None false test answer = absurd (cc)

-- a mark read, where there is one
pub read_marked : (marks : List (Option ℕ)) (k : ℕ) (o : Option ℕ) (b : Bool) → k < length marks
    → o ≡ get_or marks k o → is_some o ≡ not b → b ≡ false → IsMarked marks k
read_marked marks k o b lt read test answer = let m : (n : ℕ) × (o ≡ Some n) =
    some_by_test o b test answer in (m.0, sym (get_or_read marks k o lt read None) ∙ m.1)

-- a part with a mark is within the marks
pub marked_within : (marks : List (Option ℕ)) (k n : ℕ) → mark_of marks k ≡ Some n → k < length marks
marked_within marks k n e = elim (cases_lt k (length marks)) [
  | inl lt ↦ lt
  | inr le ↦ absurd (none-some n (sym (get_or_past marks k None le) ∙ e))
]
