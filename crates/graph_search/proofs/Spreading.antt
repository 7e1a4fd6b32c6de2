-- A search over parts of which some are beside others: one search, and all of them.
use Rattle.std.proofs.Common.{◌≡◌, ℕ, zero, suc, ◌+◌, ◌<◌, ◌≤◌, Option, Some, None, List, [], length, get_or, Contains}
use Rattle.std.proofs.Common.{inl, inr, refl, sym, ◌∙◌, ap, subst, arith}
use Rattle.std.proofs.lemmas.{List.{get_or_default, Elements.Contains-get_or}, Option.none-some}
use Rattle.graph_search.specs.{Netting.{Chain, Reaches}, Search.{mark_of, IsMarked, AreKept, AreReached, IsSpread}}
use Rattle.graph_search.specs.Search.{AreWhole}
use Rattle.graph_search.proofs.{Chains.{reaches_none, reaches_one, reaches_trans, reaches_back}, Marks.below_cases}
use Rattle.graph_search.proofs.Marks.{mark_cases, unmarked_before, same_mark, kept_trans, kept_marked, contains_prefix}

-- ---- one search

-- how far a search has come: the parts of the queue have been reached, and what is beside those that it has passed
pub record IsSpreading (Beside : ℕ → ℕ → Type 0) (start net : ℕ) (old new : List (Option ℕ)) (queue : List ℕ)
    (passed : ℕ) : Type 0 where
  pub counted : length new ≡ length old
  pub kept : AreKept old new
  pub fresh : (k n : ℕ) → mark_of old k ≡ None → mark_of new k ≡ Some n → (n ≡ net) × Contains queue k
  pub queued : (k : ℕ) → Contains queue k → (mark_of old k ≡ None) × (mark_of new k ≡ Some net) × Reaches Beside start k
  pub first : Contains queue start
  pub within : passed ≤ length queue
  pub beside : (j b : ℕ) → j < passed → Beside (get_or queue j 0) b → IsMarked new b

-- the start alone
pub spreading_begun : (Beside : ℕ → ℕ → Type 0) (start net : ℕ) (old new : List (Option ℕ)) (queue : List ℕ)
    → mark_of old start ≡ None
    → AreReached (λ k. k ≡ start) net old new [] queue → IsSpreading Beside start net old new queue 0
spreading_begun Beside start net old new queue none r =
    let m : IsMarked new start = r.marked start refl in
    record {
      counted = r.counted;
      kept = r.kept;
      fresh = r.fresh;
      queued = λ k c. elim (r.queued k c) [
        | inl (j, j_lt, _) ↦ absurd (omega arith)
        | inr (before, after, e) ↦ (before, after, reaches_none Beside start k (sym e))
      ];
      first = (r.fresh start m.0 none m.1).1;
      within = omega arith;
      beside = λ j b j_lt _. absurd (omega arith);
    }

-- one more part of the queue
pub spreading_more : (Beside : ℕ → ℕ → Type 0) (start net : ℕ) (old middle new : List (Option ℕ))
    (queue longer : List ℕ) (passed : ℕ) → passed < length queue
    → IsSpreading Beside start net old middle queue passed
    → AreReached (Beside (get_or queue passed 0)) net middle new queue longer
    → IsSpreading Beside start net old new longer (passed + 1)
spreading_more Beside start net old middle new queue longer passed lt s v =
    let part : ℕ = get_or queue passed 0 in
    let grown : (k : ℕ) → Contains queue k → Contains longer k =
    λ k c. contains_prefix queue longer k v.longer v.prefix c in
    let reached : Reaches Beside start part = (s.queued part (Contains-get_or queue passed 0 lt)).2 in
    record {
      counted = v.counted ∙ s.counted;
      kept = kept_trans old middle new s.kept v.kept;
      fresh = λ k n none some. elim (mark_cases middle k) [
        | inl e ↦ v.fresh k n e some
        | inr (m, e) ↦
            (let f : (m ≡ net) × Contains queue k = s.fresh k m none e in
            (sym (same_mark middle new k m n v.kept e some) ∙ f.0, grown k f.1))
      ];
      queued = λ k c. elim (v.queued k c) [
        | inl c ↦
            (let q : (mark_of old k ≡ None) × (mark_of middle k ≡ Some net)
            × Reaches Beside start k = s.queued k c in (q.0, v.kept k net q.1, q.2))
        | inr (none, some, c) ↦ (
          unmarked_before old middle k s.kept none,
          some,
          reaches_trans Beside start part k reached
              (reaches_one Beside part k c),
        )
      ];
      first = grown start s.first;
      within = (let m = v.longer in omega arith);
      beside = λ j b j_lt h. elim (below_cases j passed j_lt) [
        | inl before ↦
            (let w = s.within in let P : ℕ
            → Type 0 = λ x. Beside x b in let m : IsMarked middle b =
            s.beside j b before (subst P (v.prefix j (omega arith)) h) in kept_marked middle new b v.kept m)
        | inr e ↦
            (let P : ℕ
            → Type 0 =
            λ x. Beside x b in v.marked b (subst P (ap (λ (x : ℕ). get_or longer x 0) e ∙ v.prefix passed lt) h))
      ];
    }

-- the whole queue
pub spreading_done : (Beside : ℕ → ℕ → Type 0) (start net : ℕ) (old new : List (Option ℕ)) (queue : List ℕ)
    (passed : ℕ) → length queue ≤ passed
    → IsSpreading Beside start net old new queue passed → IsSpread Beside start net old new
spreading_done Beside start net old new queue passed le s = record {
  counted = s.counted;
  kept = s.kept;
  fresh = λ k n none some. (let f : (n ≡ net) × Contains queue k = s.fresh k n none some in (f.0, (s.queued k f.1).2));
  begun = (s.queued start s.first).1;
  closed = λ k n b none some h.
      (let c : Contains queue k = (s.fresh k n none some).1 in
      let P : ℕ → Type 0 = λ x. Beside x b in
      s.beside c.0 b (let lt = c.1 in omega arith) (subst P (sym (get_or_default queue c.0 0 k c.1 ∙ c.2)) h));
}

-- ---- all searches

-- no search yet
pub whole_none : (Beside : ℕ → ℕ → Type 0) (marks : List (Option ℕ)) → ((k : ℕ) → mark_of marks k ≡ None)
    → AreWhole Beside 0 marks
whole_none Beside marks none = record {
  below = λ a n e. absurd (none-some n (sym (none a) ∙ e));
  joined = λ a b n e _. absurd (none-some n (sym (none a) ∙ e));
  closed = λ a b n e _. absurd (none-some n (sym (none a) ∙ e));
}

-- one more search
pub whole_more : (Beside : ℕ → ℕ → Type 0) (start next : ℕ) (old new : List (Option ℕ))
    → ((a b : ℕ) → Beside a b → Beside b a) → AreWhole Beside next old
    → IsSpread Beside start next old new → AreWhole Beside (next + 1) new
whole_more Beside start next old new back w s = record {
  below = λ a n e. elim (mark_cases old a) [
    | inl none ↦ (let f : n ≡ next = (s.fresh a n none e).0 in omega arith)
    | inr (m, before) ↦
        (let f : m ≡ n = same_mark old new a m n s.kept before e in let l = w.below a m before in omega arith)
  ];
  joined = λ a b n ea eb. elim (mark_cases old a) [
    | inl none_a ↦ elim (mark_cases old b) [
      | inl none_b ↦ reaches_trans Beside a start b (reaches_back Beside back start a (s.fresh a n none_a ea).1)
          (s.fresh b n none_b eb).1
      | inr (m, before) ↦
          (let f : n ≡ next = (s.fresh a n none_a ea).0 in let g : m
          ≡ n = same_mark old new b m n s.kept before eb in let l = w.below b m before in absurd (omega arith))
    ]
    | inr (m, before_a) ↦ (let g : m ≡ n = same_mark old new a m n s.kept before_a ea in elim (mark_cases old b) [
      | inl none_b ↦
          (let f : n ≡ next = (s.fresh b n none_b eb).0 in let l = w.below a m before_a in absurd (omega arith))
      | inr (o, before_b) ↦
          (let h : o ≡ n = same_mark old new b o n s.kept before_b eb in w.joined a b n
          (before_a ∙ ap (λ (x : ℕ). Some x) g) (before_b ∙ ap (λ (x : ℕ). Some x) h))
    ])
  ];
  closed = λ a b n ea h. elim (mark_cases old a) [
    | inl none_a ↦ (let c : IsMarked new b = s.closed a n b none_a ea h in elim (mark_cases old b) [
      | inl none_b ↦ c.1 ∙ ap (λ (x : ℕ). Some x) ((s.fresh b c.0 none_b c.1).0 ∙ sym (s.fresh a n none_a ea).0)
      | inr (m, before) ↦ absurd (none-some m (sym none_a ∙ w.closed b a m before (back a b h)))
    ])
    | inr (m, before) ↦
        s.kept b n (w.closed a b n (before ∙ ap (λ (x : ℕ). Some x) (same_mark old new a m n s.kept before ea)) h)
  ];
}

-- a larger bound
pub whole_below : (Beside : ℕ → ℕ → Type 0) (next more : ℕ) (marks : List (Option ℕ)) → next ≤ more
    → AreWhole Beside next marks → AreWhole Beside more marks
whole_below Beside next more marks le w = record {
  below = λ a n e. (let l = w.below a n e in omega arith);
  joined = w.joined;
  closed = w.closed;
}

closed_chain : (Beside : ℕ → ℕ → Type 0) (next : ℕ) (marks : List (Option ℕ)) (n a b net : ℕ)
    → AreWhole Beside next marks → Chain Beside n a b → mark_of marks a ≡ Some net → mark_of marks b ≡ Some net
closed_chain Beside next marks zero a b net w e m = ap (mark_of marks) (sym e) ∙ m
closed_chain Beside next marks (suc n) a b net w (c, s, ch) m =
    closed_chain Beside next marks n c b net w ch (w.closed a c net m s)

-- what a part with a net reaches has the same one
pub whole_reaches : (Beside : ℕ → ℕ → Type 0) (next : ℕ) (marks : List (Option ℕ)) (a b net : ℕ)
    → AreWhole Beside next marks → Reaches Beside a b → mark_of marks a ≡ Some net → mark_of marks b ≡ Some net
whole_reaches Beside next marks a b net w r m = closed_chain Beside next marks r.0 a b net w r.1 m
