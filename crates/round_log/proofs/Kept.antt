-- A part of a log that keeps what its chains reach tells alike, and is a log of looks too.
use Rattle.std.proofs.Common.{◌≡◌, ℕ, zero, suc, ◌≤◌, ℤ, ◌≤ℤ◌, ◌<ℤ◌, Bool, true, false, Some, List, [], ◌∷◌, map, inl}
use Rattle.std.proofs.Common.{inr, length, refl, sym, ap, subst, ◌∙◌, arith}
use Rattle.std.proofs.lemmas.{Int.ints, Bool.{cases_eq, cond-true, cond-false, cases_Bool}}
use Rattle.cons_graph.specs.declared.edges.Edge.{Edge}
use Rattle.round_log.specs.{declared.log.Entry.Entry, Looks.{label, latest, chain}, Logs.ComeFromOlder, Told.said}
use Rattle.round_log.specs.{Told.{told_by, TellAlike}, Kept.{new_number, renumbered, kept_part, KeepsBack, KeepsChains}}
use Rattle.round_log.proofs.Raises.{IsRaise, IsAtLeast, label-same, label-other, label_grows, latest-same, latest-other}
use Rattle.round_log.proofs.{Raises.latest_in_log, Chains.{chain-newest, chain-older}, Parts.{IsGoodRaise, IsLog}}
use Rattle.round_log.proofs.Alike.{same_label, same_any}

-- ---- numbers

pub number-kept : (keeps : ℕ → Bool) (n : ℕ) → keeps (suc n) ≡ true
    → new_number keeps (suc n) ≡ suc (new_number keeps n)
number-kept keeps n t = cond-true (keeps (suc n)) (suc (new_number keeps n)) (new_number keeps n) t

pub number-left : (keeps : ℕ → Bool) (n : ℕ) → keeps (suc n) ≡ false → new_number keeps (suc n) ≡ new_number keeps n
number-left keeps n f = cond-false (keeps (suc n)) (suc (new_number keeps n)) (new_number keeps n) f

number_next : (keeps : ℕ → Bool) (n : ℕ) → new_number keeps n ≤ new_number keeps (suc n)
number_next keeps n =
    elim (cases_Bool (keeps (suc n))) [
      | inl t ↦ (let e = number-kept keeps n t in omega (arith, e))
      | inr f ↦ (let e = number-left keeps n f in omega (arith, e))
    ]

-- new numbers keep the order
pub number_rises : (keeps : ℕ → Bool) (n m : ℕ) → n ≤ m → new_number keeps n ≤ new_number keeps m
number_rises keeps n zero le =
    (let e : n ≡ 0 = omega arith in let f : new_number keeps n
    ≡ new_number keeps 0 = ap (new_number keeps) e in omega (arith, f))
number_rises keeps n (suc m) le =
    elim (cases_eq n (suc m)) [
      | inl e ↦ (let f : new_number keeps n ≡ new_number keeps (suc m) = ap (new_number keeps) e in omega (arith, f))
      | inr ne ↦
          (let low = number_rises keeps n m (omega arith) in let next = number_next keeps m in
          omega (arith, low, next))
    ]

-- ---- the part

pub part-kept : (keeps : ℕ → Bool) (r : Entry) (rs : List Entry) → keeps (length (r ∷ rs)) ≡ true
    → kept_part keeps (r ∷ rs) ≡ renumbered keeps r ∷ kept_part keeps rs
part-kept keeps r rs t = cond-true (keeps (length (r ∷ rs))) (renumbered keeps r ∷ kept_part keeps rs)
    (kept_part keeps rs) t

pub part-left : (keeps : ℕ → Bool) (r : Entry) (rs : List Entry) → keeps (length (r ∷ rs)) ≡ false
    → kept_part keeps (r ∷ rs) ≡ kept_part keeps rs
part-left keeps r rs f = cond-false (keeps (length (r ∷ rs))) (renumbered keeps r ∷ kept_part keeps rs)
    (kept_part keeps rs) f

-- as many raises as new numbers
pub part_length : (keeps : ℕ → Bool) (rs : List Entry) → length (kept_part keeps rs) ≡ new_number keeps (length rs)
part_length keeps [] = refl
part_length keeps (r ∷ rs) =
    elim (cases_Bool (keeps (length (r ∷ rs)))) [
      | inl t ↦ ap length (part-kept keeps r rs t) ∙ ap suc (part_length keeps rs)
          ∙ sym (number-kept keeps (length rs) t)
      | inr f ↦ ap length (part-left keeps r rs f) ∙ part_length keeps rs ∙ sym (number-left keeps (length rs) f)
    ]

-- the new number of an entry of the log is within the part
in_part : (keeps : ℕ → Bool) (rs : List Entry) (n : ℕ) → n ≤ length rs
    → new_number keeps n ≤ length (kept_part keeps rs)
in_part keeps rs n le =
    (let a = number_rises keeps n (length rs) le in let b = part_length keeps rs in omega (arith, a, b))

pub part_older : (vars : ℕ) (keeps : ℕ → Bool) (rs : List Entry) → ComeFromOlder vars rs
    → ComeFromOlder vars (kept_part keeps rs)
part_older vars keeps [] h = tt
part_older vars keeps (r ∷ rs) h =
    let P : List Entry → Type 0 = λ l. ComeFromOlder vars l in
    let rest : ComeFromOlder vars (kept_part keeps rs) = part_older vars keeps rs h.2 in
    elim (cases_Bool (keeps (length (r ∷ rs)))) as (λ _. ComeFromOlder vars (kept_part keeps (r ∷ rs))) [
      | inl t ↦ subst P (sym (part-kept keeps r rs t)) (h.0, in_part keeps rs r.prev h.1, rest)
      | inr f ↦ subst P (sym (part-left keeps r rs f)) rest
    ]

-- a latest raise that is kept is the latest one of the part
pub part_latest : (keeps : ℕ → Bool) (rs : List Entry) (v : ℕ) → keeps (latest rs v) ≡ true
    → latest (kept_part keeps rs) v ≡ new_number keeps (latest rs v)
part_latest keeps [] v h = refl
part_latest keeps (r ∷ rs) v h =
    elim (cases_eq r.var v) [
      | inl e ↦ (
          let here : latest (r ∷ rs) v ≡ length (r ∷ rs) = latest-same r rs v e in
          let t : keeps (length (r ∷ rs)) ≡ true = sym (ap keeps here) ∙ h in
          ap (λ l. latest l v) (part-kept keeps r rs t) ∙ latest-same (renumbered keeps r) (kept_part keeps rs) v e
          ∙ ap suc (part_length keeps rs) ∙ sym (number-kept keeps (length rs) t)
          ∙ ap (new_number keeps) (sym here))
      | inr n ↦ (
          let there : latest (r ∷ rs) v ≡ latest rs v = latest-other r rs v n in
          let before : latest (kept_part keeps rs) v ≡ new_number keeps (latest (r ∷ rs) v) =
          part_latest keeps rs v (sym (ap keeps there) ∙ h) ∙ ap (new_number keeps) (sym there) in
          elim (cases_Bool (keeps (length (r ∷ rs)))) [
            | inl t ↦ ap (λ l. latest l v) (part-kept keeps r rs t)
                ∙ latest-other (renumbered keeps r) (kept_part keeps rs) v n ∙ before
            | inr f ↦ ap (λ l. latest l v) (part-left keeps r rs f) ∙ before
          ])
    ]

-- the chain of an entry that is kept tells the same
pub part_chain : (vars : ℕ) (keeps : ℕ → Bool) (rs : List Entry) (n : ℕ) → ComeFromOlder vars rs → KeepsBack keeps rs
    → keeps n ≡ true → n ≤ length rs → told_by (kept_part keeps rs) (new_number keeps n) ≡ told_by rs n
part_chain vars keeps [] n o b h le = refl
part_chain vars keeps (r ∷ rs) n o b h le =
    let part : List Entry = kept_part keeps rs in
    elim (cases_eq n (length (r ∷ rs))) [
      | inl e ↦ (
          let t : keeps (length (r ∷ rs)) ≡ true = sym (ap keeps e) ∙ h in
          let newest : new_number keeps n ≡ length (renumbered keeps r ∷ part) = ap (new_number keeps) e
          ∙ number-kept keeps (length rs) t ∙ ap suc (sym (part_length keeps rs)) in
          ap (λ l. told_by l (new_number keeps n)) (part-kept keeps r rs t)
          ∙ ap (map said) (chain-newest (renumbered keeps r) part (new_number keeps n) newest)
          ∙ ap (λ l. said r ∷ l) (part_chain vars keeps rs r.prev o.2 b.1 (b.0 t) o.1)
          ∙ sym (ap (map said) (chain-newest r rs n e)))
      | inr ne ↦ (
          let low : n ≤ length rs = omega arith in
          let before : told_by part (new_number keeps n) ≡ told_by (r ∷ rs) n =
          part_chain vars keeps rs n o.2 b.1 h low ∙ sym (ap (map said) (chain-older r rs n low)) in
          elim (cases_Bool (keeps (length (r ∷ rs)))) [
            | inl t ↦ ap (λ l. told_by l (new_number keeps n)) (part-kept keeps r rs t)
                ∙ ap (map said) (chain-older (renumbered keeps r) part (new_number keeps n) (in_part keeps rs n low))
                ∙ before
            | inr f ↦ ap (λ l. told_by l (new_number keeps n)) (part-left keeps r rs f) ∙ before
          ])
    ]

-- what the part tells of a variable whose latest raise is kept
part_tells : (vars : ℕ) (keeps : ℕ → Bool) (rs : List Entry) (v : ℕ) → ComeFromOlder vars rs → KeepsBack keeps rs
    → keeps (latest rs v) ≡ true → told_by (kept_part keeps rs) (latest (kept_part keeps rs) v)
    ≡ told_by rs (latest rs v)
part_tells vars keeps rs v o b h = ap (told_by (kept_part keeps rs)) (part_latest keeps rs v h)
    ∙ part_chain vars keeps rs (latest rs v) o b h (latest_in_log rs v)

pub part_alike : (vars : ℕ) (keeps : ℕ → Bool) (rs : List Entry) → ComeFromOlder vars rs → KeepsChains keeps rs
    → TellAlike (kept_part keeps rs) rs
part_alike vars keeps rs o k v = part_tells vars keeps rs v o k.back (k.latest_kept v)

-- ---- the part is a log of looks

-- a label of the part is at most that of the log
part_low : (edge : ℕ → Edge) (back : ℕ → Bool) (m : ℕ) (keeps : ℕ → Bool) (rs : List Entry) (v : ℕ) (b : ℤ)
    → IsLog edge back m rs → label (kept_part keeps rs) v ≡ Some b → IsAtLeast (label rs v) b
part_low edge back m keeps [] v b l h = record { now = b; is = h; at_least = omega (arith, ints) }
part_low edge back m keeps (r ∷ rs) v b l h =
    let part : List Entry = kept_part keeps rs in
    let L : List Entry → Type 0 = λ x. label x v ≡ Some b in
    elim (cases_Bool (keeps (length (r ∷ rs)))) as (λ _. IsAtLeast (label (r ∷ rs) v) b) [
      | inl t ↦ (
          let h' : label (renumbered keeps r ∷ part) v ≡ Some b = subst L (part-kept keeps r rs t) h in
          elim (cases_eq r.var v) as (λ _. IsAtLeast (label (r ∷ rs) v) b) [
            | inl e ↦ record {
              now = b;
              is = label-same r rs v e ∙ sym (label-same (renumbered keeps r) part v e)
                  ∙ h';
              at_least = omega (arith, ints);
            }
            | inr n ↦ (
                let before = part_low edge back m keeps rs v b l.1
                (sym (label-other (renumbered keeps r) part v n) ∙ h') in
                record { now = before.now; is = label-other r rs v n ∙ before.is; at_least = before.at_least })
          ])
      | inr f ↦ (
          let before = part_low edge back m keeps rs v b l.1 (subst L (part-left keeps r rs f) h) in
          let after = label_grows edge rs r.edge r v before.now l.0.raise before.is in
          record {
            now = after.now;
            is = after.is;
            at_least =
                (let x : b ≤ℤ before.now = before.at_least in let y : before.now ≤ℤ after.now = after.at_least in
                omega (arith, ints));
          })
    ]

part_raise : (vars : ℕ) (edge : ℕ → Edge) (back : ℕ → Bool) (m : ℕ) (keeps : ℕ → Bool) (rs : List Entry) (r : Entry)
    → ComeFromOlder vars rs → KeepsBack keeps rs → keeps r.prev ≡ true → IsLog edge back m rs
    → IsGoodRaise edge back m rs r → IsGoodRaise edge back m (kept_part keeps rs) (renumbered keeps r)
part_raise vars edge back m keeps rs r o b k l g =
    let part : List Entry = kept_part keeps rs in
    let i : IsRaise edge rs r.edge r = g.raise in
    let from : ℕ = (edge r.edge).from in
    let to : ℕ = (edge r.edge).to in
    let at_tail : keeps (latest rs from) ≡ true = ap keeps (sym i.prev_is) ∙ k in
    let tail : told_by part (latest part from) ≡ told_by rs (latest rs from) =
    part_tells vars keeps rs from o b at_tail in
    let prev : new_number keeps r.prev ≡ latest part from = ap (new_number keeps) i.prev_is
    ∙ sym (part_latest keeps rs from at_tail) in
    let after : told_by part (new_number keeps r.prev) ≡ told_by rs r.prev = ap (told_by part) prev ∙ tail
    ∙ ap (told_by rs) (sym i.prev_is) in
    record {
      raise = record {
        var_is = i.var_is;
        edge_is = refl;
        prev_is = prev;
        tail = i.tail;
        tail_is = same_label part rs from tail ∙ i.tail_is;
        value_is = i.value_is;
        higher = λ c e. (
            let low = part_low edge back m keeps rs to c l e in
            let x : c ≤ℤ low.now = low.at_least in
            let y : low.now <ℤ r.value = i.higher low.now low.is in
            let z : c <ℤ r.value = omega (arith, ints) in
            z);
      };
      among = g.among;
      fresh = λ t. same_any (chain part (new_number keeps r.prev)) (chain rs r.prev) r.var after ∙ g.fresh t;
    }

pub part_log : (vars : ℕ) (edge : ℕ → Edge) (back : ℕ → Bool) (m : ℕ) (keeps : ℕ → Bool) (rs : List Entry)
    → ComeFromOlder vars rs → KeepsBack keeps rs → IsLog edge back m rs → IsLog edge back m (kept_part keeps rs)
part_log vars edge back m keeps [] o b l = tt
part_log vars edge back m keeps (r ∷ rs) o b l =
    let P : List Entry → Type 0 = λ x. IsLog edge back m x in
    let rest : IsLog edge back m (kept_part keeps rs) = part_log vars edge back m keeps rs o.2 b.1 l.1 in
    elim (cases_Bool (keeps (length (r ∷ rs)))) as (λ _. IsLog edge back m (kept_part keeps (r ∷ rs))) [
      | inl t ↦ subst P (sym (part-kept keeps r rs t))
          (part_raise vars edge back m keeps rs r o.2 b.1 (b.0 t) l.1 l.0, rest)
      | inr f ↦ subst P (sym (part-left keeps r rs f)) rest
    ]
