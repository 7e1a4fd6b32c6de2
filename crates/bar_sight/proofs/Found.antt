-- The pairs that a look has found so far.
use Rattle.std.proofs.Common.{◌≡◌, ℕ, ◌<◌, ◌+◌, ◌<ℤ◌, ℤ, Bool, false, IsTrue, inl, inr, arith, refl, sym, ◌∙◌, subst}
use Rattle.std.proofs.{Common.{Result, Ok, Err, OnOk}, lemmas.Bool.{cases_lt, cases_Bool}}
use Rattle.std.specs.{List.Contains, Prelude.◌⊎◌}
use Rattle.pair_set.specs.{declared.set.PairSet.PairSet, Sets.{pairs_of, limit_of}}
use Rattle.bar_rows.specs.{Rows.{bar_at, Sees, Varies, numbers_of}}
use Rattle.bar_sight.specs.{declared.{row.Row.Row}, Sight.{AddsFrom, IsSeenFrom}}
use Rattle.bar_sight.specs.Looks.{IsSought, HasFound}

pub adds_none : (row : Row) (place : ℕ) (found : PairSet) → AddsFrom row place found found
adds_none row place found = record { limit = refl; kept = λ pair h. h; added = λ pair h. inl h }

pub adds_more : (row : Row) (place : ℕ) (a b c : PairSet) → AddsFrom row place a b → AddsFrom row place b c
    → AddsFrom row place a c
adds_more row place a b c first second =
    record {
      limit = second.limit ∙ first.limit;
      kept = λ pair h. second.kept pair (first.kept pair h);
      added = λ pair h. elim (second.added pair h) as (λ _. Contains (pairs_of a) pair ⊎ IsSeenFrom row place pair)
          [ inl old ↦ first.added pair old | inr seen ↦ inr seen ];
    }

-- one place more, where what is sought before it is out of sight
pub found_more : (row : Row) (place : ℕ) (above : ℤ) (from p : ℕ) (is_main : Bool) (old new : PairSet)
    → AddsFrom row place old new
    → ((q : ℕ) → IsSought row place above from is_main q → q < p → ⊥)
    → (IsSought row place above 0 is_main p → Varies row.bars.items place p
    → Contains (pairs_of new) (numbers_of row.turned row.bars.items place p))
    → HasFound row place above from is_main old → HasFound row place above (p + 1) is_main new
found_more row place above from p is_main old new adds none here h = λ q s before varies.
    elim (cases_lt q from) as (λ _. Contains (pairs_of new) (numbers_of row.turned row.bars.items place q)) [
      | inl early ↦ adds.kept (numbers_of row.turned row.bars.items place q) (h q s early varies)
      | inr late ↦ elim (cases_lt q p)
          as (λ _. Contains (pairs_of new) (numbers_of row.turned row.bars.items place q)) [
            | inl between ↦
                absurd (none q (record { after = late; kind = s.kind; sees = s.sees; ends = s.ends }) between)
            | inr behind ↦
                let same : p ≡ q = omega (arith, before, behind) in
                subst (λ n. Contains (pairs_of new) (numbers_of row.turned row.bars.items place n)) same
                (here (subst (λ n. IsSought row place above 0 is_main n) (sym same) s)
                (subst (λ n. Varies row.bars.items place n) (sym same) varies))
          ]
    ]

-- all, where none is sought from some place on
pub all_found : (row : Row) (place : ℕ) (above : ℤ) (from : ℕ) (is_main : Bool) (found : PairSet)
    → HasFound row place above from is_main found → ((q : ℕ) → IsSought row place above from is_main q → ⊥)
    → (q : ℕ) → (bar_at row.bars.items q).is_main ≡ is_main → Sees row.self_rule row.bars.items place q
    → Varies row.bars.items place q → above <ℤ (bar_at row.bars.items q).end
    → Contains (pairs_of found) (numbers_of row.turned row.bars.items place q)
all_found row place above from is_main found h none q kind sees varies ends =
    elim (cases_lt q from) as (λ _. Contains (pairs_of found) (numbers_of row.turned row.bars.items place q)) [
      | inl early ↦ h q (record { after = omega arith; kind = kind; sees = sees; ends = ends }) early varies
      | inr late ↦ absurd (none q (record { after = late; kind = kind; sees = sees; ends = ends }))
    ]

-- at the first place nothing has been sought
pub none_found : (row : Row) (place : ℕ) (above : ℤ) (is_main : Bool) (found : PairSet)
    → HasFound row place above (place + 1) is_main found
none_found row place above is_main found = λ q s before varies.
    let order = s.sees.in_order in
    absurd (omega (arith, before, order))

pub adds_one : (row : Row) (place far : ℕ) (old new : PairSet) → limit_of new ≡ limit_of old
    → ((p : ℕ × ℕ) → Contains (pairs_of old) p → Contains (pairs_of new) p)
    → Sees row.self_rule row.bars.items place far → Varies row.bars.items place far
    → ((p : ℕ × ℕ) → Contains (pairs_of new) p
    → Contains (pairs_of old) p ⊎ (p ≡ numbers_of row.turned row.bars.items place far))
    → AddsFrom row place old new
adds_one row place far old new limit kept sees varies others =
    record {
      limit = limit;
      kept = kept;
      added = λ p h. elim (others p h) as (λ _. Contains (pairs_of old) p ⊎ IsSeenFrom row place p) [
        | inl there ↦ inl there
        | inr is ↦ inr (record { far = far; sees = sees; varies = varies; numbers = sym is })
      ];
    }

pub on_ok : {X Y : Type 0} (r : Result X Y) (P Q : Type 0) → (P → Q) → OnOk r P → OnOk r Q
on_ok (Ok x) P Q f h = f h
on_ok (Err e) P Q f h = h

-- all bars that are seen, main ones and others
pub all_seen : (row : Row) (place : ℕ) (above : ℤ) (mains all : PairSet) → AddsFrom row place mains all
    → ((q : ℕ) → IsTrue (bar_at row.bars.items q).is_main → Sees row.self_rule row.bars.items place q
    → Varies row.bars.items place q → above <ℤ (bar_at row.bars.items q).end
    → Contains (pairs_of mains) (numbers_of row.turned row.bars.items place q))
    → ((q : ℕ) → (bar_at row.bars.items q).is_main ≡ false → Sees row.self_rule row.bars.items place q
    → Varies row.bars.items place q → above <ℤ (bar_at row.bars.items q).end
    → Contains (pairs_of all) (numbers_of row.turned row.bars.items place q))
    → (q : ℕ) → Sees row.self_rule row.bars.items place q
    → Varies row.bars.items place q → above <ℤ (bar_at row.bars.items q).end
    → Contains (pairs_of all) (numbers_of row.turned row.bars.items place q)
all_seen row place above mains all adds first second q sees varies ends =
    elim (cases_Bool (bar_at row.bars.items q).is_main)
    as (λ _. Contains (pairs_of all) (numbers_of row.turned row.bars.items place q)) [
      | inl main ↦ adds.kept (numbers_of row.turned row.bars.items place q) (first q main sees varies ends)
      | inr other ↦ second q other sees varies ends
    ]
