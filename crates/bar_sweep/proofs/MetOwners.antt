-- What is met of owners, from the end of a row.
use Rattle.std.proofs.Common.{◌≡◌, ◌≢◌, ℕ, ◌<◌, ◌≤◌, ◌+◌, Bool, true, false, IsTrue, List, length, sym, ap, subst}
use Rattle.std.proofs.Common.{◌∙◌, refl}
use Rattle.std.proofs.Common.{arith, set, inl, inr, eqb}
use Rattle.std.proofs.lemmas.{Bool.{cases_Bool, eqb-true, eqb-false}, List.{length-set, get_or-set_other}}
use Rattle.std.proofs.lemmas.{Grind.get_or-set_at}
use Rattle.std.specs.List.{All}
use Rattle.bar_rows.specs.{declared.bars.Bar.Bar, Rows.{bar_at, no_bar}}
use Rattle.bar_sight.specs.{declared.row.Last.Last, Sight.{last_at, no_last, IsLast}}
use Rattle.bar_sweep.specs.Sweeps.{with_met}

-- a bar is met of its owner
pub record IsMet (b : Bar) (met : Last) : Type 0 where
  pub main : IsTrue b.is_main → met.of_mains ≡ false
  pub other : b.is_main ≡ false → met.of_others ≡ false

-- the bars from a place on are met, and are known for lasts or not
pub record MetFrom (bars : List Bar) (met lasts : List Last) (place : ℕ) : Type 0 where
  pub owners : All (λ b. b.owner < length met) bars
  pub one_each : length lasts ≡ length bars
  pub are_met : (q : ℕ) → place ≤ q → q < length bars → IsMet (bar_at bars q) (last_at met (bar_at bars q).owner)
  pub each : (p : ℕ) → place ≤ p → p < length bars → IsLast bars (last_at lasts p) p

both_ways : (b : Bool) → b ≡ true → b ≡ false → ⊥
both_ways b t f = let e : true ≡ false = sym t ∙ f in absurd (cc)

met_now : (b : Bar) (m : Last) (t : Bool) → b.is_main ≡ t → IsMet b (with_met m t)
met_now b m true e = record { main = λ _. refl; other = λ f. absurd (both_ways b.is_main e f) }
met_now b m false e = record { main = λ t. absurd (both_ways b.is_main t e); other = λ _. refl }

met_still : (b : Bar) (m : Last) (t : Bool) → IsMet b m → IsMet b (with_met m t)
met_still b m true h = record { main = λ _. refl; other = h.other }
met_still b m false h = record { main = h.main; other = λ _. refl }

last_here : (bars : List Bar) (met lasts : List Last) (place next : ℕ) → place + 1 ≡ next
    → MetFrom bars met lasts next → IsLast bars (last_at met (bar_at bars place).owner) place
last_here bars met lasts place next e h =
    record {
      of_mains = λ t q after lt main same. both_ways (last_at met (bar_at bars place).owner).of_mains t
          (ap (λ k. (last_at met k).of_mains) (sym same) ∙ (h.are_met q (omega (arith, e, after)) lt).main main);
      of_others = λ t q after lt other same. both_ways (last_at met (bar_at bars place).owner).of_others t
          (ap (λ k. (last_at met k).of_others) (sym same) ∙ (h.are_met q (omega (arith, e, after)) lt).other other);
    }

-- the bars met, with one more
after_met : (met : List Last) (owner : ℕ) (t : Bool) → owner < length met → (b : Bar)
    → (b.owner ≢ owner → IsMet b (last_at met b.owner)) → (b.owner ≡ owner → IsMet b (with_met (last_at met owner) t))
    → IsMet b (last_at (set met owner (with_met (last_at met owner) t)) b.owner)
after_met met owner t lt b else' same =
    let m = with_met (last_at met owner) t in
    elim (cases_Bool (eqb b.owner owner)) as (λ _. IsMet b (last_at (set met owner m) b.owner)) [
      | inl e ↦ (let is = eqb-true b.owner owner e in rw (get_or-set_at met owner b.owner m no_last is lt) (same is))
      | inr e ↦ (let not = eqb-false b.owner owner e in
          rw (get_or-set_other met owner b.owner m no_last not) (else' not))
    ]

met_again : (bars : List Bar) (met lasts : List Last) (place next : ℕ) → place + 1 ≡ next
    → MetFrom bars met lasts next → (q : ℕ) → next ≤ q → q < length bars → (t : Bool) (owner : ℕ)
    → (bar_at bars q).owner ≡ owner → IsMet (bar_at bars q) (with_met (last_at met owner) t)
met_again bars met lasts place next e h q after lt t owner same =
    met_still (bar_at bars q) (last_at met owner) t
    (subst (λ k. IsMet (bar_at bars q) (last_at met k)) same (h.are_met q after lt))

met_each : (bars : List Bar) (met lasts : List Last) (place next : ℕ) → place + 1 ≡ next
    → MetFrom bars met lasts next → place < length bars → (q : ℕ) → place ≤ q → q < length bars
    → (bar_at bars q).owner ≡ (bar_at bars place).owner
    → IsMet (bar_at bars q) (with_met (last_at met (bar_at bars place).owner) (bar_at bars place).is_main)
met_each bars met lasts place next e h in' q after lt same =
    let b = bar_at bars place in
    let m = with_met (last_at met b.owner) b.is_main in
    elim (cases_Bool (eqb q place)) as (λ _. IsMet (bar_at bars q) m) [
      | inl at ↦ subst (λ k. IsMet (bar_at bars k) m) (sym (eqb-true q place at))
          (met_now b (last_at met b.owner) b.is_main refl)
      | inr not ↦ (let ne = eqb-false q place not in
          met_again bars met lasts place next e h q (omega (arith, e, ne, after)) lt b.is_main b.owner same)
    ]

last_each : (bars : List Bar) (met lasts : List Last) (place next : ℕ) → place + 1 ≡ next
    → MetFrom bars met lasts next → place < length bars → (p : ℕ) → place ≤ p → p < length bars
    → IsLast bars (last_at (set lasts place (last_at met (bar_at bars place).owner)) p) p
last_each bars met lasts place next e h in' p after lt =
    let m = last_at met (bar_at bars place).owner in
    let long = h.one_each in
    elim (cases_Bool (eqb p place)) as (λ _. IsLast bars (last_at (set lasts place m) p) p) [
      | inl at ↦ (let is = eqb-true p place at in
          rw (get_or-set_at lasts place p m no_last is (omega (arith, in', long)))
          (subst (IsLast bars m) (sym is) (last_here bars met lasts place next e h)))
      | inr not ↦ (let ne = eqb-false p place not in
          rw (get_or-set_other lasts place p m no_last ne) (h.each p (omega (arith, e, ne, after)) lt))
    ]

pub met_more : (bars : List Bar) (met lasts : List Last) (place next : ℕ) → place + 1 ≡ next → place < length bars
    → MetFrom bars met lasts next → (last : Last) (met' lasts' : List Last)
    → last ≡ last_at met (bar_at bars place).owner → lasts' ≡ set lasts place last
    → met' ≡ set met (bar_at bars place).owner (with_met last (bar_at bars place).is_main)
    → MetFrom bars met' lasts' place
met_more bars met lasts place next e in' h last met' lasts' is now_lasts now_met =
    let b = bar_at bars place in
    let m = last_at met b.owner in
    let to_lasts : lasts' ≡ set lasts place m = now_lasts ∙ ap (set lasts place) is in
    let to_met : met' ≡ set met b.owner (with_met m b.is_main) =
    now_met ∙ ap (λ l. set met b.owner (with_met l b.is_main)) is in
    let long = length-set met b.owner (with_met m b.is_main) in
    let few = length-set lasts place m in
    let all = h.owners in
    rw (to_lasts, to_met)
    (record {
      owners = λ k d lt. (let o = all k d lt in omega (arith, o, long));
      one_each = few ∙ h.one_each;
      are_met = λ q after lt.
          after_met met b.owner b.is_main (all place no_bar in') (bar_at bars q)
          (λ ne. h.are_met q
          (elim (cases_Bool (eqb q place)) as (λ _. next ≤ q) [
            | inl at ↦ absurd (ne (ap (λ k. (bar_at bars k).owner) (eqb-true q place at)))
            | inr not ↦ (let other = eqb-false q place not in omega (arith, e, other, after))
          ])
          lt) (met_each bars met lasts place next e h in' q after lt);
      each = last_each bars met lasts place next e h in';
    })
