-- Bars that have started, in order of where they start.
use Rattle.std.proofs.Common.{◌≡◌, ℕ, ◌<◌, ◌≤◌, ◌+◌, ℤ, pos, ◌≤ℤ◌, List, length, sym, ap, subst, ◌∙◌}
use Rattle.std.proofs.Common.{arith, get_or, inl, inr, eqb}
use Rattle.std.proofs.lemmas.{Bool.{cases_Bool, cases_lt, eqb-true, eqb-false}}
use Rattle.std.proofs.lemmas.{List.{get_or-map, get_or_read, get_or_default}, Int.ints}
use Rattle.bar_rows.specs.{declared.bars.Bar.Bar, Rows.{bar_at, no_bar}}
use Rattle.bar_sight.specs.{declared.row.Row.Row, Sight.{IsRow, HasBegun, AllBegun, IsSameRow}}
use Rattle.bar_sweep.specs.Sweeps.{AreStarts, HaveBegun, start_at}

int_refl : (a : ℤ) → a ≤ℤ a
int_refl a = omega (arith, ints)

int_both : (a b c d : ℤ) → a ≡ c → b ≡ d → a ≤ℤ b → c ≤ℤ d
int_both a b c d e f h = omega (arith, ints, e, f, h)

-- where a bar starts
start_is : (bars : List Bar) (p : ℕ) → p < length bars → start_at bars p ≡ (bar_at bars p).start
start_is bars p lt = get_or-map (λ (b : Bar). b.start) bars p no_bar (pos 0) lt

-- a place of the order lies in the row
pub start_among : (bars : List Bar) (starts : List ℕ) (k d : ℕ) → AreStarts bars starts → k < length starts
    → get_or starts k d < length bars
start_among bars starts k d are lt = are.places.in_range k d lt

pub same_again : (a b c : Row) → IsSameRow a b → IsSameRow b c → IsSameRow a c
same_again a b c h k =
    record {
      bars = k.bars ∙ h.bars;
      lasts = k.lasts ∙ h.lasts;
      self_rule = k.self_rule ∙ h.self_rule;
      turned = k.turned ∙ h.turned;
    }

-- one bar more
begun_at : (old new : Row) (starts : List ℕ) (k place : ℕ) → HaveBegun old starts k
    → ((d : ℕ) → place ≡ get_or starts k d) → HasBegun new place → ((p : ℕ) → HasBegun old p → HasBegun new p)
    → (j d : ℕ) → j < k + 1 → HasBegun new (get_or starts j d)
begun_at old new starts k place h is now kept j d below =
    elim (cases_Bool (eqb j k)) as (λ _. HasBegun new (get_or starts j d)) [
      | inl at ↦ subst (HasBegun new) (is d ∙ ap (λ i. get_or starts i d) (sym (eqb-true j k at))) now
      | inr not ↦ (let ne = eqb-false j k not in kept (get_or starts j d) (h.begun j d (omega (arith, ne, below))))
    ]

pub begun_more : (old new : Row) (starts : List ℕ) (k : ℕ) → HaveBegun old starts k → k < length starts → IsRow new
    → HasBegun new (get_or starts k 0) → ((p : ℕ) → HasBegun old p → HasBegun new p) → HaveBegun new starts (k + 1)
begun_more old new starts k h lt row now kept =
    record {
      is_row = row;
      among = omega (arith, lt);
      begun = begun_at old new starts k (get_or starts k 0) h (λ d. get_or_default starts k 0 d lt) now kept;
    }

-- a bar at a later place starts no earlier
starts_later : (bars : List Bar) (starts : List ℕ) (next k p : ℕ) → AreStarts bars starts → next ≤ k
    → k < length starts → get_or starts k p ≡ p → p < length bars
    → (bar_at bars (get_or starts next p)).start ≤ℤ (bar_at bars p).start
starts_later bars starts next k p are after lt at in' =
    elim (cases_Bool (eqb next k)) as (λ _. (bar_at bars (get_or starts next p)).start ≤ℤ (bar_at bars p).start) [
      | inl same ↦ (let is = eqb-true next k same in
          let e : get_or starts next p ≡ p = ap (λ i. get_or starts i p) is ∙ at in
          rw e (int_refl (bar_at bars p).start))
      | inr not ↦ (let ne = eqb-false next k not in
          let first : start_at bars (get_or starts next p) ≡ (bar_at bars (get_or starts next p)).start =
          start_is bars (get_or starts next p) (start_among bars starts next p are (omega (arith, after, lt))) in
          let second : start_at bars (get_or starts k p) ≡ (bar_at bars p).start =
          ap (start_at bars) at ∙ start_is bars p in' in
          let order : start_at bars (get_or starts next p) ≤ℤ start_at bars (get_or starts k p) =
          are.in_order next k p (omega (arith, ne, after)) lt in
          int_both _ _ _ _ first second order)
    ]

-- all bars that start before a place are among those at the first places, since the next one starts no earlier
pub all_begun : (row : Row) (starts : List ℕ) (next : ℕ) (now : ℤ) → AreStarts row.bars.items starts
    → HaveBegun row starts next
    → ((d : ℕ) → next < length starts → now ≤ℤ (bar_at row.bars.items (get_or starts next d)).start)
    → AllBegun row now
all_begun row starts next now are h late p lt early =
    let at = are.places.each p lt in
    let k : ℕ = at.0 in
    elim (cases_lt k next) as (λ _. HasBegun row p) [
      | inl before ↦ subst (HasBegun row) at.2 (h.begun k p before)
      | inr after ↦ (let below = at.1 in
          let first = late p (omega (arith, after, below)) in
          let second = starts_later row.bars.items starts next k p are after below at.2 lt in
          absurd (omega (arith, ints, first, second, early)))
    ]

-- where the next one starts no earlier
pub next_is_late : (row : Row) (starts : List ℕ) (next : ℕ) (now : ℤ) (bar : Bar) → AreStarts row.bars.items starts
    → bar ≡ get_or row.bars.items (get_or starts next 0) bar → now ≤ℤ bar.start → (d : ℕ) → next < length starts
    → now ≤ℤ (bar_at row.bars.items (get_or starts next d)).start
next_is_late row starts next now bar are at late d lt =
    let place : ℕ = get_or starts next 0 in
    let b : bar ≡ bar_at row.bars.items place =
    get_or_read row.bars.items place bar (start_among row.bars.items starts next 0 are lt) at no_bar in
    rw (get_or_default starts next d 0 lt, sym b) late

-- the order of the starts is that of a row with the same bars
pub starts_again : (a b : Row) (starts : List ℕ) → IsSameRow a b → AreStarts a.bars.items starts
    → AreStarts b.bars.items starts
starts_again a b starts same are = rw same.bars are
