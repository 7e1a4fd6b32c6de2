-- What a sweep has added when it comes to the end of a bar.
use Rattle.std.proofs.Common.{◌≡◌, ℕ, ◌<◌, ◌≤◌, ◌+◌, ℤ, ◌<ℤ◌, Bool, List, length, sym, ap, subst, ◌∙◌}
use Rattle.std.proofs.Common.{arith, get_or, inl, inr, ◌⊎◌, eqb, refl}
use Rattle.std.proofs.lemmas.{Bool.{cases_Bool, eqb-true, eqb-false}}
use Rattle.std.specs.List.{Contains}
use Rattle.pair_set.specs.{declared.set.PairSet.PairSet, Sets.{pairs_of, limit_of}}
use Rattle.bar_rows.specs.{declared.bars.Bar.Bar, Rows.{bar_at, Sees, Varies, IsSeen, numbers_of}}
use Rattle.bar_sight.specs.{declared.row.Row.Row, Sight.{IsSameRow, IsSeenFrom, AddsFrom}}
use Rattle.bar_sweep.specs.Sweeps.{AddsSeen, ArePlaces, EndsInTime}
use Rattle.bar_sweep.proofs.Turned.{adds_both}

-- a row of some bars
pub record IsRowOf (self_rule turned : Bool) (bars : List Bar) (row : Row) : Type 0 where
  pub bars_are : row.bars.items ≡ bars
  pub self_rule_is : row.self_rule ≡ self_rule
  pub turned_is : row.turned ≡ turned

pub row_again : (s t : Bool) (bars : List Bar) (a b : Row) → IsRowOf s t bars a → IsSameRow a b → IsRowOf s t bars b
row_again s t bars a b h same =
    record {
      bars_are = rw same.bars h.bars_are;
      self_rule_is = same.self_rule ∙ h.self_rule_is;
      turned_is = same.turned ∙ h.turned_is;
    }

-- a bar's pairs with those farther along are in a set
abbrev pub AllFrom : Bool → Bool → List Bar → ℕ → PairSet → Type 0
AllFrom s t bars p set = (q : ℕ) → Sees s bars p q → Varies bars p q → EndsInTime t (bar_at bars p) (bar_at bars q)
    → Contains (pairs_of set) (numbers_of t bars p q)

-- the pairs of the bars at the first of some places were added to a set
pub record IsSwept (self_rule turned : Bool) (bars : List Bar) (ends : List ℕ) (k : ℕ) (old new : PairSet) : Type 0 where
  pub adds : AddsSeen self_rule turned bars old new
  pub few : length (pairs_of new) ≤ limit_of new
  pub all : (j d : ℕ) → j < k → AllFrom self_rule turned bars (get_or ends j d) new

-- a set to which nothing was added
pub adds_none : (s t : Bool) (bars : List Bar) (set : PairSet) → AddsSeen s t bars set set
adds_none s t bars set = record { limit = refl; kept = λ pair there. there; added = λ pair there. inl there }

pub swept_none : (s t : Bool) (bars : List Bar) (ends : List ℕ) (set : PairSet) → length (pairs_of set) ≤ limit_of set
    → IsSwept s t bars ends 0 set set
swept_none s t bars ends set few =
    record { adds = adds_none s t bars set; few = few; all = λ j d below. absurd (omega (arith, below)) }

-- what a look from a bar adds
seen_from : (s t : Bool) (bars : List Bar) (row : Row) (place : ℕ) (pair : ℕ × ℕ) → IsRowOf s t bars row
    → IsSeenFrom row place pair → IsSeen s t bars pair
seen_from s t bars row place pair h f =
    record {
      first = place;
      second = f.far;
      sees = rw (sym h.bars_are, sym h.self_rule_is) f.sees;
      varies = rw (sym h.bars_are) f.varies;
      numbers = rw (sym h.bars_are, sym h.turned_is) f.numbers;
    }

pub adds_from : (s t : Bool) (bars : List Bar) (row : Row) (place : ℕ) (old new : PairSet) → IsRowOf s t bars row
    → AddsFrom row place old new → AddsSeen s t bars old new
adds_from s t bars row place old new h f =
    record {
      limit = f.limit;
      kept = f.kept;
      added = λ pair there. elim (f.added pair there) as (λ _. Contains (pairs_of old) pair ⊎ IsSeen s t bars pair) [
        | inl k ↦ inl k
        | inr k ↦ inr (seen_from s t bars row place pair h k)
      ];
    }

-- the bars that end behind a place are those that a look comes to
pub all_from : (s t : Bool) (bars : List Bar) (row : Row) (place : ℕ) (now above : ℤ) (new : PairSet)
    → IsRowOf s t bars row → now ≡ (bar_at bars place).end
    → ((a b : Bar) → a.end ≡ now → EndsInTime t a b → above <ℤ b.end)
    → ((q : ℕ) → Sees row.self_rule row.bars.items place q → Varies row.bars.items place q
    → above <ℤ (bar_at row.bars.items q).end
    → Contains (pairs_of new) (numbers_of row.turned row.bars.items place q))
    → AllFrom s t bars place new
all_from s t bars row place now above new h at late found q sees varies in_time =
    rw (sym h.bars_are, sym h.turned_is)
    (found q (rw (h.bars_are, h.self_rule_is) sees) (rw h.bars_are varies)
    (rw h.bars_are (late (bar_at bars place) (bar_at bars q) (sym at) in_time)))

-- one bar more
all_more : (s t : Bool) (bars : List Bar) (ends : List ℕ) (k place : ℕ) (old mid new : PairSet)
    → IsSwept s t bars ends k old mid → AddsSeen s t bars mid new → ((d : ℕ) → get_or ends k d ≡ place)
    → AllFrom s t bars place new → (j d : ℕ) → j < k + 1 → AllFrom s t bars (get_or ends j d) new
all_more s t bars ends k place old mid new h adds at here j d below =
    elim (cases_Bool (eqb j k)) as (λ _. AllFrom s t bars (get_or ends j d) new) [
      | inl is ↦ rw (ap (λ i. get_or ends i d) (eqb-true j k is) ∙ at d) here
      | inr not ↦ (let ne = eqb-false j k not in λ q sees varies in_time.
          adds.kept (numbers_of t bars (get_or ends j d) q)
          (h.all j d (omega (arith, ne, below)) q sees varies in_time))
    ]

pub swept_more : (s t : Bool) (bars : List Bar) (ends : List ℕ) (k place : ℕ) (old mid new : PairSet)
    → IsSwept s t bars ends k old mid → AddsSeen s t bars mid new → length (pairs_of new) ≤ limit_of new
    → ((d : ℕ) → get_or ends k d ≡ place) → AllFrom s t bars place new → IsSwept s t bars ends (k + 1) old new
swept_more s t bars ends k place old mid new h adds few at here =
    record {
      adds = adds_both s t bars old mid new h.adds adds;
      few = few;
      all = all_more s t bars ends k place old mid new h adds at here;
    }

-- when it came to all
pub swept_all : (s t : Bool) (bars : List Bar) (ends : List ℕ) (k : ℕ) (old new : PairSet)
    → ArePlaces (length bars) ends → IsSwept s t bars ends k old new → length ends ≤ k → (p q : ℕ) → Sees s bars p q
    → Varies bars p q → EndsInTime t (bar_at bars p) (bar_at bars q)
    → Contains (pairs_of new) (numbers_of t bars p q)
swept_all s t bars ends k old new are h full p q sees =
    let order = sees.in_order in
    let among = sees.among in
    let at = are.each p (omega (arith, order, among)) in
    let j : ℕ = at.0 in
    let below = at.1 in
    subst (λ i. AllFrom s t bars i new) at.2 (h.all j p (omega (arith, full, below))) q sees
