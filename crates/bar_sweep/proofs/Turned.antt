-- Rows turned round.
use Rattle.std.proofs.Common.{◌≡◌, ℕ, ◌<◌, ◌+◌, ◌-◌, ◌<ℤ◌, Bool, true, false, List, length, reverse, sym, ap, subst}
use Rattle.std.proofs.Common.{◌∙◌}
use Rattle.std.proofs.Common.{arith, inl, inr, ◌⊎◌}
use Rattle.std.proofs.lemmas.List.{get_or-map, get_or-reverse, length-map, length-reverse}
use Rattle.std.specs.List.{All}
use Rattle.bar_rows.specs.{declared.bars.Bar.Bar, Facing.{KindsBind, Faces, Screens}}
use Rattle.bar_rows.specs.Rows.{bar_at, no_bar, Sees, Varies, IsSeen, numbers_of, IsPlacedBar}
use Rattle.bar_rows.proofs.Sharing.{share_turned}
use Rattle.std.proofs.Common.{ℤ, ◌≤ℤ◌}
use Rattle.std.proofs.lemmas.{Int.by_lt_z, List.Elements.All-from_get_or}
use Rattle.std.specs.List.{Contains}
use Rattle.pair_set.specs.{declared.set.PairSet.PairSet, Sets.pairs_of}
use Rattle.bar_sweep.specs.Sweeps.{turned_bar, turned_row, EndsInTime, AddsSeen}

le_or_lt : (a b : ℤ) → (a ≤ℤ b) ⊎ (b <ℤ a)
le_or_lt a b = by_lt_z b a (λ h. inr h) (λ h. inl h)

kinds_turned : (s m n : Bool) (a b : Bar) → KindsBind s m n a b → KindsBind s n m (turned_bar b) (turned_bar a)
kinds_turned s true true a b h = (h.0, λ e. h.1 (sym e))
kinds_turned s true false a b h = λ k. h (share_turned b.contacts a.contacts k)
kinds_turned s false true a b h = λ k. h (share_turned b.contacts a.contacts k)
kinds_turned s false false a b h = h

faces_turned : (s : Bool) (a b : Bar) → Faces s a b → Faces s (turned_bar b) (turned_bar a)
faces_turned s a b h =
    record {
      meet = (h.meet.1, h.meet.0);
      bound = record { owners = λ e. h.bound.owners (sym e); kinds = kinds_turned s a.is_main b.is_main a b h.bound.kinds };
    }

screens_turned : (s : Bool) (a b k : Bar) → Screens s a b k → Screens s (turned_bar b) (turned_bar a) (turned_bar k)
screens_turned s a b k h =
    record { solid = h.solid; first = faces_turned s k b h.second; second = faces_turned s a k h.first }

-- one row is the other turned round
pub record IsTurned (xs ys : List Bar) : Type 0 where
  pub one_each : length ys ≡ length xs
  pub each : (p q : ℕ) → p + q + 1 ≡ length xs → bar_at ys p ≡ turned_bar (bar_at xs q)

pub turned_back : (xs ys : List Bar) → IsTurned xs ys → IsTurned ys xs
turned_back xs ys h =
    record {
      one_each = sym h.one_each;
      each = λ p q e.
          (let len = h.one_each in
          let m : q + p + 1 ≡ length xs = omega (arith, e, len) in
          sym (ap turned_bar (h.each q p m)));
    }

pub row_turned : (bars : List Bar) → IsTurned bars (turned_row bars)
row_turned bars =
    record {
      one_each = length-map (reverse bars) turned_bar ∙ length-reverse bars;
      each = λ p q e.
          (let lt : p < length bars = omega (arith, e) in
          let in' : p < length (reverse bars) = (let len = length-reverse bars in omega (arith, lt, len)) in
          let at : length bars - 1 - p ≡ q = omega (arith, e) in
          get_or-map turned_bar (reverse bars) p no_bar no_bar in'
          ∙ ap turned_bar (get_or-reverse bars p no_bar lt ∙ ap (bar_at bars) at));
    }

pub sees_turned : (s : Bool) (xs ys : List Bar) → IsTurned xs ys → (p q p' q' : ℕ) → p' + p + 1 ≡ length xs
    → q' + q + 1 ≡ length xs → Sees s xs p q → Sees s ys q' p'
sees_turned s xs ys h p q p' q' ep eq sees =
    let len = h.one_each in
    let first = h.each q' q eq in
    let second = h.each p' p ep in
    let order = sees.in_order in
    let among = sees.among in
    record {
      in_order = omega (arith, ep, eq, order, among);
      among = omega (arith, ep, eq, order, among, len);
      faces = rw (first, second) (faces_turned s (bar_at xs p) (bar_at xs q) sees.faces);
      clear = λ k after before screens.
          (let j : ℕ = length xs - 1 - k in
          let ek : k + j + 1 ≡ length xs = omega (arith, ep, eq, order, among, after, before) in
          let between = h.each k j ek in
          sees.clear j (omega (arith, ep, eq, order, among, after, before)) (omega (arith, ep, eq, order, among, after, before))
          (screens_turned s (turned_bar (bar_at xs q)) (turned_bar (bar_at xs p)) (turned_bar (bar_at xs j))
          (rw (sym first, sym second, sym between) screens)));
    }

pub varies_turned : (xs ys : List Bar) → IsTurned xs ys → (p q p' q' : ℕ) → p' + p + 1 ≡ length xs
    → q' + q + 1 ≡ length xs → Varies xs p q → Varies ys q' p'
varies_turned xs ys h p q p' q' ep eq varies =
    λ e. varies (sym (sym (ap (λ (b : Bar). b.high) (h.each q' q eq)) ∙ e ∙ ap (λ (b : Bar). b.low) (h.each p' p ep)))

pub numbers_turned : (xs ys : List Bar) → IsTurned xs ys → (p q p' q' : ℕ) → p' + p + 1 ≡ length xs
    → q' + q + 1 ≡ length xs → numbers_of true ys q' p' ≡ numbers_of false xs p q
numbers_turned xs ys h p q p' q' ep eq =
    ap (λ (b : Bar). (b.item, (bar_at ys p').item)) (h.each q' q eq)
    ∙ ap (λ (b : Bar). ((bar_at xs q).item, b.item)) (h.each p' p ep)

-- what the sweep over a row that is turned round sees, is seen in the row
pub seen_turned : (s : Bool) (xs ys : List Bar) → IsTurned xs ys → (pair : ℕ × ℕ) → IsSeen s true ys pair
    → IsSeen s false xs pair
seen_turned s xs ys h pair seen =
    let p = seen.first in
    let q = seen.second in
    let len = h.one_each in
    let order = seen.sees.in_order in
    let among = seen.sees.among in
    let p' : ℕ = length xs - 1 - p in
    let q' : ℕ = length xs - 1 - q in
    let back = turned_back xs ys h in
    let ep : p' + p + 1 ≡ length ys = omega (arith, len, order, among) in
    let eq : q' + q + 1 ≡ length ys = omega (arith, len, order, among) in
    let fp : p + p' + 1 ≡ length xs = omega (arith, len, order, among) in
    let fq : q + q' + 1 ≡ length xs = omega (arith, len, order, among) in
    record {
      first = q';
      second = p';
      sees = sees_turned s ys xs back p q p' q' ep eq seen.sees;
      varies = varies_turned ys xs back p q p' q' ep eq seen.varies;
      numbers = sym (numbers_turned xs ys h q' p' q p fq fp) ∙ seen.numbers;
    }

pub adds_turned : (s : Bool) (xs ys : List Bar) → IsTurned xs ys → (old new : PairSet) → AddsSeen s true ys old new
    → AddsSeen s false xs old new
adds_turned s xs ys h old new adds =
    record {
      limit = adds.limit;
      kept = adds.kept;
      added = λ pair there. elim (adds.added pair there) as (λ _. Contains (pairs_of old) pair ⊎ IsSeen s false xs pair) [
        | inl k ↦ inl k
        | inr k ↦ inr (seen_turned s xs ys h pair k)
      ];
    }

pub adds_both : (s t : Bool) (xs : List Bar) (old mid new : PairSet) → AddsSeen s t xs old mid
    → AddsSeen s t xs mid new → AddsSeen s t xs old new
adds_both s t xs old mid new a b =
    record {
      limit = b.limit ∙ a.limit;
      kept = λ pair there. b.kept pair (a.kept pair there);
      added = λ pair there. elim (b.added pair there) as (λ _. Contains (pairs_of old) pair ⊎ IsSeen s t xs pair) [
        | inl k ↦ a.added pair k
        | inr k ↦ inr k
      ];
    }

pub placed_turned : (xs ys : List Bar) → IsTurned xs ys → All IsPlacedBar xs → All IsPlacedBar ys
placed_turned xs ys h placed =
    All-from_get_or IsPlacedBar ys no_bar
    (λ p lt.
    let len = h.one_each in
    let q : ℕ = length xs - 1 - p in
    let e : p + q + 1 ≡ length xs = omega (arith, lt, len) in
    let was = placed q no_bar (omega (arith, e)) in
    rw (h.each p q e)
    (record {
      starts_after = was.starts_after;
      starts_before = was.starts_before;
      ends_after = was.ends_after;
      ends_before = was.ends_before;
    }))

-- the pairs that two sweeps add to a set

abbrev pub AllInTime : Bool → Bool → List Bar → PairSet → Type 0
AllInTime s t xs set = (p q : ℕ) → Sees s xs p q → Varies xs p q → EndsInTime t (bar_at xs p) (bar_at xs q)
    → Contains (pairs_of set) (numbers_of t xs p q)

pub all_seen : (s : Bool) (xs ys : List Bar) → IsTurned xs ys → (mid new : PairSet) → AllInTime s false xs mid
    → AddsSeen s true ys mid new → AllInTime s true ys new → (p q : ℕ) → Sees s xs p q → Varies xs p q
    → Contains (pairs_of new) (numbers_of false xs p q)
all_seen s xs ys h mid new first adds second p q sees varies =
    elim (le_or_lt (bar_at xs p).end (bar_at xs q).end) as (λ _. Contains (pairs_of new) (numbers_of false xs p q)) [
      | inl e ↦ adds.kept (numbers_of false xs p q) (first p q sees varies e)
      | inr e ↦ (let order = sees.in_order in
          let among = sees.among in
          let p' : ℕ = length xs - 1 - p in
          let q' : ℕ = length xs - 1 - q in
          let ep : p' + p + 1 ≡ length xs = omega (arith, order, among) in
          let eq : q' + q + 1 ≡ length xs = omega (arith, order, among) in
          subst (λ n. Contains (pairs_of new) n) (numbers_turned xs ys h p q p' q' ep eq)
          (second q' p' (sees_turned s xs ys h p q p' q' ep eq sees) (varies_turned xs ys h p q p' q' ep eq varies)
          (rw (h.each q' q eq, h.each p' p ep) e)))
    ]
