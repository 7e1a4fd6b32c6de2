-- The least unknown key, part by part.
use Rattle.std.proofs.Common.{◌≡◌, ℕ, suc, Bool, true, false, List, [], ◌∷◌, Option, Some, None, Ordering, Less, Equal}
use Rattle.std.proofs.Common.{Greater, nat_cmp, is_lt, fold, codes, refl, sym, inl, inr, ◌⊎◌, arith}
use Rattle.std.proofs.lemmas.{Bool.cases_Bool, List.{Elements.{All-nil, All-cons}, Sums.fold-append}}
use Rattle.std.proofs.lemmas.Cmp.{nat_list_cmp_total}
use Rattle.std.specs.{Prelude.{Contains, All}, Ordering.ordering_reverse, Cmp.Lexicographic.slice_cmp}
use Rattle.toml.specs.Data.{Members, get_member}
use Rattle.tech_file.specs.Unknown.{unknown_in, unknown_at, unknown_keys, lesser, least, NamesLeast}

pub least_by_parts : (buried : Bool) (top : Members) (a b c d : Option (List ℕ))
    → a ≡ fold lesser None (unknown_in buried [] top)
    → b ≡ fold lesser a (unknown_at buried (codes "width") (get_member (codes "width") top))
    → c ≡ fold lesser b (unknown_at buried (codes "spacing") (get_member (codes "spacing") top))
    → d ≡ fold lesser c (unknown_at buried (codes "extension") (get_member (codes "extension") top))
    → fold lesser d (unknown_at buried (codes "cut") (get_member (codes "cut") top)) ≡ least (unknown_keys buried top)
unfolding unknown_keys
least_by_parts buried top a b c d ha hb hc hd = rw (hd, hc, hb, ha) (simp fold-append)

abbrev R : List ℕ → List ℕ → Ordering
R = slice_cmp nat_cmp

abbrev before : List ℕ → List ℕ → Bool
before x y = is_lt (R x y)

less : (o : Ordering) → is_lt o ≡ true → o ≡ Less
less Less e = refl
less Equal e = absurd cc
less Greater e = absurd cc

-- what comes before a key does not come after it
asymmetric : (x y : List ℕ) → before x y ≡ true → before y x ≡ false
asymmetric x y e = rw (nat_list_cmp_total.antisymm y x, less (R x y) e)

reverse_same : (o : Ordering) → o ≡ ordering_reverse o → is_lt o ≡ false
reverse_same Less e = absurd cc
reverse_same Equal e = refl
reverse_same Greater e = refl

irreflexive : (x : List ℕ) → before x x ≡ false
irreflexive x = reverse_same (R x x) (nat_list_cmp_total.antisymm x x)

through : (x y z : List ℕ) (o : Ordering) → R y z ≡ o → before x y ≡ false → is_lt o ≡ false → before x z ≡ false
through x y z Less h a b = absurd cc
through x y z Equal h a b =
    let same : R y x ≡ R z x = nat_list_cmp_total.congr y z x h in
    rw (nat_list_cmp_total.antisymm x z, ← same, ← nat_list_cmp_total.antisymm x y) a
through x y z Greater h a b =
    let below : R z y ≡ Less = rw (nat_list_cmp_total.antisymm z y, h) in
    elim (cases_Bool (before x z)) [
      | inl t ↦
          absurd (let e = nat_list_cmp_total.trans x z y (less (R x z) t) below in let f : before x y
          ≡ true = rw e in cc)
      | inr f ↦ f
    ]

-- a key that does not come before one that does not come before a third
not_before_trans : (x y z : List ℕ) → before x y ≡ false → before y z ≡ false → before x z ≡ false
not_before_trans x y z a b = through x y z (R y z) refl a b

abbrev NotBefore : List ℕ → List ℕ → Type 0
NotBefore key k = before k key ≡ false

record From (a : List ℕ) (keys : List (List ℕ)) : Type 0 where
  key : List ℕ
  found : fold lesser (Some a) keys ≡ Some key
  among : (key ≡ a) ⊎ Contains keys key
  start : before a key ≡ false
  rest : All (NotBefore key) keys

there : (k : List ℕ) (ks : List (List ℕ)) (m : List ℕ) → (m ≡ k) ⊎ Contains ks m → Contains (k ∷ ks) m
there k ks m (inl e) = (0, omega arith, sym e)
there k ks m (inr (i, lt, e)) = (suc i, omega arith, e)

over : (k : List ℕ) (ks : List (List ℕ)) (a m : List ℕ) → (m ≡ a) ⊎ Contains ks m → (m ≡ a) ⊎ Contains (k ∷ ks) m
over k ks a m (inl e) = inl e
over k ks a m (inr c) = inr (there k ks m (inr c))

from : (a : List ℕ) (keys : List (List ℕ)) → From a keys
unfolding lesser
from a [] = record { key = a; found = refl; among = inl refl; start = irreflexive a; rest = All-nil _ }
from a (k ∷ ks) =
    elim (cases_Bool (before k a)) [
      | inl t ↦
          let f = from k ks in
          record {
            key = f.key;
            found = rw t f.found;
            among = inr (there k ks f.key f.among);
            start = not_before_trans a k f.key (asymmetric k a t) f.start;
            rest = All-cons (NotBefore f.key) k ks f.start f.rest;
          }
      | inr n ↦
          let f = from a ks in
          record {
            key = f.key;
            found = rw n f.found;
            among = over k ks a f.key f.among;
            start = f.start;
            rest = All-cons (NotBefore f.key) k ks (not_before_trans k a f.key n f.start) f.rest;
          }
    ]

-- the least of some keys is one of them, and there is none only where there are no keys
pub least-is_least : (keys : List (List ℕ)) → NamesLeast (least keys) keys
unfolding lesser
least-is_least [] = refl
least-is_least (k ∷ ks) =
    let f = from k ks in
    rw f.found (record { among = there k ks f.key f.among; first = All-cons (NotBefore f.key) k ks f.start f.rest })

pub names_least : (o : Option (List ℕ)) (keys : List (List ℕ)) → o ≡ least keys → NamesLeast o keys
names_least o keys e = rw e (least-is_least keys)
