-- What sets of pairs hold of the families.
use Rattle.std.proofs.Common.{◌≡◌, ℕ, ◌<◌, Bool, false, List, length, get_or, IsTrue, All, refl, subst, arith}
use Rattle.std.{proofs.lemmas.List.Elements.Contains-get_or, specs.List.Contains}
use Rattle.lam_geom.specs.declared.boxes.Axis.{Axis}
use Rattle.rule_table.specs.declared.technology.Tech.{Tech}
use Rattle.sym_items.specs.{declared.items.{Item.Item, Coords.Coords}, Boxes.HasBox}
use Rattle.pair_rules.specs.{declared.pairs.Pair.Pair, Clean.IsClean, Kept.{IsKept, kept_of}}
use Rattle.scan_line.specs.Begins.{begins_of, IsOrderOf}
use Rattle.pair_set.specs.{declared.set.PairSet.PairSet, Sets.{pairs_of, limit_of, RefusesPair}}
use Rattle.pair_set.specs.declared.set.SetFault.{SetFault}
use Rattle.pair_set.specs.declared.set.SetFault.TheVariants as Pairs
use Rattle.bar_rows.specs.{declared.bars.Bar.Bar, Rows.IsSeen}
use Rattle.shadow_prune.specs.declared.families.Family.{Family}
use Rattle.shadow_prune.specs.declared.families.Family.TheVariants.{Metal, Diffusion, Poly, Cuts, Implants, Windows}
use Rattle.shadow_prune.specs.{Families.{families, has_self_rule, has_rule, bars_of}, KeptNumbers.IsKeptNumbers}
use Rattle.shadow_prune.specs.KeptFaults.{RefusesKept, no_list_by}
use Rattle.shadow_prune.proofs.{SeenPairs.{seen_is_kept, kept_is_seen}, KeptLists.no_more_than_kept}

-- a set has all pairs that the bars of a family see
abbrev pub HasSeen : Axis → Tech → Coords → List Item → List ℕ → PairSet → Family → Type 0
HasSeen axis t c items order found f = (pair : ℕ × ℕ) → IsTrue (has_rule t f)
    → IsSeen (has_self_rule t f) false (bars_of axis t c items f order) pair → Contains (pairs_of found) pair

-- each family is one of the list

at_place : (f : Family) → (k : ℕ) × (k < 6) × (get_or families k Metal ≡ f)
at_place Metal = (0, omega arith, refl)
at_place Diffusion = (1, omega arith, refl)
at_place Poly = (2, omega arith, refl)
at_place Cuts = (3, omega arith, refl)
at_place Implants = (4, omega arith, refl)
at_place Windows = (5, omega arith, refl)

module _ (axis : Axis) (t : Tech) (c : Coords) (items : List Item) (order : List ℕ) where
  pub seen_by_bars : All (HasBox c) items → IsClean t c items → IsOrderOf (begins_of axis c items) order → (f : Family)
      → IsTrue (has_rule t f) → (self_rule : Bool) (bars : List Bar) → self_rule ≡ has_self_rule t f
      → bars ≡ bars_of axis t c items f order → (pair : ℕ × ℕ) → IsSeen self_rule false bars pair
      → IsKeptNumbers axis t c items pair
  seen_by_bars boxes clean are f has self_rule bars e is pair seen =
      let there : IsSeen (has_self_rule t f) false (bars_of axis t c items f order) pair = rw (e, is) at seen in
      let w = seen_is_kept axis t c items order boxes clean are f has pair there in
      record { s = w.0; kept = w.1 }

  -- a set that has the pairs of all families has all kept ones
  pub has_all_kept : All (HasBox c) items → IsClean t c items → IsOrderOf (begins_of axis c items) order
      → (found : PairSet) → ((k : ℕ) → k < 6 → HasSeen axis t c items order found (get_or families k Metal))
      → (p : Pair) → IsKept axis t c items p → Contains (pairs_of found) (p.j, p.i)
  has_all_kept boxes clean are found all p kept =
      let w = kept_is_seen axis t c items order boxes clean are p kept in
      let place = at_place w.0 in
      let there : HasSeen axis t c items order found w.0 =
      subst (HasSeen axis t c items order found) place.2 (all place.0 place.1) in
      there (p.j, p.i) w.1 w.2

  -- the same of the same order
  pub seen_in_order : (other : List ℕ) (found : PairSet) (f : Family) → order ≡ other
      → HasSeen axis t c items order found f → HasSeen axis t c items other found f
  seen_in_order other found f same h = subst (λ (o : List ℕ). HasSeen axis t c items o found f) same h

module _ (axis : Axis) (t : Tech) (c : Coords) (items : List Item) where
  -- numbers of kept pairs are those of items
  pub kept_among : (numbers : List (ℕ × ℕ)) → ((n : ℕ × ℕ) → Contains numbers n → IsKeptNumbers axis t c items n)
      → All (λ (n : ℕ × ℕ). (n.0 < length items) × (n.1 < length items)) numbers
  kept_among numbers sound =
      λ k d lt. let w = sound (get_or numbers k d) (Contains-get_or numbers k d lt) in (w.kept.j_among, w.kept.i_among)

  -- and each one is that of a kept pair
  pub each_kept : (numbers : List (ℕ × ℕ)) → ((n : ℕ × ℕ) → Contains numbers n → IsKeptNumbers axis t c items n)
      → All (IsKeptNumbers axis t c items) numbers
  each_kept numbers sound = λ k d lt. sound (get_or numbers k d) (Contains-get_or numbers k d lt)

  -- a set of kept pairs has too many only if there are too many kept pairs
  pub refuses_kept : (limit : ℕ) (found : PairSet) (fault : SetFault) → limit_of found ≡ limit → RefusesPair found fault
      → ((n : ℕ × ℕ) → Contains (pairs_of found) n → IsKeptNumbers axis t c items n)
      → RefusesKept limit (length (kept_of axis t c items)) (no_list_by fault)
  refuses_kept limit found Pairs.TooMany is h sound =
      let least = no_more_than_kept axis t c items (pairs_of found) sound h.0 in
      let many = h.1 in
      omega (arith, least, many, is)
  refuses_kept limit found Pairs.OutOfMemory is h sound = tt
