-- Items as bars.
use Rattle.std.proofs.Common.{◌≡◌, ℕ, ◌+◌, ◌<◌, ℤ, pos, ◌+ℤ◌, ◌-ℤ◌, ◌*ℤ◌, Bool, true, false, cond, ◌&&◌, if◌then◌else◌}
use Rattle.std.proofs.Common.{List, [], ◌∷◌, ◌++◌, length, map, take, get_or, refl, sym, ap, ◌∙◌, Some}
use Rattle.std.proofs.lemmas.List.{append-nil, Elements.filter_more}
use Rattle.std.proofs.lemmas.List.{map-append}
use Rattle.std.specs.Prelude.{int_le, is_some}
use Rattle.lam_geom.specs.declared.boxes.Axis.{Axis}
use Rattle.rule_table.specs.declared.technology.Tech.{Tech}
use Rattle.sym_items.specs.{declared.items.{Item.Item, Coords.Coords}, Transposed.item_along}
use Rattle.pair_rules.specs.{Bound.item_at, Candidates.sides_at}
use Rattle.bar_rows.specs.declared.bars.{Bar.Bar, Contacts.Contacts}
use Rattle.shadow_prune.specs.declared.families.Family.{Family}
use Rattle.shadow_prune.specs.Families.{reach_of, is_main, is_exempt, least_needed, contacts_of, bar_of, role_of, is_of}
use Rattle.shadow_prune.specs.Families.{members_of, bars_of}

map-cond : {A B : Type 0} (g : A → B) (b : Bool) (x : A) → map g (cond b (x ∷ []) []) ≡ cond b (g x ∷ []) []
map-cond g true x = refl
map-cond g false x = refl

module _ (axis : Axis) (t : Tech) (c : Coords) (items : List Item) (f : Family) (k : ℕ) where
  -- the bar of an item that is a main one, or is not, by its fields
  pub same_bar : (m : Bool) → is_main f (item_at items k) ≡ m → (start end : ℤ) (key : ℕ) (contacts : Contacts)
      (low high : ℕ) (solid : Bool)
      → start ≡ ((pos 2 *ℤ (sides_at axis c (item_at items k)).bottom) -ℤ reach_of t f m)
      → end ≡ ((pos 2 *ℤ (sides_at axis c (item_at items k)).top) +ℤ reach_of t f m)
      → key ≡ (if m && is_exempt t f then (item_at items k).net else (item_at items k).owner)
      → contacts ≡ contacts_of f (item_at items k)
      → low ≡ (item_along axis (item_at items k)).xl.var
      → high ≡ (item_along axis (item_at items k)).xh.var
      → solid ≡ int_le (least_needed t f m) (item_along axis (item_at items k)).least_x
      → let bar : Bar = record {
        start = start;
        end = end;
        key = key;
        owner = (item_at items k).owner;
        contacts = contacts;
        item = k;
        low = low;
        high = high;
        is_main = m;
        is_solid = solid;
      } in bar ≡ bar_of axis t c items f k
  same_bar m e start end key contacts low high solid e1 e2 e3 e4 e5 e6 e7 = rw (e, e1, e2, e3, e4, e5, e6, e7) refl

module _ (axis : Axis) (t : Tech) (c : Coords) (items : List Item) (f : Family) where
  -- the bars of an order with one number more
  bars_more : (order : List ℕ) (i : ℕ) → i < length order
      → bars_of axis t c items f (take (i + 1) order) ≡ bars_of axis t c items f (take i order)
      ++ cond (is_of items f (get_or order i 0)) (bar_of axis t c items f (get_or order i 0) ∷ []) []
  bars_more order i lt =
      ap (map (bar_of axis t c items f)) (filter_more (is_of items f) order i 0 lt)
      ∙ (map-append (bar_of axis t c items f) (members_of items f (take i order))
      (cond (is_of items f (get_or order i 0)) (get_or order i 0 ∷ []) [])
      ∙ ap (λ (bars : List Bar). bars_of axis t c items f (take i order) ++ bars)
      (map-cond (bar_of axis t c items f) (is_of items f (get_or order i 0)) (get_or order i 0)))

  -- a number of an item of the family, and another
  pub with_bar : (order : List ℕ) (i : ℕ) (m : Bool) (bar : Bar) (bars : List Bar) → i < length order
      → role_of f (item_at items (get_or order i 0)).class ≡ Some m → bar ≡ bar_of axis t c items f (get_or order i 0)
      → bars ≡ bars_of axis t c items f (take i order)
      → (bars ++ bar ∷ []) ≡ bars_of axis t c items f (take (i + 1) order)
  with_bar order i m bar bars lt role is e =
      rw (is, e) (sym (bars_more order i lt ∙ ap (λ (b : Bool). bars_of axis t c items f (take i order)
      ++ cond b (bar_of axis t c items f (get_or order i 0) ∷ []) []) (ap is_some role)))

  pub with_none : (order : List ℕ) (i : ℕ) → i < length order
      → is_of items f (get_or order i 0) ≡ false
      → bars_of axis t c items f (take i order) ≡ bars_of axis t c items f (take (i + 1) order)
  with_none order i lt none =
      sym (bars_more order i lt ∙ (ap (λ (b : Bool). bars_of axis t c items f (take i order)
      ++ cond b (bar_of axis t c items f (get_or order i 0) ∷ []) []) none
      ∙ append-nil (bars_of axis t c items f (take i order))))
