-- The kept pairs of a clean layout are those whose bars see each other in the row of a family.
use Rattle.std.proofs.Common.{◌≡◌, ℕ, ◌<◌, ℤ, ◌+ℤ◌, ◌≤ℤ◌, Bool, false, Some, List, length, refl, sym, ap, ◌∙◌}
use Rattle.std.proofs.Common.{subst, arith}
use Rattle.std.specs.{Prelude.IsTrue, List.{All, Contains}}
use Rattle.lam_geom.specs.declared.boxes.Axis.{Axis}
use Rattle.rule_table.specs.{declared.technology.Tech.Tech, Technology.numbers_of}
use Rattle.sym_items.specs.{declared.items.{Item.Item, Coords.Coords}, Boxes.HasBox}
use Rattle.pair_rules.specs.{declared.pairs.Pair.Pair, Bound.{item_at, no_item}, Candidates.{IsCandidate}}
use Rattle.pair_rules.specs.{Clean.{IsClean}, Kept.{Shadows, IsKept, least_of}}
use Rattle.pair_rules.proofs.BoundItems.{out_of_bound}
use Rattle.bar_rows.specs.{declared.bars.Bar.Bar, Facing.{Faces, Screens}, Rows.{bar_at, Sees, Varies, IsSeen}}
use Rattle.scan_line.specs.Begins.{begin_at, begins_of, BeginsBefore, IsOrderOf}
use Rattle.shadow_prune.specs.{declared.families.Family.Family, Families.{families, role_of, has_rule, has_self_rule}}
use Rattle.shadow_prune.specs.Families.{members_of, bars_of}
use Rattle.shadow_prune.specs.declared.families.Family.TheVariants.{Metal, Diffusion, Poly, Cuts, Implants, Windows}
use Rattle.shadow_prune.proofs.Classes.{ruled_by_roles, family_of, family_has_rule, beside_both}
use Rattle.shadow_prune.proofs.Binding.{spacing_for, item_bar, bound_by_roles}
use Rattle.shadow_prune.proofs.Facing.{faces_if_near, near_if_faces, candidate_if_near, begins_first}
use Rattle.shadow_prune.proofs.Screening.{HaveRoles, screens_if_between, between_if_screens}
use Rattle.shadow_prune.proofs.Places.{member_at, count_bars, bar_at_place, member_among, member_role}
use Rattle.shadow_prune.proofs.Places.{place_of, members_in_order, places_in_order, before_by_begin, begin_not_later}

-- a clean layout of items that have boxes, and the order in which they begin
pub record IsLaidOut (axis : Axis) (t : Tech) (c : Coords) (items : List Item) (order : List ℕ) : Type 0 where
  pub boxes : All (HasBox c) items
  pub clean : IsClean t c items
  pub in_order : IsOrderOf (begins_of axis c items) order

-- the bar of item k, as it stands in the row
abbrev bar_for : Axis → Tech → Coords → List Item → Family → ℕ → Bar
bar_for axis t c items f k = item_bar axis t c f (item_at items k) k

-- ---- two items of the family that begin one before the other

pub record AreMembers (axis : Axis) (c : Coords) (items : List Item) (f : Family) (i j : ℕ) (m n : Bool) : Type 0 where
  pub i_among : i < length items
  pub j_among : j < length items
  pub i_role : role_of f (item_at items i).class ≡ Some m
  pub j_role : role_of f (item_at items j).class ≡ Some n
  pub before : begin_at axis c (item_at items i) ≤ℤ begin_at axis c (item_at items j)

pub candidate_if_faces : (axis : Axis) (t : Tech) (c : Coords) (items : List Item) (order : List ℕ) (f : Family)
    (i j : ℕ) (m n : Bool) → IsLaidOut axis t c items order → IsTrue (has_rule t f)
    → AreMembers axis c items f i j m n
    → Faces (has_self_rule t f) (bar_for axis t c items f i) (bar_for axis t c items f j)
    → IsCandidate axis t c (item_at items i) (item_at items j) (spacing_for t f m n)
candidate_if_faces axis t c items order f i j m n o has w h =
    candidate_if_near axis t c (item_at items i) (item_at items j) (spacing_for t f m n)
    (near_if_faces axis t c f (item_at items i) (item_at items j) i j m n w.i_role w.j_role has h)
    (o.boxes j no_item w.j_among) (o.clean i j w.i_among w.j_among) w.before

-- ---- items by their places

two_members : (axis : Axis) (t : Tech) (c : Coords) (items : List Item) (order : List ℕ) (f : Family) (p q : ℕ)
    (m n : Bool) → IsLaidOut axis t c items order → p < q → q < length (members_of items f order)
    → role_of f (item_at items (member_at items f order p)).class ≡ Some m
    → role_of f (item_at items (member_at items f order q)).class ≡ Some n
    → AreMembers axis c items f (member_at items f order p) (member_at items f order q) m n
two_members axis t c items order f p q m n o lt among d e =
    let first = member_among axis c items f order p o.in_order (omega arith) in
    let second = member_among axis c items f order q o.in_order among in
    record {
      i_among = first;
      j_among = second;
      i_role = d;
      j_role = e;
      before = begin_not_later axis c items (member_at items f order p) (member_at items f order q) first second
          (members_in_order axis c items f order p q o.in_order lt among);
    }

-- what is between two places and screens them shadows their pair
shadows_if_screens : (axis : Axis) (t : Tech) (c : Coords) (items : List Item) (order : List ℕ) (f : Family)
    (p q k : ℕ) (m n : Bool) (s : ℤ) → IsLaidOut axis t c items order → IsTrue (has_rule t f) → p < k → k < q
    → q < length (members_of items f order)
    → AreMembers axis c items f (member_at items f order p) (member_at items f order q) m n
    → s ≡ spacing_for t f m n
    → Faces (has_self_rule t f) (bar_for axis t c items f (member_at items f order p))
    (bar_for axis t c items f (member_at items f order q))
    → Screens (has_self_rule t f) (bar_for axis t c items f (member_at items f order p))
    (bar_for axis t c items f (member_at items f order q)) (bar_for axis t c items f (member_at items f order k))
    → let r : Pair = record { i = member_at items f order p; j = member_at items f order q; s = s } in
    Shadows axis t c items r (member_at items f order k)
shadows_if_screens axis t c items order f p q k m n s o has lower upper among w is faces screens =
    let i = member_at items f order p in
    let j = member_at items f order q in
    let l = member_at items f order k in
    let middle = member_role items f order k (omega (arith, among, upper)) in
    let first =
    two_members axis t c items order f p k m middle.0 o lower (omega (arith, among, upper)) w.i_role middle.1 in
    let second = two_members axis t c items order f k q middle.0 n o upper among middle.1 w.j_role in
    let b =
    between_if_screens axis t c f (item_at items i) (item_at items l) (item_at items j) i l j m middle.0 n
    (record { first = w.i_role; middle = middle.1; last = w.j_role }) has
    (record {
      middle_box = o.boxes l no_item first.j_among;
      last_box = o.boxes j no_item w.j_among;
      first_clean = o.clean i l first.i_among first.j_among;
      second_clean = o.clean l j second.i_among second.j_among;
      first_before = first.before;
      second_before = second.before;
    }) faces screens in
    record {
      before = b.before;
      after = b.after;
      first = b.first;
      second = b.second;
      reaches = subst (λ z. z ≤ℤ ((b.before +ℤ least_of axis items l) +ℤ b.after)) (sym is) b.reaches;
    }

-- ---- what shadows a pair has a place between

role_of_shadow : (axis : Axis) (t : Tech) (c : Coords) (items : List Item) (f : Family) (p : Pair) (k : ℕ) (m n : Bool)
    → role_of f (item_at items p.i).class ≡ Some m → role_of f (item_at items p.j).class ≡ Some n
    → IsCandidate axis t c (item_at items p.i) (item_at items p.j) p.s → Shadows axis t c items p k
    → (x : Bool) × (role_of f (item_at items k).class ≡ Some x)
role_of_shadow axis t c items f p k m n d e h w =
    let a = item_at items p.i in
    let b = item_at items p.j in
    let l = item_at items k in
    let both = out_of_bound t a b p.s h.bound in
    let first = out_of_bound t a l w.before w.first.bound in
    let second = out_of_bound t l b w.after w.second.bound in
    beside_both t f a.class b.class l.class both.rule first.rule second.rule
    (record { first = m; second = n; first_role = d; second_role = e }) both.ruled first.ruled second.ruled

-- the first item of a candidate begins before the second
comes_first : (axis : Axis) (t : Tech) (c : Coords) (items : List Item) (order : List ℕ) (i j : ℕ) (s : ℤ)
    → IsLaidOut axis t c items order → i < length items → j < length items
    → IsCandidate axis t c (item_at items i) (item_at items j) s → BeginsBefore (begins_of axis c items) i j
comes_first axis t c items order i j s o i_among j_among h =
    before_by_begin axis c items i j i_among j_among
    (begins_first axis t c (item_at items i) (item_at items j) s h (o.boxes i no_item i_among))

-- a bar that shadows two others by its item screens them
screens_if_shadows : (axis : Axis) (t : Tech) (c : Coords) (items : List Item) (f : Family) (i j k : ℕ)
    (m x n : Bool) (s : ℤ) → let p : Pair = record { i = i; j = j; s = s } in
    HaveRoles f (item_at items i) (item_at items k) (item_at items j) m x n
    → IsCandidate axis t c (item_at items i) (item_at items j) s → Shadows axis t c items p k
    → Screens (has_self_rule t f) (bar_for axis t c items f i) (bar_for axis t c items f j)
    (bar_for axis t c items f k)
screens_if_shadows axis t c items f i j k m x n s r h w =
    screens_if_between axis t c f (item_at items i) (item_at items k) (item_at items j) i k j m x n s r h
    (record { before = w.before; after = w.after; first = w.first; second = w.second; reaches = w.reaches })

-- no bar between two places screens them where no item shadows their pair, and the other way round
abbrev pub IsClear : Bool → List Bar → ℕ → ℕ → Type 0
IsClear self_rule bars p q = (k : ℕ) → p < k → k < q
    → Screens self_rule (bar_at bars p) (bar_at bars q) (bar_at bars k) → ⊥

abbrev IsUnshadowed : Axis → Tech → Coords → List Item → ℕ → ℕ → ℤ → Type 0
IsUnshadowed axis t c items i j s =
    (k : ℕ) → k < length items → (let p : Pair = record { i = i; j = j; s = s } in Shadows axis t c items p k) → ⊥

bars_screen : (self_rule : Bool) (a b k x y z : Bar) → a ≡ x → b ≡ y → k ≡ z → Screens self_rule a b k
    → Screens self_rule x y z
bars_screen self_rule a b k x y z d e g h =
    subst (λ u. Screens self_rule u y z) d
    (subst (λ u. Screens self_rule a u z) e (subst (λ u. Screens self_rule a b u) g h))

bars_face : (self_rule : Bool) (a b x y : Bar) → a ≡ x → b ≡ y → Faces self_rule a b → Faces self_rule x y
bars_face self_rule a b x y d e h = subst (λ u. Faces self_rule u y) d (subst (λ u. Faces self_rule a u) e h)

clear_if_unshadowed : (axis : Axis) (t : Tech) (c : Coords) (items : List Item) (order : List ℕ) (f : Family)
    (p q : ℕ) (m n : Bool) (s : ℤ) → IsLaidOut axis t c items order → IsTrue (has_rule t f)
    → q < length (members_of items f order)
    → AreMembers axis c items f (member_at items f order p) (member_at items f order q) m n
    → s ≡ spacing_for t f m n
    → Faces (has_self_rule t f) (bar_for axis t c items f (member_at items f order p))
    (bar_for axis t c items f (member_at items f order q))
    → IsUnshadowed axis t c items (member_at items f order p) (member_at items f order q) s
    → IsClear (has_self_rule t f) (bars_of axis t c items f order) p q
clear_if_unshadowed axis t c items order f p q m n s o has among w is faces none = λ k lower upper screens.
    let bars = bars_of axis t c items f order in
    let at = bar_at_place axis t c items f order in
    let here = bars_screen (has_self_rule t f) (bar_at bars p) (bar_at bars q) (bar_at bars k)
    (bar_for axis t c items f (member_at items f order p)) (bar_for axis t c items f (member_at items f order q))
    (bar_for axis t c items f (member_at items f order k)) (at p (omega (arith, lower, upper, among))) (at q among)
    (at k (omega (arith, upper, among))) screens in
    none (member_at items f order k)
    (member_among axis c items f order k o.in_order (omega (arith, upper, among)))
    (shadows_if_screens axis t c items order f p q k m n s o has lower upper among w is faces here)

-- a shadow at a place
no_shadow_at : (axis : Axis) (t : Tech) (c : Coords) (items : List Item) (order : List ℕ) (f : Family)
    (p q k : ℕ) (m n : Bool) (s : ℤ) → IsLaidOut axis t c items order → p < q
    → q < length (members_of items f order) → k < length (members_of items f order)
    → AreMembers axis c items f (member_at items f order p) (member_at items f order q) m n
    → IsCandidate axis t c (item_at items (member_at items f order p)) (item_at items (member_at items f order q)) s
    → IsClear (has_self_rule t f) (bars_of axis t c items f order) p q
    → (let r : Pair = record { i = member_at items f order p; j = member_at items f order q; s = s } in
    Shadows axis t c items r (member_at items f order k)) → ⊥
no_shadow_at axis t c items order f p q k m n s o lt among k_among w h clear shadow =
    let i = member_at items f order p in
    let j = member_at items f order q in
    let l = member_at items f order k in
    let bars = bars_of axis t c items f order in
    let at = bar_at_place axis t c items f order in
    let l_among = member_among axis c items f order k o.in_order k_among in
    let lower = places_in_order axis c items f order p k o.in_order (omega (arith, lt, among))
    (comes_first axis t c items order i l shadow.before o w.i_among l_among shadow.first) in
    let upper = places_in_order axis c items f order k q o.in_order k_among
    (comes_first axis t c items order l j shadow.after o l_among w.j_among shadow.second) in
    let role = member_role items f order k k_among in
    let screens = screens_if_shadows axis t c items f i j l m role.0 n s
    (record { first = w.i_role; middle = role.1; last = w.j_role }) h shadow in
    clear k lower upper
    (bars_screen (has_self_rule t f) (bar_for axis t c items f i) (bar_for axis t c items f j)
    (bar_for axis t c items f l) (bar_at bars p) (bar_at bars q) (bar_at bars k)
    (sym (at p (omega (arith, lt, among)))) (sym (at q among)) (sym (at k k_among)) screens)

unshadowed_if_clear : (axis : Axis) (t : Tech) (c : Coords) (items : List Item) (order : List ℕ) (f : Family)
    (p q : ℕ) (m n : Bool) (s : ℤ) → IsLaidOut axis t c items order → p < q
    → q < length (members_of items f order)
    → AreMembers axis c items f (member_at items f order p) (member_at items f order q) m n
    → IsCandidate axis t c (item_at items (member_at items f order p)) (item_at items (member_at items f order q)) s
    → IsClear (has_self_rule t f) (bars_of axis t c items f order) p q
    → IsUnshadowed axis t c items (member_at items f order p) (member_at items f order q) s
unshadowed_if_clear axis t c items order f p q m n s o lt among w h clear = λ k k_among shadow.
    let r : Pair = record { i = member_at items f order p; j = member_at items f order q; s = s } in
    let role = role_of_shadow axis t c items f r k m n w.i_role w.j_role h shadow in
    let at = place_of axis c items f order k role.0 o.in_order k_among role.1 in
    no_shadow_at axis t c items order f p q at.place m n s o lt among at.among w h clear
    (subst (Shadows axis t c items r) (sym at.there) shadow)

-- ---- pairs of places

-- a pair of places that see each other is that of a kept pair
kept_at : (axis : Axis) (t : Tech) (c : Coords) (items : List Item) (order : List ℕ) (f : Family) (p q : ℕ)
    → IsLaidOut axis t c items order → IsTrue (has_rule t f)
    → Sees (has_self_rule t f) (bars_of axis t c items f order) p q → Varies (bars_of axis t c items f order) p q
    → (s : ℤ)
    × (let r : Pair = record { i = member_at items f order p; j = member_at items f order q; s = s } in
    IsKept axis t c items r)
kept_at axis t c items order f p q o has h varies =
    let i = member_at items f order p in
    let j = member_at items f order q in
    let bars = bars_of axis t c items f order in
    let lt = h.in_order in
    let among : q < length (members_of items f order) = omega (arith, h.among, count_bars axis t c items f order) in
    let p_among : p < length (members_of items f order) = omega (arith, lt, among) in
    let at_p = bar_at_place axis t c items f order p p_among in
    let at_q = bar_at_place axis t c items f order q among in
    let m = member_role items f order p p_among in
    let n = member_role items f order q among in
    let w = two_members axis t c items order f p q m.0 n.0 o lt among m.1 n.1 in
    let s = spacing_for t f m.0 n.0 in
    let faces = bars_face (has_self_rule t f) (bar_at bars p) (bar_at bars q) (bar_for axis t c items f i)
    (bar_for axis t c items f j) at_p at_q h.faces in
    let candidate = candidate_if_faces axis t c items order f i j m.0 n.0 o has w faces in (
      s,
      record {
        i_among = w.i_among;
        j_among = w.j_among;
        candidate = candidate;
        varies = λ same. varies (ap (λ (b : Bar). b.high) at_p ∙ (same ∙ sym (ap (λ (b : Bar). b.low) at_q)));
        unshadowed = unshadowed_if_clear axis t c items order f p q m.0 n.0 s o lt among w candidate h.clear;
      },
    )

-- a kept pair of numbers at places
sees_at : (axis : Axis) (t : Tech) (c : Coords) (items : List Item) (order : List ℕ) (f : Family) (p q : ℕ)
    (m n : Bool) (s : ℤ) → IsLaidOut axis t c items order → IsTrue (has_rule t f)
    → p < length (members_of items f order) → q < length (members_of items f order)
    → role_of f (item_at items (member_at items f order p)).class ≡ Some m
    → role_of f (item_at items (member_at items f order q)).class ≡ Some n
    → (let r : Pair = record { i = member_at items f order p; j = member_at items f order q; s = s } in
    IsKept axis t c items r) → let pair : ℕ × ℕ = (member_at items f order q, member_at items f order p) in
    IsSeen (has_self_rule t f) false (bars_of axis t c items f order) pair
sees_at axis t c items order f p q m n s o has p_among among d e h =
    let i = member_at items f order p in
    let j = member_at items f order q in
    let bars = bars_of axis t c items f order in
    let at_p = bar_at_place axis t c items f order p p_among in
    let at_q = bar_at_place axis t c items f order q among in
    let lt = places_in_order axis c items f order p q o.in_order p_among
    (comes_first axis t c items order i j s o h.i_among h.j_among h.candidate) in
    let w = two_members axis t c items order f p q m n o lt among d e in
    let faces = faces_if_near axis t c f (item_at items i) (item_at items j) i j m n s d e h.candidate.bound
    h.candidate.near_across in
    let spacing = bound_by_roles t f (item_at items i) (item_at items j) m n s d e h.candidate.bound in
    record {
      first = p;
      second = q;
      sees = record {
        in_order = lt;
        among = omega (arith, among, count_bars axis t c items f order);
        faces = bars_face (has_self_rule t f) (bar_for axis t c items f i) (bar_for axis t c items f j) (bar_at bars p)
            (bar_at bars q) (sym at_p) (sym at_q) faces;
        clear = clear_if_unshadowed axis t c items order f p q m n s o has among w spacing faces h.unshadowed;
      };
      varies = λ same. h.varies (sym (ap (λ (b : Bar). b.high) at_p) ∙ (same ∙ ap (λ (b : Bar). b.low) at_q));
      numbers = ap (λ (b : Bar). (b.item, (bar_at bars p).item)) at_q ∙ ap (λ (b : Bar). (j, b.item)) at_p;
    }

seen_in : (axis : Axis) (t : Tech) (c : Coords) (items : List Item) (order : List ℕ) (f : Family) (p : Pair)
    (m n : Bool) → IsLaidOut axis t c items order → IsTrue (has_rule t f)
    → role_of f (item_at items p.i).class ≡ Some m → role_of f (item_at items p.j).class ≡ Some n
    → IsKept axis t c items p → IsSeen (has_self_rule t f) false (bars_of axis t c items f order) (p.j, p.i)
seen_in axis t c items order f p m n o has d e h =
    let a = place_of axis c items f order p.i m o.in_order h.i_among d in
    let b = place_of axis c items f order p.j n o.in_order h.j_among e in
    let R : Bool → ℕ → Type 0 = λ x k. role_of f (item_at items k).class ≡ Some x in
    let K : ℕ → ℕ → Type 0 = λ x y. (let r : Pair = record { i = x; j = y; s = p.s } in IsKept axis t c items r) in
    let S : ℕ → ℕ → Type 0 = λ x y.
    (let pair : ℕ × ℕ = (y, x) in IsSeen (has_self_rule t f) false (bars_of axis t c items f order) pair) in
    let first = sym a.there in
    let second = sym b.there in
    let kept : K (member_at items f order a.place) (member_at items f order b.place) =
    subst (K (member_at items f order a.place)) second (subst (λ x. K x p.j) first h) in
    let seen = sees_at axis t c items order f a.place b.place m n p.s o has a.among b.among (subst (R m) first d)
    (subst (R n) second e) kept in
    subst (S p.i) b.there (subst (λ x. S x (member_at items f order b.place)) a.there seen)

-- each family is one of the list
pub each_family : (f : Family) → Contains families f
each_family Metal = (0, omega arith, refl)
each_family Diffusion = (1, omega arith, refl)
each_family Poly = (2, omega arith, refl)
each_family Cuts = (3, omega arith, refl)
each_family Implants = (4, omega arith, refl)
each_family Windows = (5, omega arith, refl)

-- ---- the two laws

module _ (axis : Axis) (t : Tech) (c : Coords) (items : List Item) (order : List ℕ) where
  -- in the row of a family that has a rule the pairs that see each other are kept
  pub seen_is_kept : All (HasBox c) items → IsClean t c items → IsOrderOf (begins_of axis c items) order → (f : Family)
      → IsTrue (has_rule t f) → (pair : ℕ × ℕ)
      → IsSeen (has_self_rule t f) false (bars_of axis t c items f order) pair
      → (s : ℤ) × (let p : Pair = record { i = pair.1; j = pair.0; s = s } in IsKept axis t c items p)
  seen_is_kept boxes clean are f has pair h =
      let o : IsLaidOut axis t c items order = record { boxes = boxes; clean = clean; in_order = are } in
      let p = h.first in
      let q = h.second in
      let w = kept_at axis t c items order f p q o has h.sees h.varies in
      let among : q < length (members_of items f order) =
      omega (arith, h.sees.among, count_bars axis t c items f order) in
      let p_among : p < length (members_of items f order) = omega (arith, h.sees.in_order, among) in
      let later : member_at items f order q ≡ pair.0 =
      sym (ap (λ (b : Bar). b.item) (bar_at_place axis t c items f order q among))
      ∙ ap (λ (z : ℕ × ℕ). z.0) h.numbers in
      let earlier : member_at items f order p ≡ pair.1 =
      sym (ap (λ (b : Bar). b.item) (bar_at_place axis t c items f order p p_among))
      ∙ ap (λ (z : ℕ × ℕ). z.1) h.numbers in
      let K : ℕ → ℕ → Type 0 = λ x y. (let r : Pair = record { i = x; j = y; s = w.0 } in IsKept axis t c items r) in
      (w.0, subst (K pair.1) later (subst (λ x. K x (member_at items f order q)) earlier w.1))

  -- and the bars of a kept pair see each other in the row of some family that has one
  pub kept_is_seen : All (HasBox c) items → IsClean t c items → IsOrderOf (begins_of axis c items) order → (p : Pair)
      → IsKept axis t c items p
      → (f : Family) × IsTrue (has_rule t f)
      × IsSeen (has_self_rule t f) false (bars_of axis t c items f order) (p.j, p.i)
  kept_is_seen boxes clean are p h =
      let o : IsLaidOut axis t c items order = record { boxes = boxes; clean = clean; in_order = are } in
      let a = item_at items p.i in
      let b = item_at items p.j in
      let w = out_of_bound t a b p.s h.candidate.bound in
      let found = family_of (numbers_of t) a.class b.class w.rule w.ruled in
      let f = found.0 in
      let r = found.1 in
      let has = family_has_rule t f r.first r.second w.rule
      (sym (ruled_by_roles t f a.class b.class r.first r.second r.first_role r.second_role) ∙ w.ruled) in
      (f, has, seen_in axis t c items order f p r.first r.second o has r.first_role r.second_role h)
