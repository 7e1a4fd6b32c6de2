-- What turns and shifts come to, one after another.
use mir.Syntax.{w64}
use mir.Val.{to_z, of_z}
use Rattle.std.proofs.Common.{FitsSigned, ◌≡◌, ℕ, zero, suc, ◌+◌, ◌*◌, ◌%◌, ◌/◌, ◌^◌, ◌<◌, ◌≤◌, ℤ, pos, neg_ℤ, ◌+ℤ◌}
use Rattle.std.proofs.Common.{◌≤ℤ◌, nat_lt, int_eq, Bool, if◌then◌else◌, true, false, cond, List, [], ◌∷◌, ◌++◌, refl}
use Rattle.std.proofs.{Common.{sym, ap, ◌∙◌, subst, arith}, lemmas.{Int.ints, Bool.{false≢true, Decides.nat_tests}}}
use Rattle.std.specs.List.{list_any}
use Rattle.cif_lex.specs.declared.placement.Transformation.{Transformation, TheVariants.{Shift, MirrorX, MirrorY, Turn}}
use Rattle.cif_lex.specs.declared.placement.Placement.{Placement}
use Rattle.cif_lex.specs.{Commands.is_turn, Transformations.{Point, shifted, x_mirrored, quarter, quarters, applied}}
use Rattle.cif_lex.specs.Transformations.{all_applied, turned, placed, shift_of, IsComposedOf, IsNear}

pub same_point : (p q : Point) → p.0 ≡ q.0 → p.1 ≡ q.1 → p ≡ q
same_point p q e f = ap (λ (x : ℤ). (x, p.1)) e ∙ ap (λ (y : ℤ). (q.0, y)) f

-- ---- quarters

pub quarters_add : (a b : ℕ) (p : Point) → quarters a (quarters b p) ≡ quarters (a + b) p
quarters_add zero b p = let e : b ≡ 0 + b = omega arith in ap (λ (n : ℕ). quarters n p) e
quarters_add (suc a) b p = let e : suc (a + b) ≡ suc a + b = omega arith in ap quarter (quarters_add a b p)
    ∙ ap (λ (n : ℕ). quarters n p) e

four_quarters : (p : Point) → quarters 4 p ≡ p
four_quarters p = same_point (quarters 4 p) p (omega (arith, ints)) (omega (arith, ints))

round : (k n : ℕ) (p : Point) → quarters (n + 4 * k) p ≡ quarters n p
round zero n p = let e : n + 4 * zero ≡ n = omega arith in ap (λ (m : ℕ). quarters m p) e
round (suc k) n p =
    let e : n + 4 * suc k ≡ 4 + (n + 4 * k) = omega arith in
    ap (λ (m : ℕ). quarters m p) e
    ∙ (sym (quarters_add 4 (n + 4 * k) p) ∙ (four_quarters (quarters (n + 4 * k) p) ∙ round k n p))

pub quarters_rest : (n : ℕ) (p : Point) → quarters (n % 4) p ≡ quarters n p
quarters_rest n p = let e : n % 4 + 4 * (n / 4) ≡ n = omega arith in sym (round (n / 4) (n % 4) p)
    ∙ ap (λ (m : ℕ). quarters m p) e

twice_mirrored : (p : Point) → x_mirrored (x_mirrored p) ≡ p
twice_mirrored p = same_point (x_mirrored (x_mirrored p)) p (omega (arith, ints)) refl

mirrored_quarter : (p : Point) → x_mirrored (quarter p) ≡ quarters 3 (x_mirrored p)
mirrored_quarter p = same_point (x_mirrored (quarter p)) (quarters 3 (x_mirrored p)) (omega (arith, ints))
    (omega (arith, ints))

mirrored_quarters : (n : ℕ) (p : Point) → x_mirrored (quarters n p) ≡ quarters (3 * n) (x_mirrored p)
mirrored_quarters zero p = refl
mirrored_quarters (suc n) p =
    let e : 3 + 3 * n ≡ 3 * suc n = omega arith in
    mirrored_quarter (quarters n p)
    ∙ (ap (quarters 3) (mirrored_quarters n p)
    ∙ (quarters_add 3 (3 * n) (x_mirrored p) ∙ ap (λ (m : ℕ). quarters m (x_mirrored p)) e))

-- ---- turns

below : (turn : ℕ) → turn < 4 → nat_lt turn 4 ≡ true
below turn h = grind (arith, nat_tests)

not_below : (turn : ℕ) → 4 ≤ turn → nat_lt turn 4 ≡ false
not_below turn h = grind (arith, nat_tests)

-- without a mirror, and with one
pub plain : (turn n : ℕ) (p : Point) → turn < 4 → turn ≡ n % 4 → turned turn p ≡ quarters n p
plain turn n p h e =
    let rest : turn % 4 ≡ n % 4 = omega (arith, h, e) in
    ap (λ (b : Bool). quarters (turn % 4) (cond b p (x_mirrored p))) (below turn h)
    ∙ (ap (λ (m : ℕ). quarters m p) rest ∙ quarters_rest n p)

pub with_mirror : (turn n : ℕ) (p : Point) → 4 ≤ turn → turn % 4 ≡ n % 4 → turned turn p ≡ quarters n (x_mirrored p)
with_mirror turn n p h e =
    ap (λ (b : Bool). quarters (turn % 4) (cond b p (x_mirrored p))) (not_below turn h)
    ∙ (ap (λ (m : ℕ). quarters m (x_mirrored p)) e ∙ quarters_rest n (x_mirrored p))

self_plain : (turn : ℕ) (p : Point) → turn < 4 → turned turn p ≡ quarters (turn % 4) p
self_plain turn p h = plain turn (turn % 4) p h (omega (arith, h))

self_mirror : (turn : ℕ) (p : Point) → 4 ≤ turn → turned turn p ≡ quarters (turn % 4) (x_mirrored p)
self_mirror turn p h = with_mirror turn (turn % 4) p h (omega arith)

pub plain_plain : (o i t : ℕ) (p : Point) → o < 4 → i < 4 → t ≡ (o % 4 + i % 4) % 4 → turned t p ≡ turned o (turned i p)
plain_plain o i t p ho hi e =
    plain t (o % 4 + i % 4) p (omega (arith, e)) e
    ∙ (sym (quarters_add (o % 4) (i % 4) p)
    ∙ (ap (quarters (o % 4)) (sym (self_plain i p hi)) ∙ sym (self_plain o (turned i p) ho)))

pub plain_mirror : (o i t : ℕ) (p : Point) → o < 4 → 4 ≤ i → t ≡ (o % 4 + i % 4) % 4 + 4
    → turned t p ≡ turned o (turned i p)
plain_mirror o i t p ho hi e =
    with_mirror t (o % 4 + i % 4) p (omega (arith, e)) (omega (arith, e))
    ∙ (sym (quarters_add (o % 4) (i % 4) (x_mirrored p))
    ∙ (ap (quarters (o % 4)) (sym (self_mirror i p hi)) ∙ sym (self_plain o (turned i p) ho)))

pub mirror_plain : (o i t : ℕ) (p : Point) → 4 ≤ o → i < 4 → t ≡ (o % 4 + 3 * (i % 4)) % 4 + 4
    → turned t p ≡ turned o (turned i p)
mirror_plain o i t p ho hi e =
    with_mirror t (o % 4 + 3 * (i % 4)) p (omega (arith, e)) (omega (arith, e))
    ∙ (sym (quarters_add (o % 4) (3 * (i % 4)) (x_mirrored p))
    ∙ (ap (quarters (o % 4)) (sym (mirrored_quarters (i % 4) p) ∙ ap x_mirrored (sym (self_plain i p hi)))
    ∙ sym (self_mirror o (turned i p) ho)))

pub mirror_mirror : (o i t : ℕ) (p : Point) → 4 ≤ o → 4 ≤ i → t ≡ (o % 4 + 3 * (i % 4)) % 4
    → turned t p ≡ turned o (turned i p)
mirror_mirror o i t p ho hi e =
    plain t (o % 4 + 3 * (i % 4)) p (omega (arith, e)) e
    ∙ (sym (quarters_add (o % 4) (3 * (i % 4)) p)
    ∙ (ap (quarters (o % 4)) (ap (quarters (3 * (i % 4))) (sym (twice_mirrored p))
    ∙ (sym (mirrored_quarters (i % 4) (x_mirrored p)) ∙ ap x_mirrored (sym (self_mirror i p hi)))) ∙ sym (self_mirror
    o (turned i p) ho)))

-- ---- shifts

quarters_shifted : (n : ℕ) (a b : ℤ) (p : Point)
    → quarters n (shifted a b p) ≡ shifted (quarters n (a, b)).0 (quarters n (a, b)).1 (quarters n p)
quarters_shifted zero a b p = refl
quarters_shifted (suc n) a b p =
    let c = quarters n (a, b) in
    let q = quarters n p in
    ap quarter (quarters_shifted n a b p)
    ∙ same_point (quarter (shifted c.0 c.1 q)) (shifted (neg_ℤ c.1) c.0 (quarter q)) (omega (arith, ints)) refl

mirrored_shifted : (a b : ℤ) (p : Point) → x_mirrored (shifted a b p) ≡ shifted (neg_ℤ a) b (x_mirrored p)
mirrored_shifted a b p = same_point (x_mirrored (shifted a b p)) (shifted (neg_ℤ a) b (x_mirrored p))
    (omega (arith, ints)) refl

pub turned_shifted : (turn : ℕ) (a b : ℤ) (p : Point)
    → turned turn (shifted a b p) ≡ shifted (turned turn (a, b)).0 (turned turn (a, b)).1 (turned turn p)
turned_shifted turn a b p = by (nat_lt turn 4)
  where
    by : (mirror : Bool) → quarters (turn % 4) (cond mirror (shifted a b p) (x_mirrored (shifted a b p)))
        ≡ shifted (quarters (turn % 4) (cond mirror (a, b) (x_mirrored (a, b)))).0
        (quarters (turn % 4) (cond mirror (a, b) (x_mirrored (a, b)))).1
        (quarters (turn % 4) (cond mirror p (x_mirrored p)))
    by true = quarters_shifted (turn % 4) a b p
    by false = ap (quarters (turn % 4)) (mirrored_shifted a b p)
        ∙ quarters_shifted (turn % 4) (neg_ℤ a) b (x_mirrored p)

-- a shift that is placed, and then a shift
pub placed_after : (outer inner : Placement) (turn : ℕ) (at : Point)
    → ((p : Point) → turned turn p ≡ turned outer.turn (turned inner.turn p)) → at ≡ placed outer (shift_of inner)
    → (p : Point) → placed (record { turn = turn; x = at.0; y = at.1 }) p ≡ placed outer (placed inner p)
placed_after outer inner turn at same is p =
    let t = turned inner.turn p in
    let c = turned outer.turn (inner.x, inner.y) in
    let u = turned outer.turn t in
    ap (λ (q : Point). shifted at.0 at.1 q) (same p)
    ∙ (ap (λ (s : Point). shifted s.0 s.1 u) is
    ∙ (same_point (shifted (c.0 +ℤ outer.x) (c.1 +ℤ outer.y) u) (shifted outer.x outer.y (shifted c.0 c.1 u))
    (omega (arith, ints)) (omega (arith, ints))
    ∙ ap (shifted outer.x outer.y) (sym (turned_shifted outer.turn inner.x inner.y t))))

-- ---- sizes

quarters_near : (n reach : ℕ) (p : Point) → IsNear reach p → IsNear reach (quarters n p)
quarters_near zero reach p h = h
quarters_near (suc n) reach p h =
    let k = quarters_near n reach p h in
    record {
      left = omega (arith, ints, k.above);
      right = omega (arith, ints, k.below);
      below = k.left;
      above = k.right;
    }

mirrored_near : (reach : ℕ) (p : Point) → IsNear reach p → IsNear reach (x_mirrored p)
mirrored_near reach p h =
    record {
      left = omega (arith, ints, h.right);
      right = omega (arith, ints, h.left);
      below = h.below;
      above = h.above;
    }

turned_near : (turn reach : ℕ) (p : Point) → IsNear reach p → IsNear reach (turned turn p)
turned_near turn reach p h = by (nat_lt turn 4)
  where
    by : (mirror : Bool) → IsNear reach (quarters (turn % 4) (cond mirror p (x_mirrored p)))
    by true = quarters_near (turn % 4) reach p h
    by false = quarters_near (turn % 4) reach (x_mirrored p) (mirrored_near reach p h)

pub placed_near : (place : Placement) (r s : ℕ) (p : Point) → IsNear r (shift_of place) → IsNear s p
    → IsNear (r + s) (placed place p)
placed_near place r s p h k =
    let t = turned_near place.turn s p k in
    record {
      left = omega (arith, ints, t.left, h.left);
      right = omega (arith, ints, t.right, h.right);
      below = omega (arith, ints, t.below, h.below);
      above = omega (arith, ints, t.above, h.above);
    }

-- ---- one placement for some transformations

pub all_applied_push : (ts : List Transformation) (t : Transformation) (p : Point)
    → all_applied (ts ++ t ∷ []) p ≡ applied t (all_applied ts p)
all_applied_push [] t p = refl
all_applied_push (u ∷ ts) t p = all_applied_push ts t (applied u p)

-- ---- machine words

pub word_back : (z : ℤ) → neg_ℤ (pos (2 ^ 62)) ≤ℤ z → z ≤ℤ pos (2 ^ 62) → to_z w64 (of_z w64 z) ≡ z
word_back z low high = omega (arith, ints)

-- both numbers of a point
pub point_back : (p : Point) → IsNear (2 ^ 62) p → (to_z w64 (of_z w64 p.0), to_z w64 (of_z w64 p.1)) ≡ p
point_back p h = same_point (to_z w64 (of_z w64 p.0), to_z w64 (of_z w64 p.1)) p (word_back p.0 h.left h.right)
    (word_back p.1 h.below h.above)

pub nearer : (r s : ℕ) (p : Point) → r ≤ s → IsNear r p → IsNear s p
nearer r s p le h =
    record {
      left = omega (arith, ints, h.left);
      right = omega (arith, ints, h.right);
      below = omega (arith, ints, h.below);
      above = omega (arith, ints, h.above);
    }

-- a turned point, and a shift
abbrev pub by_words : Point → Point
by_words p = (to_z w64 (of_z w64 p.0), to_z w64 (of_z w64 p.1))

pub words_back : (p : Point) → IsNear (2 ^ 61) p → by_words p ≡ p
words_back p h = point_back p (nearer (2 ^ 61) (2 ^ 62) p (omega arith) h)

pub turned_is_near : (turn : ℕ) (p t : Point) → t ≡ turned turn (by_words p) → IsNear (2 ^ 61) p → IsNear (2 ^ 61) t
turned_is_near turn p t e h =
    subst (IsNear (2 ^ 61)) (sym (e ∙ ap (turned turn) (words_back p h))) (turned_near turn (2 ^ 61) p h)

pub sum_fits : (a b : ℤ) → neg_ℤ (pos (2 ^ 61)) ≤ℤ a → a ≤ℤ pos (2 ^ 61) → neg_ℤ (pos (2 ^ 61)) ≤ℤ b
    → b ≤ℤ pos (2 ^ 61) → FitsSigned w64 (to_z w64 (of_z w64 a) +ℤ to_z w64 (of_z w64 b))
sum_fits a b la ha lb hb = let e = word_back a (omega (arith, ints)) (omega (arith, ints)) in let f =
    word_back b (omega (arith, ints)) (omega (arith, ints)) in rw (e, f) (omega (arith, ints))

pub sum_is : (a b : ℤ) → neg_ℤ (pos (2 ^ 61)) ≤ℤ a → a ≤ℤ pos (2 ^ 61) → neg_ℤ (pos (2 ^ 61)) ≤ℤ b → b ≤ℤ pos (2 ^ 61)
    → to_z w64 (of_z w64 (to_z w64 (of_z w64 a) +ℤ to_z w64 (of_z w64 b))) ≡ a +ℤ b
sum_is a b la ha lb hb =
    let e = word_back a (omega (arith, ints)) (omega (arith, ints)) in
    let f = word_back b (omega (arith, ints)) (omega (arith, ints)) in
    let g = word_back (a +ℤ b) (omega (arith, ints)) (omega (arith, ints)) in
    ap (λ (k : ℤ). to_z w64 (of_z w64 (k +ℤ to_z w64 (of_z w64 b)))) e
    ∙ (ap (λ (k : ℤ). to_z w64 (of_z w64 (a +ℤ k))) f ∙ g)

pub image_is : (place : Placement) (p t : Point) → t ≡ turned place.turn (by_words p) → IsNear (2 ^ 61) p
    → IsNear (2 ^ 61) (shift_of place)
    → (
      to_z w64 (of_z w64 (to_z w64 (of_z w64 t.0) +ℤ to_z w64 (of_z w64 place.x))),
      to_z w64
          (of_z w64 (to_z w64 (of_z w64 t.1) +ℤ to_z w64 (of_z w64 place.y))),
    ) ≡ placed place p
image_is place p t e near shift =
    let k = turned_is_near place.turn p t e near in
    let f = e ∙ ap (turned place.turn) (words_back p near) in
    same_point (
      to_z w64 (of_z w64 (to_z w64 (of_z w64 t.0) +ℤ to_z w64 (of_z w64 place.x))),
      to_z w64
          (of_z w64 (to_z w64 (of_z w64 t.1) +ℤ to_z w64 (of_z w64 place.y))),
    ) (placed place p)
    (sum_is t.0 place.x k.left k.right shift.left shift.right ∙ ap (λ (q : Point). q.0 +ℤ place.x) f)
    (sum_is t.1 place.y k.below k.above shift.below shift.above ∙ ap (λ (q : Point). q.1 +ℤ place.y) f)

-- what is composed, by machine words
pub composed_at : (outer inner : Placement) (at : Point) → at ≡ placed outer (by_words (shift_of inner))
    → IsNear (2 ^ 61) (shift_of outer) → IsNear (2 ^ 61) (shift_of inner)
    → (to_z w64 (of_z w64 at.0), to_z w64 (of_z w64 at.1)) ≡ placed outer (shift_of inner)
composed_at outer inner at e ho hi =
    let f = e ∙ ap (placed outer) (words_back (shift_of inner) hi) in
    let k : IsNear (2 ^ 62) at =
    subst (IsNear (2 ^ 62)) (sym f) (placed_near outer (2 ^ 61) (2 ^ 61) (shift_of inner) ho hi) in
    point_back at k ∙ f

-- ---- what is done tells the placement

-- a turn is told by where it takes one point
code : Point → ℕ
code p =
    if int_eq p.0 (pos 1) then (if int_eq p.1 (pos 2) then 0 else 6)
    else (if int_eq p.0 (neg_ℤ (pos 2)) then (if int_eq p.1 (pos 1) then 1 else 5)
    else (if int_eq p.0 (neg_ℤ (pos 1)) then (if int_eq p.1 (pos 2) then 4 else 2)
    else (if int_eq p.1 (pos 1) then 7 else 3)))

told : (turn : ℕ) → turn < 8 → code (turned turn (pos 1, pos 2)) ≡ turn
unfolding code
told zero h = refl
told (suc zero) h = refl
told (suc (suc zero)) h = refl
told (suc (suc (suc zero))) h = refl
told (suc (suc (suc (suc zero)))) h = refl
told (suc (suc (suc (suc (suc zero))))) h = refl
told (suc (suc (suc (suc (suc (suc zero)))))) h = refl
told (suc (suc (suc (suc (suc (suc (suc zero))))))) h = refl
told (suc (suc (suc (suc (suc (suc (suc (suc n)))))))) h = absurd (omega (arith, h))

origin_stays : (n : ℕ) → quarters n (pos 0, pos 0) ≡ (pos 0, pos 0)
origin_stays zero = refl
origin_stays (suc n) = ap quarter (origin_stays n)

turned_origin : (turn : ℕ) → turned turn (pos 0, pos 0) ≡ (pos 0, pos 0)
turned_origin turn = by (nat_lt turn 4)
  where
    by : (mirror : Bool) → quarters (turn % 4) (cond mirror (pos 0, pos 0) (x_mirrored (pos 0, pos 0))) ≡ (pos 0, pos 0)
    by true = origin_stays (turn % 4)
    by false = origin_stays (turn % 4)

pub one_placement : (p q : Placement) → p.turn < 8 → q.turn < 8 → ((at : Point) → placed p at ≡ placed q at) → p ≡ q
one_placement p q hp hq same =
    let o = ap (λ (k : Point). shifted p.x p.y k) (sym (turned_origin p.turn))
    ∙ (same (pos 0, pos 0) ∙ ap (λ (k : Point). shifted q.x q.y k) (turned_origin q.turn)) in
    let o0 = ap (λ (k : Point). k.0) o in
    let o1 = ap (λ (k : Point). k.1) o in
    let x : p.x ≡ q.x = omega (arith, ints, o0) in
    let y : p.y ≡ q.y = omega (arith, ints, o1) in
    let s = same (pos 1, pos 2) in
    let s0 = ap (λ (k : Point). k.0) s in
    let s1 = ap (λ (k : Point). k.1) s in
    let a = turned p.turn (pos 1, pos 2) in
    let b = turned q.turn (pos 1, pos 2) in
    let t : p.turn ≡ q.turn = sym (told p.turn hp)
    ∙ (ap code (same_point a b (omega (arith, ints, s0, x)) (omega (arith, ints, s1, y))) ∙ told q.turn hq) in
    ap (λ (k : ℕ). let r : Placement = record { turn = k; x = p.x; y = p.y } in r) t
    ∙ (ap (λ (k : ℤ). let r : Placement = record { turn = q.turn; x = k; y = p.y } in r) x
    ∙ ap (λ (k : ℤ). let r : Placement = record { turn = q.turn; x = q.x; y = k } in r) y)

pub one_composed : (ts : List Transformation) (p q : Placement) → IsComposedOf ts p → IsComposedOf ts q → p ≡ q
one_composed ts p q h k = one_placement p q h.turn k.turn (λ at. h.same at ∙ sym (k.same at))

-- shifts alone turn nothing
only_shifts : (ts : List Transformation) → list_any is_turn ts ≡ false
    → (s : Point) × ((p : Point) → all_applied ts p ≡ shifted s.0 s.1 p)
only_shifts [] h =
    ((pos 0, pos 0), λ p. same_point p (shifted (pos 0) (pos 0) p) (omega (arith, ints)) (omega (arith, ints)))
only_shifts (Shift x y ∷ ts) h =
    let more = only_shifts ts h in (
      (x +ℤ more.0.0, y +ℤ more.0.1),
      λ p. more.1 (shifted x y p)
          ∙ same_point (shifted more.0.0 more.0.1 (shifted x y p)) (shifted (x +ℤ more.0.0) (y +ℤ more.0.1) p)
          (omega (arith, ints)) (omega (arith, ints)),
    )
only_shifts (MirrorX ∷ ts) h = absurd (false≢true (sym h))
only_shifts (MirrorY ∷ ts) h = absurd (false≢true (sym h))
only_shifts (Turn a b ∷ ts) h = absurd (false≢true (sym h))

pub no_turn : (ts : List Transformation) (place : Placement) → IsComposedOf ts place → list_any is_turn ts ≡ false
    → place.turn ≡ 0
no_turn ts place is none =
    let s = only_shifts ts none in
    let still : Placement = record { turn = 0; x = s.0.0; y = s.0.1 } in
    ap (λ (p : Placement). p.turn) (one_placement place still is.turn (omega arith) (λ p. is.same p ∙ s.1 p))
