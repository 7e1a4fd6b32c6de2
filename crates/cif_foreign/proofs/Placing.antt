-- Boxes that are turned and shifted.
use Rattle.std.proofs.Common.{◌≡◌, ℕ, zero, suc, ◌+◌, ◌^◌, ◌%◌, ℤ, neg_ℤ, ◌+ℤ◌, ◌<ℤ◌, int_lt, nat_lt, Bool, true, false}
use Rattle.std.proofs.{Common.{cond, ◌⊎◌, inl, inr, refl, sym, ap, ◌∙◌, subst, arith}, lemmas.Int.{ints, clamps}}
use Rattle.std.specs.Int.{int_min, int_max}
use Rattle.lam_geom.specs.declared.boxes.MaskLayer.{MaskLayer}
use Rattle.cif_lex.specs.{declared.placement.Placement.Placement, Transformations.{Point, shifted, x_mirrored, quarter}}
use Rattle.cif_lex.specs.Transformations.{quarters, turned, placed, shift_of, IsNear}
use Rattle.cif_lex.proofs.Turning.{placed_near, by_words, words_back, nearer}
use Rattle.cif_read.specs.{Hierarchies.{Drawn, placed_box}, Files.{IsWithin, IsSolidWithin}}

-- ---- the lower and the higher of two numbers

abbrev Sorted : ℤ → ℤ → Type 0
Sorted a b = ((int_min a b ≡ a) × (int_max a b ≡ b)) ⊎ ((int_min a b ≡ b) × (int_max a b ≡ a))

sorted : (a b : ℤ) → Sorted a b
sorted a b = by (int_lt b a) refl
  where
    by : (t : Bool) → int_lt b a ≡ t → Sorted a b
    by true e = inr (ap (λ (u : Bool). cond u b a) e, ap (λ (u : Bool). cond u a b) e)
    by false e = inl (ap (λ (u : Bool). cond u b a) e, ap (λ (u : Bool). cond u a b) e)

low_swap : (a b : ℤ) → int_min a b ≡ int_min b a
low_swap a b = omega (arith, ints, clamps)

high_swap : (a b : ℤ) → int_max a b ≡ int_max b a
high_swap a b = omega (arith, ints, clamps)

-- whatever is done to both
same_low : (g : ℤ → ℤ) (a b : ℤ) → int_min (g (int_min a b)) (g (int_max a b)) ≡ int_min (g a) (g b)
same_low g a b = by (sorted a b)
  where
    by : Sorted a b → int_min (g (int_min a b)) (g (int_max a b)) ≡ int_min (g a) (g b)
    by (inl h) = ap (λ (m : ℤ). int_min (g m) (g (int_max a b))) h.0 ∙ ap (λ (m : ℤ). int_min (g a) (g m)) h.1
    by (inr h) = ap (λ (m : ℤ). int_min (g m) (g (int_max a b))) h.0
        ∙ (ap (λ (m : ℤ). int_min (g b) (g m)) h.1 ∙ low_swap (g b) (g a))

same_high : (g : ℤ → ℤ) (a b : ℤ) → int_max (g (int_min a b)) (g (int_max a b)) ≡ int_max (g a) (g b)
same_high g a b = by (sorted a b)
  where
    by : Sorted a b → int_max (g (int_min a b)) (g (int_max a b)) ≡ int_max (g a) (g b)
    by (inl h) = ap (λ (m : ℤ). int_max (g m) (g (int_max a b))) h.0 ∙ ap (λ (m : ℤ). int_max (g a) (g m)) h.1
    by (inr h) = ap (λ (m : ℤ). int_max (g m) (g (int_max a b))) h.0
        ∙ (ap (λ (m : ℤ). int_max (g b) (g m)) h.1 ∙ high_swap (g b) (g a))

-- ---- between two points

abbrev pub between : MaskLayer → Point → Point → Drawn
between layer p q =
    record {
      layer = layer;
      left = int_min p.0 q.0;
      right = int_max p.0 q.0;
      bottom = int_min p.1 q.1;
      top = int_max p.1 q.1;
    }

abbrev low_corner : Point → Point → Point
low_corner p q = (int_min p.0 q.0, int_min p.1 q.1)

abbrev high_corner : Point → Point → Point
high_corner p q = (int_max p.0 q.0, int_max p.1 q.1)

-- each number of an image comes of one number
abbrev Keeps : (Point → Point) → Type 0
Keeps f = (layer : MaskLayer) (p q : Point)
    → between layer (f (low_corner p q)) (f (high_corner p q)) ≡ between layer (f p) (f q)

abbrev IsApart : (Point → Point) → Type 0
IsApart f = ((g h : ℤ → ℤ) × ((p : Point) → f p ≡ (g p.0, h p.1)))
    ⊎ ((g h : ℤ → ℤ) × ((p : Point) → f p ≡ (g p.1, h p.0)))

drawn_same : (layer : MaskLayer) (a b c d x y z w : ℤ) → a ≡ x → b ≡ y → c ≡ z → d ≡ w
    → ◌≡◌ {A = Drawn} (record { layer = layer; left = a; right = b; bottom = c; top = d })
    (record { layer = layer; left = x; right = y; bottom = z; top = w })
drawn_same layer a b c d x y z w e f g h = rw (e, f, g, h) refl

keeps : (f : Point → Point) → IsApart f → Keeps f
keeps f (inl (g, h, is)) layer p q =
    ap (λ (k : Point). between layer k (f (high_corner p q))) (is (low_corner p q))
    ∙ (ap (λ (k : Point). between layer (g (int_min p.0 q.0), h (int_min p.1 q.1)) k) (is (high_corner p q))
    ∙ (drawn_same layer _ _ _ _ _ _ _ _ (same_low g p.0 q.0) (same_high g p.0 q.0) (same_low h p.1 q.1)
    (same_high h p.1 q.1)
    ∙ (ap (λ (k : Point). between layer k (g q.0, h q.1)) (sym (is p))
    ∙ ap (λ (k : Point). between layer (f p) k) (sym (is q)))))
keeps f (inr (g, h, is)) layer p q =
    ap (λ (k : Point). between layer k (f (high_corner p q))) (is (low_corner p q))
    ∙ (ap (λ (k : Point). between layer (g (int_min p.1 q.1), h (int_min p.0 q.0)) k) (is (high_corner p q))
    ∙ (drawn_same layer _ _ _ _ _ _ _ _ (same_low g p.1 q.1) (same_high g p.1 q.1) (same_low h p.0 q.0)
    (same_high h p.0 q.0)
    ∙ (ap (λ (k : Point). between layer k (g q.1, h q.0)) (sym (is p))
    ∙ ap (λ (k : Point). between layer (f p) k) (sym (is q)))))

quarter_apart : (f : Point → Point) → IsApart f → IsApart (λ p. quarter (f p))
quarter_apart f (inl (g, h, is)) = inr ((λ z. neg_ℤ (h z)), g, λ p. ap quarter (is p))
quarter_apart f (inr (g, h, is)) = inl ((λ z. neg_ℤ (h z)), g, λ p. ap quarter (is p))

quarters_apart : (n : ℕ) (f : Point → Point) → IsApart f → IsApart (λ p. quarters n (f p))
quarters_apart zero f is = is
quarters_apart (suc n) f is = quarter_apart (λ p. quarters n (f p)) (quarters_apart n f is)

shifted_apart : (x y : ℤ) (f : Point → Point) → IsApart f → IsApart (λ p. shifted x y (f p))
shifted_apart x y f (inl (g, h, is)) = inl ((λ z. g z +ℤ x), (λ z. h z +ℤ y), λ p. ap (shifted x y) (is p))
shifted_apart x y f (inr (g, h, is)) = inr ((λ z. g z +ℤ x), (λ z. h z +ℤ y), λ p. ap (shifted x y) (is p))

turned_apart : (turn : ℕ) → IsApart (turned turn)
turned_apart turn = by (nat_lt turn 4)
  where
    by : (plain : Bool) → IsApart (λ p. quarters (turn % 4) (cond plain p (x_mirrored p)))
    by true = quarters_apart (turn % 4) (λ p. p) (inl ((λ z. z), (λ z. z), λ p. refl))
    by false = quarters_apart (turn % 4) x_mirrored (inl (neg_ℤ, (λ z. z), λ p. refl))

placed_keeps : (place : Placement) → Keeps (placed place)
placed_keeps place = keeps (placed place) (shifted_apart place.x place.y (turned place.turn) (turned_apart place.turn))

-- a box that is placed, and then placed again
pub placed_twice : (outer inner all : Placement) (box : Drawn)
    → ((p : Point) → placed all p ≡ placed outer (placed inner p))
    → placed_box all box ≡ placed_box outer (placed_box inner box)
placed_twice outer inner all box same =
    let p : Point = (box.left, box.bottom) in
    let q : Point = (box.right, box.top) in
    ap (λ (k : Point). between box.layer k (placed all q)) (same p)
    ∙ (ap (λ (k : Point). between box.layer (placed outer (placed inner p)) k) (same q)
    ∙ sym (placed_keeps outer box.layer (placed inner p) (placed inner q)))

-- ---- boxes that have an inside

-- two points that have no number in common
abbrev AreCorners : Point → Point → Type 0
AreCorners p q = ((p.0 <ℤ q.0) ⊎ (q.0 <ℤ p.0)) × ((p.1 <ℤ q.1) ⊎ (q.1 <ℤ p.1))

opposite : (a b : ℤ) → (a <ℤ b) ⊎ (b <ℤ a) → (neg_ℤ a <ℤ neg_ℤ b) ⊎ (neg_ℤ b <ℤ neg_ℤ a)
opposite a b (inl h) = inr (omega (arith, ints, h))
opposite a b (inr h) = inl (omega (arith, ints, h))

further : (a b x : ℤ) → (a <ℤ b) ⊎ (b <ℤ a) → ((a +ℤ x) <ℤ (b +ℤ x)) ⊎ ((b +ℤ x) <ℤ (a +ℤ x))
further a b x (inl h) = inl (omega (arith, ints, h))
further a b x (inr h) = inr (omega (arith, ints, h))

quarters_corners : (n : ℕ) (p q : Point) → AreCorners p q → AreCorners (quarters n p) (quarters n q)
quarters_corners zero p q h = h
quarters_corners (suc n) p q h = let k =
    quarters_corners n p q h in (opposite (quarters n p).1 (quarters n q).1 k.1, k.0)

turned_corners : (turn : ℕ) (p q : Point) → AreCorners p q → AreCorners (turned turn p) (turned turn q)
turned_corners turn p q h = by (nat_lt turn 4)
  where
    by : (plain : Bool) → AreCorners (quarters (turn % 4) (cond plain p (x_mirrored p)))
        (quarters (turn % 4) (cond plain q (x_mirrored q)))
    by true = quarters_corners (turn % 4) p q h
    by false = quarters_corners (turn % 4) (x_mirrored p) (x_mirrored q) (opposite p.0 q.0 h.0, h.1)

placed_corners : (place : Placement) (p q : Point) → AreCorners p q → AreCorners (placed place p) (placed place q)
placed_corners place p q h =
    let k = turned_corners place.turn p q h in (
      further (turned place.turn p).0 (turned place.turn q).0 place.x k.0,
      further (turned place.turn p).1
          (turned place.turn q).1 place.y k.1,
    )

apart_sorted : (a b : ℤ) → (a <ℤ b) ⊎ (b <ℤ a) → int_min a b <ℤ int_max a b
apart_sorted a b (inl h) = omega (arith, ints, clamps, h)
apart_sorted a b (inr h) = omega (arith, ints, clamps, h)

low_within : (reach : ℕ) (a b : ℤ) → IsWithin reach a → IsWithin reach b → IsWithin reach (int_min a b)
low_within reach a b h k = by (sorted a b)
  where
    by : Sorted a b → IsWithin reach (int_min a b)
    by (inl e) = subst (IsWithin reach) (sym e.0) h
    by (inr e) = subst (IsWithin reach) (sym e.0) k

high_within : (reach : ℕ) (a b : ℤ) → IsWithin reach a → IsWithin reach b → IsWithin reach (int_max a b)
high_within reach a b h k = by (sorted a b)
  where
    by : Sorted a b → IsWithin reach (int_max a b)
    by (inl e) = subst (IsWithin reach) (sym e.1) k
    by (inr e) = subst (IsWithin reach) (sym e.1) h

pub low_near : (reach : ℕ) (box : Drawn) → IsSolidWithin reach box → IsNear reach (box.left, box.bottom)
low_near reach box h = record { left = h.left.0; right = h.left.1; below = h.bottom.0; above = h.bottom.1 }

pub high_near : (reach : ℕ) (box : Drawn) → IsSolidWithin reach box → IsNear reach (box.right, box.top)
high_near reach box h = record { left = h.right.0; right = h.right.1; below = h.top.0; above = h.top.1 }

pub placed_solid : (place : Placement) (r s : ℕ) (box : Drawn) → IsNear r (shift_of place) → IsSolidWithin s box
    → IsSolidWithin (r + s) (placed_box place box)
placed_solid place r s box near h =
    let p = placed place (box.left, box.bottom) in
    let q = placed place (box.right, box.top) in
    let a = placed_near place r s (box.left, box.bottom) near (low_near s box h) in
    let b = placed_near place r s (box.right, box.top) near (high_near s box h) in
    let c = placed_corners place (box.left, box.bottom) (box.right, box.top) (inl h.wide, inl h.high) in
    record {
      left = low_within (r + s) p.0 q.0 (a.left, a.right) (b.left, b.right);
      right = high_within (r + s) p.0 q.0 (a.left, a.right) (b.left, b.right);
      bottom = low_within (r + s) p.1 q.1 (a.below, a.above) (b.below, b.above);
      top = high_within (r + s) p.1 q.1 (a.below, a.above) (b.below, b.above);
      wide = apart_sorted p.0 q.0 c.0;
      high = apart_sorted p.1 q.1 c.1;
    }

-- ---- by machine words

-- where a corner comes to
corner_is : (place : Placement) (p at : Point) → at ≡ placed place (by_words p) → IsNear (2 ^ 54) (shift_of place)
    → IsNear (2 ^ 50) p → by_words at ≡ placed place p
corner_is place p at e near small =
    let f : at ≡ placed place p = e
    ∙ ap (placed place) (words_back p (nearer (2 ^ 50) (2 ^ 61) p (omega arith) small)) in
    let g : IsNear (2 ^ 61) at =
    nearer (2 ^ 54 + 2 ^ 50) (2 ^ 61) at (omega arith)
    (subst (IsNear (2 ^ 54 + 2 ^ 50)) (sym f) (placed_near place (2 ^ 54) (2 ^ 50) p near small)) in
    words_back at g ∙ f

pub placed_is : (place : Placement) (box : Drawn) (p q : Point) (left right bottom top : ℤ)
    → p ≡ placed place (by_words (box.left, box.bottom)) → q ≡ placed place (by_words (box.right, box.top))
    → IsNear (2 ^ 54) (shift_of place) → IsSolidWithin (2 ^ 50) box → left ≡ int_min (by_words p).0 (by_words q).0
    → right ≡ int_max (by_words p).0 (by_words q).0 → bottom ≡ int_min (by_words p).1 (by_words q).1
    → top ≡ int_max (by_words p).1 (by_words q).1
    → ◌≡◌ {A = Drawn} (record { layer = box.layer; left = left; right = right; bottom = bottom; top = top })
    (placed_box place box)
placed_is place box p q left right bottom top e f near solid l r b t =
    let a = corner_is place (box.left, box.bottom) p e near (low_near (2 ^ 50) box solid) in
    let z = corner_is place (box.right, box.top) q f near (high_near (2 ^ 50) box solid) in
    drawn_same box.layer left right bottom top _ _ _ _ l r b t
    ∙ (ap (λ (k : Point). between box.layer k (by_words q)) a
    ∙ ap (λ (k : Point). between box.layer (placed place (box.left, box.bottom)) k) z)
