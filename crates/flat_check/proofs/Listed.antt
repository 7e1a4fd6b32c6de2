-- A list of breaks that grows in their order.
use Rattle.std.proofs.Common.{◌≡◌, ℕ, zero, suc, ◌+◌, ◌<◌, ◌≤◌, ◌⊎◌, inl, inr, true, false, None, List, [], ◌∷◌, ◌++◌}
use Rattle.std.proofs.{Common.{All, Contains, length, refl, sym, ap, ◌∙◌, subst, arith}, lemmas.Bool.cases_lt}
use Rattle.std.proofs.lemmas.List.Elements.{All-contains, All-nil, All-push, Contains-append_left, Contains-push}
use Rattle.lam_geom.specs.declared.boxes.MaskBox.{MaskBox}
use Rattle.rule_table.specs.declared.technology.Tech.{Tech}
use Rattle.rule_breaks.specs.{declared.rule.{Break.Break, Rule.{Rule, TheVariants.Width}}, Breaks.{number_of, IsBreak}}
use Rattle.rule_breaks.specs.Lists.{AreFirstBreaks, AreBreaksInOrder, IsBefore, IsBroken, IsCut, IsLeftOut, ListBefore}
use Rattle.rule_breaks.specs.{Lists.{place, place_of}, Order.next_of}
use Rattle.flat_check.proofs.Orders.{number_within, one_number}

-- ---- the order

pub never : (x : Break) → IsBefore x x → ⊥
never x (inl h) = omega (arith, h)
never x (inr (e, inl h)) = omega (arith, h)
never x (inr (e, inr (f, h))) = omega (arith, h)

pub chained : (x y z : Break) → IsBefore x y → IsBefore y z → IsBefore x z
chained x y z (inl h) (inl k) = inl (omega (arith, h, k))
chained x y z (inl h) (inr (e, k)) = inl (omega (arith, h, e))
chained x y z (inr (e, h)) (inl k) = inl (omega (arith, e, k))
chained x y z (inr (e, inl h)) (inr (f, inl k)) = inr (omega (arith, e, f), inl (omega (arith, h, k)))
chained x y z (inr (e, inl h)) (inr (f, inr (g, k))) = inr (omega (arith, e, f), inl (omega (arith, h, g)))
chained x y z (inr (e, inr (g, h))) (inr (f, inl k)) = inr (omega (arith, e, f), inl (omega (arith, g, k)))
chained x y z (inr (e, inr (g, h))) (inr (f, inr (i, k))) =
    inr (omega (arith, e, f), inr (omega (arith, g, i), omega (arith, h, k)))

-- one is before the other, or they are the same
abbrev pub Compared : Break → Break → Type 0
Compared x y = IsBefore x y ⊎ ((x ≡ y) ⊎ IsBefore y x)

same : (x y : Break) → x.rule ≡ y.rule → x.a ≡ y.a → x.b ≡ y.b → x ≡ y
same x y r a b = ap (λ (n : ℕ). record x { rule = n }) r
    ∙ (ap (λ (n : ℕ). record y { a = n; b = x.b }) a ∙ ap (λ (n : ℕ). record y { b = n }) b)

pub compared : (x y : Break) → Compared x y
compared x y = elim (cases_lt x.rule y.rule) [
  | inl less ↦ inl (inl less)
  | inr more ↦ elim (cases_lt y.rule x.rule) [
    | inl under ↦ inr (inr (inl under))
    | inr over ↦
        let r : x.rule ≡ y.rule = omega (arith, more, over) in
        elim (cases_lt x.a y.a) [
          | inl less ↦ inl (inr (r, inl less))
          | inr after ↦ elim (cases_lt y.a x.a) [
            | inl under ↦ inr (inr (inr (sym r, inl under)))
            | inr beside ↦
                let a : x.a ≡ y.a = omega (arith, after, beside) in
                elim (cases_lt x.b y.b) [
                  | inl less ↦ inl (inr (r, inr (a, less)))
                  | inr past ↦ elim (cases_lt y.b x.b) [
                    | inl under ↦ inr (inr (inr (sym r, inr (sym a, under))))
                    | inr there ↦ inr (inl (same x y r a (omega (arith, past, there))))
                  ]
                ]
          ]
        ]
  ]
]

order_push : (xs : List Break) (y : Break) → AreBreaksInOrder xs → All (λ x. IsBefore x y) xs
    → AreBreaksInOrder (xs ++ y ∷ [])
order_push [] y h all = (All-nil (IsBefore y), tt)
order_push (x ∷ xs) y h all = (
  All-push (IsBefore x) xs y h.0 (all zero x (omega arith)),
  order_push xs y h.1
      (λ k d lt. all (suc k) d (omega (arith, lt))),
)

module _ (tech : Tech) (boxes : List MaskBox) where
  -- ---- on to a later place

  advance : (p q : Break) (list : List Break) → ((x : Break) → IsBefore x p → IsBefore x q)
      → ((x : Break) → IsBroken tech boxes x → IsBefore x q → IsBefore x p) → ListBefore tech boxes p list
      → ListBefore tech boxes q list
  advance p q list forth back h = record {
    each = λ k d lt. let at = h.each k d lt in (at.0, forth _ at.1);
    in_order = h.in_order;
    complete = λ x broken before. h.complete x broken (back x broken before);
  }

  -- a break of a rule by its number
  of_rule : (rule : Rule) (x : Break) → IsBroken tech boxes x → x.rule ≡ number_of rule
      → IsBreak tech boxes rule x.a x.b
  of_rule rule x h e = subst (λ (r : Rule). IsBreak tech boxes r x.a x.b)
      (one_number h.rule rule (sym h.numbered ∙ e)) h.broken

  -- to a later second box
  pub past_seconds : (rule : Rule) (a n m : ℕ) (list : List Break) → n ≤ m
      → ((c : ℕ) → n ≤ c → c < m → IsBreak tech boxes rule a c → ⊥) → ListBefore tech boxes (place rule a n) list
      → ListBefore tech boxes (place rule a m) list
  past_seconds rule a n m list le none = advance (place rule a n) (place rule a m) list forth back where
    forth : (x : Break) → IsBefore x (place rule a n) → IsBefore x (place rule a m)
    forth x (inl h) = inl h
    forth x (inr (e, inl h)) = inr (e, inl h)
    forth x (inr (e, inr (f, h))) = inr (e, inr (f, omega (arith, h, le)))

    back : (x : Break) → IsBroken tech boxes x → IsBefore x (place rule a m) → IsBefore x (place rule a n)
    back x broken (inl h) = inl h
    back x broken (inr (e, inl h)) = inr (e, inl h)
    back x broken (inr (e, inr (f, h))) = elim (cases_lt x.b n) [
      | inl less ↦ inr (e, inr (f, less))
      | inr more ↦
          absurd (none x.b more h (subst (λ (k : ℕ). IsBreak tech boxes rule k x.b) f (of_rule rule x broken e)))
    ]

  -- to the next first box
  pub past_first : (rule : Rule) (a n : ℕ) (list : List Break) → ((c : ℕ) → n ≤ c → IsBreak tech boxes rule a c → ⊥)
      → ListBefore tech boxes (place rule a n) list → ListBefore tech boxes (place rule (a + 1) 0) list
  past_first rule a n list none = advance (place rule a n) (place rule (a + 1) 0) list forth back where
    forth : (x : Break) → IsBefore x (place rule a n) → IsBefore x (place rule (a + 1) 0)
    forth x h = chained x (place rule a n) (place rule (a + 1) 0) h (inr (refl, inl (omega arith)))

    back : (x : Break) → IsBroken tech boxes x → IsBefore x (place rule (a + 1) 0) → IsBefore x (place rule a n)
    back x broken (inl h) = inl h
    back x broken (inr (e, inr (f, h))) = absurd (omega (arith, h))
    back x broken (inr (e, inl h)) = elim (cases_lt x.a a) [
      | inl less ↦ inr (e, inl less)
      | inr more ↦
          let at : x.a ≡ a = omega (arith, h, more) in
          elim (cases_lt x.b n) [
            | inl less ↦ inr (e, inr (at, less))
            | inr past ↦
                absurd (none x.b past (subst (λ (k : ℕ). IsBreak tech boxes rule k x.b) at (of_rule rule x broken e)))
          ]
    ]

  -- to the next rule
  pub past_rule : (rule : Rule) (n : ℕ) (list : List Break) → ((a b : ℕ) → n ≤ a → IsBreak tech boxes rule a b → ⊥)
      → ListBefore tech boxes (place rule n 0) list → ListBefore tech boxes (place_of (next_of rule)) list
  past_rule rule n list none h =
      subst (λ (p : Break). ListBefore tech boxes p list) (next_place rule)
      (advance (place rule n 0) next list forth back h) where
        next : Break
        next = record { rule = number_of rule + 1; a = 0; b = 0 }

        next_place : (r : Rule) → record { rule = number_of r + 1; a = 0; b = 0 } ≡ place_of (next_of r)
        next_place Width = refl
        next_place r = refl

        forth : (x : Break) → IsBefore x (place rule n 0) → IsBefore x next
        forth x h = chained x (place rule n 0) next h (inl (omega arith))

        back : (x : Break) → IsBroken tech boxes x → IsBefore x next → IsBefore x (place rule n 0)
        back x broken (inr (e, inl h)) = absurd (omega (arith, h))
        back x broken (inr (e, inr (f, h))) = absurd (omega (arith, h))
        back x broken (inl h) = elim (cases_lt x.rule (number_of rule)) [
          | inl less ↦ inl less
          | inr more ↦
              let at : x.rule ≡ number_of rule = omega (arith, h, more) in
              elim (cases_lt x.a n) [
                | inl less ↦ inr (at, inl less)
                | inr past ↦ absurd (none x.a x.b past (of_rule rule x broken at))
              ]
        ]

  -- one more break
  pub one_more : (rule : Rule) (a b : ℕ) (list : List Break) → IsBreak tech boxes rule a b
      → ListBefore tech boxes (place rule a b) list
      → ListBefore tech boxes (place rule a (b + 1)) (list ++ place rule a b ∷ [])
  one_more rule a b list broken h =
      let p = place rule a b in let q = place rule a (b + 1) in
      let forth = λ (x : Break) (k : IsBefore x p). chained x p q k (inr (refl, inr (refl, omega arith))) in
      record {
        each = All-push (λ (x : Break). IsBroken tech boxes x × IsBefore x q) list p
            (λ k d lt. let at = h.each k d lt in (at.0, forth _ at.1))
            (record { rule = rule; numbered = refl; broken = broken }, inr (refl, inr (refl, omega arith)));
        in_order = order_push list p h.in_order (λ k d lt. (h.each k d lt).1);
        complete = λ x is before. elim (compared x p) [
          | inl less ↦ Contains-append_left list (p ∷ []) x (h.complete x is less)
          | inr more ↦ elim more [
            | inl here ↦ subst (Contains (list ++ p ∷ [])) (sym here) (Contains-push list p)
            | inr after ↦ absurd (between x before after)
          ]
        ];
      } where
        between : (x : Break) → IsBefore x (place rule a (b + 1)) → IsBefore (place rule a b) x → ⊥
        between x (inl h) (inl k) = omega (arith, h, k)
        between x (inl h) (inr (e, k)) = omega (arith, h, e)
        between x (inr (e, h)) (inl k) = omega (arith, e, k)
        between x (inr (e, inl h)) (inr (f, inl k)) = omega (arith, h, k)
        between x (inr (e, inl h)) (inr (f, inr (g, k))) = omega (arith, h, g)
        between x (inr (e, inr (g, h))) (inr (f, inl k)) = omega (arith, g, k)
        between x (inr (e, inr (g, h))) (inr (f, inr (i, k))) = omega (arith, h, k)

  -- ---- the end

  listed_before : (p : Break) (list : List Break) → ListBefore tech boxes p list → (y : Break) → Contains list y
      → IsBefore y p
  listed_before p list h y there =
      (All-contains (λ (x : Break). IsBroken tech boxes x × IsBefore x p) list y h.each there).1

  -- a break that is left out is not before the place
  left_after : (p : Break) (list : List Break) → ListBefore tech boxes p list → (x y : Break)
      → IsLeftOut tech boxes list x → IsBefore y p → IsBefore y x
  left_after p list h x y left before = elim (compared x p) [
    | inl less ↦ absurd (left.out (h.complete x left.broken less))
    | inr more ↦ elim more [
      | inl here ↦ subst (IsBefore y) (sym here) before
      | inr after ↦ chained y p x before after
    ]
  ]

  pub cut_list : (most : ℕ) (list : List Break) → IsCut tech boxes most list → AreFirstBreaks tech boxes most list true
  cut_list most list h =
      let before = h.before in
      record {
        each = λ k d lt. (before.each k d lt).0;
        in_order = before.in_order;
        first = λ x y left there. left_after h.next list before x y left (listed_before h.next list before y there);
        few = omega (arith, h.full);
        full = λ _. h.full;
        left = (
          λ _. (
            h.next,
            record {
              broken = h.broken;
              out = λ there.
                  never h.next (listed_before h.next list before h.next there);
            },
          ),
          λ _. refl,
        );
      }

  pub whole_list : (most : ℕ) (list : List Break) → length list ≤ most → ListBefore tech boxes (place_of None) list
      → AreFirstBreaks tech boxes most list false
  whole_list most list few h =
      let all = λ (x : Break) (left : IsLeftOut tech boxes list x).
      let low = number_within left.broken.rule in left.out (h.complete x left.broken
      (inl (omega (arith, low.1, left.broken.numbered)))) in
      record {
        each = λ k d lt. (h.each k d lt).0;
        in_order = h.in_order;
        first = λ x y left there. absurd (all x left);
        few = few;
        full = λ t. absurd cc;
        left = (λ t. absurd cc, λ left. absurd (all left.0 left.1));
      }
