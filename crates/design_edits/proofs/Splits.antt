-- The place of a line that has some number among the lines of a kind.
use Rattle.std.proofs.Common.{◌≡◌, ℕ, ◌+◌, Bool, true, cond, List, [], ◌∷◌, ◌++◌, refl, sym, ap, ◌∙◌, arith}
use Rattle.std.{proofs.lemmas.List.Sums.sum_by-cons, specs.Prelude.count_by}
use Rattle.stick_text.specs.declared.design.Line.{Line}

abbrev count_of : (Line → Bool) → Line → ℕ
count_of is line = cond (is line) 1 0

count_cons : (is : Line → Bool) (line : Line) (lines : List Line)
    → count_by is (line ∷ lines) ≡ count_of is line + count_by is lines
count_cons is line lines = sum_by-cons (count_of is) line lines

count_one : (is : Line → Bool) (line : Line) → is line ≡ true → count_of is line ≡ 1
count_one is line e = ap (λ (b : Bool). cond b 1 0) e

head_same : (x y : Line) (xs ys : List Line) → ◌≡◌ {A = List Line} (x ∷ xs) (y ∷ ys) → (x ≡ y) × (xs ≡ ys)
head_same x y xs ys e = (cc, cc)

pub record AreSameParts (prefix other : List Line) (line second : Line) (back rest : List Line) : Type 0 where
  pub prefixes : prefix ≡ other
  pub lines : line ≡ second
  pub backs : back ≡ rest

pub same_split : (is : Line → Bool) (prefix other : List Line) (line second : Line) (back rest : List Line)
    → prefix ++ line ∷ back ≡ other ++ second ∷ rest → count_by is prefix ≡ count_by is other
    → is line ≡ true → is second ≡ true → AreSameParts prefix other line second back rest
same_split is [] [] line second back rest e n w v = let h =
    head_same line second back rest e in record { prefixes = refl; lines = h.0; backs = h.1 }
same_split is [] (y ∷ other) line second back rest e n w v =
    let h = head_same line y back (other ++ second ∷ rest) e in
    let one : count_of is y ≡ 1 = sym (ap (count_of is) h.0) ∙ count_one is line w in
    absurd (omega (arith, n, count_cons is y other, one))
same_split is (x ∷ prefix) [] line second back rest e n w v =
    let h = head_same x second (prefix ++ line ∷ back) rest e in
    let one : count_of is x ≡ 1 = ap (count_of is) h.0 ∙ count_one is second v in
    absurd (omega (arith, n, count_cons is x prefix, one))
same_split is (x ∷ prefix) (y ∷ other) line second back rest e n w v =
    let h = head_same x y (prefix ++ line ∷ back) (other ++ second ∷ rest) e in
    let fewer : count_by is prefix ≡ count_by is other =
    omega (arith, n, count_cons is x prefix, count_cons is y other, ap (count_of is) h.0) in
    let parts = same_split is prefix other line second back rest h.1 fewer w v in
    record {
      prefixes = ap (λ (l : List Line). x ∷ l) parts.prefixes
          ∙ ap (λ (l : Line). l ∷ other) h.0;
      lines = parts.lines;
      backs = parts.backs;
    }
