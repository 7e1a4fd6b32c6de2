-- A comment, as far as it has been passed.
use Rattle.std.proofs.Common.{◌≡◌, ℕ, zero, suc, ◌+◌, ◌-◌, ◌<◌, ◌≤◌, Bool, true, false, cond, eqb, List, ◌∷◌, length}
use Rattle.std.proofs.Common.{get_or, take, refl, sym, ap, ◌∙◌, subst, arith}
use Rattle.std.proofs.lemmas.{Bool.ne_eqb, List.{length-take-le, take-take, Sums.{count_by_more_yes, count_by_more_no}}}
use Rattle.std.specs.List.{count_by}
use Rattle.cif_lex.specs.{Blanks.{opening, opened, closed, IsComment}, Forms.IsLedBy}

-- so many bytes of a comment are passed, in which so many parentheses are open
pub record Inside (text : List ℕ) (i depth : ℕ) : Type 0 where
  pub counted : closed (take i text) + depth ≡ opened (take i text)
  pub stays : (k : ℕ) → 0 < k → k ≤ i → closed (take k text) < opened (take k text)
  pub small : depth ≤ i

-- one byte more, after which the depth is new
pub record IsPassed (text : List ℕ) (i depth : ℕ) : Type 0 where
  pub counted : closed (take (i + 1) text) + depth ≡ opened (take (i + 1) text)
  pub before : (k : ℕ) → 0 < k → k < i + 1 → closed (take k text) < opened (take k text)
  pub small : depth ≤ i + 1

one_more : (p : ℕ → Bool) (text : List ℕ) (i b : ℕ) → i < length text → get_or text i 0 ≡ b
    → count_by p (take (i + 1) text) ≡ count_by p (take i text) + cond (p b) 1 0
one_more p text i b lt at = count (p b) refl
  where
    count : (t : Bool) → p b ≡ t → count_by p (take (i + 1) text) ≡ count_by p (take i text) + cond t 1 0
    count true e = count_by_more_yes p text i 0 lt (ap p at ∙ e)
    count false e = let same = count_by_more_no p text i 0 lt (ap p at ∙ e) in omega (arith, same)

pub passed : (text : List ℕ) (i depth next b : ℕ) → i < length text → get_or text i 0 ≡ b → Inside text i depth
    → closed (take (i + 1) text) + next ≡ opened (take (i + 1) text) → next ≤ depth + 1 → IsPassed text i next
passed text i depth next b lt at is counts le = record {
  counted = counts;
  before = λ k more less. is.stays k more (omega arith);
  small = omega (arith, is.small);
}

pub passes_opening : (text : List ℕ) (i depth b : ℕ) → i < length text → get_or text i 0 ≡ b → Inside text i depth
    → b ≡ 40 → IsPassed text i (depth + 1)
passes_opening text i depth b lt at is e =
    let o = one_more (λ (c : ℕ). eqb c 40) text i 40 lt (at ∙ e) in
    let c = one_more (λ (c : ℕ). eqb c 41) text i 40 lt (at ∙ e) in
    passed text i depth (depth + 1) b lt at is (omega (arith, o, c, is.counted)) (omega arith)

pub passes_closing : (text : List ℕ) (i depth b : ℕ) → i < length text → get_or text i 0 ≡ b → Inside text i depth
    → b ≡ 41 → 0 < depth → IsPassed text i (depth - 1)
passes_closing text i depth b lt at is e some =
    let o = one_more (λ (c : ℕ). eqb c 40) text i 41 lt (at ∙ e) in
    let c = one_more (λ (c : ℕ). eqb c 41) text i 41 lt (at ∙ e) in
    passed text i depth (depth - 1) b lt at is (omega (arith, o, c, is.counted)) (omega arith)

pub passes_other : (text : List ℕ) (i depth b : ℕ) → i < length text → get_or text i 0 ≡ b → Inside text i depth
    → (b ≡ 40 → ⊥) → (b ≡ 41 → ⊥) → IsPassed text i depth
passes_other text i depth b lt at is no_opening no_closing =
    let o = count_by_more_no (λ (c : ℕ). eqb c 40) text i 0 lt (ap (λ (c : ℕ). eqb c 40) at ∙ ne_eqb b 40 no_opening) in
    let c = count_by_more_no (λ (c : ℕ). eqb c 41) text i 0 lt (ap (λ (c : ℕ). eqb c 41) at ∙ ne_eqb b 41 no_closing) in
    passed text i depth depth b lt at is (omega (arith, o, c, is.counted)) (omega arith)

-- what is taken of a text that begins with a parenthesis does too
begun_by : (text : List ℕ) (n : ℕ) → IsLedBy 40 text → (inside : List ℕ) × (take (n + 1) text ≡ opening ∷ inside)
begun_by text n led = (
  take n led.more,
  ap (λ (t : List ℕ). take (n + 1) t) led.begun
      ∙ (let e : n + 1 ≡ suc n = omega arith in ap (λ (k : ℕ). take k (40 ∷ led.more)) e),
)

-- the parenthesis that closes the first has been passed
pub comment_ends : (text : List ℕ) (i depth : ℕ) → IsLedBy 40 text → i < length text → IsPassed text i depth
    → depth ≡ 0 → IsComment (take (i + 1) text)
comment_ends text i depth led lt is none =
    let first = begun_by text i led in
    record {
      inside = first.0;
      begun = first.1;
      balanced = omega (arith, is.counted);
      open_inside = λ k more less.
          let len = length-take-le (i + 1) text (omega arith) in
          let short : k < i + 1 = omega (arith, len) in
          subst (λ (t : List ℕ). closed t < opened t) (sym (take-take k (i + 1) text (omega arith)))
          (is.before k more short);
    }

-- where a parenthesis closes, one is open
pub some_open : (text : List ℕ) (i depth : ℕ) → IsLedBy 40 text → Inside text i depth → get_or text i 0 ≡ 41 → 0 < depth
some_open text zero depth led is at = let first = sym (ap (λ (t : List ℕ). get_or t 0 0) led.begun)
    ∙ at in absurd (omega arith)
some_open text (suc i) depth led is at = omega (arith, is.counted, is.stays (suc i) (omega arith) (omega arith))
