-- Each token is what its slice of the line stands for.
use Rattle.std.proofs.Common.{◌≡◌, ℕ, ◌+◌, ◌-◌, ◌<◌, ◌≤◌, ℤ, pos, Bool, true, false, cond, eqb, leb, List, [], ◌∷◌}
use Rattle.std.proofs.Common.{◌++◌, length, take, drop, Result, Ok, Err, refl, sym, ap, subst, ◌∙◌, append_assoc, arith}
use Rattle.std.proofs.{Common.codes, lemmas.List.{drop_at, take-append-drop, length-append}}
use Rattle.std.specs.{List.{slice_split, slice_range, onto_first, position_or_len, AllByRecursion}, Str.bytes_eq}
use Rattle.stick_lex.specs.declared.token.{Token.Token, TokenKind.{TokenKind, TheVariants.{Path, Number, AtMost}}}
use Rattle.stick_lex.specs.declared.token.{TokenKind.TheVariants.AtLeast, LexFault.{LexFault, TheVariants.BadByte}}
use Rattle.stick_lex.specs.declared.token.LexFault.TheVariants.{NumberTooLarge}
use Rattle.stick_lex.specs.{Runs.{Run, is_blank, without_comment, runs_of_parts}, Tokens.{◌>>=◌, is_path, is_number}}
use Rattle.stick_lex.specs.Tokens.{magnitude, value_of, spanning, token_of, tokens_of_runs, tokens_of, IsTokenOf}

-- ---- the parts lie in the line

-- from the place lo on, each part is a slice of the line
abbrev Covers : List ℕ → ℕ → List (List ℕ) → Type 0
Covers line lo [] = Unit {0}
Covers line lo (part ∷ parts) = (lo + length part ≤ length line) × (take (length part) (drop lo line) ≡ part)
    × Covers line (lo + length part + 1) parts

covers-onto_first : (line : List ℕ) (lo x : ℕ) (xs : List ℕ) (parts : List (List ℕ)) → drop lo line ≡ x ∷ xs
    → drop (lo + 1) line ≡ xs → lo < length line → Covers line (lo + 1) parts → Covers line lo (onto_first x parts)
covers-onto_first line lo x xs [] at after lt h = (omega arith, ap (λ (t : List ℕ). take 1 t) at, tt)
covers-onto_first line lo x xs (part ∷ parts) at after lt h = (
  omega (arith, h.0),
  ap (λ (t : List ℕ). take (length (x ∷ part)) t) at
      ∙ ap (λ (t : List ℕ). x ∷ t) (sym (ap (λ (t : List ℕ). take (length part) t) after) ∙ h.1),
  subst (λ (k : ℕ). Covers line k parts) (omega arith) h.2,
)

covers-more : (b : Bool) (line : List ℕ) (lo x : ℕ) (xs : List ℕ) (parts : List (List ℕ)) → drop lo line ≡ x ∷ xs
    → drop (lo + 1) line ≡ xs → lo < length line → Covers line (lo + 1) parts
    → Covers line lo (cond b ([] ∷ parts) (onto_first x parts))
covers-more true line lo x xs parts at after lt h =
    (omega arith, refl, subst (λ (k : ℕ). Covers line k parts) (omega arith) h)
covers-more false line lo x xs parts at after lt h = covers-onto_first line lo x xs parts at after lt h

-- stated of a line in three pieces, of which the middle one is cut
covers : (p : ℕ → Bool) (prefix xs back line : List ℕ) (lo : ℕ) → line ≡ prefix ++ (xs ++ back) → length prefix ≡ lo
    → Covers line lo (slice_split p xs)
covers p prefix [] back line lo e at = (omega (arith, ap length e, length-append prefix back), refl, tt)
covers p prefix (x ∷ xs) back line lo e at =
    let regrouped : line ≡ (prefix ++ x ∷ []) ++ (xs ++ back) = e ∙ sym (append_assoc prefix (x ∷ []) (xs ++ back)) in
    let longer : length (prefix ++ x ∷ []) ≡ lo + 1 = omega (arith, length-append prefix (x ∷ [])) in
    let at_lo : drop lo line ≡ x ∷ (xs ++ back) = ap (λ (t : List ℕ). drop lo t) e
    ∙ drop_at prefix (x ∷ (xs ++ back)) lo at in
    let at_next : drop (lo + 1) line ≡ xs ++ back = ap (λ (t : List ℕ). drop (lo + 1) t) regrouped
    ∙ drop_at (prefix ++ x ∷ []) (xs ++ back) (lo + 1) longer in
    let inside : lo < length line = omega (arith, ap length e, length-append prefix (x ∷ (xs ++ back))) in
    covers-more (p x) line lo x (xs ++ back) (slice_split p xs) at_lo at_next inside
    (covers p (prefix ++ x ∷ []) xs back line (lo + 1) regrouped longer)

pub covers_line : (line : List ℕ) → Covers line 0 (slice_split is_blank (without_comment line))
covers_line line =
    let n = position_or_len (λ (b : ℕ). eqb b 35) line in
    covers is_blank [] (take n line) (drop n line) line 0 (sym (take-append-drop n line)) refl

-- ---- what a run stands for spans the run

abbrev read : {A : Type 0} → A → Result A LexFault
read x = Ok x

ok_is : {A : Type 0} (x y : A) → read x ≡ read y → x ≡ y
ok_is x y e = cc

abbrev Spans : Run → Token → Type 0
Spans run t = (run.lo ≡ t.lo) × (run.lo + length run.text ≡ t.hi)

spans_as : (run : Run) (kind : TokenKind) (v : ℤ) (t : Token) → read (spanning kind v run) ≡ read t → Spans run t
spans_as run kind v t e =
    let same : spanning kind v run ≡ t = ok_is (spanning kind v run) t e in
    (ap (λ (u : Token). u.lo) same, ap (λ (u : Token). u.hi) same)

spans_by : (a b m c d : Bool) (run : Run) (v : ℤ) (t : Token)
    → cond a (Ok (spanning Path (pos 0) run))
    (cond b (cond m (Ok (spanning Number v run)) (Err (NumberTooLarge run.lo)))
    (cond c (Ok (spanning AtMost (pos 0) run))
    (cond d (Ok (spanning AtLeast (pos 0) run)) (Err (BadByte run.lo))))) ≡ Ok t → Spans run t
spans_by true b m c d run v t e = spans_as run Path (pos 0) t e
spans_by false true true c d run v t e = spans_as run Number v t e
spans_by false true false c d run v t e = absurd cc
spans_by false false m true d run v t e = spans_as run AtMost (pos 0) t e
spans_by false false m false true run v t e = spans_as run AtLeast (pos 0) t e
spans_by false false m false false run v t e = absurd cc

token_spans : (run : Run) (t : Token) → token_of run ≡ Ok t → Spans run t
unfolding token_of
token_spans run t e = spans_by (is_path run.text) (is_number run.text) (leb (magnitude run.text) 1000000)
    (bytes_eq run.text (codes "<=")) (bytes_eq run.text (codes ">=")) run (value_of run.text) t e

-- ---- each token

bind_ok : {A B : Type 0} (r : Result A LexFault) (f : A → Result B LexFault) (y : B) → (r >>= f) ≡ Ok y
    → (x : A) × (r ≡ Ok x) × (f x ≡ Ok y)
bind_ok (Ok x) f y e = (x, refl, e)
bind_ok (Err d) f y e = absurd cc

is_token : (line : List ℕ) (lo b : ℕ) (bs : List ℕ) (t : Token) → lo + length (b ∷ bs) ≤ length line
    → take (length (b ∷ bs)) (drop lo line) ≡ b ∷ bs → token_of (record { lo = lo; text = b ∷ bs }) ≡ Ok t
    → IsTokenOf line t
is_token line lo b bs t within slice e =
    let s = token_spans (record { lo = lo; text = b ∷ bs }) t e in
    let long : t.hi - t.lo ≡ length (b ∷ bs) = omega (arith, s.0, s.1) in
    let text : slice_range line t.lo t.hi ≡ b ∷ bs = ap (λ (n : ℕ). take n (drop t.lo line)) long
    ∙ ap (λ (k : ℕ). take (length (b ∷ bs)) (drop k line)) (sym s.0) ∙ slice in
    record {
      begins = omega (arith, s.0, s.1);
      ends = omega (arith, s.0, s.1);
      slice = ap (λ (k : ℕ). token_of (record { lo = k; text = slice_range line t.lo t.hi })) (sym s.0)
          ∙ ap (λ (w : List ℕ). token_of (record { lo = lo; text = w })) text ∙ e;
    }

each : (line : List ℕ) (lo : ℕ) (parts : List (List ℕ)) (ts : List Token) → Covers line lo parts
    → tokens_of_runs (runs_of_parts lo parts) ≡ Ok ts → AllByRecursion (IsTokenOf line) ts
each line lo [] ts h e = subst (AllByRecursion (IsTokenOf line)) (ok_is [] ts e) tt
each line lo ([] ∷ parts) ts h e =
    each line (lo + 1) parts ts (subst (λ (k : ℕ). Covers line k parts) (omega arith) h.2) e
each line lo ((b ∷ bs) ∷ parts) ts h e =
    let first = bind_ok (token_of (record { lo = lo; text = b ∷ bs }))
    (λ token. tokens_of_runs (runs_of_parts (lo + length (b ∷ bs) + 1) parts) >>= λ tokens. Ok (token ∷ tokens))
    ts e in
    let rest = bind_ok (tokens_of_runs (runs_of_parts (lo + length (b ∷ bs) + 1) parts))
    (λ tokens. Ok (first.0 ∷ tokens)) ts first.2 in
    subst (AllByRecursion (IsTokenOf line)) (ok_is (first.0 ∷ rest.0) ts rest.2)
    (is_token line lo b bs first.0 h.0 h.1 first.1, each line (lo + length (b ∷ bs) + 1) parts rest.0 h.2 rest.1)

pub tokens_are_slices : (line : List ℕ) (ts : List Token) → tokens_of line ≡ Ok ts → AllByRecursion (IsTokenOf line) ts
unfolding tokens_of
tokens_are_slices line ts e = each line 0 (slice_split is_blank (without_comment line)) ts (covers_line line) e
