-- A line of words, cut into its words again.
use Rattle.std.proofs.Common.{◌≡◌, ℕ, zero, suc, ◌+◌, ◌-◌, ◌<◌, ◌≤◌, ◌≢◌, ℤ, false, eqb, List, [], ◌∷◌, ◌++◌, length}
use Rattle.std.proofs.Common.{get_or, take, drop, map, Result, Ok, refl, sym, ap, ◌∙◌, append_assoc, arith}
use Rattle.std.proofs.lemmas.List.{append-nil, drop_at, take_at, take_all, length-append, Elements.All-from_recursion}
use Rattle.std.proofs.lemmas.List.{Splits.{slice_split_at, slice_split_none}, Sums.position_or_len_is}
use Rattle.std.proofs.lemmas.Bool.Decides.{nat_tests}
use Rattle.std.specs.List.{slice_split, slice_range, position_or_len, AllByRecursion}
use Rattle.stick_lex.specs.declared.token.{Token.Token, TokenKind.TokenKind, LexFault.LexFault}
use Rattle.stick_lex.specs.{Runs.{Run, is_blank, without_comment, runs_of_parts}, Tokens.{◌>>=◌, spanning, token_of}}
use Rattle.stick_lex.specs.Tokens.{tokens_of_runs, tokens_of}
use Rattle.stick_text.specs.Words.{Word, word_by, word_of}
use Rattle.stick_print.specs.Canonical.{spaced}

-- a byte of a word: none of the bytes below the minus, so no blank, no line end and no `#`
abbrev pub IsPlain : ℕ → Type 0
IsPlain b = 45 ≤ b

-- a byte of a line
abbrev pub IsInner : ℕ → Type 0
IsInner b = (32 ≤ b) × (b ≢ 35)

-- the word is one run, and the token of that run says this, wherever it begins
pub record Says (text : List ℕ) (word : Word) : Type 0 where
  pub some : 0 < length text
  pub plain : AllByRecursion IsPlain text
  pub kind : TokenKind
  pub value : ℤ
  pub token : (lo : ℕ) → token_of (record { lo = lo; text = text })
      ≡ Ok (spanning kind value (record { lo = lo; text = text }))
  pub said : word_by kind text value ≡ word

abbrev pub AllSay : List (List ℕ) → List Word → Type 0
AllSay [] [] = Unit {0}
AllSay [] (word ∷ words) = ⊥
AllSay (text ∷ texts) [] = ⊥
AllSay (text ∷ texts) (word ∷ words) = Says text word × AllSay texts words

-- ---- blanks

not_blank : (b : ℕ) → IsPlain b → is_blank b ≡ false
not_blank b h = grind (arith, nat_tests)

no_blanks : (w : List ℕ) → AllByRecursion IsPlain w → AllByRecursion (λ b. is_blank b ≡ false) w
no_blanks [] h = tt
no_blanks (b ∷ bs) h = (not_blank b h.0, no_blanks bs h.1)

pub split_spaced : (w : List ℕ) (ws : List (List ℕ)) → AllByRecursion IsPlain w
    → AllByRecursion (AllByRecursion IsPlain) ws → slice_split is_blank (w ++ spaced ws) ≡ w ∷ ws
split_spaced w [] h hs = ap (slice_split is_blank) (append-nil w)
    ∙ slice_split_none is_blank w (All-from_recursion (λ b. is_blank b ≡ false) w (no_blanks w h))
split_spaced w (v ∷ vs) h hs =
    slice_split_at is_blank w 32 (v ++ spaced vs) (All-from_recursion (λ b. is_blank b ≡ false) w (no_blanks w h))
    refl ∙ ap (λ (x : List (List ℕ)). w ∷ x) (split_spaced v vs hs.0 hs.1)

-- ---- bytes of a line

inner_plain : (w : List ℕ) → AllByRecursion IsPlain w → AllByRecursion IsInner w
inner_plain [] h = tt
inner_plain (b ∷ bs) h = ((omega (arith, h.0), λ e. omega (arith, h.0, e)), inner_plain bs h.1)

pub inner_append : (xs ys : List ℕ) → AllByRecursion IsInner xs → AllByRecursion IsInner ys
    → AllByRecursion IsInner (xs ++ ys)
inner_append [] ys h k = k
inner_append (x ∷ xs) ys h k = (h.0, inner_append xs ys h.1 k)

inner_spaced : (ws : List (List ℕ)) → AllByRecursion (AllByRecursion IsPlain) ws → AllByRecursion IsInner (spaced ws)
inner_spaced [] h = tt
inner_spaced (w ∷ ws) h =
    ((omega arith, λ e. omega (arith, e)), inner_append w (spaced ws) (inner_plain w h.0) (inner_spaced ws h.1))

pub inner_line : (w : List ℕ) (ws : List (List ℕ)) → AllByRecursion IsPlain w
    → AllByRecursion (AllByRecursion IsPlain) ws → AllByRecursion IsInner (w ++ spaced ws)
inner_line w ws h hs = inner_append w (spaced ws) (inner_plain w h) (inner_spaced ws hs)

pub inner_at : (line : List ℕ) (k : ℕ) → AllByRecursion IsInner line → k < length line → IsInner (get_or line k 0)
inner_at [] k h lt = absurd (omega arith)
inner_at (b ∷ bs) zero h lt = h.0
inner_at (b ∷ bs) (suc k) h lt = inner_at bs k h.1 (omega arith)

no_hash : (b : ℕ) → IsInner b → eqb b 35 ≡ false
no_hash b h = grind (arith, nat_tests, h.1)

-- a line without `#` is its own prefix
pub uncommented : (line : List ℕ) → AllByRecursion IsInner line → without_comment line ≡ line
uncommented line h = take_all (position_or_len (λ b. eqb b 35) line) line
    (omega (
      arith,
      position_or_len_is (λ b. eqb b 35) line (length line) 0 (omega arith)
          (λ k lt. no_hash (get_or line k 0) (inner_at line k h lt)) (λ lt. absurd (omega arith)),
    ))

-- ---- tokens of the words

pub plain_texts : (texts : List (List ℕ)) (words : List Word) → AllSay texts words
    → AllByRecursion (AllByRecursion IsPlain) texts
plain_texts [] [] h = tt
plain_texts [] (word ∷ words) h = absurd h
plain_texts (text ∷ texts) [] h = absurd h
plain_texts (text ∷ texts) (word ∷ words) h = (h.0.plain, plain_texts texts words h.1)

abbrev Reads : List ℕ → List (List ℕ) → ℕ → List Word → Type 0
Reads line texts lo words = (ts : List Token) × (tokens_of_runs (runs_of_parts lo texts) ≡ Ok ts)
    × (map (word_of line) ts ≡ words)

one_run : (lo : ℕ) (text : List ℕ) (texts : List (List ℕ)) → 0 < length text
    → runs_of_parts lo (text ∷ texts) ≡ record { lo = lo; text = text } ∷ runs_of_parts (lo + length text + 1) texts
one_run lo [] texts h = absurd (omega arith)
one_run lo (b ∷ bs) texts h = refl

abbrev then_rest : Result Token LexFault → Result (List Token) LexFault → Result (List Token) LexFault
then_rest first rest = first >>= λ token. rest >>= λ tokens. Ok (token ∷ tokens)

slice_of : (prefix text rest line : List ℕ) (lo : ℕ) → line ≡ prefix ++ (text ++ rest) → length prefix ≡ lo
    → slice_range line lo (lo + length text) ≡ text
slice_of prefix text rest line lo e at =
    let n : lo + length text - lo ≡ length text = omega arith in
    let after : drop lo line ≡ text ++ rest = ap (λ (l : List ℕ). drop lo l) e ∙ drop_at prefix (text ++ rest) lo at in
    ap (λ (k : ℕ). take k (drop lo line)) n ∙ ap (λ (l : List ℕ). take (length text) l) after
    ∙ take_at text rest (length text) refl

reads : (prefix text : List ℕ) (texts : List (List ℕ)) (line : List ℕ) (lo : ℕ) (word : Word) (words : List Word)
    → line ≡ prefix ++ (text ++ spaced texts) → length prefix ≡ lo → Says text word → AllSay texts words
    → Reads line (text ∷ texts) lo (word ∷ words)
reads prefix text [] line lo word [] e at h hs =
    let run : Run = record { lo = lo; text = text } in
    let token = spanning h.kind h.value run in (
      token ∷ [],
      ap tokens_of_runs (one_run lo text [] h.some)
          ∙ ap (λ (first : Result Token LexFault). then_rest first (Ok [])) (h.token lo),
      ap (λ (w : Word). w ∷ []) (ap (λ (t : List ℕ). word_by h.kind t h.value) (slice_of prefix text [] line lo e at)
          ∙ h.said),
    )
reads prefix text [] line lo word (w ∷ words) e at h hs = absurd hs
reads prefix text (t ∷ texts) line lo word [] e at h hs = absurd hs
reads prefix text (t ∷ texts) line lo word (w ∷ words) e at h hs =
    let run : Run = record { lo = lo; text = text } in
    let token = spanning h.kind h.value run in
    let next : ℕ = lo + length text + 1 in
    let regrouped : line ≡ (prefix ++ (text ++ 32 ∷ [])) ++ (t ++ spaced texts) =
    e ∙ ap (λ (l : List ℕ). prefix ++ l) (sym (append_assoc text (32 ∷ []) (t ++ spaced texts)))
    ∙ sym (append_assoc prefix (text ++ 32 ∷ []) (t ++ spaced texts)) in
    let longer : length (prefix ++ (text ++ 32 ∷ [])) ≡ next =
    omega (arith, length-append prefix (text ++ 32 ∷ []), length-append text (32 ∷ [])) in
    let rest = reads (prefix ++ (text ++ 32 ∷ [])) t texts line next w words regrouped longer hs.0 hs.1 in (
      token ∷ rest.0,
      ap tokens_of_runs (one_run lo text (t ∷ texts) h.some)
          ∙ ap (λ (first : Result Token LexFault). then_rest first (tokens_of_runs (runs_of_parts next (t ∷ texts))))
          (h.token lo) ∙ ap (λ (others : Result (List Token) LexFault). then_rest (Ok token) others) rest.1,
      ap (λ (v : Word). v ∷ map (word_of line) rest.0)
          (ap (λ (x : List ℕ). word_by h.kind x h.value) (slice_of prefix text (spaced (t ∷ texts)) line lo e at)
          ∙ h.said) ∙ ap (λ (ws : List Word). word ∷ ws) rest.2,
    )

-- the words of a line of words
pub words_again : (text : List ℕ) (texts : List (List ℕ)) (word : Word) (words : List Word) → Says text word
    → AllSay texts words → (ts : List Token) × (tokens_of (text ++ spaced texts) ≡ Ok ts)
    × (map (word_of (text ++ spaced texts)) ts ≡ word ∷ words)
unfolding tokens_of
words_again text texts word words h hs =
    let plains = plain_texts texts words hs in
    let line : List ℕ = text ++ spaced texts in
    let parts : slice_split is_blank (without_comment line) ≡ text ∷ texts =
    ap (slice_split is_blank) (uncommented line (inner_line text texts h.plain plains))
    ∙ split_spaced text texts h.plain plains in
    let r = reads [] text texts line 0 word words refl refl h hs in
    (r.0, ap (λ (ps : List (List ℕ)). tokens_of_runs (runs_of_parts 0 ps)) parts ∙ r.1, r.2)
