-- A text cut chunk by chunk.
use Rattle.std.proofs.Common.{◌≡◌, ◌≢◌, ℕ, zero, suc, ◌+◌, ◌-◌, ◌==◌, ◌<◌, ◌≤◌, All, List, [], ◌∷◌, ◌++◌, append_assoc}
use Rattle.std.proofs.Common.{length, map, take, drop, refl, sym, ap, subst, ◌∙◌, arith, inl, inr}
use Rattle.std.proofs.lemmas.{Bool.cases_lt, List.{length-append, append-nil, map-append, length-drop, length-take-le}}
use Rattle.std.proofs.lemmas.List.{drop-drop, get_or-drop, get_or_append_left, get_or_push, take-append-drop}
use Rattle.std.proofs.{lemmas.List.{Concat.flat_map-append, Elements.All-push}, Math.Seq.take-add}
use Rattle.std.specs.Prelude.{slice_index, flat_map, if◌then◌else◌}
use Rattle.cif_text.specs.Cutting.{most_bytes, EndsLine, first_line, chunk_at, IsOfLines}
use Rattle.cif_text.proofs.Lines.{prefix_ends, feed_among}

-- ---- the first line

-- a line goes on as long as no line feed comes
pub long_line : (text : List ℕ) (n : ℕ) → n < length text → ((k : ℕ) → k < n → slice_index text k ≢ 10)
    → n < length (first_line text)
long_line [] n lt none = absurd (omega (arith, lt))
long_line (b ∷ text) zero lt none = grind arith
long_line (b ∷ text) (suc n) lt none =
    let first : b ≢ 10 = none zero (omega arith) in
    let rest = long_line text n (omega (arith, lt)) (λ k less. none (suc k) (omega (arith, less))) in
    grind (arith, first, rest)

-- the first line of a chunk is that of the text from there on
pub first_of_chunk : (prefix rest : List ℕ)
    → first_line ((prefix ++ (10 ∷ [])) ++ rest) ≡ first_line (prefix ++ (10 ∷ []))
first_of_chunk [] rest = refl
first_of_chunk (b ∷ prefix) rest = ap (λ line. if b == 10 then b ∷ [] else b ∷ line) (first_of_chunk prefix rest)

-- ---- the chunks so far

-- the text is cut as far as a place
pub record CutTo (text : List ℕ) (place : ℕ) (cut : List (List ℕ)) : Type 0 where
  pub joined : flat_map (λ chunk. chunk) cut ≡ take place text
  pub whole_lines : All EndsLine cut
  pub short : All (λ chunk. length chunk ≤ most_bytes) cut
  pub full : (k : ℕ) → k + 1 < length cut
      → most_bytes < length (chunk_at cut k) + length (first_line (chunk_at cut (k + 1)))
  pub last : (k : ℕ) → k + 1 ≡ length cut → place < length text
      → most_bytes < length (chunk_at cut k) + length (first_line (drop place text))

-- the next chunk
pub record IsChunk (text : List ℕ) (start end : ℕ) : Type 0 where
  pub after : start < end
  pub within : end ≤ length text
  pub short : end ≤ start + most_bytes
  pub line : slice_index text (end - 1) ≡ 10
  pub full : end < length text → most_bytes < (end - start) + length (first_line (drop end text))

abbrev pub chunk_of : List ℕ → ℕ → ℕ → List ℕ
chunk_of text start end = take (end - start) (drop start text)

-- a chunk ends a line, and its first line is that of the text from there on
chunk_ends : (text : List ℕ) (start end : ℕ) → IsChunk text start end → EndsLine (chunk_of text start end)
chunk_ends text start end is =
    let n = end - start - 1 in
    let feed : slice_index (drop start text) n ≡ 10 = get_or-drop start text n 0
    ∙ (let here : start + n ≡ end - 1 = omega (arith, is.after) in ap (slice_index text) here ∙ is.line) in
    let size : n + 1 ≡ end - start = omega (arith, is.after) in
    subst (λ m. EndsLine (take m (drop start text))) size
    (prefix_ends (drop start text) n (omega (arith, length-drop start text, is.after, is.within)) feed)

rest_of : (text : List ℕ) (start end : ℕ) → start ≤ end → chunk_of text start end ++ drop end text ≡ drop start text
rest_of text start end le =
    let more : drop (end - start) (drop start text) ≡ drop end text =
    (let sum : start + (end - start) ≡ end = omega (arith, le) in drop-drop (end - start) start text
    ∙ ap (λ n. drop n text) sum) in
    ap (λ rest. chunk_of text start end ++ rest) (sym more) ∙ take-append-drop (end - start) (drop start text)

prefix_of : (text : List ℕ) (start end : ℕ) → start ≤ end → take start text ++ chunk_of text start end ≡ take end text
prefix_of text start end le =
    let sum : start + (end - start) ≡ end = omega (arith, le) in
    sym (take-add start (end - start) text) ∙ ap (λ n. take n text) sum

first_there : (text : List ℕ) (start end : ℕ) → IsChunk text start end
    → first_line (drop start text) ≡ first_line (chunk_of text start end)
first_there text start end is =
    let chunk = chunk_of text start end in
    let ends = chunk_ends text start end is in
    ap first_line (sym (rest_of text start end (omega (arith, is.after))) ∙ ap (λ p. p ++ drop end text) ends.1)
    ∙ (first_of_chunk ends.0 (drop end text) ∙ ap first_line (sym ends.1))

pub cut_on : (text : List ℕ) (start end : ℕ) (cut : List (List ℕ)) → CutTo text start cut → IsChunk text start end
    → CutTo text end (cut ++ (chunk_of text start end ∷ []))
cut_on text start end cut so is =
    let chunk = chunk_of text start end in
    let size : length chunk ≡ end - start =
    length-take-le (end - start) (drop start text) (omega (arith, length-drop start text, is.within)) in
    let counted = length-append cut (chunk ∷ []) in
    let after : (k : ℕ) → k ≡ length cut → chunk_at (cut ++ (chunk ∷ [])) k ≡ chunk =
    λ k e. get_or_push cut chunk [] k (sym e) in
    let before : (k : ℕ) → k < length cut → chunk_at (cut ++ (chunk ∷ [])) k ≡ chunk_at cut k =
    λ k lt. get_or_append_left cut (chunk ∷ []) [] k lt in
    record {
      joined = flat_map-append (λ one. one) cut (chunk ∷ [])
          ∙ (ap (λ prefix. prefix ++ (chunk ++ [])) so.joined
          ∙ (ap (λ one. take start text ++ one) (append-nil chunk)
          ∙ prefix_of text start end (omega (arith, is.after))));
      whole_lines = All-push EndsLine cut chunk so.whole_lines (chunk_ends text start end is);
      short = All-push (λ one. length one ≤ most_bytes) cut chunk so.short (omega (arith, size, is.short));
      full = λ k lt. elim (cases_lt (k + 1) (length cut)) [
        | inl inside ↦
            omega (
              arith,
              so.full k inside,
              ap length (before k (omega (arith, inside))),
              ap
                  (λ one. length (first_line one)) (before (k + 1) inside),
            )
        | inr at ↦ omega (
          arith,
          so.last k (omega (arith, counted, lt, at)) (omega (arith, is.after, is.within)),
          ap length (before k (omega (arith, counted, lt, at))),
          ap (λ one. length (first_line one)) (after (k + 1) (omega (arith, counted, lt, at))),
          ap length (first_there text start end is),
        )
      ];
      last = λ k e lt. omega (arith, is.full lt, size, ap length (after k (omega (arith, counted, e))));
    }

-- where no line feed stands among the bytes that would still fit, the next line does not fit
pub line_too_long : (text : List ℕ) (start end : ℕ) → start < end → start + most_bytes < length text
    → end ≤ start + most_bytes → ((k : ℕ) → end ≤ k → k < start + most_bytes → slice_index text k ≢ 10)
    → most_bytes < (end - start) + length (first_line (drop end text))
line_too_long text start end after long within none =
    let n = (start + most_bytes) - end in
    let more = long_line (drop end text) n (omega (arith, length-drop end text, long))
    (λ k lt feed. none (end + k) (omega arith) (omega (arith, lt, within))
    (sym (get_or-drop end text k 0) ∙ feed)) in
    omega (arith, more, after, within)

-- one step back from the last byte that would fit
pub record StepsBack (text : List ℕ) (start end : ℕ) : Type 0 where
  pub after : start < end - 1
  pub none : (k : ℕ) → end - 1 ≤ k → k < start + most_bytes → slice_index text k ≢ 10

pub steps_back : (text : List ℕ) (start end : ℕ) → IsOfLines text → start + most_bytes ≤ length text → start < end
    → ((k : ℕ) → end ≤ k → k < start + most_bytes → slice_index text k ≢ 10)
    → slice_index text (end - 1) ≢ 10 → StepsBack text start end
steps_back text start end of long after none other =
    let found = feed_among text of start long in
    let at_last : found.0 ≡ end - 1 → ⊥ = λ e. other (ap (slice_index text) (sym e) ∙ found.3) in
    let inside : found.0 < end =
    elim (cases_lt found.0 end) [ inl inside ↦ inside | inr far ↦ absurd (none found.0 far found.2 found.3) ] in
    record {
      after = omega (arith, found.1, inside, at_last);
      none = λ k le lt. elim (cases_lt k end) [
        | inl before ↦
            (let here : k ≡ end - 1 = omega (arith, before, le) in λ feed.
            other (ap (slice_index text) (sym here) ∙ feed))
        | inr far ↦ none k far lt
      ];
    }

-- one chunk more
pub chunk_pushed : {X : Type 0} (f : X → List ℕ) (now next : List X) (x : X) (prefix cut : List (List ℕ))
    (chunk : List ℕ) → map f now ≡ prefix ++ cut → next ≡ now ++ (x ∷ []) → f x ≡ chunk
    → map f next ≡ prefix ++ (cut ++ (chunk ∷ []))
chunk_pushed f now next x prefix cut chunk was is made =
    ap (map f) is
    ∙ (map-append f now (x ∷ [])
    ∙ (ap (λ ps. ps ++ (f x ∷ [])) was
    ∙ (append_assoc prefix cut (f x ∷ []) ∙ ap (λ p. prefix ++ (cut ++ (p ∷ []))) made)))
