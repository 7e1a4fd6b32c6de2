-- The names of a row, taken one after the other.
use Rattle.std.proofs.Common.{◌≡◌, ℕ, ◌+◌, ◌-◌, ◌<◌, ◌≤◌, List, [], ◌∷◌, ◌++◌, length, get_or, take, drop, Result, Ok}
use Rattle.std.proofs.Common.{Err, refl, sym, ap, subst, ◌∙◌, append_assoc}
use Rattle.std.proofs.lemmas.List.{append-nil, drop_more, drop_all, drop-map, take_rest}
use Rattle.stick_words.specs.declared.words.Word as code
use Rattle.stick_words.specs.WordViews.{view, views}
use Rattle.stick_text.specs.{declared.fault.{StickKind.StickKind, LineFault.LineFault}, Reading.{◌>>=◌, FailsLine}}
use Rattle.stick_text.specs.{Words.{Word, AtMost, name_at}, Forms.names_of}
use Rattle.stick_text.specs.declared.fault.LineFault.TheVariants as line_faults

-- what was read before, and what is still read
abbrev pub with_prefix : List (List ℕ) → Result (List (List ℕ)) StickKind → Result (List (List ℕ)) StickKind
with_prefix prefix read = read >>= λ names. Ok (prefix ++ names)

abbrev then_rest : Result (List ℕ × List Word) StickKind → Result (List (List ℕ)) StickKind
    → Result (List (List ℕ)) StickKind
then_rest first rest = first >>= λ name. rest >>= λ names. Ok (name.0 ∷ names)

regroup : (prefix : List (List ℕ)) (name : List ℕ) (read : Result (List (List ℕ)) StickKind)
    → with_prefix prefix (read >>= λ names. Ok (name ∷ names)) ≡ with_prefix (prefix ++ name ∷ []) read
regroup prefix name (Ok x) = ap (λ (ns : List (List ℕ)). Ok ns) (sym (append_assoc prefix (name ∷ []) x))
regroup prefix name (Err e) = refl

-- the first of the words that are left
next : (ws : List Word) (i : ℕ) → i < length ws
    → names_of (drop i ws) ≡ then_rest (name_at (drop i ws)) (names_of (drop (i + 1) ws))
unfolding names_of
next ws i lt =
    let here : drop i ws ≡ get_or ws i AtMost ∷ drop (i + 1) ws = drop_more ws i AtMost lt in
    ap names_of here ∙ sym (ap (λ (w : List Word). then_rest (name_at w) (names_of (drop (i + 1) ws))) here)

pub goes_on : (ws : List Word) (prefix : List (List ℕ)) (i : ℕ) (name : List ℕ) (after : List Word)
    (total : Result (List (List ℕ)) StickKind) → i < length ws → name_at (drop i ws) ≡ Ok (name, after)
    → with_prefix prefix (names_of (drop i ws)) ≡ total
    → with_prefix (prefix ++ name ∷ []) (names_of (drop (i + 1) ws)) ≡ total
goes_on ws prefix i name after total lt e so_far =
    sym (ap (with_prefix prefix) (next ws i lt)
    ∙ ap (λ (first : Result (List ℕ × List Word) StickKind).
    with_prefix prefix (then_rest first (names_of (drop (i + 1) ws)))) e ∙ regroup prefix name (names_of
    (drop (i + 1) ws))) ∙ so_far

fails_then : (e : LineFault) (prefix : List (List ℕ)) (first : Result (List ℕ × List Word) StickKind)
    (rest : Result (List (List ℕ)) StickKind) → FailsLine e first
    → FailsLine e (with_prefix prefix (then_rest first rest))
fails_then line_faults.OutOfMemory prefix first rest h = tt
fails_then (line_faults.Kind k) prefix first rest h =
    ap (λ (f : Result (List ℕ × List Word) StickKind). with_prefix prefix (then_rest f rest)) h

pub stops : (ws : List Word) (prefix : List (List ℕ)) (i : ℕ) (e : LineFault)
    (total : Result (List (List ℕ)) StickKind) → i < length ws → FailsLine e (name_at (drop i ws))
    → with_prefix prefix (names_of (drop i ws)) ≡ total → FailsLine e total
stops ws prefix i e total lt h so_far =
    subst (FailsLine e) (sym (ap (with_prefix prefix) (next ws i lt)) ∙ so_far)
    (fails_then e prefix (name_at (drop i ws)) (names_of (drop (i + 1) ws)) h)

pub is_done : (ws : List Word) (prefix : List (List ℕ)) (i : ℕ) (total : Result (List (List ℕ)) StickKind)
    → length ws ≤ i → with_prefix prefix (names_of (drop i ws)) ≡ total → total ≡ Ok prefix
unfolding names_of
is_done ws prefix i total le so_far = sym so_far
    ∙ ap (λ (w : List Word). with_prefix prefix (names_of w)) (drop_all i ws le)
    ∙ ap (λ (ns : List (List ℕ)). Ok ns) (append-nil prefix)

-- the words of a slice that begins at i
pub left_words : (words : List code.Word) (i : ℕ)
    → views (take (length words - i) (drop i words)) ≡ drop i (views words)
left_words words i = ap views (take_rest words i) ∙ sym (drop-map view i words)
