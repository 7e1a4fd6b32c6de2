-- The parts between blanks, taken one after the other.
use Rattle.std.proofs.Common.{◌≡◌, ℕ, ◌+◌, ◌<◌, ◌≤◌, Bool, true, false, cond, List, [], ◌∷◌, ◌++◌, length, get_or, drop}
use Rattle.std.proofs.Common.{Result, Ok, Err, refl, sym, ap, subst, ◌∙◌, append_assoc, arith}
use Rattle.std.proofs.lemmas.List.{append-nil, drop_more, drop_all, Splits.length-slice_split}
use Rattle.std.specs.List.{slice_split, onto_first}
use Rattle.stick_lex.specs.declared.token.{Token.Token, LexFault.{LexFault, TheVariants.{BadByte, NumberTooLarge}}}
use Rattle.stick_lex.specs.declared.token.LexFault.TheVariants.{OutOfMemory}
use Rattle.stick_lex.specs.{Runs.runs_of_parts, Tokens.{◌>>=◌, Fails, token_of, tokens_of_runs}}

-- how far the parts reach, with a blank after each
abbrev pub width : List (List ℕ) → ℕ
width [] = 0
width (part ∷ parts) = length part + 1 + width parts

width-onto_first : (x : ℕ) (parts : List (List ℕ)) → 0 < length parts → width (onto_first x parts) ≡ width parts + 1
width-onto_first x [] h = absurd (omega arith)
width-onto_first x (part ∷ parts) h = omega arith

width-more : (b : Bool) (x n : ℕ) (parts : List (List ℕ)) → 0 < length parts → width parts ≡ n + 1
    → width (cond b ([] ∷ parts) (onto_first x parts)) ≡ n + 1 + 1
width-more true x n parts h e = omega arith
width-more false x n parts h e = omega (arith, width-onto_first x parts h)

pub width-slice_split : (p : ℕ → Bool) (xs : List ℕ) → width (slice_split p xs) ≡ length xs + 1
width-slice_split p [] = refl
width-slice_split p (x ∷ xs) =
    omega (
      arith,
      width-more (p x) x (length xs) (slice_split p xs) (omega (arith, length-slice_split p xs))
          (width-slice_split p xs),
    )

-- what was read before, and what is still read
abbrev pub with_prefix : List Token → Result (List Token) LexFault → Result (List Token) LexFault
with_prefix prefix read = read >>= λ tokens. Ok (prefix ++ tokens)

-- n parts are after the loop, which has come to the place lo and has these tokens
pub record Walks (parts : List (List ℕ)) (total : Result (List Token) LexFault) (n lo : ℕ)
    (tokens : List Token) : Type 0 where
  pub place : lo + width (drop n parts) ≡ width parts
  pub so_far : with_prefix tokens (tokens_of_runs (runs_of_parts lo (drop n parts))) ≡ total

pub starts : (parts : List (List ℕ)) (total : Result (List Token) LexFault)
    → tokens_of_runs (runs_of_parts 0 parts) ≡ total → Walks parts total 0 0 []
starts parts total e = record { place = omega arith; so_far = same (tokens_of_runs (runs_of_parts 0 parts)) ∙ e }
  where
    same : (read : Result (List Token) LexFault) → with_prefix [] read ≡ read
    same (Ok x) = refl
    same (Err x) = refl

next_part : (parts : List (List ℕ)) (n : ℕ) (part : List ℕ) → n < length parts → part ≡ get_or parts n part
    → drop n parts ≡ part ∷ drop (n + 1) parts
next_part parts n part lt at = drop_more parts n part lt ∙ ap (λ (x : List ℕ). x ∷ drop (n + 1) parts) (sym at)

-- the part lies within the text
pub within : (parts : List (List ℕ)) (total : Result (List Token) LexFault) (n lo : ℕ) (tokens : List Token)
    (part : List ℕ) → n < length parts → part ≡ get_or parts n part → Walks parts total n lo tokens
    → lo + (length part + 1) ≤ width parts
within parts total n lo tokens part lt at w = omega (arith, w.place, ap width (next_part parts n part lt at))

pub skips : (parts : List (List ℕ)) (total : Result (List Token) LexFault) (n lo : ℕ) (tokens : List Token)
    (part : List ℕ) → n < length parts → part ≡ get_or parts n part → length part ≡ 0
    → Walks parts total n lo tokens → Walks parts total (n + 1) (lo + (length part + 1)) tokens
skips parts total n lo tokens [] lt at empty w =
    let next = next_part parts n [] lt at in
    record {
      place = omega (arith, w.place, ap width next);
      so_far = ap (λ (k : ℕ). with_prefix tokens (tokens_of_runs (runs_of_parts k (drop (n + 1) parts))))
          (omega arith)
          ∙ sym (ap (λ (p : List (List ℕ)). with_prefix tokens (tokens_of_runs (runs_of_parts lo p))) next)
          ∙ w.so_far;
    }
skips parts total n lo tokens (b ∷ bs) lt at empty w = absurd (omega arith)

regroup : (prefix : List Token) (t : Token) (read : Result (List Token) LexFault)
    → with_prefix prefix (read >>= λ tokens. Ok (t ∷ tokens)) ≡ with_prefix (prefix ++ t ∷ []) read
regroup prefix t (Ok x) = ap (λ (ts : List Token). Ok ts) (sym (append_assoc prefix (t ∷ []) x))
regroup prefix t (Err e) = refl

-- the token of a run, in front of those after it
abbrev then_rest : Result Token LexFault → Result (List Token) LexFault → Result (List Token) LexFault
then_rest first rest = first >>= λ token. rest >>= λ tokens. Ok (token ∷ tokens)

pub takes : (parts : List (List ℕ)) (total : Result (List Token) LexFault) (n lo : ℕ) (tokens : List Token)
    (part : List ℕ) (t : Token) → n < length parts → part ≡ get_or parts n part → 0 < length part
    → token_of (record { lo = lo; text = part }) ≡ Ok t → Walks parts total n lo tokens
    → Walks parts total (n + 1) (lo + (length part + 1)) (tokens ++ t ∷ [])
takes parts total n lo tokens [] t lt at some e w = absurd (omega arith)
takes parts total n lo tokens (b ∷ bs) t lt at some e w =
    let next = next_part parts n (b ∷ bs) lt at in
    let rest = tokens_of_runs (runs_of_parts (lo + length (b ∷ bs) + 1) (drop (n + 1) parts)) in
    let one : with_prefix tokens (tokens_of_runs (runs_of_parts lo (drop n parts)))
    ≡ with_prefix (tokens ++ t ∷ []) rest =
    ap (λ (p : List (List ℕ)). with_prefix tokens (tokens_of_runs (runs_of_parts lo p))) next
    ∙ ap (λ (first : Result Token LexFault). with_prefix tokens (then_rest first rest)) e
    ∙ regroup tokens t rest in
    record {
      place = omega (arith, w.place, ap width next);
      so_far = ap (λ (k : ℕ). with_prefix (tokens ++ t ∷ []) (tokens_of_runs (runs_of_parts k (drop (n + 1) parts))))
          (omega arith) ∙ sym one ∙ w.so_far;
    }

Fails-then : (e : LexFault) (first : Result Token LexFault) (rest : Result (List Token) LexFault)
    (prefix : List Token) → Fails e first → Fails e (with_prefix prefix (then_rest first rest))
Fails-then OutOfMemory first rest prefix h = tt
Fails-then (BadByte k) first rest prefix h = ap (λ (f : Result Token LexFault). with_prefix prefix (then_rest f rest)) h
Fails-then (NumberTooLarge k) first rest prefix h =
    ap (λ (f : Result Token LexFault). with_prefix prefix (then_rest f rest)) h

pub stops : (parts : List (List ℕ)) (total : Result (List Token) LexFault) (n lo : ℕ) (tokens : List Token)
    (part : List ℕ) (e : LexFault) → n < length parts → part ≡ get_or parts n part → 0 < length part
    → Fails e (token_of (record { lo = lo; text = part })) → Walks parts total n lo tokens → Fails e total
stops parts total n lo tokens [] e lt at some h w = absurd (omega arith)
stops parts total n lo tokens (b ∷ bs) e lt at some h w =
    let next = next_part parts n (b ∷ bs) lt at in
    let rest = tokens_of_runs (runs_of_parts (lo + length (b ∷ bs) + 1) (drop (n + 1) parts)) in
    subst (Fails e) (sym (ap (λ (p : List (List ℕ)). with_prefix tokens (tokens_of_runs (runs_of_parts lo p))) next)
    ∙ w.so_far) (Fails-then e (token_of (record { lo = lo; text = b ∷ bs })) rest tokens h)

pub ends : (parts : List (List ℕ)) (total : Result (List Token) LexFault) (n lo : ℕ) (tokens : List Token)
    → n ≡ length parts → Walks parts total n lo tokens → total ≡ Ok tokens
ends parts total n lo tokens all w =
    sym w.so_far ∙ ap (λ (p : List (List ℕ)). with_prefix tokens (tokens_of_runs (runs_of_parts lo p)))
    (drop_all n parts (omega arith)) ∙ ap (λ (ts : List Token). Ok ts) (append-nil tokens)
