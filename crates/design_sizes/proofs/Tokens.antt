-- A line has a byte for each token, and a blank between two.
use Rattle.std.proofs.Common.{ℕ, ◌+◌, ◌*◌, ◌≤◌, eqb, List, [], ◌∷◌, length, Result, Ok, Err, arith}
use Rattle.std.{proofs.lemmas.List.length-take, specs.List.{slice_split, position_or_len}}
use Rattle.stick_lex.specs.{declared.token.{Token.Token, LexFault.LexFault}, Runs.{is_blank, without_comment}}
use Rattle.stick_lex.specs.{Runs.runs_of_parts, Tokens.{◌>>=◌, token_of, tokens_of_runs, tokens_of}}
use Rattle.stick_lex.proofs.Loop.{width, width-slice_split}

-- twice the tokens that were read, if any were, are at most n
abbrev pub AreFew : ℕ → Result (List Token) LexFault → Type 0
AreFew n (Ok tokens) = 2 * length tokens ≤ n
AreFew n (Err fault) = Unit {0}

more : (r : Result (List Token) LexFault) (n m : ℕ) → n ≤ m → AreFew n r → AreFew m r
more (Ok tokens) n m le few = omega arith
more (Err fault) n m le few = tt

one_more : (first : Result Token LexFault) (rest : Result (List Token) LexFault) (n m : ℕ) → n + 2 ≤ m → AreFew n rest
    → AreFew m (first >>= λ token. rest >>= λ tokens. Ok (token ∷ tokens))
one_more (Ok token) (Ok tokens) n m le few = omega arith
one_more (Ok token) (Err fault) n m le few = tt
one_more (Err fault) rest n m le few = tt

few_of_parts : (lo : ℕ) (parts : List (List ℕ)) → AreFew (width parts) (tokens_of_runs (runs_of_parts lo parts))
few_of_parts lo [] = omega arith
few_of_parts lo ([] ∷ parts) = more (tokens_of_runs (runs_of_parts (lo + 1) parts)) (width parts) (width ([] ∷ parts))
    (omega arith) (few_of_parts (lo + 1) parts)
few_of_parts lo ((b ∷ bs) ∷ parts) =
    let after : ℕ = lo + length (b ∷ bs) + 1 in
    one_more (token_of (record { lo = lo; text = b ∷ bs })) (tokens_of_runs (runs_of_parts after parts)) (width parts)
    (width ((b ∷ bs) ∷ parts)) (omega arith) (few_of_parts after parts)

pub few_tokens : (line : List ℕ) → AreFew (length line + 1) (tokens_of line)
unfolding tokens_of
few_tokens line =
    let said = without_comment line in
    let parts = slice_split is_blank said in
    more (tokens_of_runs (runs_of_parts 0 parts)) (width parts) (length line + 1)
    (omega (arith, width-slice_split is_blank said, length-take (position_or_len (λ b. eqb b 35) line) line))
    (few_of_parts 0 parts)
