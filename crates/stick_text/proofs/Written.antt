-- What is read is made of names, paths and numbers that are not too large.
use Rattle.std.proofs.Common.{◌≡◌, ℕ, zero, suc, ◌+◌, ◌<◌, ◌≤◌, ℤ, pos, negsuc, neg_ℤ, Bool, true, false, cond, eqb}
use Rattle.std.proofs.Common.{leb, List, [], ◌∷◌, length, map, Option, Some, None, Result, Ok, Err, refl, sym, subst}
use Rattle.std.{proofs.Common.{arith, codes}, specs.{List.AllByRecursion, Str.{bytes_eq, Lines.lines}, Prelude.◌≢◌}}
use Rattle.stick_lex.specs.{declared.token.{Token.Token, LexFault.LexFault}, Runs.{Run, runs}, Tokens.tokens_of_runs}
use Rattle.stick_lex.specs.Tokens.{is_name, is_path, is_number, is_minus, magnitude, value_of, spanning, token_of}
use Rattle.stick_lex.{specs.{Tokens.{text_of, tokens_of, IsTokenOf}, Numbers.IsNumber}, proofs.Slices.tokens_are_slices}
use Rattle.stick_lex.specs.declared.token.TokenKind.TheVariants as kinds
use Rattle.stick_lex.specs.declared.token.LexFault.TheVariants as lex_faults
use Rattle.stick_lex.specs.Tokens as Lexed
use Rattle.stick_text.specs.declared.fault.StickKind.{StickKind, TheVariants.{BadLine, TooManyCells}}
use Rattle.stick_text.specs.declared.design.{Layer.TheVariants.{Diffusion, Poly}, CellText.CellText}
use Rattle.stick_text.specs.declared.design.Form.TheVariants.{Joint, Contact, Buried, Fet, Port, Inst, Wire, Limit}
use Rattle.stick_text.specs.declared.design.{Design.Design, Statement.{Statement, TheVariants.{Version, Cell, Item}}}
use Rattle.stick_text.specs.{declared.design.Statement.TheVariants.{Grid, Row, End}, Reading.◌>>=◌, Words.{Word, Path}}
use Rattle.stick_text.specs.Words.{Number, AtMost, AtLeast, word_by, word_of, Prefix, path_at, name_at, number_at}
use Rattle.stick_text.specs.Words.{count_of, count_at, optional_count_at, at_most_at, value_at, layer_named, layer_at}
use Rattle.stick_text.specs.Words.{lower_named, lower_at, side_named, side_at, second_of, either_at, ended}
use Rattle.stick_text.specs.Forms.{start, ◌&◌, whole, joint_of, contact_of, buried_of, fet_of, port_of, use_of, wire_of}
use Rattle.stick_text.specs.Forms.{limit_of, version_of, cell_of, grid_of, names_of, row_of, end_of, form_named}
use Rattle.stick_text.specs.{Forms.{item_named, statement_named, statement_of}, Lines.{tokens_or_kind, said_by_words}}
use Rattle.stick_text.specs.{Lines.{said_by, Entry, with_entry, entries}, Order.{Place, AtHead, AfterCells, InCell}}
use Rattle.stick_text.specs.Order.{InGrid, AtEnd, place_after, Rest, with_line, at_line, at_end, rest_from, last_line}
use Rattle.stick_text.specs.{Order.design_of, Laws.IsWord, Writable.{IsName, IsPath, IsCount, IsWidth, IsLower, IsForm}}
use Rattle.stick_text.specs.Writable.{IsLine, IsRow, IsStatement, IsCell, IsGridName, IsGrid}

-- P holds of what was read, if anything was
abbrev pub Holds : {A E : Type 0} → (A → Type 0) → Result A E → Type 0
Holds P (Ok x) = P x
Holds P (Err e) = Unit {0}

pub then_holds : {A B E : Type 0} (P : A → Type 0) (Q : B → Type 0) (r : Result A E) (f : A → Result B E) → Holds P r
    → ((x : A) → P x → Holds Q (f x)) → Holds Q (r >>= f)
then_holds P Q (Ok x) f h k = k x h
then_holds P Q (Err e) f h k = tt

-- ---- words

abbrev pub AreWords : List Word → Type 0
AreWords words = AllByRecursion IsWord words

neg_small : (m : ℕ) → m ≤ 1000000 → IsNumber (neg_ℤ (pos m))
neg_small zero h = omega arith
neg_small (suc m) h = omega arith

signed_small : (b : Bool) (m : ℕ) → m ≤ 1000000 → IsNumber (cond b (neg_ℤ (pos m)) (pos m))
signed_small true m h = neg_small m h
signed_small false m h = h

value_small : (text : List ℕ) → magnitude text ≤ 1000000 → IsNumber (value_of text)
value_small [] h = omega arith
value_small (b ∷ bs) h = signed_small (is_minus b) (magnitude (b ∷ bs)) h

abbrev made : Token → Result Token LexFault
made t = Ok t

same_token : (s t : Token) → made s ≡ made t → s ≡ t
same_token s t e = cc

abbrev SaysWord : List ℕ → Token → Type 0
SaysWord text t = IsWord (word_by t.kind text t.value)

by_tests : (a b m c d : Bool) (text : List ℕ) (lo : ℕ) (t : Token) → is_path text ≡ a → leb (magnitude text) 1000000 ≡ m
    → cond a (Ok (spanning kinds.Path (pos 0) (record { lo = lo; text = text })))
    (cond b (cond m (Ok (spanning kinds.Number (value_of text) (record { lo = lo; text = text })))
    (Err (lex_faults.NumberTooLarge lo))) (cond c
    (Ok (spanning kinds.AtMost (pos 0) (record { lo = lo; text = text })))
    (cond d (Ok (spanning kinds.AtLeast (pos 0) (record { lo = lo; text = text })))
    (Err (lex_faults.BadByte lo))))) ≡ Ok t
    → SaysWord text t
by_tests true b m c d text lo t path small e =
    subst (SaysWord text) (same_token (spanning kinds.Path (pos 0) (record { lo = lo; text = text })) t e) path
by_tests false true true c d text lo t path small e =
    subst (SaysWord text) (same_token (spanning kinds.Number (value_of text) (record { lo = lo; text = text })) t e)
    (value_small text (borrow.Author.Tests.leb-true _ _ small))
by_tests false true false c d text lo t path small e = absurd cc
by_tests false false m true d text lo t path small e =
    subst (SaysWord text) (same_token (spanning kinds.AtMost (pos 0) (record { lo = lo; text = text })) t e) tt
by_tests false false m false true text lo t path small e =
    subst (SaysWord text) (same_token (spanning kinds.AtLeast (pos 0) (record { lo = lo; text = text })) t e) tt
by_tests false false m false false text lo t path small e = absurd cc

token_word : (line : List ℕ) (t : Token) → IsTokenOf line t → IsWord (word_of line t)
unfolding token_of
token_word line t h =
    let text : List ℕ = text_of line t in
    by_tests (is_path text) (is_number text) (leb (magnitude text) 1000000) (bytes_eq text (codes "<="))
    (bytes_eq text (codes ">=")) text t.lo t refl refl h.slice

pub token_words : (line : List ℕ) (ts : List Token) → AllByRecursion (IsTokenOf line) ts
    → AreWords (map (word_of line) ts)
token_words line [] h = tt
token_words line (t ∷ ts) h = (token_word line t h.0, token_words line ts h.1)

-- ---- faults

third_by : (a b m c d : Bool) (run : Run)
    → cond a (Ok (spanning kinds.Path (pos 0) run))
    (cond b (cond m (Ok (spanning kinds.Number (value_of run.text) run)) (Err (lex_faults.NumberTooLarge run.lo)))
    (cond c (Ok (spanning kinds.AtMost (pos 0) run))
    (cond d (Ok (spanning kinds.AtLeast (pos 0) run))
    (Err (lex_faults.BadByte run.lo))))) ≡ Err lex_faults.OutOfMemory → ⊥
third_by true b m c d run e = absurd cc
third_by false true true c d run e = absurd cc
third_by false true false c d run e = absurd cc
third_by false false m true d run e = absurd cc
third_by false false m false true run e = absurd cc
third_by false false m false false run e = absurd cc

no_third_token : (run : Run) → token_of run ≡ Err lex_faults.OutOfMemory → ⊥
unfolding token_of
no_third_token run e = third_by (is_path run.text) (is_number run.text) (leb (magnitude run.text) 1000000)
    (bytes_eq run.text (codes "<=")) (bytes_eq run.text (codes ">=")) run e

third_first : (first : Result Token LexFault) (rest : Result (List Token) LexFault)
    → (first ≡ Err lex_faults.OutOfMemory → ⊥) → (rest ≡ Err lex_faults.OutOfMemory → ⊥)
    → Lexed.◌>>=◌ first (λ token. Lexed.◌>>=◌ rest (λ tokens. Ok (token ∷ tokens))) ≡ Err lex_faults.OutOfMemory → ⊥
third_first (Ok t) (Ok ts) h k e = absurd cc
third_first (Ok t) (Err f) h k e = k cc
third_first (Err f) rest h k e = h cc

no_third : (rs : List Run) → tokens_of_runs rs ≡ Err lex_faults.OutOfMemory → ⊥
no_third [] e = absurd cc
no_third (run ∷ rs) e = third_first (token_of run) (tokens_of_runs rs) (no_third_token run) (no_third rs) e

pub no_third_fault : (line : List ℕ) → ¬ (tokens_of line ≡ Err lex_faults.OutOfMemory)
unfolding tokens_of
no_third_fault line e = no_third (runs line) e

pub words_in_range : (line : List ℕ) (ts : List Token) → tokens_of line ≡ Ok ts → AreWords (map (word_of line) ts)
words_in_range line ts e = token_words line ts (tokens_are_slices line ts e)

-- ---- readers

abbrev Taken : {A : Type 0} → (A → Type 0) → A × List Word → Type 0
Taken P x = P x.0 × AreWords x.1

abbrev Any : {A : Type 0} → A → Type 0
Any x = Unit {0}

path_holds : (ws : List Word) → AreWords ws → Holds (Taken IsPath) (path_at ws)
unfolding path_at
path_holds (Path text ∷ rest) h = h
path_holds ws h = tt

number_holds : (ws : List Word) → AreWords ws → Holds (Taken IsNumber) (number_at ws)
unfolding number_at
number_holds (Number n ∷ rest) h = h
number_holds ws h = tt

if_holds : {A : Type 0} (P : A → Type 0) (b : Bool) (x : A) → (b ≡ true → P x)
    → Holds {E = StickKind} P (cond b (Ok x) (Err BadLine))
if_holds P true x h = h refl
if_holds P false x h = tt

name_holds : (ws : List Word) → AreWords ws → Holds (Taken IsName) (name_at ws)
unfolding name_at
name_holds ws h = then_holds (Taken IsPath) (Taken IsName) (path_at ws)
    (λ path. cond (is_name path.0) (Ok path) (Err BadLine)) (path_holds ws h)
    (λ path k. if_holds (Taken IsName) (is_name path.0) path (λ e. (e, k.1)))

count_of_holds : (z : ℤ) (rest : List Word) → AreWords rest → Holds (Taken IsCount) (count_of z rest)
count_of_holds (pos n) rest h =
    if_holds (Taken IsCount) (leb n 1000000) (n, rest) (λ e. (borrow.Author.Tests.leb-true _ _ e, h))
count_of_holds (negsuc n) rest h = tt

count_holds : (ws : List Word) → AreWords ws → Holds (Taken IsCount) (count_at ws)
unfolding count_at
count_holds ws h = then_holds (Taken IsNumber) (Taken IsCount) (number_at ws) (λ number. count_of number.0 number.1)
    (number_holds ws h) (λ number k. count_of_holds number.0 number.1 k.1)

width_holds : (ws : List Word) → AreWords ws → Holds (Taken IsWidth) (optional_count_at ws)
unfolding optional_count_at
width_holds [] h = (tt, tt)
width_holds (w ∷ ws) h = then_holds (Taken IsCount) (Taken IsWidth) (count_at (w ∷ ws))
    (λ count. Ok (Some count.0, count.1)) (count_holds (w ∷ ws) h) (λ count k. k)

at_most_holds : (ws : List Word) → AreWords ws → Holds (Taken Any) (at_most_at ws)
unfolding at_most_at
at_most_holds (AtMost ∷ rest) h = (tt, h.1)
at_most_holds (AtLeast ∷ rest) h = (tt, h.1)
at_most_holds ws h = tt

any_holds : {A E : Type 0} (r : Result A E) → Holds Any r
any_holds (Ok x) = tt
any_holds (Err e) = tt

value_holds : {A : Type 0} (P : A → Type 0) (value_of : List ℕ → Result A StickKind)
    → ((text : List ℕ) → Holds P (value_of text)) → (ws : List Word) → AreWords ws
    → Holds (Taken P) (value_at value_of ws)
value_holds P value_of each ws h =
    then_holds (Taken IsPath) (Taken P) (path_at ws) _ (path_holds ws h)
    (λ path k. then_holds P (Taken P) (value_of path.0) (λ value. Ok (value, path.1)) (each path.0)
    (λ value v. (v, k.1)))

layer_holds : (ws : List Word) → AreWords ws → Holds (Taken Any) (layer_at ws)
unfolding layer_at
layer_holds ws h = value_holds Any layer_named (λ text. any_holds (layer_named text)) ws h

lower_named_holds : (a b : Bool)
    → Holds {E = StickKind} IsLower (cond a (Ok Diffusion) (cond b (Ok Poly) (Err BadLine)))
lower_named_holds true b = tt
lower_named_holds false true = tt
lower_named_holds false false = tt

lower_holds : (ws : List Word) → AreWords ws → Holds (Taken IsLower) (lower_at ws)
unfolding lower_at
lower_holds ws h =
    value_holds IsLower lower_named
    (λ text. lower_named_holds (bytes_eq text (codes "diff")) (bytes_eq text (codes "poly"))) ws h

side_holds : (ws : List Word) → AreWords ws → Holds (Taken Any) (side_at ws)
unfolding side_at
side_holds ws h = value_holds Any side_named (λ text. any_holds (side_named text)) ws h

either_holds : (first second : List ℕ) (ws : List Word) → AreWords ws → Holds (Taken Any) (either_at first second ws)
unfolding either_at
either_holds first second ws h =
    value_holds Any (second_of first second) (λ text. any_holds (second_of first second text)) ws h

-- ---- forms

-- given what P holds of it makes what R holds of
Makes : {A B : Type 0} → (A → Type 0) → (B → Type 0) → (A → B) → Type 0
Makes {A} P R make = (x : A) → P x → R (make x)

-- what is made so far, if anything, has this property, and what is left are words
record IsMade {F : Type 0} (P : F → Type 0) (made : Prefix F) : Type 0 where
  holds : Holds (Taken P) made

started : {F : Type 0} (P : F → Type 0) (make : F) (ws : List Word) → P make → AreWords ws → IsMade P (start make ws)
started P make ws h k = record { holds = (h, k) }

next_made : {A B : Type 0} (P : A → Type 0) (R : B → Type 0) (made : Prefix (A → B)) (next : List Word → Prefix A)
    → ((ws : List Word) → AreWords ws → Holds (Taken P) (next ws)) → IsMade (Makes P R) made → IsMade R (made & next)
unfolding Makes
next_made P R made next each h =
    record {
      holds = then_holds (Taken (Makes P R)) (Taken R) made _ h.holds
          (λ make m. then_holds (Taken P) (Taken R) (next make.1) (λ value. Ok (make.0 value.0, value.1))
          (each make.1 m.1)
          (λ value v. (m.0 value.0 v.0, v.1)));
    }

whole_holds : {A : Type 0} (P : A → Type 0) (made : Prefix A) → IsMade P made → Holds P (whole made)
whole_holds P made h =
    then_holds (Taken P) P made _ h.holds
    (λ line k. then_holds Any P (ended line.1) (λ done. Ok line.0) (any_holds (ended line.1)) (λ done u. k.0))

joint_holds : (ws : List Word) → AreWords ws → Holds IsForm (joint_of ws)
unfolding joint_of Makes
joint_holds ws h =
    whole_holds IsForm _
    (next_made IsWidth _ _ optional_count_at width_holds
    (next_made IsCount _ _ count_at count_holds
    (next_made IsCount _ _ count_at count_holds
    (next_made Any _ _ layer_at layer_holds
    (next_made IsName _ _ name_at name_holds
    (started (Makes IsName (Makes Any (Makes IsCount (Makes IsCount (Makes IsWidth IsForm))))) Joint ws
    (λ n hn l hl c hc r hr w hw. (hn, hc, hr, hw)) h))))))

contact_holds : (ws : List Word) → AreWords ws → Holds IsForm (contact_of ws)
unfolding contact_of Makes
contact_holds ws h =
    whole_holds IsForm _
    (next_made IsCount _ _ count_at count_holds
    (next_made IsCount _ _ count_at count_holds
    (next_made IsLower _ _ lower_at lower_holds
    (next_made IsName _ _ name_at name_holds
    (started (Makes IsName (Makes IsLower (Makes IsCount (Makes IsCount IsForm)))) Contact ws
    (λ n hn l hl c hc r hr. (hn, hl, hc, hr)) h)))))

buried_holds : (ws : List Word) → AreWords ws → Holds IsForm (buried_of ws)
unfolding buried_of Makes
buried_holds ws h =
    whole_holds IsForm _
    (next_made IsCount _ _ count_at count_holds
    (next_made IsCount _ _ count_at count_holds
    (next_made IsName _ _ name_at name_holds
    (started (Makes IsName (Makes IsCount (Makes IsCount IsForm))) Buried ws (λ n hn c hc r hr. (hn, hc, hr)) h))))

fet_holds : (ws : List Word) → AreWords ws → Holds IsForm (fet_of ws)
unfolding fet_of Makes
fet_holds ws h =
    whole_holds IsForm _
    (next_made IsCount _ _ count_at count_holds
    (next_made IsCount _ _ count_at count_holds
    (next_made IsCount _ _ count_at count_holds
    (next_made IsCount _ _ count_at count_holds
    (next_made Any _ _ (either_at (codes "h") (codes "v")) (either_holds (codes "h") (codes "v"))
    (next_made Any _ _ (either_at (codes "enh") (codes "dep")) (either_holds (codes "enh") (codes "dep"))
    (next_made IsName _ _ name_at name_holds
    (started
    (Makes IsName (Makes Any (Makes Any (Makes IsCount (Makes IsCount (Makes IsCount (Makes IsCount IsForm))))))) Fet
    ws (λ n hn d hd v hv c hc r hr w hw l hl. (hn, hc, hr, hw, hl)) h))))))))

port_holds : (ws : List Word) → AreWords ws → Holds IsForm (port_of ws)
unfolding port_of Makes
port_holds ws h =
    whole_holds IsForm _
    (next_made IsCount _ _ count_at count_holds
    (next_made Any _ _ layer_at layer_holds
    (next_made Any _ _ side_at side_holds
    (next_made IsName _ _ name_at name_holds
    (started (Makes IsName (Makes Any (Makes Any (Makes IsCount IsForm)))) Port ws (λ n hn s hs l hl p hp. (hn, hp))
    h)))))

use_holds : (ws : List Word) → AreWords ws → Holds IsForm (use_of ws)
unfolding use_of Makes
use_holds ws h =
    whole_holds IsForm _
    (next_made IsCount _ _ count_at count_holds
    (next_made IsCount _ _ count_at count_holds
    (next_made IsName _ _ name_at name_holds
    (next_made IsName _ _ name_at name_holds
    (started (Makes IsName (Makes IsName (Makes IsCount (Makes IsCount IsForm)))) Inst ws
    (λ n hn m hm c hc r hr. (hn, hm, hc, hr)) h)))))

wire_holds : (ws : List Word) → AreWords ws → Holds IsForm (wire_of ws)
unfolding wire_of Makes
wire_holds ws h =
    whole_holds IsForm _
    (next_made IsWidth _ _ optional_count_at width_holds
    (next_made IsPath _ _ path_at path_holds
    (next_made IsPath _ _ path_at path_holds
    (next_made Any _ _ layer_at layer_holds
    (started (Makes Any (Makes IsPath (Makes IsPath (Makes IsWidth IsForm)))) Wire ws
    (λ l hl a ha b hb w hw. (ha, hb, hw)) h)))))

limit_holds : (ws : List Word) → AreWords ws → Holds IsForm (limit_of ws)
unfolding limit_of Makes
limit_holds ws h =
    whole_holds IsForm _
    (next_made IsNumber _ _ number_at number_holds
    (next_made Any _ _ at_most_at at_most_holds
    (next_made IsPath _ _ path_at path_holds
    (next_made IsPath _ _ path_at path_holds
    (next_made Any _ _ (either_at (codes "x") (codes "y")) (either_holds (codes "x") (codes "y"))
    (started (Makes Any (Makes IsPath (Makes IsPath (Makes Any (Makes IsNumber IsForm))))) Limit ws
    (λ v hv a ha b hb m hm n hn. (ha, hb, hn)) h))))))

-- ---- statements

choose : {A E : Type 0} (P : A → Type 0) (b : Bool) (r s : Result A E) → Holds P r → Holds P s → Holds P (cond b r s)
choose P true r s h k = h
choose P false r s h k = k

names_hold : (ws : List Word) → AreWords ws → Holds (AllByRecursion IsName) (names_of ws)
unfolding names_of
names_hold [] h = tt
names_hold (w ∷ ws) h = then_holds (Taken IsName) (AllByRecursion IsName) (name_at (w ∷ ws)) _ (name_holds (w ∷ ws) h)
    (λ name hn. then_holds (AllByRecursion IsName) (AllByRecursion IsName) (names_of ws) _ (names_hold ws h.1)
    (λ names hs. (hn.0, hs)))

some_names : (w : Word) (ws : List Word) → AreWords (w ∷ ws)
    → Holds (λ names. (0 < length names) × AllByRecursion IsName names) (names_of (w ∷ ws))
unfolding names_of
some_names w ws h = then_holds (Taken IsName) (λ names. (0 < length names) × AllByRecursion IsName names)
    (name_at (w ∷ ws)) _ (name_holds (w ∷ ws) h)
    (λ name hn. then_holds (AllByRecursion IsName) (λ names. (0 < length names) × AllByRecursion IsName names)
    (names_of ws) _ (names_hold ws h.1) (λ names hs. (omega arith, (hn.0, hs))))

row_holds : (ws : List Word) → AreWords ws → Holds IsStatement (row_of ws)
unfolding row_of
row_holds [] h = tt
row_holds (w ∷ ws) h = then_holds (λ names. (0 < length names) × AllByRecursion IsName names) IsStatement
    (names_of (w ∷ ws)) _ (some_names w ws h) (λ names hs. hs)

version_holds : (ws : List Word) → AreWords ws → Holds IsStatement (version_of ws)
unfolding version_of Makes
version_holds ws h =
    whole_holds IsStatement _
    (next_made IsCount _ _ count_at count_holds (started (Makes IsCount IsStatement) Version ws (λ n hn. hn) h))

cell_holds : (ws : List Word) → AreWords ws → Holds IsStatement (cell_of ws)
unfolding cell_of Makes
cell_holds ws h =
    whole_holds IsStatement _
    (next_made IsName _ _ name_at name_holds (started (Makes IsName IsStatement) Cell ws (λ n hn. hn) h))

grid_holds : (ws : List Word) → AreWords ws → Holds IsStatement (grid_of ws)
unfolding grid_of Makes
grid_holds [] h = tt
grid_holds (w ∷ ws) h =
    whole_holds IsStatement _
    (next_made IsName _ _ name_at name_holds
    (started (Makes IsName IsStatement) (λ name. Grid (Some name)) (w ∷ ws) (λ n hn. hn) h))

end_line_holds : (ws : List Word) → AreWords ws → Holds IsStatement (end_of ws)
unfolding end_of
end_line_holds ws h = whole_holds IsStatement _ (started IsStatement End ws tt h)

form_named_holds : (keyword : List ℕ) (ws : List Word) → AreWords ws → Holds IsForm (form_named keyword ws)
unfolding form_named
form_named_holds keyword ws h =
    choose IsForm (bytes_eq keyword (codes "joint")) _ _ (joint_holds ws h)
    (choose IsForm (bytes_eq keyword (codes "contact")) _ _ (contact_holds ws h)
    (choose IsForm (bytes_eq keyword (codes "buried")) _ _ (buried_holds ws h)
    (choose IsForm (bytes_eq keyword (codes "fet")) _ _ (fet_holds ws h)
    (choose IsForm (bytes_eq keyword (codes "port")) _ _ (port_holds ws h)
    (choose IsForm (bytes_eq keyword (codes "use")) _ _ (use_holds ws h)
    (choose IsForm (bytes_eq keyword (codes "wire")) _ _ (wire_holds ws h)
    (choose IsForm (bytes_eq keyword (codes "limit")) _ _ (limit_holds ws h) tt)))))))

item_holds : (keyword : List ℕ) (ws : List Word) → AreWords ws → Holds IsStatement (item_named keyword ws)
unfolding item_named
item_holds keyword ws h = then_holds IsForm IsStatement (form_named keyword ws) _ (form_named_holds keyword ws h)
    (λ form k. k)

named_holds : (keyword : List ℕ) (ws : List Word) → AreWords ws → Holds IsStatement (statement_named keyword ws)
unfolding statement_named
named_holds keyword ws h =
    choose IsStatement (bytes_eq keyword (codes "sticks")) _ _ (version_holds ws h)
    (choose IsStatement (bytes_eq keyword (codes "cell")) _ _ (cell_holds ws h)
    (choose IsStatement (bytes_eq keyword (codes "end")) _ _ (end_line_holds ws h)
    (choose IsStatement (bytes_eq keyword (codes "grid")) _ _ (grid_holds ws h)
    (choose IsStatement (bytes_eq keyword (codes "row")) _ _ (row_holds ws h) (item_holds keyword ws h)))))

statement_holds : (ws : List Word) → AreWords ws → Holds IsStatement (statement_of ws)
unfolding statement_of
statement_holds ws h = then_holds (Taken IsPath) IsStatement (path_at ws) _ (path_holds ws h)
    (λ keyword k. named_holds keyword.0 keyword.1 k.1)

-- ---- lines

abbrev IsSaid : Option Statement → Type 0
IsSaid None = Unit {0}
IsSaid (Some s) = IsStatement s

by_words_holds : (ws : List Word) → AreWords ws → Holds IsSaid (said_by_words ws)
unfolding said_by_words
by_words_holds [] h = tt
by_words_holds (w ∷ ws) h = then_holds IsStatement IsSaid (statement_of (w ∷ ws)) _ (statement_holds (w ∷ ws) h)
    (λ s k. k)

tokens_hold : (line : List ℕ) (r : Result (List Token) LexFault) → tokens_of line ≡ r
    → Holds (AllByRecursion (IsTokenOf line)) (tokens_or_kind r)
tokens_hold line (Ok ts) e = tokens_are_slices line ts e
tokens_hold line (Err f) e = tt

said_holds : (line : List ℕ) → Holds IsSaid (said_by line)
unfolding said_by
said_holds line = then_holds (AllByRecursion (IsTokenOf line)) IsSaid (tokens_or_kind (tokens_of line)) _
    (tokens_hold line (tokens_of line) refl) (λ ts k. by_words_holds (map (word_of line) ts) (token_words line ts k))

abbrev IsEntry : Entry → Type 0
IsEntry e = Holds IsStatement e.said

with_entry_holds : (n : ℕ) (r : Result (Option Statement) StickKind) (es : List Entry) → Holds IsSaid r
    → AllByRecursion IsEntry es → AllByRecursion IsEntry (with_entry n r es)
with_entry_holds n (Ok None) es h k = k
with_entry_holds n (Ok (Some s)) es h k = (h, k)
with_entry_holds n (Err kind) es h k = (tt, k)

entries_hold : (n : ℕ) (ls : List (List ℕ)) → AllByRecursion IsEntry (entries n ls)
entries_hold n [] = tt
entries_hold n (l ∷ ls) = with_entry_holds n (said_by l) (entries (n + 1) ls) (said_holds l) (entries_hold (n + 1) ls)

-- ---- the order of the lines

-- no more cells than a text may have
abbrev Valid : Place → Type 0
Valid AtHead = Unit {0}
Valid (AfterCells named n) = n ≤ 256
Valid (InCell named n) = n ≤ 256
Valid (InGrid named) = Unit {0}
Valid (AtEnd named) = Unit {0}

abbrev Room : Place → List CellText → Type 0
Room AtHead cells = length cells ≤ 256
Room (AfterCells named n) cells = n + length cells ≤ 256
Room (InCell named n) cells = n + length cells ≤ 256
Room (InGrid named) cells = length cells ≡ 0
Room (AtEnd named) cells = length cells ≡ 0

abbrev Fits : Place → Rest → Type 0
Fits place rest = AllByRecursion IsLine rest.lines × AllByRecursion IsCell rest.cells × AllByRecursion IsRow rest.rows
    × AllByRecursion IsGrid rest.grids × Room place rest.cells

abbrev Leads : Place → Statement → ℕ → Place → Type 0
Leads place s number next = Valid next × ((rest : Rest) → Fits next rest → Fits place (with_line number s rest))

cell_leads : (b named : Bool) (n : ℕ) (name : List ℕ) (number : ℕ) → n ≤ 256 → IsName name → (b ≡ false → n ≢ 256)
    → Holds {E = StickKind} (Leads (AfterCells named n) (Cell name) number)
    (cond b (Err TooManyCells) (Ok (InCell named (n + 1))))
cell_leads true named n name number v h differs = tt
cell_leads false named n name number v h differs =
    let other : n ≢ 256 = differs refl in
    (omega arith, λ rest f. (tt, ((h, f.0), f.1), f.2, f.3, omega (arith, f.4)))

head_leads : (first second : Bool) (version number : ℕ)
    → Holds {E = StickKind} (Leads AtHead (Version version) number)
    (cond first (Ok (AfterCells false 0)) (cond second (Ok (AfterCells true 0)) (Err BadLine)))
head_leads true second version number = (omega arith, λ rest f. (f.0, f.1, f.2, f.3, omega (arith, f.4)))
head_leads false true version number = (omega arith, λ rest f. (f.0, f.1, f.2, f.3, omega (arith, f.4)))
head_leads false false version number = tt

-- the first line of a grid, where it may stand
grid_leads : (name : Option (List ℕ)) (number : ℕ) (rest : Rest) → IsGridName name → (named : Bool)
    → Fits (InGrid named) rest → AllByRecursion IsGrid (with_line number (Grid name) rest).grids
grid_leads name number rest h named f = ((h, f.2), f.3)

leads : (place : Place) (s : Statement) (number : ℕ) → Valid place → IsStatement s
    → Holds (Leads place s number) (place_after place s)
leads AtHead (Version version) number v h = head_leads (eqb version 1) (eqb version 2) version number
leads (AfterCells named n) (Cell name) number v h =
    cell_leads (eqb n 256) named n name number v h (λ e. borrow.Author.Tests.false-eqb _ _ (sym e))
leads (InCell named n) (Item form) number v h = (v, λ rest f. ((h, f.0), f.1, f.2, f.3, f.4))
leads (InCell named n) End number v h = (v, λ rest f. (tt, f.1, tt, f.3, f.4))
leads (AfterCells false n) (Grid None) number v h =
    (tt, λ rest f. (f.0, f.1, tt, grid_leads None number rest h false f, omega (arith, v, f.4)))
leads (AfterCells true n) (Grid (Some name)) number v h =
    (tt, λ rest f. (f.0, f.1, tt, grid_leads (Some name) number rest h true f, omega (arith, v, f.4)))
leads (InGrid named) (Row row) number v h = (tt, λ rest f. (f.0, f.1, (h, f.2), f.3, f.4))
leads (InGrid named) End number v h = (tt, λ rest f. (tt, f.1, tt, f.3, f.4))
leads (AtEnd true) (Grid (Some name)) number v h =
    (tt, λ rest f. (f.0, f.1, tt, grid_leads (Some name) number rest h true f, f.4))
leads place s number v h = tt

pub at_line_holds : {A : Type 0} (P : A → Type 0) (n : ℕ) (r : Result A StickKind) → Holds P r → Holds P (at_line n r)
at_line_holds P n (Ok x) h = h
at_line_holds P n (Err kind) h = tt

end_holds : (last : ℕ) (place : Place) → Holds (Fits place) (at_end last place)
end_holds last AtHead = tt
end_holds last (AfterCells named n) = tt
end_holds last (InCell named n) = tt
end_holds last (InGrid named) = tt
end_holds last (AtEnd named) = (tt, tt, tt, tt, refl)

rest_holds : (last : ℕ) (place : Place) (es : List Entry) → Valid place → AllByRecursion IsEntry es
    → Holds (Fits place) (rest_from last place es)
rest_holds last place [] v h = end_holds last place
rest_holds last place (e ∷ es) v h =
    then_holds IsStatement (Fits place) (at_line e.number e.said) _ (at_line_holds IsStatement e.number e.said h.0)
    (λ s hs.
    then_holds (Leads place s e.number) (Fits place) (at_line e.number (place_after place s)) _
    (at_line_holds (Leads place s e.number) e.number (place_after place s) (leads place s e.number v hs))
    (λ next hn.
    then_holds (Fits next) (Fits place) (rest_from last next es) _ (rest_holds last next es hn.0 h.1)
    (λ rest f. hn.1 rest f)))

-- what the lines by themselves make of a design
pub record IsMadeOf (design : Design) : Type 0 where
  pub cells : AllByRecursion IsCell design.cells
  pub few_cells : length design.cells ≤ 256
  pub grids : AllByRecursion IsGrid design.grids

pub design_holds : (text : List ℕ) → Holds IsMadeOf (design_of text)
unfolding design_of
design_holds text = then_holds (Fits AtHead) IsMadeOf (rest_from (last_line text) AtHead (entries 1 (lines text))) _
    (rest_holds (last_line text) AtHead (entries 1 (lines text)) tt (entries_hold 1 (lines text)))
    (λ rest f. record { cells = f.1; few_cells = f.4; grids = f.3 })
