-- A line that says something has the words that say it.
use Rattle.std.proofs.Common.{◌≡◌, ℕ, ℤ, pos, negsuc, Bool, true, false, cond, leb, List, [], ◌∷◌, ◌++◌, map, Option}
use Rattle.std.proofs.Common.{Some, None, Result, Ok, Err, refl, ap, subst, ◌∙◌, codes}
use Rattle.std.{proofs.lemmas.Slice.Eq.bytes_eq-Decides, specs.Str.bytes_eq}
use Rattle.stick_lex.specs.Tokens.{is_name}
use Rattle.stick_text.specs.declared.{fault.StickKind.{StickKind, TheVariants.BadLine}, design.Layer.Layer}
use Rattle.stick_text.specs.declared.design.{Layer.TheVariants.{Diffusion, Poly, Metal}, Form.{Form, TheVariants.Joint}}
use Rattle.stick_text.specs.declared.design.Form.TheVariants.{Contact, Buried, Fet, Port, Inst, Wire, Limit}
use Rattle.stick_text.specs.declared.design.Statement.{Statement, TheVariants.{Version, Cell, Item, Grid, Row, End}}
use Rattle.stick_text.specs.Words.{Word, Path, Number, AtMost, AtLeast, Prefix, path_at, name_at, number_at, count_of}
use Rattle.stick_text.specs.Words.{count_at, optional_count_at, at_most_at, value_at, layer_named, layer_at}
use Rattle.stick_text.specs.Words.{lower_named, lower_at, side_named, side_at, second_of, either_at, ended}
use Rattle.stick_text.specs.Forms.{start, ◌&◌, whole, joint_of, contact_of, buried_of, fet_of, port_of, use_of, wire_of}
use Rattle.stick_text.specs.Forms.{limit_of, version_of, cell_of, grid_of, names_of, row_of, end_of, form_named}
use Rattle.stick_text.{specs.Forms.{item_named, statement_named, statement_of}, proofs.Written.{Holds, then_holds}}
use Rattle.lam_geom.specs.declared.boxes.Side.{Side, TheVariants.{Left, Right, Bottom, Top}}
use Rattle.stick_print.specs.{Canonical.{layer_word, side_word, form_keyword, keyword_of}, Said.width_said}
use Rattle.stick_print.specs.Said.{bound_said, form_said, said}

-- ---- what a reader took stood in front

abbrev Paths : List Word → List ℕ × List Word → Type 0
Paths ws x = ws ≡ Path x.0 ∷ x.1

abbrev Numbers : List Word → ℤ × List Word → Type 0
Numbers ws x = ws ≡ Number x.0 ∷ x.1

abbrev Counts : List Word → ℕ × List Word → Type 0
Counts ws x = ws ≡ Number (pos x.0) ∷ x.1

abbrev Widths : List Word → Option ℕ × List Word → Type 0
Widths ws x = ws ≡ width_said x.0 ++ x.1

abbrev Bounds : List Word → Bool × List Word → Type 0
Bounds ws x = ws ≡ bound_said x.0 ∷ x.1

abbrev Layers : List Word → Layer × List Word → Type 0
Layers ws x = ws ≡ Path (layer_word x.0) ∷ x.1

abbrev Sides : List Word → Side × List Word → Type 0
Sides ws x = ws ≡ Path (side_word x.0) ∷ x.1

abbrev Eithers : List ℕ → List ℕ → List Word → Bool × List Word → Type 0
Eithers first second ws x = ws ≡ Path (cond x.0 second first) ∷ x.1

abbrev Ended : List Word → Unit {0} → Type 0
Ended ws u = ws ≡ []

if_read : {A : Type 0} (P : A → Type 0) (b : Bool) (x : A) (other : Result A StickKind) → (b ≡ true → P x)
    → Holds P other → Holds P (cond b (Ok x) other)
if_read P true x other h k = h refl
if_read P false x other h k = k

choose : {A : Type 0} (P : A → Type 0) (b : Bool) (x y : Result A StickKind) → (b ≡ true → Holds P x) → Holds P y
    → Holds P (cond b x y)
choose P true x y h k = h refl
choose P false x y h k = k

same : (text word : List ℕ) → bytes_eq text word ≡ true → text ≡ word
same text word e = (bytes_eq-Decides text word).0 e

path_from : (ws : List Word) → Holds (Paths ws) (path_at ws)
unfolding path_at
path_from (Path text ∷ rest) = refl
path_from ws = tt

name_from : (ws : List Word) → Holds (Paths ws) (name_at ws)
unfolding name_at
name_from ws = then_holds (Paths ws) (Paths ws) (path_at ws) _ (path_from ws)
    (λ path k. if_read (Paths ws) (is_name path.0) path (Err BadLine) (λ e. k) tt)

number_from : (ws : List Word) → Holds (Numbers ws) (number_at ws)
unfolding number_at
number_from (Number n ∷ rest) = refl
number_from ws = tt

count_by : (z : ℤ) (ws rest : List Word) → ws ≡ Number z ∷ rest → Holds (Counts ws) (count_of z rest)
count_by (pos n) ws rest e = if_read (Counts ws) (leb n 1000000) (n, rest) (Err BadLine) (λ small. e) tt
count_by (negsuc n) ws rest e = tt

count_from : (ws : List Word) → Holds (Counts ws) (count_at ws)
unfolding count_at
count_from ws = then_holds (Numbers ws) (Counts ws) (number_at ws) _ (number_from ws)
    (λ number k. count_by number.0 ws number.1 k)

width_from : (ws : List Word) → Holds (Widths ws) (optional_count_at ws)
unfolding optional_count_at
width_from [] = refl
width_from (w ∷ ws) = then_holds (Counts (w ∷ ws)) (Widths (w ∷ ws)) (count_at (w ∷ ws))
    (λ count. Ok (Some count.0, count.1)) (count_from (w ∷ ws)) (λ count k. k)

bound_from : (ws : List Word) → Holds (Bounds ws) (at_most_at ws)
unfolding at_most_at
bound_from (AtMost ∷ rest) = refl
bound_from (AtLeast ∷ rest) = refl
bound_from ws = tt

ended_from : (ws : List Word) → Holds (Ended ws) (ended ws)
unfolding ended
ended_from [] = refl
ended_from (w ∷ ws) = tt

-- the word of a value is compared with the text, and is the text's where they are equal
by_word : {A : Type 0} (says : A → List ℕ) (text : List ℕ) (x : A) (other : Result A StickKind)
    → Holds (λ y. text ≡ says y) other → Holds (λ y. text ≡ says y) (cond (bytes_eq text (says x)) (Ok x) other)
by_word says text x other h = if_read (λ y. text ≡ says y) (bytes_eq text (says x)) x other (same text (says x)) h

layer_word_from : (text : List ℕ) → Holds (λ layer. text ≡ layer_word layer) (layer_named text)
layer_word_from text =
    by_word layer_word text Diffusion _
    (by_word layer_word text Poly _ (by_word layer_word text Metal (Err BadLine) tt))

lower_word_from : (text : List ℕ) → Holds (λ layer. text ≡ layer_word layer) (lower_named text)
lower_word_from text = by_word layer_word text Diffusion _ (by_word layer_word text Poly (Err BadLine) tt)

side_word_from : (text : List ℕ) → Holds (λ side. text ≡ side_word side) (side_named text)
side_word_from text =
    by_word side_word text Left _
    (by_word side_word text Right _ (by_word side_word text Bottom _ (by_word side_word text Top (Err BadLine) tt)))

either_word_from : (first second text : List ℕ) → Holds (λ b. text ≡ cond b second first) (second_of first second text)
either_word_from first second text =
    by_word (λ b. cond b second first) text false _ (by_word (λ b. cond b second first) text true (Err BadLine) tt)

path_first : (ws : List Word) (text word : List ℕ) (rest : List Word) → ws ≡ Path text ∷ rest → text ≡ word
    → ws ≡ Path word ∷ rest
path_first ws text word rest e k = e ∙ ap (λ (t : List ℕ). Path t ∷ rest) k

value_from : {A : Type 0} (says : A → List ℕ) (value_of : List ℕ → Result A StickKind)
    → ((text : List ℕ) → Holds (λ x. text ≡ says x) (value_of text)) → (ws : List Word)
    → Holds (λ x. ws ≡ Path (says x.0) ∷ x.1) (value_at value_of ws)
value_from says value_of each ws =
    then_holds (Paths ws) (λ x. ws ≡ Path (says x.0) ∷ x.1) (path_at ws) _ (path_from ws) (λ path k.
    then_holds (λ x. path.0 ≡ says x) (λ x. ws ≡ Path (says x.0) ∷ x.1) (value_of path.0)
    (λ value. Ok (value, path.1)) (each path.0) (λ value e. path_first ws path.0 (says value) path.1 k e))

layer_from : (ws : List Word) → Holds (Layers ws) (layer_at ws)
unfolding layer_at
layer_from ws = value_from layer_word layer_named layer_word_from ws

lower_from : (ws : List Word) → Holds (Layers ws) (lower_at ws)
unfolding lower_at
lower_from ws = value_from layer_word lower_named lower_word_from ws

side_from : (ws : List Word) → Holds (Sides ws) (side_at ws)
unfolding side_at
side_from ws = value_from side_word side_named side_word_from ws

either_from : (first second : List ℕ) (ws : List Word) → Holds (Eithers first second ws) (either_at first second ws)
unfolding either_at
either_from first second ws =
    value_from (λ b. cond b second first) (second_of first second) (either_word_from first second) ws

-- a width where nothing stands after it
width_last : (width : Option ℕ) (ws rest : List Word) → ws ≡ width_said width ++ rest → rest ≡ []
    → ws ≡ width_said width
width_last None ws rest e k = e ∙ k
width_last (Some n) ws rest e k = e ∙ ap (λ (r : List Word). Number (pos n) ∷ r) k

-- ---- a line word by word

-- what is made so far, if anything, and the words that are left have this property
record IsRead {F : Type 0} (Q : F → List Word → Type 0) (made : Prefix F) : Type 0 where
  holds : Holds (λ x. Q x.0 x.1) made

-- with what is taken in front (as `taken` says) it makes what has Q with the words after
Takes : {A B : Type 0} → (List Word → A × List Word → Type 0) → (B → List Word → Type 0) → (A → B) → List Word → Type 0
Takes {A} taken Q make ws = (x : A × List Word) → taken ws x → Q (make x.0) x.1

-- P holds of it where no word is left
IfNoneLeft : {A : Type 0} → (A → Type 0) → A → List Word → Type 0
IfNoneLeft P x ws = ws ≡ [] → P x

started : {F : Type 0} (Q : F → List Word → Type 0) (make : F) (ws : List Word) → Q make ws → IsRead Q (start make ws)
started Q make ws h = record { holds = h }

next_read : {A B : Type 0} (taken : List Word → A × List Word → Type 0) (Q : B → List Word → Type 0)
    (made : Prefix (A → B)) (next : List Word → Prefix A) → ((ws : List Word) → Holds (taken ws) (next ws))
    → IsRead (Takes taken Q) made → IsRead Q (made & next)
unfolding Takes
next_read taken Q made next each h =
    record {
      holds = then_holds (λ make. Takes taken Q make.0 make.1) (λ x. Q x.0 x.1) made _ h.holds
          (λ make m. then_holds (taken make.1) (λ x. Q x.0 x.1) (next make.1) (λ value. Ok (make.0 value.0, value.1))
          (each make.1) (λ value v. m value v));
    }

whole_read : {A : Type 0} (P : A → Type 0) (made : Prefix A) → IsRead (IfNoneLeft P) made → Holds P (whole made)
unfolding IfNoneLeft
whole_read P made h = then_holds (λ x. IfNoneLeft P x.0 x.1) P made _ h.holds
    (λ line k. then_holds (Ended line.1) P (ended line.1) (λ done. Ok line.0) (ended_from line.1) (λ done e. k e))

-- ---- each form

abbrev Says : List ℕ → List Word → Form → Type 0
Says keyword ws form = (keyword ≡ form_keyword form) × (ws ≡ form_said form)

joint_from : (word : List ℕ) (ws : List Word) → word ≡ codes "joint" → Holds (Says word ws) (joint_of ws)
unfolding joint_of Takes IfNoneLeft
joint_from word ws is =
    whole_read (Says word ws) _
    (next_read Widths _ _ optional_count_at width_from
    (next_read Counts _ _ count_at count_from
    (next_read Counts _ _ count_at count_from
    (next_read Layers _ _ layer_at layer_from
    (next_read Paths _ _ name_at name_from
    (started (Takes Paths (Takes Layers (Takes Counts (Takes Counts (Takes Widths (IfNoneLeft (Says word ws)))))))
    Joint ws (λ name n layer l col c row r width w end. let last : row.1
    ≡ width_said width.0 = width_last width.0 row.1 width.1 w end in (is, cc))))))))

contact_from : (word : List ℕ) (ws : List Word) → word ≡ codes "contact" → Holds (Says word ws) (contact_of ws)
unfolding contact_of Takes IfNoneLeft
contact_from word ws is =
    whole_read (Says word ws) _
    (next_read Counts _ _ count_at count_from
    (next_read Counts _ _ count_at count_from
    (next_read Layers _ _ lower_at lower_from
    (next_read Paths _ _ name_at name_from
    (started (Takes Paths (Takes Layers (Takes Counts (Takes Counts (IfNoneLeft (Says word ws)))))) Contact ws
    (λ name n lower l col c row r end. (is, cc)))))))

buried_from : (word : List ℕ) (ws : List Word) → word ≡ codes "buried" → Holds (Says word ws) (buried_of ws)
unfolding buried_of Takes IfNoneLeft
buried_from word ws is =
    whole_read (Says word ws) _
    (next_read Counts _ _ count_at count_from
    (next_read Counts _ _ count_at count_from
    (next_read Paths _ _ name_at name_from
    (started (Takes Paths (Takes Counts (Takes Counts (IfNoneLeft (Says word ws))))) Buried ws
    (λ name n col c row r end. (is, cc))))))

fet_from : (word : List ℕ) (ws : List Word) → word ≡ codes "fet" → Holds (Says word ws) (fet_of ws)
unfolding fet_of Takes IfNoneLeft
fet_from word ws is =
    whole_read (Says word ws) _
    (next_read Counts _ _ count_at count_from
    (next_read Counts _ _ count_at count_from
    (next_read Counts _ _ count_at count_from
    (next_read Counts _ _ count_at count_from
    (next_read (Eithers (codes "h") (codes "v")) _ _ (either_at (codes "h") (codes "v"))
    (either_from (codes "h") (codes "v"))
    (next_read (Eithers (codes "enh") (codes "dep")) _ _ (either_at (codes "enh") (codes "dep"))
    (either_from (codes "enh") (codes "dep"))
    (next_read Paths _ _ name_at name_from
    (started
    (Takes Paths
    (Takes (Eithers (codes "enh") (codes "dep"))
    (Takes (Eithers (codes "h") (codes "v"))
    (Takes Counts
    (Takes Counts
    (Takes Counts
    (Takes Counts
    (IfNoneLeft
    (Says word ws))))))))) Fet ws (λ name n depletion d vertical v col c row r w b l g end. (is, cc))))))))))

port_from : (word : List ℕ) (ws : List Word) → word ≡ codes "port" → Holds (Says word ws) (port_of ws)
unfolding port_of Takes IfNoneLeft
port_from word ws is =
    whole_read (Says word ws) _
    (next_read Counts _ _ count_at count_from
    (next_read Layers _ _ layer_at layer_from
    (next_read Sides _ _ side_at side_from
    (next_read Paths _ _ name_at name_from
    (started (Takes Paths (Takes Sides (Takes Layers (Takes Counts (IfNoneLeft (Says word ws)))))) Port ws
    (λ name n side s layer l place p end. (is, cc)))))))

use_from : (word : List ℕ) (ws : List Word) → word ≡ codes "use" → Holds (Says word ws) (use_of ws)
unfolding use_of Takes IfNoneLeft
use_from word ws is =
    whole_read (Says word ws) _
    (next_read Counts _ _ count_at count_from
    (next_read Counts _ _ count_at count_from
    (next_read Paths _ _ name_at name_from
    (next_read Paths _ _ name_at name_from
    (started (Takes Paths (Takes Paths (Takes Counts (Takes Counts (IfNoneLeft (Says word ws)))))) Inst ws
    (λ name n cell d col c row r end. (is, cc)))))))

wire_from : (word : List ℕ) (ws : List Word) → word ≡ codes "wire" → Holds (Says word ws) (wire_of ws)
unfolding wire_of Takes IfNoneLeft
wire_from word ws is =
    whole_read (Says word ws) _
    (next_read Widths _ _ optional_count_at width_from
    (next_read Paths _ _ path_at path_from
    (next_read Paths _ _ path_at path_from
    (next_read Layers _ _ layer_at layer_from
    (started (Takes Layers (Takes Paths (Takes Paths (Takes Widths (IfNoneLeft (Says word ws)))))) Wire ws
    (λ layer l low a high b width w end. let last : high.1 ≡ width_said width.0 = width_last width.0 high.1 width.1 w
    end in (is, cc)))))))

limit_from : (word : List ℕ) (ws : List Word) → word ≡ codes "limit" → Holds (Says word ws) (limit_of ws)
unfolding limit_of Takes IfNoneLeft
limit_from word ws is =
    whole_read (Says word ws) _
    (next_read Numbers _ _ number_at number_from
    (next_read Bounds _ _ at_most_at bound_from
    (next_read Paths _ _ path_at path_from
    (next_read Paths _ _ path_at path_from
    (next_read (Eithers (codes "x") (codes "y")) _ _ (either_at (codes "x") (codes "y"))
    (either_from (codes "x") (codes "y"))
    (started
    (Takes (Eithers (codes "x") (codes "y"))
    (Takes Paths
    (Takes Paths
    (Takes Bounds
    (Takes Numbers
    (IfNoneLeft (Says word ws))))))) Limit ws (λ vertical v low a high b at_most m number n end. (is, cc))))))))

form_from : (word : List ℕ) (ws : List Word) → Holds (Says word ws) (form_named word ws)
unfolding form_named
form_from word ws =
    choose (Says word ws) (bytes_eq word (codes "joint")) _ _ (λ e. joint_from word ws (same word (codes "joint") e))
    (choose (Says word ws) (bytes_eq word (codes "contact")) _ _
    (λ e. contact_from word ws (same word (codes "contact") e))
    (choose (Says word ws) (bytes_eq word (codes "buried")) _ _
    (λ e. buried_from word ws (same word (codes "buried") e))
    (choose (Says word ws) (bytes_eq word (codes "fet")) _ _ (λ e. fet_from word ws (same word (codes "fet") e))
    (choose (Says word ws) (bytes_eq word (codes "port")) _ _ (λ e. port_from word ws (same word (codes "port") e))
    (choose (Says word ws) (bytes_eq word (codes "use")) _ _ (λ e. use_from word ws (same word (codes "use") e))
    (choose (Says word ws) (bytes_eq word (codes "wire")) _ _ (λ e. wire_from word ws (same word (codes "wire") e))
    (choose (Says word ws) (bytes_eq word (codes "limit")) _ _ (λ e. limit_from word ws (same word (codes "limit") e))
    tt)))))))

-- ---- each statement

abbrev Tells : List ℕ → List Word → Statement → Type 0
Tells keyword ws statement = (keyword ≡ keyword_of statement) × (ws ≡ said statement)

item_from : (word : List ℕ) (ws : List Word) → Holds (Tells word ws) (item_named word ws)
unfolding item_named
item_from word ws = then_holds (Says word ws) (Tells word ws) (form_named word ws) (λ form. Ok (Item form))
    (form_from word ws) (λ form h. h)

version_from : (word : List ℕ) (ws : List Word) → word ≡ codes "sticks" → Holds (Tells word ws) (version_of ws)
unfolding version_of Takes IfNoneLeft
version_from word ws is =
    whole_read (Tells word ws) _
    (next_read Counts _ _ count_at count_from
    (started (Takes Counts (IfNoneLeft (Tells word ws))) Version ws (λ version v end. (is, cc))))

cell_from : (word : List ℕ) (ws : List Word) → word ≡ codes "cell" → Holds (Tells word ws) (cell_of ws)
unfolding cell_of Takes IfNoneLeft
cell_from word ws is =
    whole_read (Tells word ws) _
    (next_read Paths _ _ name_at name_from
    (started (Takes Paths (IfNoneLeft (Tells word ws))) Cell ws (λ name n end. (is, cc))))

abbrev Names : List Word → List (List ℕ) → Type 0
Names ws names = ws ≡ map (λ name. Path name) names

first_word : (w : Word) (ws : List Word) (name : List ℕ) (rest : List Word) → w ∷ ws ≡ Path name ∷ rest → w ≡ Path name
first_word w ws name rest e = cc

names_from : (ws : List Word) → Holds (Names ws) (names_of ws)
unfolding names_of
names_from [] = refl
names_from (w ∷ ws) =
    then_holds (Paths (w ∷ ws)) (Names (w ∷ ws)) (name_at (w ∷ ws)) _ (name_from (w ∷ ws)) (λ name a.
    then_holds (Names ws) (Names (w ∷ ws)) (names_of ws) (λ names. Ok (name.0 ∷ names)) (names_from ws) (λ names b.
    ap (λ (v : Word). v ∷ ws) (first_word w ws name.0 name.1 a) ∙ ap (λ (vs : List Word). Path name.0 ∷ vs) b))

row_from : (word : List ℕ) (ws : List Word) → word ≡ codes "row" → Holds (Tells word ws) (row_of ws)
unfolding row_of
row_from word [] is = tt
row_from word (w ∷ ws) is = then_holds (Names (w ∷ ws)) (Tells word (w ∷ ws)) (names_of (w ∷ ws))
    (λ names. Ok (Row (record { names = names }))) (names_from (w ∷ ws)) (λ names a. (is, a))

grid_from : (word : List ℕ) (ws : List Word) → word ≡ codes "grid" → Holds (Tells word ws) (grid_of ws)
unfolding grid_of Takes IfNoneLeft
grid_from word [] is = (is, refl)
grid_from word (w ∷ ws) is =
    whole_read (Tells word (w ∷ ws)) _
    (next_read Paths _ _ name_at name_from
    (started (Takes Paths (IfNoneLeft (Tells word (w ∷ ws)))) (λ name. Grid (Some name)) (w ∷ ws)
    (λ name n end. (is, cc))))

end_from : (word : List ℕ) (ws : List Word) → word ≡ codes "end" → Holds (Tells word ws) (end_of ws)
unfolding end_of IfNoneLeft
end_from word ws is = whole_read (Tells word ws) _ (started (IfNoneLeft (Tells word ws)) End ws (λ end. (is, end)))

named_from : (word : List ℕ) (ws : List Word) → Holds (Tells word ws) (statement_named word ws)
unfolding statement_named
named_from word ws =
    choose (Tells word ws) (bytes_eq word (codes "sticks")) _ _
    (λ e. version_from word ws (same word (codes "sticks") e))
    (choose (Tells word ws) (bytes_eq word (codes "cell")) _ _ (λ e. cell_from word ws (same word (codes "cell") e))
    (choose (Tells word ws) (bytes_eq word (codes "end")) _ _ (λ e. end_from word ws (same word (codes "end") e))
    (choose (Tells word ws) (bytes_eq word (codes "grid")) _ _ (λ e. grid_from word ws (same word (codes "grid") e))
    (choose (Tells word ws) (bytes_eq word (codes "row")) _ _ (λ e. row_from word ws (same word (codes "row") e))
    (item_from word ws)))))

abbrev Whole : List Word → Statement → Type 0
Whole ws statement = ws ≡ Path (keyword_of statement) ∷ said statement

then_whole : (ws : List Word) (word : List ℕ) (rest : List Word) → ws ≡ Path word ∷ rest
    → (r : Result Statement StickKind) → Holds (Tells word rest) r → Holds (Whole ws) r
then_whole ws word rest e (Ok s) h = e ∙ ap (λ (w : List ℕ). Path w ∷ rest) h.0
    ∙ ap (λ (vs : List Word). Path (keyword_of s) ∷ vs) h.1
then_whole ws word rest e (Err kind) h = tt

statement_from : (ws : List Word) → Holds (Whole ws) (statement_of ws)
unfolding statement_of
statement_from ws = then_holds (Paths ws) (Whole ws) (path_at ws) _ (path_from ws) (λ keyword a.
    then_whole ws keyword.0 keyword.1 a (statement_named keyword.0 keyword.1) (named_from keyword.0 keyword.1))

pub only_words : (statement : Statement) (ws : List Word) → statement_of ws ≡ Ok statement
    → ws ≡ Path (keyword_of statement) ∷ said statement
only_words statement ws e = subst (Holds (Whole ws)) e (statement_from ws)
