-- A printed line says what it was printed from.
use Rattle.std.proofs.Common.{◌≡◌, ℕ, ◌<◌, ◌≤◌, ℤ, pos, Bool, true, false, cond, leb, List, [], ◌∷◌, ◌++◌, length, map}
use Rattle.std.proofs.{Common.{Option, Some, None, Result, Ok, refl, ap, ◌∙◌, arith, codes}, lemmas.Bool.le-leb}
use Rattle.std.specs.{List.AllByRecursion, Str.bytes_eq}
use Rattle.stick_lex.specs.{declared.token.{Token.Token, LexFault.LexFault}, Tokens.{is_name, is_path}}
use Rattle.stick_text.specs.declared.{fault.StickKind.StickKind, design.Layer.{Layer, TheVariants.{Diffusion, Poly}}}
use Rattle.stick_text.specs.declared.design.{Layer.TheVariants.Metal, Form.{Form, TheVariants.{Joint, Contact, Buried}}}
use Rattle.stick_text.specs.declared.design.{Form.TheVariants.{Fet, Port, Inst, Wire, Limit}, Statement.Statement}
use Rattle.stick_text.specs.{declared.design.Statement.TheVariants.{Version, Cell, Item, Grid, Row, End}, Reading.◌>>=◌}
use Rattle.stick_text.specs.Words.{Word, Path, Number, word_of, path_at, name_at, number_at, count_at}
use Rattle.stick_text.specs.Words.{optional_count_at, at_most_at, layer_at, lower_at, side_at, either_at, ended}
use Rattle.stick_text.specs.Forms.{joint_of, contact_of, buried_of, fet_of, port_of, use_of, wire_of, limit_of}
use Rattle.stick_text.specs.Forms.{version_of, cell_of, grid_of, names_of, row_of, end_of, form_named, item_named}
use Rattle.stick_text.specs.{Forms.{statement_named, statement_of}, Lines.{tokens_or_kind, said_by_words, said_by}}
use Rattle.stick_text.specs.Writable.{IsName, IsCount, IsGridName, IsWidth, IsLower, IsForm, IsStatement}
use Rattle.lam_geom.specs.declared.boxes.Side.{Side, TheVariants.{Left, Right, Bottom, Top}}
use Rattle.stick_print.specs.Canonical.{layer_word, side_word, kind_word, direction_word, axis_word, bound_word}
use Rattle.stick_print.specs.Canonical.{width_words, name_words, form_keyword, form_words, keyword_of, words_of, spaced}
use Rattle.stick_print.specs.Said.{width_said, name_said, bound_said, form_said, said}
use Rattle.stick_print.proofs.{Split.{IsPlain, Says, AllSay, plain_texts, words_again}, Spelled.first_branch}
use Rattle.stick_print.proofs.Spelled.{says_name, says_path, says_count, says_number, says_at_most, says_at_least}

-- ---- each word says it

layer_path : (layer : Layer) → is_path (layer_word layer) ≡ true
layer_path Diffusion = refl
layer_path Poly = refl
layer_path Metal = refl

side_path : (side : Side) → is_path (side_word side) ≡ true
side_path Left = refl
side_path Right = refl
side_path Bottom = refl
side_path Top = refl

either_path : (first second : List ℕ) (b : Bool) → is_path first ≡ true → is_path second ≡ true
    → is_path (cond b second first) ≡ true
either_path first second true e k = k
either_path first second false e k = e

says_bound : (b : Bool) → Says (bound_word b) (bound_said b)
says_bound true = says_at_most
says_bound false = says_at_least

says_width : (width : Option ℕ) → IsWidth width → AllSay (width_words width) (width_said width)
says_width None h = tt
says_width (Some width) h = (says_count width h, tt)

says_names : (names : List (List ℕ)) → AllByRecursion IsName names → AllSay names (map (λ name. Path name) names)
says_names [] h = tt
says_names (name ∷ names) h = (says_name name h.0, says_names names h.1)

says_grid_name : (name : Option (List ℕ)) → IsGridName name → AllSay (name_words name) (name_said name)
says_grid_name None h = tt
says_grid_name (Some name) h = (says_name name h, tt)

says_layer : (layer : Layer) → Says (layer_word layer) (Path (layer_word layer))
says_layer layer = says_path (layer_word layer) (layer_path layer)

says_form : (form : Form) → IsForm form → AllSay (form_words form) (form_said form)
says_form (Joint name layer col row width) h =
    (says_name name h.0, (says_layer layer, (says_count col h.1, (says_count row h.2, says_width width h.3))))
says_form (Contact name lower col row) h =
    (says_name name h.0, (says_layer lower, (says_count col h.2, (says_count row h.3, tt))))
says_form (Buried name col row) h = (says_name name h.0, (says_count col h.1, (says_count row h.2, tt)))
says_form (Fet name depletion vertical col row w l) h = (
  says_name name
      h.0,
  (
    says_path (kind_word depletion) (either_path (codes "enh") (codes "dep") depletion refl refl),
    (
      says_path (direction_word vertical) (either_path (codes "h") (codes "v") vertical refl refl),
      (says_count col h.1, (says_count row h.2, (says_count w h.3, (says_count l h.4, tt)))),
    ),
  ),
)
says_form (Port name side layer place) h = (
  says_name name
      h.0,
  (says_path (side_word side) (side_path side), (says_layer layer, (says_count place h.1, tt))),
)
says_form (Inst name cell col row) h =
    (says_name name h.0, (says_name cell h.1, (says_count col h.2, (says_count row h.3, tt))))
says_form (Wire layer a b width) h = (says_layer layer, (says_path a h.0, (says_path b h.1, says_width width h.2)))
says_form (Limit vertical a b at_most n) h = (
  says_path (axis_word vertical) (either_path (codes "x") (codes "y") vertical refl refl),
  (says_path a h.0, (says_path b h.1, (says_bound at_most, (says_number n h.2, tt)))),
)

says_words : (statement : Statement) → IsStatement statement → AllSay (words_of statement) (said statement)
says_words (Version version) h = (says_count version h, tt)
says_words (Cell name) h = (says_name name h, tt)
says_words (Item form) h = says_form form h
says_words (Grid name) h = says_grid_name name h
says_words (Row row) h = says_names row.names h.1
says_words End h = tt

form_keyword_path : (form : Form) → is_path (form_keyword form) ≡ true
form_keyword_path (Joint name layer col row width) = refl
form_keyword_path (Contact name lower col row) = refl
form_keyword_path (Buried name col row) = refl
form_keyword_path (Fet name depletion vertical col row w l) = refl
form_keyword_path (Port name side layer place) = refl
form_keyword_path (Inst name cell col row) = refl
form_keyword_path (Wire layer a b width) = refl
form_keyword_path (Limit vertical a b at_most n) = refl

keyword_path : (statement : Statement) → is_path (keyword_of statement) ≡ true
keyword_path (Version version) = refl
keyword_path (Cell name) = refl
keyword_path (Item form) = form_keyword_path form
keyword_path (Grid name) = refl
keyword_path (Row row) = refl
keyword_path End = refl

-- ---- each reader finds it

name_again : (w : List ℕ) (rest : List Word) → is_name w ≡ true → name_at (Path w ∷ rest) ≡ Ok (w, rest)
unfolding name_at path_at
name_again w rest e = first_branch (is_name w) _ _ e

path_again : (w : List ℕ) (rest : List Word) → path_at (Path w ∷ rest) ≡ Ok (w, rest)
unfolding path_at
path_again w rest = refl

number_again : (z : ℤ) (rest : List Word) → number_at (Number z ∷ rest) ≡ Ok (z, rest)
unfolding number_at
number_again z rest = refl

count_again : (n : ℕ) (rest : List Word) → n ≤ 1000000 → count_at (Number (pos n) ∷ rest) ≡ Ok (n, rest)
unfolding count_at number_at
count_again n rest h = first_branch (leb n 1000000) _ _ (le-leb n 1000000 h)

width_again : (width : Option ℕ) → IsWidth width → optional_count_at (width_said width) ≡ Ok (width, [])
unfolding optional_count_at
width_again None h = refl
width_again (Some width) h = ap (λ (r : Result (ℕ × List Word) StickKind). r >>= λ count. Ok (Some count.0, count.1))
    (count_again width [] h)

layer_again : (layer : Layer) (rest : List Word) → layer_at (Path (layer_word layer) ∷ rest) ≡ Ok (layer, rest)
unfolding layer_at path_at
layer_again Diffusion rest = refl
layer_again Poly rest = refl
layer_again Metal rest = refl

lower_again : (layer : Layer) (rest : List Word) → IsLower layer
    → lower_at (Path (layer_word layer) ∷ rest) ≡ Ok (layer, rest)
unfolding lower_at path_at
lower_again Diffusion rest h = refl
lower_again Poly rest h = refl
lower_again Metal rest h = absurd h

side_again : (side : Side) (rest : List Word) → side_at (Path (side_word side) ∷ rest) ≡ Ok (side, rest)
unfolding side_at path_at
side_again Left rest = refl
side_again Right rest = refl
side_again Bottom rest = refl
side_again Top rest = refl

either_again : (first second : List ℕ) (b : Bool) (rest : List Word) → bytes_eq first first ≡ true
    → bytes_eq second first ≡ false → bytes_eq second second ≡ true
    → either_at first second (Path (cond b second first) ∷ rest) ≡ Ok (b, rest)
unfolding either_at path_at
either_again first second false rest one other two = rw (one) refl
either_again first second true rest one other two = rw (other, two) refl

bound_again : (b : Bool) (rest : List Word) → at_most_at (bound_said b ∷ rest) ≡ Ok (b, rest)
unfolding at_most_at
bound_again true rest = refl
bound_again false rest = refl

none_left : ended [] ≡ Ok tt
unfolding ended
none_left = refl

-- ---- each form

joint_again : (name : List ℕ) (layer : Layer) (col row : ℕ) (width : Option ℕ)
    → IsForm (Joint name layer col row width)
    → joint_of (form_said (Joint name layer col row width)) ≡ Ok (Joint name layer col row width)
unfolding joint_of
joint_again name layer col row width h =
    rw (
      name_again name (Path (layer_word layer) ∷ Number (pos col) ∷ Number (pos row) ∷ width_said width)
          h.0,
      layer_again layer (Number (pos col) ∷ Number (pos row) ∷ width_said width),
      count_again col
          (Number (pos row) ∷ width_said width) h.1,
      count_again row (width_said width) h.2,
      width_again width
          h.3,
      none_left,
    ) refl

contact_again : (name : List ℕ) (lower : Layer) (col row : ℕ) → IsForm (Contact name lower col row)
    → contact_of (form_said (Contact name lower col row)) ≡ Ok (Contact name lower col row)
unfolding contact_of
contact_again name lower col row h =
    rw (
      name_again name (Path (layer_word lower) ∷ Number (pos col) ∷ Number (pos row) ∷ []) h.0,
      lower_again lower
          (Number (pos col) ∷ Number (pos row) ∷ []) h.1,
      count_again col (Number (pos row) ∷ []) h.2,
      count_again row []
          h.3,
      none_left,
    ) refl

buried_again : (name : List ℕ) (col row : ℕ) → IsForm (Buried name col row)
    → buried_of (form_said (Buried name col row)) ≡ Ok (Buried name col row)
unfolding buried_of
buried_again name col row h =
    rw (
      name_again name (Number (pos col) ∷ Number (pos row) ∷ []) h.0,
      count_again col (Number (pos row) ∷ [])
          h.1,
      count_again row [] h.2,
      none_left,
    ) refl

fet_again : (name : List ℕ) (depletion vertical : Bool) (col row w l : ℕ)
    → IsForm (Fet name depletion vertical col row w l)
    → fet_of (form_said (Fet name depletion vertical col row w l)) ≡ Ok (Fet name depletion vertical col row w l)
unfolding fet_of
fet_again name depletion vertical col row w l h =
    let four : List Word = Number (pos col) ∷ Number (pos row) ∷ Number (pos w) ∷ Number (pos l) ∷ [] in
    rw (
      name_again name (Path (kind_word depletion) ∷ Path (direction_word vertical) ∷ four) h.0,
      either_again
          (codes "enh") (codes "dep") depletion (Path (direction_word vertical) ∷ four) refl refl refl,
      either_again
          (codes "h") (codes "v") vertical four refl refl refl,
      count_again col
          (Number (pos row) ∷ Number (pos w) ∷ Number (pos l) ∷ []) h.1,
      count_again row
          (Number (pos w) ∷ Number (pos l) ∷ []) h.2,
      count_again w (Number (pos l) ∷ []) h.3,
      count_again l []
          h.4,
      none_left,
    ) refl

port_again : (name : List ℕ) (side : Side) (layer : Layer) (place : ℕ) → IsForm (Port name side layer place)
    → port_of (form_said (Port name side layer place)) ≡ Ok (Port name side layer place)
unfolding port_of
port_again name side layer place h =
    rw (
      name_again name (Path (side_word side) ∷ Path (layer_word layer) ∷ Number (pos place) ∷ []) h.0,
      side_again
          side (Path (layer_word layer) ∷ Number (pos place) ∷ []),
      layer_again layer (Number (pos place) ∷ []),
      count_again
          place [] h.1,
      none_left,
    ) refl

use_again : (name cell : List ℕ) (col row : ℕ) → IsForm (Inst name cell col row)
    → use_of (form_said (Inst name cell col row)) ≡ Ok (Inst name cell col row)
unfolding use_of
use_again name cell col row h =
    rw (
      name_again name (Path cell ∷ Number (pos col) ∷ Number (pos row) ∷ []) h.0,
      name_again cell
          (Number (pos col) ∷ Number (pos row) ∷ []) h.1,
      count_again col (Number (pos row) ∷ []) h.2,
      count_again row []
          h.3,
      none_left,
    ) refl

wire_again : (layer : Layer) (a b : List ℕ) (width : Option ℕ) → IsForm (Wire layer a b width)
    → wire_of (form_said (Wire layer a b width)) ≡ Ok (Wire layer a b width)
unfolding wire_of
wire_again layer a b width h =
    rw (
      layer_again layer (Path a ∷ Path b ∷ width_said width),
      path_again a (Path b ∷ width_said width),
      path_again b
          (width_said width),
      width_again width h.2,
      none_left,
    ) refl

limit_again : (vertical : Bool) (a b : List ℕ) (at_most : Bool) (n : ℤ)
    → limit_of (form_said (Limit vertical a b at_most n)) ≡ Ok (Limit vertical a b at_most n)
unfolding limit_of
limit_again vertical a b at_most n =
    rw (
      either_again (codes "x") (codes "y") vertical (Path a ∷ Path b ∷ bound_said at_most ∷ Number n ∷ []) refl refl
          refl,
      path_again a (Path b ∷ bound_said at_most ∷ Number n ∷ []),
      path_again b
          (bound_said at_most ∷ Number n ∷ []),
      bound_again at_most (Number n ∷ []),
      number_again n [],
      none_left,
    ) refl

-- ---- each statement

names_again : (names : List (List ℕ)) → AllByRecursion IsName names
    → names_of (map (λ name. Path name) names) ≡ Ok names
unfolding names_of
names_again [] h = refl
names_again (name ∷ names) h = rw (name_again name (map (λ n. Path n) names) h.0, names_again names h.1) refl

row_again : (names : List (List ℕ)) → 0 < length names → AllByRecursion IsName names
    → row_of (map (λ name. Path name) names) ≡ Ok (Row (record { names = names }))
unfolding row_of
row_again [] some h = absurd (omega arith)
row_again (name ∷ names) some h = rw (names_again (name ∷ names) h) refl

cell_again : (name : List ℕ) → IsName name → cell_of (Path name ∷ []) ≡ Ok (Cell name)
unfolding cell_of
cell_again name h = rw (name_again name [] h, none_left) refl

version_again : (version : ℕ) → IsCount version → version_of (Number (pos version) ∷ []) ≡ Ok (Version version)
unfolding version_of
version_again version h = rw (count_again version [] h, none_left) refl

grid_again : (name : Option (List ℕ)) → IsGridName name → grid_of (name_said name) ≡ Ok (Grid name)
unfolding grid_of
grid_again None h = refl
grid_again (Some name) h = rw (name_again name [] h, none_left) refl

end_again : end_of [] ≡ Ok End
unfolding end_of
end_again = rw none_left refl

form_again : (form : Form) → IsForm form → form_named (form_keyword form) (form_said form) ≡ Ok form
unfolding form_named
form_again (Joint name layer col row width) h = joint_again name layer col row width h
form_again (Contact name lower col row) h = contact_again name lower col row h
form_again (Buried name col row) h = buried_again name col row h
form_again (Fet name depletion vertical col row w l) h = fet_again name depletion vertical col row w l h
form_again (Port name side layer place) h = port_again name side layer place h
form_again (Inst name cell col row) h = use_again name cell col row h
form_again (Wire layer a b width) h = wire_again layer a b width h
form_again (Limit vertical a b at_most n) h = limit_again vertical a b at_most n

item_again : (form : Form) → IsForm form → item_named (form_keyword form) (form_said form) ≡ Ok (Item form)
unfolding item_named
item_again form h = rw (form_again form h) refl

item_keyword : (form : Form) (words : List Word)
    → statement_named (form_keyword form) words ≡ item_named (form_keyword form) words
unfolding statement_named
item_keyword (Joint name layer col row width) words = refl
item_keyword (Contact name lower col row) words = refl
item_keyword (Buried name col row) words = refl
item_keyword (Fet name depletion vertical col row w l) words = refl
item_keyword (Port name side layer place) words = refl
item_keyword (Inst name cell col row) words = refl
item_keyword (Wire layer a b width) words = refl
item_keyword (Limit vertical a b at_most n) words = refl

named_again : (statement : Statement) → IsStatement statement
    → statement_named (keyword_of statement) (said statement) ≡ Ok statement
unfolding statement_named
named_again (Version version) h = version_again version h
named_again (Cell name) h = cell_again name h
named_again (Item form) h = item_keyword form (form_said form) ∙ item_again form h
named_again (Grid name) h = grid_again name h
named_again (Row row) h = row_again row.names h.0 h.1
named_again End h = end_again

pub statement_again : (statement : Statement) → IsStatement statement
    → statement_of (Path (keyword_of statement) ∷ said statement) ≡ Ok statement
unfolding statement_of path_at
statement_again statement h = named_again statement h

-- ---- each line

-- a line without its line feed
abbrev pub body : Statement → List ℕ
body statement = keyword_of statement ++ spaced (words_of statement)

by_words : (words : List Word) (statement : Statement) (word : Word) → statement_of (word ∷ words) ≡ Ok statement
    → said_by_words (word ∷ words) ≡ Ok (Some statement)
unfolding said_by_words
by_words words statement word e = rw e refl

pub line_again : (statement : Statement) → IsStatement statement → said_by (body statement) ≡ Ok (Some statement)
unfolding said_by
line_again statement h =
    let again = words_again (keyword_of statement) (words_of statement) (Path (keyword_of statement)) (said statement)
    (says_path (keyword_of statement) (keyword_path statement)) (says_words statement h) in
    ap (λ (r : Result (List Token) LexFault). tokens_or_kind r >>= λ tokens.
    said_by_words (map (word_of (body statement)) tokens)) again.1
    ∙ ap said_by_words again.2
    ∙ by_words (said statement) statement (Path (keyword_of statement)) (statement_again statement h)

-- a line has no line end in it
pub plain_words : (statement : Statement) → IsStatement statement
    → AllByRecursion (AllByRecursion IsPlain) (words_of statement)
plain_words statement h = plain_texts (words_of statement) (said statement) (says_words statement h)

pub plain_keyword : (statement : Statement) → AllByRecursion IsPlain (keyword_of statement)
plain_keyword statement = (says_path (keyword_of statement) (keyword_path statement)).plain

pub some_keyword : (statement : Statement) → 0 < length (keyword_of statement)
some_keyword statement = (says_path (keyword_of statement) (keyword_path statement)).some
