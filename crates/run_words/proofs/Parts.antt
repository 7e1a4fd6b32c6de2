-- What `clap` finds in a line of parts: a row for each, in their order.
use Rattle.std.proofs.Common.{◌≡◌, ◌∙◌, ◌||◌, ℕ, Bool, true, false, not, codes, refl, sym, ap, subst, List, [], ◌∷◌}
use Rattle.std.proofs.Common.{◌++◌, map, fold, find, Option, Some, None, is_some, option_map, append_assoc, true≢false}
use Rattle.std.proofs.{Math.Bool.or-true, lemmas.List.{append-nil, map-append, Folds.list_any-append}}
use Rattle.std.specs.{Prelude.{flat_map, if◌then◌else◌, option_and_then, slice_get}, List.{list_all, list_any}}
use Rattle.std.specs.{Option.option_map_or, Str.bytes_eq}
use Rattle.clap.specs.{Words.{App, Kinds, Row, Rule, Text, fault_of, first_of, matches_of}, Walk.{Held, Walk}}
use Rattle.clap.specs.Walk.{arg_by_index, default_rows, finished, has_row, is_empty, nothing_held, reading_by}
use Rattle.clap.specs.{Walk.{rows_after, settled, walk, with_default}, Simple.{Shape, argument_words, built, label_of}}
use Rattle.clap.specs.{Simple.names_of, Facts.explicit_source, Kinds.or_else, Takes.is_given, Faults.built_fault}
use Rattle.clap.specs.Faults.{check_fault, default_fault, given_default_fault, defaults_fault, settle_fault}
use Rattle.clap.proofs.{FaultLemmas.leaf_fault, WalkLemmas.{both, find-map, list_any-map}}
use Rattle.run_words.specs.{Lines.{found_in, without_fault}, PlainLines.{Part, alone, apart, joined, are_new}}
use Rattle.run_words.specs.PlainLines.{begins_with_dash, is_plain, is_plain_line, name_of, value_at, value_of, words_of}
use Rattle.run_words.proofs.Steps.{IsOperand, IsOption, Reads, Settles, between, free_settles, held_settles}
use Rattle.run_words.proofs.Steps.{reads_alone, reads_apart, reads_joined, reads_none, row_for}

abbrev pub row_of_part : Part → Row
row_of_part part = row_for (name_of part) (value_of part)

-- what holds of a line with options of these names
pub record Fits (s : Shape) (names : List Text) : Type 0 where
  pub operand : Rule
  pub is_operand : IsOperand s operand
  pub options : (name : Text) → list_any (bytes_eq name) names ≡ true → (a : Rule) × IsOption s name a
  pub others : list_any (bytes_eq (codes "operand")) names ≡ false
  pub second : arg_by_index s.rules 2 ≡ None
  pub once : s.args_override_self ≡ false

pub not_true : (b : Bool) → not b ≡ true → b ≡ false
not_true true e = absurd (true≢false (sym e))
not_true false e = refl

pub no_left : (a b : Bool) → (a || b) ≡ false → a ≡ false
no_left true b e = absurd (true≢false e)
no_left false b e = refl

pub no_row : (before : List Part) (name : Text) → not (list_any (λ old. bytes_eq (name_of old) name) before) ≡ true
    → has_row name (map row_of_part before) ≡ false
no_row before name fresh = sym (list_any-map (λ (r : Row). bytes_eq r.id name) row_of_part before) ∙ not_true _ fresh

pub rows_more : (before : List Part) (part : Part)
    → map row_of_part before ++ row_of_part part ∷ [] ≡ map row_of_part (before ++ part ∷ [])
rows_more before part = sym (map-append row_of_part before (part ∷ []))

abbrev pub is_operand_part : Part → Bool
is_operand_part old = bytes_eq (name_of old) (codes "operand")

-- the walk over the words of parts ends with their rows
record Ends (s : Shape) (w : Walk) (words : List Text) (parts : List Part) : Type 0 where
  at : Walk
  reads : Reads s w words at
  settles : Settles s at.held (map row_of_part parts)

pub still_first : (before : List Part) (part : Part) (p : ℕ) → (list_any is_operand_part before ≡ false → p ≡ 1)
    → list_any is_operand_part (before ++ part ∷ []) ≡ false → p ≡ 1
still_first before part p one none =
    one (no_left (list_any is_operand_part before) _
    (sym (list_any-append is_operand_part before (part ∷ [])) ∙ none))

pub once_only : (before : List Part) (v : Text) → list_any is_operand_part (before ++ alone v ∷ []) ≡ false → ⊥
once_only before v none =
    go (list_any is_operand_part before) (sym (list_any-append is_operand_part before (alone v ∷ [])) ∙ none)
  where
    go : (b : Bool) → (b || true) ≡ false → ⊥
    go true e = true≢false e
    go false e = true≢false e

all_parts : (s : Shape) (names : List Text) → Fits s names → (parts before : List Part) (h : Held) (p : ℕ)
    → Settles s h (map row_of_part before)
    → (list_any is_operand_part before ≡ false → p ≡ 1) → list_all (is_plain names) parts ≡ true
    → are_new before parts ≡ true
    → Ends s (between h p) (flat_map words_of parts) (before ++ parts)
all_parts s names f [] before h p st one plain new = record {
  at = between h p;
  reads = reads_none s (between h p);
  settles = subst (λ (l : List Part). Settles s h (map row_of_part l)) (sym (append-nil before)) st;
}
all_parts s names f (alone v ∷ ps) before h p st one plain new =
    let fresh = (both _ (are_new (before ++ alone v ∷ []) ps) new).0 in
    let none = no_row before (codes "operand") fresh in
    let first : p ≡ 1 = one (not_true _ fresh) in
    let held = subst (Settles s _) (rows_more before (alone v))
    (held_settles s (codes "operand") f.operand v (map row_of_part before) f.is_operand.takes none) in
    let rest = all_parts s names f ps (before ++ alone v ∷ []) _ 2 held (λ none. absurd (once_only before v none))
    (both _ _ plain).1 (both _ _ new).1 in
    record {
      at = rest.at;
      reads = subst (λ q. Reads s (between h q) (v ∷ flat_map words_of ps) rest.at) (sym first)
          (reads_alone s f.operand v h (map row_of_part before) (flat_map words_of ps) rest.at f.is_operand
          (not_true _ (both _ _ plain).0) st rest.reads);
      settles = subst (λ (l : List Part). Settles s rest.at.held (map row_of_part l))
          (append_assoc before (alone v ∷ []) ps) rest.settles;
    }
all_parts s names f (apart name v ∷ ps) before h p st one plain new =
    let fresh = (both _ (are_new (before ++ apart name v ∷ []) ps) new).0 in
    let none = no_row before name fresh in
    let looks = both (not (begins_with_dash v)) (list_any (bytes_eq name) names)
    (both _ (list_all (is_plain names) ps) plain).0 in
    let o = f.options name looks.1 in
    let held = subst (Settles s _) (rows_more before (apart name v))
    (held_settles s name o.0 v (map row_of_part before) o.1.takes none) in
    let rest = all_parts s names f ps (before ++ apart name v ∷ []) _ p held (still_first before (apart name v) p one)
    (both _ _ plain).1 (both _ _ new).1 in
    record {
      at = rest.at;
      reads = reads_apart s name o.0 v h p (map row_of_part before) (flat_map words_of ps) rest.at o.1
          (not_true _ looks.0) st rest.reads;
      settles = subst (λ (l : List Part). Settles s rest.at.held (map row_of_part l))
          (append_assoc before (apart name v ∷ []) ps) rest.settles;
    }
all_parts s names f (joined name v ∷ ps) before h p st one plain new =
    let fresh = (both _ (are_new (before ++ joined name v ∷ []) ps) new).0 in
    let none = no_row before name fresh in
    let o = f.options name (both _ (list_all (is_plain names) ps) plain).0 in
    let held = subst (Settles s _) (rows_more before (joined name v))
    (free_settles s (map row_of_part before ++ row_for name v ∷ [])) in
    let rest = all_parts s names f ps (before ++ joined name v ∷ []) _ p held
    (still_first before (joined name v) p one) (both _ _ plain).1 (both _ _ new).1 in
    record {
      at = rest.at;
      reads = reads_joined s name o.0 v h p (map row_of_part before) (flat_map words_of ps) rest.at o.1 none st
          rest.reads;
      settles = subst (λ (l : List Part). Settles s rest.at.held (map row_of_part l))
          (append_assoc before (joined name v ∷ []) ps) rest.settles;
    }

-- ---- after the walk

abbrev pub is_none_at : List Text → Bool
is_none_at [] = true
is_none_at (v ∷ vs) = false

-- the argument has no default
abbrev pub is_bare : Rule → Bool
is_bare a = is_none_at a.defaults

none_at : (vs : List Text) → is_none_at vs ≡ true → vs ≡ []
none_at [] e = refl
none_at (v ∷ vs) e = absurd (true≢false (sym e))

bare_stays : (a : Rule) (rows : List Row) → is_bare a ≡ true → with_default rows a ≡ rows
bare_stays a rows bare =
    ap (λ (vs : List Text). if has_row a.id rows then rows else default_rows a.id (reading_by a) vs rows)
    (none_at a.defaults bare) ∙ go (has_row a.id rows)
  where
    go : (b : Bool) → (if b then rows else rows) ≡ rows
    go true = refl
    go false = refl

all_bare : (rules : List Rule) (rows : List Row) → list_all is_bare rules ≡ true → fold with_default rows rules ≡ rows
all_bare [] rows bare = refl
all_bare (a ∷ rules) rows bare =
    let parts = both (is_bare a) (list_all is_bare rules) bare in
    ap (λ (r : List Row). fold with_default r rules) (bare_stays a rows parts.0) ∙ all_bare rules rows parts.1

bare_passes : (a : Rule) (rows : List Row) → is_bare a ≡ true → default_fault rows a ≡ []
bare_passes a rows bare =
    ap (λ (vs : List Text). if has_row a.id rows || is_empty vs then [] else given_default_fault a vs)
    (none_at a.defaults bare)
    ∙ ap (λ (b : Bool). if b then [] else given_default_fault a []) (or-true (has_row a.id rows))

all_bare_pass : (rules : List Rule) (rows : List Row) → list_all is_bare rules ≡ true → defaults_fault rows rules ≡ []
unfolding defaults_fault
all_bare_pass [] rows bare = refl
all_bare_pass (a ∷ rules) rows bare =
    let parts = both (is_bare a) (list_all is_bare rules) bare in
    ap (λ (k : Kinds). or_else k (defaults_fault (with_default rows a) rules)) (bare_passes a rows parts.0)
    ∙ ap (λ (r : List Row). defaults_fault r rules) (bare_stays a rows parts.0) ∙ all_bare_pass rules rows parts.1

-- ---- the whole line

-- an app without subcommands, which wants no help where no argument is given
pub record IsLine (app : App) (names : List Text) : Type 0 where
  pub subs : (built app).subs ≡ []
  pub named : app.top.no_binary_name ≡ false
  pub bare : list_all is_bare (built app).top.rules ≡ true
  pub fits : Fits (built app).top names

module _ (app : App) (names : List Text) (line : IsLine app names) (word : Text) (parts : List Part)
    (plain : is_plain_line names parts ≡ true) (new : are_new [] parts ≡ true) where
  abbrev words : List Text
  words = flat_map words_of parts

  abbrev shape : Shape
  shape = (built app).top

  abbrev rows : List Row
  rows = map row_of_part parts

  ends : Ends shape (between nothing_held 1) words parts
  ends = all_parts shape names line.fits parts [] nothing_held 1 (free_settles shape []) (λ none. refl) plain new

  held_is : (walk shape.rules [] nothing_held words).held ≡ ends.at.held
  held_is = ap (λ (w : Walk). w.held) ends.reads.ends

  finished_is : finished shape.rules (walk shape.rules [] nothing_held words).held ≡ rows
  finished_is = ap (finished shape.rules) held_is
      ∙ ap (λ (h : Held). fold with_default h.rows shape.rules) ends.settles.to ∙ all_bare shape.rules rows line.bare

  fault_is : fault_of app (word ∷ words) ≡ check_fault shape rows false
  fault_is =
      let end = (walk shape.rules [] nothing_held words).held in
      let given : argument_words app (word ∷ words) ≡ words = rw line.named refl in
      let left : List Row → Kinds = λ (r : List Row). check_fault shape r false in
      ap (λ ws. built_fault (built app) nothing_held ws) given ∙ leaf_fault (built app) nothing_held words line.subs
      ∙ ap (λ (k : Kinds). or_else k (or_else [] (or_else (settle_fault shape.rules shape.args_override_self end)
      (or_else (defaults_fault (settled shape.rules end).rows shape.rules)
      (left (finished shape.rules end)))))) ends.reads.passes
      ∙ ap (λ (k : Kinds).
      or_else k
      (or_else (defaults_fault (settled shape.rules end).rows shape.rules) (left (finished shape.rules end))))
      (ap (settle_fault shape.rules shape.args_override_self) held_is ∙ ends.settles.passes)
      ∙ ap (λ (k : Kinds). or_else k (left (finished shape.rules end)))
      (all_bare_pass shape.rules (settled shape.rules end).rows line.bare)
      ∙ ap left finished_is

  matches_are : matches_of app (word ∷ words) ≡ rows
  matches_are =
      let given : argument_words app (word ∷ words) ≡ words = rw line.named refl in
      ap (rows_after shape.rules (names_of (built app))) given
      ∙ ap (λ (subs : List Shape). rows_after shape.rules (map label_of subs) words) line.subs ∙ finished_is

  pub line_found : found_in app (word ∷ words) ≡ without_fault (check_fault shape rows false) rows
  unfolding found_in
  line_found = ap (λ (k : Kinds). without_fault k (matches_of app (word ∷ words))) fault_is
      ∙ ap (without_fault (check_fault shape rows false)) matches_are

-- ---- what the rows say

pub first_is : (name : Text) (parts : List Part) → first_of name (map row_of_part parts) ≡ value_at name parts
first_is name parts =
    ap (λ (o : Option Row). option_and_then (λ (r : Row). slice_get r.values 0) o)
    (sym (find-map (λ (r : Row). bytes_eq r.id name) row_of_part parts))
    ∙ go (find (λ part. bytes_eq (name_of part) name) parts)
  where
    go : (o : Option Part) → option_and_then (λ (r : Row). slice_get r.values 0) (option_map row_of_part o)
        ≡ option_map value_of o
    go None = refl
    go (Some part) = refl

pub given_is : (name : Text) (parts : List Part) → is_given name (map row_of_part parts) ≡ is_some (value_at name parts)
given_is name parts =
    ap (λ (o : Option Row). option_map_or (λ (r : Row). explicit_source r.source) o false)
    (sym (find-map (λ (r : Row). bytes_eq r.id name) row_of_part parts))
    ∙ go (find (λ part. bytes_eq (name_of part) name) parts)
  where
    go : (o : Option Part) → option_map_or (λ (r : Row). explicit_source r.source) (option_map row_of_part o) false
        ≡ is_some (option_map value_of o)
    go None = refl
    go (Some part) = refl
