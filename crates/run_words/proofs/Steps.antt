-- How `clap` walks over the words of a plain command line, part by part.
use Rattle.std.proofs.Common.{◌≡◌, ◌∙◌, ◌&&◌, ◌||◌, ℕ, Bool, true, false, codes, refl, sym, ap, List, [], ◌∷◌, ◌++◌}
use Rattle.std.proofs.Common.{fold, Option, Some, None, true≢false}
use Rattle.std.proofs.lemmas.{List.append-nil, Slice.Eq.bytes_eq-Decides}
use Rattle.std.specs.{Prelude.if◌then◌else◌, Str.bytes_eq, Option.option_map_or}
use Rattle.clap.specs.{Lexer.long_of, Words.{Row, Rule, Text, Kinds}, Walk.{Held, Step, Waiting, Walk, after_step}}
use Rattle.clap.specs.Walk.{arg_by_id, arg_by_index, arg_by_long, at_row, has_row, idle, more_values, next, option}
use Rattle.clap.specs.Walk.{option_word, plain_word, positional, positional_held, pushed, reacted, settled}
use Rattle.clap.specs.Walk.{takes_values, takes_several, is_multiple, is_pending, to_positional, used, used_by_id}
use Rattle.clap.specs.{Walk.{value, walked, word_met}, Simple.Shape, Kinds.or_else, Faults.other_fault}
use Rattle.clap.specs.Faults.{positional_fault, react_fault, settle_fault, step_fault, stray_fault, turn_fault}
use Rattle.clap.specs.{Faults.{use_fault, walk_fault, word_fault}, declared.builder.action.ArgAction.TheVariants.Set}
use Rattle.clap.specs.declared.parser.matches.ValueSource.TheVariants.{CommandLine}
use Rattle.clap.specs.declared.builder.value_parser.ValueParser.TheVariants as vp
use Rattle.clap.specs.declared.builder.value_parser.Reading.TheVariants as reading
use Rattle.run_words.specs.PlainLines.{begins_with_dash}

-- ---- one value of an argument

-- the argument of this name takes one text at each use
pub record TakesOne (rules : List Rule) (name : Text) (a : Rule) : Type 0 where
  pub id : a.id ≡ name
  pub here : arg_by_id rules name ≡ Some a
  pub range : a.range ≡ Some (record { start_inclusive = 1; end_inclusive = 1 })
  pub action : a.action ≡ Some Set
  pub parser : a.parser ≡ Some vp.String

abbrev pub row_for : Text → Text → Row
row_for name v = record {
  id = name;
  values = v ∷ [];
  count = None;
  source = Some CommandLine;
  reading = reading.AsWritten;
}

at_no_row : (id : Text) (change : Row → List Row) (missing rows : List Row) → has_row id rows ≡ false
    → at_row id change missing rows ≡ rows ++ missing
at_no_row id change missing [] none = refl
at_no_row id change missing (r ∷ rs) none = go (bytes_eq r.id id) refl (λ rest. at_no_row id change missing rs rest)
  where
    go : (b : Bool) → bytes_eq r.id id ≡ b → (has_row id rs ≡ false → at_row id change missing rs ≡ rs ++ missing)
        → at_row id change missing (r ∷ rs) ≡ (r ∷ rs) ++ missing
    go true e more = absurd (true≢false (sym (ap (λ t. t || has_row id rs) e) ∙ none))
    go false e more =
        let rest : has_row id rs ≡ false = sym (ap (λ t. t || has_row id rs) e) ∙ none in
        rw e (ap (λ l. r ∷ l) (more rest))

used_once : (rules : List Rule) (name : Text) (a : Rule) (v : Text) (rows : List Row) → TakesOne rules name a
    → has_row name rows ≡ false
    → used a (v ∷ []) rows ≡ rows ++ row_for name v ∷ []
used_once rules name a v rows t none =
    let gone : at_row name (λ _. []) [] rows ≡ rows = at_no_row name (λ _. []) [] rows none ∙ append-nil rows in
    rw (t.action, t.parser, t.id, gone)
    (at_no_row name (more_values CommandLine (v ∷ [])) (row_for name v ∷ []) rows none)

use_passes : (rules : List Rule) (again : Bool) (name : Text) (a : Rule) (v : Text) (rows : List Row)
    → TakesOne rules name a → has_row name rows ≡ false
    → use_fault again a (v ∷ []) rows ≡ []
use_passes rules again name a v rows t none = rw (t.range, t.action, t.id, none, t.parser) refl

-- ---- what is held between two parts

-- the rows that are held once what is pending is used, and that using it is no fault
pub record Settles (s : Shape) (h : Held) (rows : List Row) : Type 0 where
  pub to : settled s.rules h ≡ record { rows = rows; pending = None; skip = 0 }
  pub passes : settle_fault s.rules s.args_override_self h ≡ []

abbrev pub holding : List Row → Text → List Text → Held
holding rows name values = record { rows = rows; pending = Some (name, values); skip = 0 }

abbrev pub free : List Row → Held
free rows = record { rows = rows; pending = None; skip = 0 }

pub free_settles : (s : Shape) (rows : List Row) → Settles s (free rows) rows
free_settles s rows = record { to = refl; passes = refl }

pub held_settles : (s : Shape) (name : Text) (a : Rule) (v : Text) (rows : List Row) → TakesOne s.rules name a
    → has_row name rows ≡ false
    → Settles s (holding rows name (v ∷ [])) (rows ++ row_for name v ∷ [])
held_settles s name a v rows t none = record {
  to = ap (λ (o : Option Rule). free (used_by_id o (v ∷ []) rows)) t.here
      ∙ ap free (used_once s.rules name a v rows t none);
  passes = ap (λ (o : Option Rule). option_map_or (λ (x : Rule). use_fault s.args_override_self x (v ∷ []) rows) o [])
      t.here
      ∙ use_passes s.rules s.args_override_self name a v rows t none;
}

-- ---- one word

abbrev pub state : Held → Waiting → ℕ → Walk
state h waiting p = record { held = h; waiting = waiting; position = p; is_trailing = false; stopped = None }

abbrev pub between : Held → ℕ → Walk
between h p = state h idle p

turn_passes : (s : Shape) (h h1 : Held) (waiting : Waiting) (p : ℕ) (word : Text) (step : Step)
    → word_met s.rules [] false waiting p word h ≡ (h1, step)
    → word_fault s [] false waiting word h ≡ [] → step_fault s p h1 step ≡ []
    → turn_fault s [] (state h waiting p) word ≡ []
turn_passes s h h1 waiting p word step met here next_is =
    let m = word_met s.rules [] false waiting p word h in
    ap (λ (k : Kinds). or_else k (step_fault s p m.0 m.1)) here ∙ ap (λ (x : Held × Step). step_fault s p x.0 x.1) met
    ∙ next_is

turn_walks : (s : Shape) (h h1 : Held) (waiting : Waiting) (p : ℕ) (word : Text) (step : Step)
    → word_met s.rules [] false waiting p word h ≡ (h1, step)
    → walked s.rules [] (state h waiting p) word ≡ after_step s.rules word (state h waiting p) h1 step
unfolding walked
turn_walks s h h1 waiting p word step met =
    ap (λ (x : Held × Step). after_step s.rules word (state h waiting p) x.0 x.1) met

-- a word that begins with no dash
pub plain_met : (c : List Rule) (p : ℕ) (word : Text) (h : Held) → begins_with_dash word ≡ false
    → word_met c [] false idle p word h ≡ (h, value)
plain_met c p [] h e = refl
plain_met c p (x ∷ xs) h e = rw (e, e) refl

valued_met : (c : List Rule) (name : Text) (p : ℕ) (word : Text) (h : Held) → begins_with_dash word ≡ false
    → word_met c [] false (option name) p word h ≡ plain_word c (option name) word h
valued_met c name p [] h e = refl
valued_met c name p (x ∷ xs) h e = rw (e, e) refl

plain_passes : (s : Shape) (word : Text) (h : Held) → begins_with_dash word ≡ false → other_fault s None word h ≡ []
plain_passes s [] h e = refl
plain_passes s (x ∷ xs) h e = rw (e, e) refl

-- ---- the words of a line

-- the walk over these words ends in e, without a fault
pub record Reads (s : Shape) (w : Walk) (words : List Text) (e : Walk) : Type 0 where
  pub ends : fold (walked s.rules []) w words ≡ e
  pub passes : walk_fault s [] w words ≡ []

pub reads_none : (s : Shape) (w : Walk) → Reads s w [] w
unfolding walk_fault
reads_none s w = record { ends = refl; passes = refl }

pub reads_more : (s : Shape) (w next_w e : Walk) (word : Text) (words : List Text) → turn_fault s [] w word ≡ []
    → walked s.rules [] w word ≡ next_w → Reads s next_w words e
    → Reads s w (word ∷ words) e
unfolding walk_fault
reads_more s w next_w e word words turn step r = record {
  ends = ap (λ (x : Walk). fold (walked s.rules []) x words) step ∙ r.ends;
  passes = ap (λ (k : Kinds). or_else k (walk_fault s [] (walked s.rules [] w word) words)) turn
      ∙ ap (λ (x : Walk). walk_fault s [] x words) step ∙ r.passes;
}

-- ---- one part

-- the operand of a line: its one positional
pub record IsOperand (s : Shape) (o : Rule) : Type 0 where
  pub takes : TakesOne s.rules (codes "operand") o
  pub first : arg_by_index s.rules 1 ≡ Some o
  pub single : o.trailing_var_arg ≡ false

-- an option of a line, and how its words look
pub record IsOption (s : Shape) (name : Text) (a : Rule) : Type 0 where
  pub takes : TakesOne s.rules name a
  pub long : arg_by_long s.rules name ≡ Some a
  pub spelled : long_of (45 ∷ 45 ∷ name) ≡ Some (name, None)
  pub valued : (v : Text) → long_of (45 ∷ 45 ∷ (name ++ 61 ∷ v)) ≡ Some (name, Some v)
  pub named : bytes_eq (45 ∷ 45 ∷ name) (45 ∷ 45 ∷ []) ≡ false
  pub named_valued : (v : Text) → bytes_eq (45 ∷ 45 ∷ (name ++ 61 ∷ v)) (45 ∷ 45 ∷ []) ≡ false

never_both : (b c : Bool) → c ≡ false → (b && c) ≡ false
never_both true c e = e
never_both false c e = refl

one_value : (rules : List Rule) (name : Text) (a : Rule) → TakesOne rules name a → takes_several a ≡ false
one_value rules name a t = rw t.range refl

one_use : (rules : List Rule) (name : Text) (a : Rule) → TakesOne rules name a → is_multiple a ≡ false
one_use rules name a t = rw (t.range, t.action) refl

positional_is : (s : Shape) (o : Rule) (v : Text) (h : Held) → IsOperand s o
    → to_positional s.rules (Some o) v (between h 1) h ≡ between (pushed (codes "operand") v (settled s.rules h)) 2
positional_is s o v h i =
    let new : (is_pending o h.pending && takes_several o) ≡ false =
    never_both _ _ (one_value s.rules (codes "operand") o i.takes) in
    let kept : positional_held s.rules o v h ≡ pushed (codes "operand") v (settled s.rules h) =
    ap (λ (b : Bool). pushed o.id v (if b then h else settled s.rules h)) new
    ∙ ap (λ (n : Text). pushed n v (settled s.rules h)) i.takes.id in
    ap (λ (x : Held). record (to_positional s.rules (Some o) v (between h 1) h) { held = x }) kept
    ∙ ap (λ (b : Bool). moved (if b then positional else idle) (if b then 1 else 2) o.trailing_var_arg)
    (one_use s.rules (codes "operand") o i.takes)
    ∙ ap (λ (b : Bool). moved idle 2 b) i.single
  where
    moved : Waiting → ℕ → Bool → Walk
    moved waiting p trailing =
        record {
          held = pushed (codes "operand") v (settled s.rules h);
          waiting = waiting;
          position = p;
          is_trailing = trailing;
          stopped = None;
        }

positional_passes_is : (s : Shape) (o : Rule) (h : Held) → IsOperand s o
    → positional_fault s.rules s.args_override_self o h ≡ settle_fault s.rules s.args_override_self h
positional_passes_is s o h i =
    ap (λ (b : Bool). if b then [] else settle_fault s.rules s.args_override_self h)
    (never_both (is_pending o h.pending) _ (one_value s.rules (codes "operand") o i.takes))

pub alone_walks : (s : Shape) (o : Rule) (v : Text) (h : Held) (rows : List Row) → IsOperand s o
    → begins_with_dash v ≡ false → Settles s h rows
    → walked s.rules [] (between h 1) v ≡ between (holding rows (codes "operand") (v ∷ [])) 2
alone_walks s o v h rows i plain st =
    turn_walks s h h idle 1 v value (plain_met s.rules 1 v h plain)
    ∙ ap (λ (a : Option Rule). to_positional s.rules a v (between h 1) h) i.first ∙ positional_is s o v h i
    ∙ ap (λ (x : Held). between (pushed (codes "operand") v x) 2) st.to

-- what a positional word is refused for, at the place of the operand
pub alone_passes : (s : Shape) (o : Rule) (h : Held) → IsOperand s o
    → step_fault s 1 h value ≡ settle_fault s.rules s.args_override_self h
alone_passes s o h i =
    ap (λ (a : Option Rule). option_map_or (λ (x : Rule). positional_fault s.rules s.args_override_self x h) a
    (stray_fault s)) i.first ∙ positional_passes_is s o h i

pub reads_alone : (s : Shape) (o : Rule) (v : Text) (h : Held) (rows : List Row) (words : List Text) (e : Walk)
    → IsOperand s o → begins_with_dash v ≡ false → Settles s h rows
    → Reads s (between (holding rows (codes "operand") (v ∷ [])) 2) words e → Reads s (between h 1) (v ∷ words) e
reads_alone s o v h rows words e i plain st r =
    reads_more s (between h 1) (between (holding rows (codes "operand") (v ∷ [])) 2) e v words
    (turn_passes s h h idle 1 v value (plain_met s.rules 1 v h plain) (plain_passes s v h plain)
    (alone_passes s o h i ∙ st.passes)) (alone_walks s o v h rows i plain st) r

takes_some : (rules : List Rule) (name : Text) (a : Rule) → TakesOne rules name a → takes_values a ≡ true
takes_some rules name a t = rw t.range refl

same_name : (name : Text) → bytes_eq name name ≡ true
same_name name = (bytes_eq-Decides name name).1 refl

-- the word `--name`
name_met : (s : Shape) (name : Text) (a : Rule) (p : ℕ) (h : Held) → IsOption s name a
    → word_met s.rules [] false idle p (45 ∷ 45 ∷ name) h
    ≡ (record (settled s.rules h) { pending = Some (name, []) }, next (option name))
name_met s name a p h o = rw (o.named, o.spelled, o.long, takes_some s.rules name a o.takes, o.takes.id) refl

pub name_passes : (s : Shape) (name : Text) (a : Rule) (h : Held) → IsOption s name a
    → other_fault s None (45 ∷ 45 ∷ name) h ≡ settle_fault s.rules s.args_override_self h
name_passes s name a h o = rw (o.named, o.spelled, o.long, takes_some s.rules name a o.takes) refl

-- the value after it
after_name : (s : Shape) (name : Text) (a : Rule) (p : ℕ) (v : Text) (rows : List Row) → TakesOne s.rules name a
    → begins_with_dash v ≡ false
    → word_met s.rules [] false (option name) p v (holding rows name []) ≡ (holding rows name (v ∷ []), next idle)
after_name s name a p v rows t plain =
    valued_met s.rules name p v (holding rows name []) plain
    ∙ ap (λ (x : Option Rule). (
      (option_word x name v (holding rows name [])).0,
      next
          (option_word x name v (holding rows name [])).1,
    )) t.here
    ∙ rw (t.id, same_name name, t.range) refl

pub name_walks : (s : Shape) (name : Text) (a : Rule) (h : Held) (p : ℕ) (rows : List Row) → IsOption s name a
    → Settles s h rows
    → walked s.rules [] (between h p) (45 ∷ 45 ∷ name) ≡ state (holding rows name []) (option name) p
name_walks s name a h p rows o st =
    turn_walks s h _ idle p (45 ∷ 45 ∷ name) _ (name_met s name a p h o)
    ∙ ap (λ (x : Held). state (record x { pending = Some (name, []) }) (option name) p) st.to

pub value_walks : (s : Shape) (name : Text) (a : Rule) (v : Text) (p : ℕ) (rows : List Row) → IsOption s name a
    → begins_with_dash v ≡ false
    → walked s.rules [] (state (holding rows name []) (option name) p) v ≡ between (holding rows name (v ∷ [])) p
value_walks s name a v p rows o plain =
    turn_walks s _ _ (option name) p v _ (after_name s name a p v rows o.takes plain)

pub reads_apart : (s : Shape) (name : Text) (a : Rule) (v : Text) (h : Held) (p : ℕ) (rows : List Row)
    (words : List Text) (e : Walk) → IsOption s name a → begins_with_dash v ≡ false
    → Settles s h rows → Reads s (between (holding rows name (v ∷ [])) p) words e
    → Reads s (between h p) ((45 ∷ 45 ∷ name) ∷ v ∷ words) e
reads_apart s name a v h p rows words e o plain st r =
    reads_more s (between h p) (state (holding rows name []) (option name) p) e (45 ∷ 45 ∷ name) (v ∷ words)
    (turn_passes s h _ idle p (45 ∷ 45 ∷ name) _ (name_met s name a p h o) (name_passes s name a h o ∙ st.passes)
    refl) (name_walks s name a h p rows o st)
    (reads_more s (state (holding rows name []) (option name) p) (between (holding rows name (v ∷ [])) p) e v words
    (turn_passes s _ _ (option name) p v _ (after_name s name a p v rows o.takes plain)
    (plain_passes s v (holding rows name []) plain) refl) (value_walks s name a v p rows o plain) r)

-- the word `--name=value`
joined_met : (s : Shape) (name : Text) (a : Rule) (p : ℕ) (v : Text) (h : Held) → IsOption s name a
    → word_met s.rules [] false idle p (45 ∷ 45 ∷ (name ++ 61 ∷ v)) h ≡ (reacted s.rules a (v ∷ []) h, next idle)
joined_met s name a p v h o = rw (o.named_valued v, o.valued v, o.long, takes_some s.rules name a o.takes) refl

pub joined_passes : (s : Shape) (name : Text) (a : Rule) (v : Text) (h : Held) → IsOption s name a
    → other_fault s None (45 ∷ 45 ∷ (name ++ 61 ∷ v)) h ≡ react_fault s.rules s.args_override_self a (v ∷ []) h
joined_passes s name a v h o = rw (o.named_valued v, o.valued v, o.long, takes_some s.rules name a o.takes) refl

reacted_is : (s : Shape) (name : Text) (a : Rule) (v : Text) (h : Held) (rows : List Row) → TakesOne s.rules name a
    → has_row name rows ≡ false → Settles s h rows
    → reacted s.rules a (v ∷ []) h ≡ free (rows ++ row_for name v ∷ [])
reacted_is s name a v h rows t none st =
    ap (λ (x : Held). record { rows = used a (v ∷ []) x.rows; pending = None; skip = x.skip }) st.to
    ∙ ap free (used_once s.rules name a v rows t none)

reacted_passes : (s : Shape) (name : Text) (a : Rule) (v : Text) (h : Held) (rows : List Row)
    → TakesOne s.rules name a → has_row name rows ≡ false → Settles s h rows
    → react_fault s.rules s.args_override_self a (v ∷ []) h ≡ []
reacted_passes s name a v h rows t none st =
    ap (λ (k : Kinds). or_else k (use_fault s.args_override_self a (v ∷ []) (settled s.rules h).rows)) st.passes
    ∙ ap (λ (x : Held). use_fault s.args_override_self a (v ∷ []) x.rows) st.to
    ∙ use_passes s.rules s.args_override_self name a v rows t none

pub joined_walks : (s : Shape) (name : Text) (a : Rule) (v : Text) (h : Held) (p : ℕ) (rows : List Row)
    → IsOption s name a → has_row name rows ≡ false → Settles s h rows
    → walked s.rules [] (between h p) (45 ∷ 45 ∷ (name ++ 61 ∷ v)) ≡ between (free (rows ++ row_for name v ∷ [])) p
joined_walks s name a v h p rows o none st =
    turn_walks s h _ idle p (45 ∷ 45 ∷ (name ++ 61 ∷ v)) _ (joined_met s name a p v h o)
    ∙ ap (λ (x : Held). between x p) (reacted_is s name a v h rows o.takes none st)

pub reads_joined : (s : Shape) (name : Text) (a : Rule) (v : Text) (h : Held) (p : ℕ) (rows : List Row)
    (words : List Text) (e : Walk) → IsOption s name a → has_row name rows ≡ false
    → Settles s h rows → Reads s (between (free (rows ++ row_for name v ∷ [])) p) words e
    → Reads s (between h p) ((45 ∷ 45 ∷ (name ++ 61 ∷ v)) ∷ words) e
reads_joined s name a v h p rows words e o none st r =
    let word = 45 ∷ 45 ∷ (name ++ 61 ∷ v) in
    reads_more s (between h p) (between (free (rows ++ row_for name v ∷ [])) p) e word words
    (turn_passes s h _ idle p word _ (joined_met s name a p v h o)
    (joined_passes s name a v h o ∙ reacted_passes s name a v h rows o.takes none st) refl)
    (joined_walks s name a v h p rows o none st) r
