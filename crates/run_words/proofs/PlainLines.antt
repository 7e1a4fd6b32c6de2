-- The commands, read from lines of parts.
use Rattle.std.proofs.Common.{◌≡◌, ◌∙◌, ◌||◌, Bool, true, false, not, codes, refl, sym, ap, subst, List, [], ◌∷◌, ◌++◌}
use Rattle.std.proofs.Common.{map, Option, Some, None, is_some, unwrap_or, option_map, true≢false}
use Rattle.std.proofs.lemmas.Slice.Eq.{bytes_eq-Decides}
use Rattle.std.specs.{Prelude.{flat_map, if◌then◌else◌, option_and_then}, List.list_any, Str.bytes_eq}
use Rattle.clap.specs.{Words.{App, Kinds, Row, Rule, Text}, Lexer.long_of, Walk.{arg_by_id, arg_by_index, arg_by_long}}
use Rattle.clap.specs.{Simple.{Shape, built, filled, with_index}, Kinds.check_kinds, Takes.is_given, Faults.check_fault}
use Rattle.clap.specs.declared.builder.action.ArgAction.TheVariants.{Set}
use Rattle.clap.specs.declared.builder.value_parser.ValueParser.TheVariants as vp
use Rattle.run_words.specs.Lines.{breaks_line, check_line, compact_line, extract_line, found_in, most, operand}
use Rattle.run_words.specs.Lines.{operand_line, passes, script, script_line, slack_line, split, tech, text_of}
use Rattle.run_words.specs.{Lines.without_fault, Words.{Command, breaks_as, breaks_of, breaks_with, most_of, Scripted}}
use Rattle.run_words.specs.Words.{bench_as, bench_of, check_as, check_of, check_with, compact_as, compact_of}
use Rattle.run_words.specs.Words.{compact_with, fmt, fmt_of, operand_of, passes_of, script_as, script_with, slack_as}
use Rattle.run_words.specs.{Words.{slack_of, slack_with, split_of, tech_of}, PlainLines.{Part, are_new, bench_from}}
use Rattle.run_words.specs.PlainLines.{breaks_from, check_from, compact_from, fmt_from, is_plain_line, script_from}
use Rattle.run_words.specs.PlainLines.{slack_from, two_from, value_at, where_new, words_of}
use Rattle.run_words.proofs.{Steps.{IsOperand, IsOption}, Refusals.line_refused, Parts.{IsLine, first_is, given_is}}
use Rattle.run_words.proofs.Parts.{line_found, row_of_part}

abbrev Options : Shape → List Text → Type 0
Options s [] = Unit {0}
Options s (name ∷ names) = ((a : Rule) × IsOption s name a) × Options s names

pick : (s : Shape) (names : List Text) → Options s names → (name : Text) → list_any (bytes_eq name) names ≡ true
    → (a : Rule) × IsOption s name a
pick s [] os name e = absurd (true≢false (sym e))
pick s (n ∷ names) os name e = go (bytes_eq name n) refl (λ rest. pick s names os.1 name rest)
  where
    go : (b : Bool) → bytes_eq name n ≡ b → (list_any (bytes_eq name) names ≡ true → (a : Rule) × IsOption s name a)
        → (a : Rule) × IsOption s name a
    go true same more =
        let is : name ≡ n = (bytes_eq-Decides name n).0 same in
        subst (λ (x : Text). (a : Rule) × IsOption s x a) (sym is) os.0
    go false other more = more (sym (ap (λ (b : Bool). b || list_any (bytes_eq name) names) other) ∙ e)

-- ---- the lines

-- the options of the lines that have some
abbrev extract_options : List Text
extract_options = codes "tech" ∷ []

abbrev check_options : List Text
check_options = codes "tech" ∷ codes "split" ∷ []

abbrev breaks_options : List Text
breaks_options = codes "tech" ∷ codes "most" ∷ []

abbrev slack_options : List Text
slack_options = codes "tech" ∷ codes "passes" ∷ []

abbrev compact_options : List Text
compact_options = codes "tech" ∷ codes "passes" ∷ codes "split" ∷ []

abbrev script_options : List Text
script_options = codes "tech" ∷ codes "passes" ∷ codes "script" ∷ []

-- the operand, which is the same in each line
abbrev first_operand : Rule
first_operand = with_index 1 (filled operand)

operand_in : (s : Shape) → arg_by_id s.rules (codes "operand") ≡ Some first_operand
    → arg_by_index s.rules 1 ≡ Some first_operand → IsOperand s first_operand
operand_in s here first = record {
  takes = record { id = refl; here = here; range = refl; action = refl; parser = refl };
  first = first;
  single = refl;
}

-- an option of this name, whatever its line
record IsNamed (name : Text) (a : Rule) : Type 0 where
  id : a.id ≡ name
  range : a.range ≡ Some (record { start_inclusive = 1; end_inclusive = 1 })
  action : a.action ≡ Some Set
  parser : a.parser ≡ Some vp.String
  spelled : long_of (45 ∷ 45 ∷ name) ≡ Some (name, None)
  valued : (v : Text) → long_of (45 ∷ 45 ∷ (name ++ 61 ∷ v)) ≡ Some (name, Some v)
  named : bytes_eq (45 ∷ 45 ∷ name) (45 ∷ 45 ∷ []) ≡ false
  named_valued : (v : Text) → bytes_eq (45 ∷ 45 ∷ (name ++ 61 ∷ v)) (45 ∷ 45 ∷ []) ≡ false

option_in : {s : Shape} {name : Text} {a : Rule} → IsNamed name a → arg_by_id s.rules name ≡ Some a
    → arg_by_long s.rules name ≡ Some a → (a : Rule) × IsOption s name a
option_in {s} {name} {a} n here long = (
  a,
  record {
    takes = record { id = n.id; here = here; range = n.range; action = n.action; parser = n.parser };
    long = long;
    spelled = n.spelled;
    valued = n.valued;
    named = n.named;
    named_valued = n.named_valued;
  },
)

tech_named : IsNamed (codes "tech") (filled tech)
tech_named =
    record {
      id = refl;
      range = refl;
      action = refl;
      parser = refl;
      spelled = refl;
      valued = λ v. refl;
      named = refl;
      named_valued = λ v. refl;
    }

passes_named : IsNamed (codes "passes") (filled passes)
passes_named =
    record {
      id = refl;
      range = refl;
      action = refl;
      parser = refl;
      spelled = refl;
      valued = λ v. refl;
      named = refl;
      named_valued = λ v. refl;
    }

script_named : IsNamed (codes "script") (filled script)
script_named =
    record {
      id = refl;
      range = refl;
      action = refl;
      parser = refl;
      spelled = refl;
      valued = λ v. refl;
      named = refl;
      named_valued = λ v. refl;
    }

split_named : IsNamed (codes "split") (filled split)
split_named =
    record {
      id = refl;
      range = refl;
      action = refl;
      parser = refl;
      spelled = refl;
      valued = λ v. refl;
      named = refl;
      named_valued = λ v. refl;
    }

most_named : IsNamed (codes "most") (filled most)
most_named =
    record {
      id = refl;
      range = refl;
      action = refl;
      parser = refl;
      spelled = refl;
      valued = λ v. refl;
      named = refl;
      named_valued = λ v. refl;
    }

operand_is_line : IsLine operand_line []
operand_is_line = record {
  subs = refl;
  named = refl;
  bare = refl;
  fits = record {
    operand = first_operand;
    is_operand = operand_in (built operand_line).top refl refl;
    options = pick (built operand_line).top [] tt;
    others = refl;
    second = refl;
    once = refl;
  };
}

extract_is_line : IsLine extract_line extract_options
extract_is_line = record {
  subs = refl;
  named = refl;
  bare = refl;
  fits = record {
    operand = first_operand;
    is_operand = operand_in (built extract_line).top refl refl;
    options = pick (built extract_line).top extract_options (option_in tech_named refl refl, tt);
    others = refl;
    second = refl;
    once = refl;
  };
}

check_is_line : IsLine check_line check_options
check_is_line = record {
  subs = refl;
  named = refl;
  bare = refl;
  fits = record {
    operand = first_operand;
    is_operand = operand_in (built check_line).top refl refl;
    options = pick (built check_line).top check_options
        (option_in tech_named refl refl, (option_in split_named refl refl, tt));
    others = refl;
    second = refl;
    once = refl;
  };
}

breaks_is_line : IsLine breaks_line breaks_options
breaks_is_line = record {
  subs = refl;
  named = refl;
  bare = refl;
  fits = record {
    operand = first_operand;
    is_operand = operand_in (built breaks_line).top refl refl;
    options = pick (built breaks_line).top breaks_options
        (option_in tech_named refl refl, (option_in most_named refl refl, tt));
    others = refl;
    second = refl;
    once = refl;
  };
}

slack_is_line : IsLine slack_line slack_options
slack_is_line = record {
  subs = refl;
  named = refl;
  bare = refl;
  fits = record {
    operand = first_operand;
    is_operand = operand_in (built slack_line).top refl refl;
    options = pick (built slack_line).top slack_options
        (option_in tech_named refl refl, (option_in passes_named refl refl, tt));
    others = refl;
    second = refl;
    once = refl;
  };
}

compact_is_line : IsLine compact_line compact_options
compact_is_line = record {
  subs = refl;
  named = refl;
  bare = refl;
  fits = record {
    operand = first_operand;
    is_operand = operand_in (built compact_line).top refl refl;
    options = pick (built compact_line).top compact_options
        (option_in tech_named refl refl, (option_in passes_named refl refl, (option_in split_named refl refl, tt)));
    others = refl;
    second = refl;
    once = refl;
  };
}

script_is_line : IsLine script_line script_options
script_is_line = record {
  subs = refl;
  named = refl;
  bare = refl;
  fits = record {
    operand = first_operand;
    is_operand = operand_in (built script_line).top refl refl;
    options = pick (built script_line).top script_options
        (option_in tech_named refl refl, (option_in passes_named refl refl, (option_in script_named refl refl, tt)));
    others = refl;
    second = refl;
    once = refl;
  };
}

-- ---- what is made of the rows of a line

abbrev rows_in : List Part → List Row
rows_in = map row_of_part

abbrev operand_at : List Part → Option Text
operand_at = value_at (codes "operand")

abbrev tech_at : List Part → Option Text
tech_at = value_at (codes "tech")

-- the text of a name that has a value
text_is : (name : Text) (parts : List Part) (text : Text) → value_at name parts ≡ Some text
    → text_of name (rows_in parts) ≡ text
text_is name parts text e = ap (λ (t : Option Text). unwrap_or t []) (first_is name parts ∙ e)

-- a line that wants its operand alone
pub by_operand : (made : Option (List Row) → Option Command) (from : Option Text → Option Command)
    → made None ≡ from None
    → ((rows : List Row) → made (Some rows) ≡ from (Some (operand_of rows))) → (word : Text) (parts : List Part)
    → is_plain_line [] parts ≡ true
    → are_new [] parts ≡ true → made (found_in operand_line (word ∷ flat_map words_of parts)) ≡ from (operand_at parts)
by_operand made from none some word parts plain new =
    let wants : check_fault (built operand_line).top (rows_in parts) false
    ≡ check_kinds false false (not (is_some (operand_at parts)) || false) =
    ap (λ (b : Bool). check_kinds false false (not b || false)) (given_is (codes "operand") parts) in
    ap made (line_found operand_line [] operand_is_line word parts plain new)
    ∙ ap (λ (k : Kinds). made (without_fault k (rows_in parts))) wants ∙ go (operand_at parts) refl
  where
    go : (o : Option Text) → operand_at parts ≡ o
        → made (without_fault (check_kinds false false (not (is_some o) || false)) (rows_in parts)) ≡ from o
    go None e = none
    go (Some text) e = some (rows_in parts) ∙ ap (λ (t : Text). from (Some t)) (text_is (codes "operand") parts text e)

-- a line that wants its operand, its technology, and where `lacks` says so more
module _ (app : App) (names : List Text) (line : IsLine app names) (lacks : List Row → Bool)
    (wants : (rows : List Row) → check_fault (built app).top rows false
    ≡ check_kinds false false
    (not (is_given (codes "operand") rows) || (not (is_given (codes "tech") rows) || lacks rows))) where
  pub by_both : (made : Option (List Row) → Option Command)
      (from : Option Text → Option Text → List Row → Option Command)
      → ((t : Option Text) (rows : List Row) → made None ≡ from None t rows)
      → ((text : Text) (rows : List Row) → made None ≡ from (Some text) None rows)
      → (word : Text) (parts : List Part)
      → made (without_fault (check_kinds false false (lacks (rows_in parts))) (rows_in parts))
      ≡ from (Some (operand_of (rows_in parts))) (Some (tech_of (rows_in parts))) (rows_in parts)
      → is_plain_line names parts ≡ true → are_new [] parts ≡ true
      → made (found_in app (word ∷ flat_map words_of parts)) ≡ from (operand_at parts) (tech_at parts) (rows_in parts)
  by_both made from no_operand no_tech word parts some plain new =
      ap made (line_found app names line word parts plain new)
      ∙ ap (λ (k : Kinds). made (without_fault k (rows_in parts))) (wants (rows_in parts))
      ∙ (λ i. made
      (without_fault
      (check_kinds false false
      (not (given_is (codes "operand") parts i)
      || (not (given_is (codes "tech") parts i) || lacks (rows_in parts)))) (rows_in parts)))
      ∙ go (operand_at parts) refl (tech_at parts) refl
    where
      go : (o : Option Text) → operand_at parts ≡ o → (t : Option Text) → tech_at parts ≡ t
          → made (without_fault
          (check_kinds false false (not (is_some o) || (not (is_some t) || lacks (rows_in parts))))
          (rows_in parts)) ≡ from o t (rows_in parts)
      go None e t f = no_operand t (rows_in parts)
      go (Some text) e None f = no_tech text (rows_in parts)
      go (Some text) e (Some file) f =
          some ∙ (λ i. from (Some (text_is (codes "operand") parts text e i))
          (Some (text_is (codes "tech") parts file f i)) (rows_in parts))

-- a line in which a name stands twice has no command
once : (app : App) (names : List Text) → IsLine app names
    → (made : Option (List Row) → Option Command) (x : Option Command) → made None ≡ None
    → (word : Text) (parts : List Part)
    → is_plain_line names parts ≡ true
    → (are_new [] parts ≡ true → made (found_in app (word ∷ flat_map words_of parts)) ≡ x)
    → made (found_in app (word ∷ flat_map words_of parts)) ≡ where_new parts x
once app names line made x none word parts plain read = go (are_new [] parts) refl
  where
    go : (b : Bool) → are_new [] parts ≡ b
        → made (found_in app (word ∷ flat_map words_of parts)) ≡ (if b then x else None)
    go true e = read e
    go false e = ap made (line_refused app names line word parts plain e) ∙ none

-- ---- the commands

pub compact_is_read : (word : Text) (parts : List Part) → is_plain_line compact_options parts ≡ true
    → compact_of (word ∷ flat_map words_of parts) ≡ where_new parts (compact_from parts)
compact_is_read word parts plain =
    once compact_line compact_options compact_is_line (option_and_then compact_with) (compact_from parts) refl word
    parts plain (λ new.
    by_both compact_line compact_options compact_is_line (λ rows. false) (λ rows. refl) (option_and_then compact_with)
    (λ o t rows.
    option_and_then
    (λ design. option_and_then (λ file. compact_as design file (passes_of rows) (split_of rows)) t) o) (λ t rows.
    refl) (λ text rows. refl) word parts refl plain new
    ∙ (λ i. option_and_then (λ design. option_and_then (λ file. compact_as design file
    (unwrap_or (first_is (codes "passes") parts i) (codes "xy"))
    (unwrap_or (first_is (codes "split") parts i) (codes "1"))) (tech_at parts)) (operand_at parts)))

pub slack_is_read : (word : Text) (parts : List Part) → is_plain_line slack_options parts ≡ true
    → slack_of (word ∷ flat_map words_of parts) ≡ where_new parts (slack_from parts)
slack_is_read word parts plain =
    once slack_line slack_options slack_is_line (option_and_then slack_with) (slack_from parts) refl word parts plain
    (λ new.
    by_both slack_line slack_options slack_is_line (λ rows. false) (λ rows. refl) (option_and_then slack_with)
    (λ o t rows. option_and_then (λ design. option_and_then (λ file. slack_as design file (passes_of rows)) t) o)
    (λ t rows. refl) (λ text rows. refl) word parts refl plain new
    ∙ (λ i. option_and_then
    (λ design.
    option_and_then (λ file. slack_as design file (unwrap_or (first_is (codes "passes") parts i) (codes "xy")))
    (tech_at parts)) (operand_at parts)))

-- what is made of the rows of a line that has its operand and its technology, and maybe a script
with_script : (command : Scripted) (parts : List Part)
    → option_and_then (script_with command)
    (without_fault (check_kinds false false (not (is_given (codes "script") (rows_in parts)) || false))
    (rows_in parts))
    ≡ option_and_then
    (λ script. script_as command (operand_of (rows_in parts)) (tech_of (rows_in parts)) script
    (passes_of (rows_in parts))) (value_at (codes "script") parts)
with_script command parts =
    ap (λ (b : Bool). option_and_then (script_with command)
    (without_fault (check_kinds false false (not b || false)) (rows_in parts))) (given_is (codes "script") parts)
    ∙ go (value_at (codes "script") parts) refl
  where
    go : (o : Option Text) → value_at (codes "script") parts ≡ o
        → option_and_then (script_with command)
        (without_fault (check_kinds false false (not (is_some o) || false)) (rows_in parts))
        ≡ option_and_then
        (λ script. script_as command (operand_of (rows_in parts)) (tech_of (rows_in parts)) script
        (passes_of (rows_in parts))) o
    go None e = refl
    go (Some text) e =
        ap (λ (script : Text). script_as command (operand_of (rows_in parts)) (tech_of (rows_in parts)) script
        (passes_of (rows_in parts))) (text_is (codes "script") parts text e)

-- a command with a script
pub script_is_read : (command : Scripted) (word : Text) (parts : List Part) → is_plain_line script_options parts ≡ true
    → option_and_then (script_with command) (found_in script_line (word ∷ flat_map words_of parts))
    ≡ where_new parts (script_from command parts)
script_is_read command word parts plain =
    once script_line script_options script_is_line (option_and_then (script_with command)) (script_from command parts)
    refl word parts plain (λ new.
    by_both script_line script_options script_is_line (λ rows. not (is_given (codes "script") rows) || false)
    (λ rows. refl) (option_and_then (script_with command))
    (λ o t rows.
    option_and_then
    (λ design.
    option_and_then
    (λ file. option_and_then (λ script. script_as command design file script (passes_of rows))
    (value_at (codes "script") parts)) t) o)
    (λ t rows. refl) (λ text rows. refl) word parts (with_script command parts) plain new
    ∙ (λ i. option_and_then
    (λ design.
    option_and_then
    (λ file.
    option_and_then
    (λ script. script_as command design file script (unwrap_or (first_is (codes "passes") parts i) (codes "xy")))
    (value_at (codes "script") parts)) (tech_at parts)) (operand_at parts)))

pub check_is_read : (word : Text) (parts : List Part) → is_plain_line check_options parts ≡ true
    → check_of (word ∷ flat_map words_of parts) ≡ where_new parts (check_from parts)
check_is_read word parts plain =
    once check_line check_options check_is_line (option_and_then check_with) (check_from parts) refl word parts plain
    (λ new.
    by_both check_line check_options check_is_line (λ rows. false) (λ rows. refl) (option_and_then check_with)
    (λ o t rows. option_and_then (λ cif. option_and_then (λ file. check_as cif file (split_of rows)) t) o)
    (λ t rows. refl) (λ text rows. refl) word parts refl plain new
    ∙ (λ i. option_and_then
    (λ cif. option_and_then (λ file. check_as cif file (unwrap_or (first_is (codes "split") parts i) (codes "1")))
    (tech_at parts)) (operand_at parts)))

pub breaks_is_read : (word : Text) (parts : List Part) → is_plain_line breaks_options parts ≡ true
    → breaks_of (word ∷ flat_map words_of parts) ≡ where_new parts (breaks_from parts)
breaks_is_read word parts plain =
    once breaks_line breaks_options breaks_is_line (option_and_then breaks_with) (breaks_from parts) refl word parts
    plain (λ new.
    by_both breaks_line breaks_options breaks_is_line (λ rows. false) (λ rows. refl) (option_and_then breaks_with)
    (λ o t rows. option_and_then (λ cif. option_and_then (λ file. breaks_as cif file (most_of rows)) t) o)
    (λ t rows. refl) (λ text rows. refl) word parts refl plain new
    ∙ (λ i. option_and_then
    (λ cif. option_and_then
    (λ file. breaks_as cif file (unwrap_or (first_is (codes "most") parts i) (codes "1000")))
    (tech_at parts)) (operand_at parts)))

-- a command of an operand and a technology alone
pub two_is_read : (command : Text → Text → Command) (word : Text) (parts : List Part)
    → is_plain_line extract_options parts ≡ true
    → option_map (λ (rows : List Row). command (operand_of rows) (tech_of rows))
    (found_in extract_line (word ∷ flat_map words_of parts)) ≡ where_new parts (two_from command parts)
two_is_read command word parts plain =
    let made = option_map (λ (rows : List Row). command (operand_of rows) (tech_of rows)) in
    once extract_line extract_options extract_is_line made (two_from command parts) refl word parts plain (λ new.
    by_both extract_line extract_options extract_is_line (λ rows. false) (λ rows. refl) made
    (λ o t rows. option_and_then (λ operand. option_and_then (λ file. Some (command operand file)) t) o)
    (λ t rows. refl) (λ text rows. refl) word parts refl plain new)

pub fmt_is_read : (word : Text) (parts : List Part) → is_plain_line [] parts ≡ true
    → fmt_of (word ∷ flat_map words_of parts) ≡ where_new parts (fmt_from parts)
fmt_is_read word parts plain =
    once operand_line [] operand_is_line (option_map (λ rows. fmt (operand_of rows))) (fmt_from parts) refl word parts
    plain (λ new.
    by_operand (option_map (λ rows. fmt (operand_of rows))) (option_map fmt) refl (λ rows. refl) word parts plain new)

pub bench_is_read : (word : Text) (parts : List Part) → is_plain_line [] parts ≡ true
    → bench_of (word ∷ flat_map words_of parts) ≡ where_new parts (bench_from parts)
bench_is_read word parts plain =
    once operand_line [] operand_is_line (option_and_then (λ rows. bench_as (operand_of rows))) (bench_from parts)
    refl word parts plain (λ new.
    by_operand (option_and_then (λ rows. bench_as (operand_of rows))) (option_and_then bench_as) refl (λ rows. refl)
    word parts plain new)
