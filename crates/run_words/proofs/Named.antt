-- The command that words are, by the name that the first of them is.
use Rattle.std.proofs.Common.{◌≡◌, ◌∙◌, refl, sym, ap, Bool, true, false, List, Option, Some, None, if◌then◌else◌}
use Rattle.std.proofs.Common.{option_and_then, option_map}
use Rattle.clap.specs.Words.{App, Row, Text, is_simple_and_free}
use Rattle.run_words.specs.{Lines.found_in, declared.names.Name.{Name, TheVariants.{Compact, Slack, Jog, Edit, Check}}}
use Rattle.run_words.specs.{declared.names.Name.TheVariants.{Breaks, Extract, Nets, Fmt, Bench}, Names.command_with}
use Rattle.run_words.specs.{Names.{line_of, name_in}, Words.{Command, command_named}}

-- each line is one that `clap` answers for
is_free : (name : Name) → is_simple_and_free (line_of name) ≡ true
is_free Compact = refl
is_free Slack = refl
is_free Jog = refl
is_free Edit = refl
is_free Check = refl
is_free Breaks = refl
is_free Extract = refl
is_free Nets = refl
is_free Fmt = refl
is_free Bench = refl

pub free_as : (name : Name) (app : App) → app ≡ line_of name → is_simple_and_free app ≡ true
free_as name app same = ap is_simple_and_free same ∙ is_free name

-- what is read in the words of a command
abbrev pub read_as : List Text → Name → Option Command
read_as words name = option_and_then (command_with name) (found_in (line_of name) words)

mapped : (f : List Row → Command) (o : Option (List Row)) → option_map f o ≡ option_and_then (λ rows. Some (f rows)) o
mapped f None = refl
mapped f (Some rows) = refl

-- one name tried before others
tried : (read : Name → Option Command) (name : Name) (b : Bool) (x y : Option Command) (other : Option Name)
    → x ≡ read name → y ≡ option_and_then read other
    → (if b then x else y) ≡ option_and_then read (if b then Some name else other)
tried read name true x y other e f = e
tried read name false x y other e f = f

pub by_name : (word : Text) (words : List Text)
    → command_named word words ≡ option_and_then (read_as words) (name_in word)
by_name word words =
    let read = read_as words in
    tried read Compact _ _ _ _ refl
    (tried read Slack _ _ _ _ refl
    (tried read Jog _ _ _ _ refl
    (tried read Edit _ _ _ _ refl
    (tried read Check _ _ _ _ refl
    (tried read Breaks _ _ _ _ refl
    (tried read Extract _ _ _ _ (mapped _ _)
    (tried read Nets _ _ _ _ (mapped _ _)
    (tried read Fmt _ _ _ _ (mapped _ _)
    (tried read Bench _ _ _ _ refl refl)))))))))

-- what is found
pub found : (word : Text) (words : List Text) (name : Name) (rows : List Row) → Some name ≡ name_in word
    → found_in (line_of name) words ≡ Some rows
    → command_with name rows ≡ command_named word words
found word words name rows is some =
    sym (by_name word words
    ∙ (ap (option_and_then (read_as words)) (sym is) ∙ ap (option_and_then (command_with name)) some))
