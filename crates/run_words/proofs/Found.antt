-- What `clap` answers, as what it finds.
use Rattle.std.proofs.Common.{◌≡◌, ◌∙◌, refl, sym, ap, List, [], ◌∷◌, Some, None, Result, Ok, Err, IsErrAnd, inl, inr}
use Rattle.clap.specs.Words.{App, HasKind, IsAmong, Kinds, Row, Text, fault_of, kind_of, matches_of}
use Rattle.clap.specs.declared.error.{Error.Error, kind.ErrorKind.ErrorKind}
use Rattle.run_words.specs.{Faults.fault_by, Lines.{found_in, without_fault}}
use Rattle.run_words.specs.declared.commands.WordsFault.{WordsFault, TheVariants.{Usage, OutOfMemory}}

-- where there is no fault, the matches are found
pub taken : (app : App) (words : List Text) (rows : List Row) → fault_of app words ≡ [] → rows ≡ matches_of app words
    → found_in app words ≡ Some rows
unfolding found_in
taken app words rows none same = ap (λ (kinds : Kinds). without_fault kinds (matches_of app words)) none
    ∙ ap (λ (r : List Row). Some r) (sym same)

none_where : (rows : List Row) (kinds : Kinds) (k : ErrorKind) → IsAmong k kinds → without_fault kinds rows ≡ None
none_where rows [] k h = absurd h
none_where rows (x ∷ xs) k h = refl

-- an error that is no want of memory is a fault of the words
refused_by : (app : App) (words : List Text) (e : Error) → HasKind (fault_of app words) e
    → fault_by (kind_of e) ≡ Usage → found_in app words ≡ None
unfolding found_in
refused_by app words e h is = elim h [
  | inl memory ↦
      let bad : OutOfMemory ≡ Usage = ap fault_by (sym memory) ∙ is in
      cc
  | inr among ↦ none_where (matches_of app words) (fault_of app words) (kind_of e) among
]

pub refused : {T : Type 0} (app : App) (words : List Text) (e : Error) (r : Result T WordsFault)
    → HasKind (fault_of app words) e
    → IsErrAnd r (λ f. f ≡ fault_by (kind_of e)) → r ≡ Err Usage → found_in app words ≡ None
refused app words e (Ok x) h is same = absurd is
refused app words e (Err f) h is same =
    let usage : f ≡ Usage = cc in
    refused_by app words e h (sym is ∙ usage)
