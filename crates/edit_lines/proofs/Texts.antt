-- The limits of a script can stand in a stick text.
use Rattle.std.proofs.Common.{◌≡◌, ℕ, Bool, true, false, cond, List, ◌∷◌, Result, Ok, Err, subst, codes}
use Rattle.std.specs.{List.AllByRecursion, Str.{bytes_eq, Lines.lines}}
use Rattle.stick_lex.specs.{Numbers.IsNumber, Tokens.is_name}
use Rattle.stick_text.specs.declared.{fault.StickKind.{StickKind, TheVariants.BadLine}, design.Form.Form}
use Rattle.stick_text.specs.declared.design.Form.TheVariants.{Joint, Contact, Buried, Fet, Port, Inst, Wire, Limit}
use Rattle.stick_text.specs.Words.{Word, Path, Number, AtMost, AtLeast, Prefix, path_at, name_at, number_at, count_at}
use Rattle.stick_text.specs.{Words.{at_most_at, second_of, either_at, ended}, Writable.{IsPath, IsForm}, Forms.start}
use Rattle.stick_text.{specs.Forms.{◌&◌, limit_of}, proofs.Written.{Holds, then_holds, AreWords}}
use Rattle.script_lines.{specs.Scripts.steps_of, proofs.Said.steps_hold}
use Rattle.edit_lines.specs.declared.script.EditLine.{EditLine, TheVariants.Take}
use Rattle.edit_lines.specs.Scripts.{added, add_of, take_of, edit_named, edit_of, HasText}

-- ---- what stands in front of some words, and the words after it

abbrev Taken : {A : Type 0} → (A → Type 0) → A × List Word → Type 0
Taken P x = P x.0 × AreWords x.1

abbrev Any : {A : Type 0} → A → Type 0
Any x = Unit {0}

any_holds : {A E : Type 0} (r : Result A E) → Holds Any r
any_holds (Ok x) = tt
any_holds (Err e) = tt

path_holds : (words : List Word) → AreWords words → Holds (Taken IsPath) (path_at words)
unfolding path_at
path_holds (Path text ∷ rest) h = h
path_holds words h = tt

number_holds : (words : List Word) → AreWords words → Holds (Taken IsNumber) (number_at words)
unfolding number_at
number_holds (Number n ∷ rest) h = h
number_holds words h = tt

at_most_holds : (words : List Word) → AreWords words → Holds (Taken Any) (at_most_at words)
unfolding at_most_at
at_most_holds (AtMost ∷ rest) h = (tt, h.1)
at_most_holds (AtLeast ∷ rest) h = (tt, h.1)
at_most_holds words h = tt

either_holds : (first second : List ℕ) (words : List Word) → AreWords words
    → Holds (Taken Any) (either_at first second words)
unfolding either_at
either_holds first second words h =
    then_holds (Taken IsPath) (Taken Any) (path_at words) _ (path_holds words h)
    (λ path k. then_holds Any (Taken Any) (second_of first second path.0) (λ value. Ok (value, path.1))
    (any_holds (second_of first second path.0)) (λ value v. (tt, k.1)))

if_words : {A : Type 0} (b : Bool) (x : A × List Word) → AreWords x.1
    → Holds {E = StickKind} (Taken Any) (cond b (Ok x) (Err BadLine))
if_words true x h = (tt, h)
if_words false x h = tt

name_words : (words : List Word) → AreWords words → Holds (Taken Any) (name_at words)
unfolding name_at
name_words words h = then_holds (Taken IsPath) (Taken Any) (path_at words) _ (path_holds words h)
    (λ path k. if_words (is_name path.0) path k.1)

-- ---- a limit

-- given what P holds of it makes what R holds of
Makes : {A B : Type 0} → (A → Type 0) → (B → Type 0) → (A → B) → Type 0
Makes {A} P R make = (x : A) → P x → R (make x)

next_holds : {A B : Type 0} (P : A → Type 0) (R : B → Type 0) (made : Prefix (A → B)) (next : List Word → Prefix A)
    → ((words : List Word) → AreWords words → Holds (Taken P) (next words)) → Holds (Taken (Makes P R)) made
    → Holds (Taken R) (made & next)
unfolding Makes
next_holds P R made next each h =
    then_holds (Taken (Makes P R)) (Taken R) made _ h
    (λ make m. then_holds (Taken P) (Taken R) (next make.1) (λ value. Ok (make.0 value.0, value.1)) (each make.1 m.1)
    (λ value v. (m.0 value.0 v.0, v.1)))

limit_holds : (words : List Word) → AreWords words → Holds IsForm (limit_of words)
unfolding limit_of Makes
limit_holds words h =
    let axis : Holds (Taken (Makes IsPath (Makes IsPath (Makes Any (Makes IsNumber IsForm)))))
    (start Limit words & either_at (codes "x") (codes "y")) =
    next_holds Any (Makes IsPath (Makes IsPath (Makes Any (Makes IsNumber IsForm)))) (start Limit words)
    (either_at (codes "x") (codes "y")) (either_holds (codes "x") (codes "y"))
    (λ vertical u a is_a b is_b at_most v n is_n. (is_a, is_b, is_n), h) in
    let first = next_holds IsPath (Makes IsPath (Makes Any (Makes IsNumber IsForm))) _ path_at path_holds axis in
    let second = next_holds IsPath (Makes Any (Makes IsNumber IsForm)) _ path_at path_holds first in
    let op = next_holds Any (Makes IsNumber IsForm) _ at_most_at at_most_holds second in
    let all = next_holds IsNumber IsForm _ number_at number_holds op in
    then_holds (Taken IsForm) IsForm _ _ all
    (λ line k. then_holds Any IsForm (ended line.1) (λ done. Ok line.0) (any_holds (ended line.1))
    (λ done u. k.0))

-- ---- a line

added_holds : (cell : List ℕ) (form : Form) → IsForm form → Holds HasText (added cell form)
added_holds cell (Limit vertical a b at_most n) h = h
added_holds cell (Joint name layer col row width) h = tt
added_holds cell (Contact name lower col row) h = tt
added_holds cell (Buried name col row) h = tt
added_holds cell (Fet name depletion vertical col row w l) h = tt
added_holds cell (Port name side layer place) h = tt
added_holds cell (Inst name own col row) h = tt
added_holds cell (Wire layer a b width) h = tt

add_holds : (words : List Word) → AreWords words → Holds HasText (add_of words)
unfolding add_of
add_holds words h =
    then_holds (Taken Any) HasText (name_at words) _ (name_words words h)
    (λ cell k. then_holds IsForm HasText (limit_of cell.1) _ (limit_holds cell.1 k.1)
    (λ form f. added_holds cell.0 form f))

take_holds : (words : List Word) → Holds HasText (take_of words)
unfolding take_of
take_holds words =
    then_holds Any HasText (name_at words) _ (any_holds (name_at words))
    (λ cell u. then_holds Any HasText (count_at cell.1) _ (any_holds (count_at cell.1))
    (λ k v. then_holds Any HasText (ended k.1) (λ over. Ok (Take cell.0 k.0)) (any_holds (ended k.1)) (λ over w. tt)))

choose : (b : Bool) (r s : Result EditLine StickKind) → Holds HasText r → Holds HasText s → Holds HasText (cond b r s)
choose true r s h k = h
choose false r s h k = k

edit_holds : (words : List Word) → AreWords words → Holds HasText (edit_of words)
unfolding edit_of edit_named
edit_holds words h =
    then_holds (Taken IsPath) HasText (path_at words) _ (path_holds words h)
    (λ keyword k. choose (bytes_eq keyword.0 (codes "add")) (add_of keyword.1) _ (add_holds keyword.1 k.1)
    (choose (bytes_eq keyword.0 (codes "drop")) (take_of keyword.1) (Err BadLine) (take_holds keyword.1) tt))

-- ---- what is read

pub edits_have_text : (text : List ℕ) (edits : List EditLine) → steps_of edit_of text ≡ Ok edits
    → AllByRecursion HasText edits
edits_have_text text edits e =
    subst (Holds (AllByRecursion HasText)) e (steps_hold HasText edit_of edit_holds 1 (lines text))
