-- In the plain dialect no command is refused as too deep.
use Rattle.std.proofs.Common.{◌≡◌, ℕ, ℤ, nat_le, Bool, true, false, cond, ◌&&◌, ◌||◌, Option, Some, None, is_some}
use Rattle.std.proofs.Common.{Result, Ok, Err, IfErr, IsErrAnd, List, get_or, ap, sym, subst, refl, ◌∙◌}
use Rattle.cif_lex.specs.declared.command.Command.{Command, TheVariants.{Nothing, Define, Finish, Layer, Area, Call}}
use Rattle.cif_lex.specs.declared.{command.Command.TheVariants.Extension, placement.Placement.Placement}
use Rattle.cif_read.specs.declared.{dialect.Dialect.TheVariants.Plain, fault.CifKind.{CifKind, TheVariants.BadCommand}}
use Rattle.cif_read.specs.declared.fault.CifKind.TheVariants.{BadNumber, NestedDefinition, RepeatedSymbol}
use Rattle.cif_read.specs.declared.fault.CifKind.TheVariants.{UnknownSymbol, NoLayer, OddScale, TooDeep}
use Rattle.cif_read.specs.declared.fault.CifReadFault.{CifReadFault, TheVariants.{Cif, OutOfMemory}}
use Rattle.cif_read.specs.{Hierarchies.depths_of, Acts.{State, Level, Definition, Named, act, is_bad_call, is_odd_call}}
use Rattle.cif_read.specs.{Acts.{is_known, place_of, finished, boxed, called_on, drawn_on, call}, Readers.IsFaultBy}
use Rattle.cif_read.specs.Readers.{no_command, refused, cut_and_refused, cut, missing, end_inside, filled, unclosed}
use Rattle.cif_read.specs.{Meaning.reader, Files.{IsCauseOf, IsNotTooDeep}}

record IsShallow {T : Type 0} (answer : Result T CifKind) : Type 0 where
  never : answer ≡ Err TooDeep → ⊥

fine : {T : Type 0} (x : T) → IsShallow (Ok x)
fine x = record { never = λ e. absurd cc }

other_kind : {T : Type 0} (kind : CifKind) → (kind ≡ TooDeep → ⊥) → IsShallow {T = T} (Err kind)
other_kind kind other = record { never = λ e. other cc }

either : {T : Type 0} (b : Bool) (x y : Result T CifKind) → IsShallow x → IsShallow y → IsShallow (cond b x y)
either true x y h k = h
either false x y h k = k

bad_command : IsShallow {T = State} (Err BadCommand)
bad_command = other_kind BadCommand (λ e. absurd cc)

bad_number : IsShallow {T = State} (Err BadNumber)
bad_number = other_kind BadNumber (λ e. absurd cc)

odd_scale : IsShallow {T = Level} (Err OddScale)
odd_scale = other_kind OddScale (λ e. absurd cc)

drawn_shallow : (state : State) (answer : Result Level CifKind) → IsShallow answer → IsShallow (drawn_on state answer)
drawn_shallow state (Ok level) h = fine _
drawn_shallow state (Err kind) h = other_kind kind (λ e. h.never (ap Err e))

finished_shallow : (state : State) (begun : Option Definition) → IsShallow (finished state begun)
finished_shallow state None = bad_command
finished_shallow state (Some d) = fine _

boxed_shallow : (level : Level) (layer : Option Named) (l w x y : ℤ) → IsShallow (boxed level layer l w x y)
boxed_shallow level None l w x y = other_kind NoLayer (λ e. absurd cc)
boxed_shallow level (Some layer) l w x y = either _ _ _ odd_scale (fine _)

called_shallow : (level : Level) (divisor : ℕ) (deep : Bool) (symbol : ℕ) (place : Placement) → deep ≡ false
    → IsShallow (called_on level divisor deep symbol place)
called_shallow level divisor true symbol place e = absurd cc
called_shallow level divisor false symbol place e = either (is_odd_call level divisor) _ _ odd_scale (fine _)

call_shallow : (state : State) (n : ℤ) (place : Placement) (bad : Bool) (divisor : ℕ) → is_some state.begun ≡ false
    → IsShallow (call state n place bad divisor)
call_shallow state n place bad divisor closed =
    let symbol = place_of n state.symbols in
    let deep = ap (λ (b : Bool). b && nat_le 64 (get_or (depths_of state.symbols) symbol 0)) closed in
    either (is_bad_call n place.x place.y bad) _ _ bad_number
    (either (is_known n state.symbols) _ _
    (drawn_shallow state _ (called_shallow state.level divisor _ symbol place deep))
    (other_kind UnknownSymbol (λ e. absurd cc)))

plain_call : (state : State) (n : ℤ) (place : Placement) (bad : Bool) (divisor : ℕ) (turned inside : Bool)
    → is_some state.begun ≡ inside
    → IsShallow (cond (turned || inside) (Err BadCommand) (call state n place bad divisor))
plain_call state n place bad divisor true inside e = bad_command
plain_call state n place bad divisor false true e = bad_command
plain_call state n place bad divisor false false e = call_shallow state n place bad divisor e

shallow : (state : State) (command : Command) → IsShallow (act Plain state command)
unfolding act
shallow state Nothing = fine state
shallow state (Define n above below) =
    either _ _ _ bad_number
    (either _ _ _ (other_kind NestedDefinition (λ e. absurd cc))
    (either _ _ _ (other_kind RepeatedSymbol (λ e. absurd cc)) (fine _)))
shallow state Finish = finished_shallow state state.begun
shallow state (Layer layer) = fine _
shallow state (Area l w x y) =
    either _ _ _ bad_number (drawn_shallow state _ (boxed_shallow state.level state.level.layer l w x y))
shallow state (Call n place bad turned divisor) = plain_call state n place bad divisor turned (is_some state.begun) refl
shallow state Extension = fine state

not_deep : (answer : Result State CifKind) (kind : CifKind) → IsShallow answer → answer ≡ Err kind → kind ≡ TooDeep → ⊥
not_deep answer kind h e f = h.never (e ∙ ap Err f)

fault_not_deep : (text : List ℕ) (state : State) (read offset : ℕ) (kind : CifKind)
    → IsFaultBy reader text state read offset kind → kind ≡ TooDeep → ⊥
fault_not_deep text state read offset kind (no_command begin next) e = absurd cc
fault_not_deep text state read offset kind (refused begin after command k next acted) e =
    not_deep (act Plain state command) k (shallow state command) acted e
fault_not_deep text state read offset kind (cut_and_refused begin command k next acted) e =
    not_deep (act Plain state command) k (shallow state command) acted e
fault_not_deep text state read offset kind (cut begin command done next acted) e = absurd cc
fault_not_deep text state read offset kind (missing next) e = absurd cc
fault_not_deep text state read offset kind (end_inside begin next begun) e = absurd cc
fault_not_deep text state read offset kind (filled begin place next closed tail) e = absurd cc
fault_not_deep text state read offset kind (unclosed begin next closed tail) e = absurd cc

pub not_too_deep : (text : List ℕ) (cause : CifReadFault) → IsCauseOf text cause → IsNotTooDeep cause
not_too_deep text (Cif fault) is = λ e. fault_not_deep text is.state is.read fault.offset fault.kind is.is_fault e
not_too_deep text OutOfMemory is = tt

pub handed_on : {T : Type 0} (text : List ℕ) (r : Result T CifReadFault) (cause : CifReadFault)
    → IsErrAnd r (λ f. f ≡ cause) → IsCauseOf text cause → IfErr r IsNotTooDeep
handed_on text (Ok x) cause same is = tt
handed_on text (Err f) cause same is = not_too_deep text f (subst (IsCauseOf text) (sym same) is)
