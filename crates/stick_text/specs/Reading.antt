-- Reading step by step, up to the first fault.
use Rattle.std.specs.Prelude.{◌≡◌, Bool, true, false, Result, Ok, Err}
use Rattle.stick_text.specs.declared.fault.{StickKind.StickKind, StickFault.StickFault, LineFault.LineFault}
use Rattle.stick_text.specs.declared.fault.ParseFault.{ParseFault}
use Rattle.stick_text.specs.declared.fault.LineFault.TheVariants as line_faults
use Rattle.stick_text.specs.declared.fault.ParseFault.TheVariants as faults

infixl 10 ◌>>=◌
abbrev pub ◌>>=◌ : {A B E : Type 0} → Result A E → (A → Result B E) → Result B E
(Ok x) >>= f = f x
(Err e) >>= f = Err e

-- What a function returned, seen by view, is what the definition says; of its fault this holds
abbrev pub GivesOr : {X Y F E : Type 0} → (F → Result Y E → Type 0) → (X → Y) → Result X F → Result Y E → Type 0
GivesOr fault view (Ok x) read = read ≡ Ok (view x)
GivesOr fault view (Err e) read = fault e read

-- unless memory ran out: of a line
abbrev pub FailsLine : {Y : Type 0} → LineFault → Result Y StickKind → Type 0
FailsLine line_faults.OutOfMemory read = Unit {0}
FailsLine (line_faults.Kind kind) read = read ≡ Err kind

abbrev pub GivesLine : {X Y : Type 0} → (X → Y) → Result X LineFault → Result Y StickKind → Type 0
GivesLine view result read = GivesOr FailsLine view result read

-- and of a text
abbrev pub Fails : {Y : Type 0} → ParseFault → Result Y StickFault → Type 0
Fails faults.OutOfMemory read = Unit {0}
Fails (faults.Stick fault) read = read ≡ Err fault

abbrev pub Gives : {X Y : Type 0} → (X → Y) → Result X ParseFault → Result Y StickFault → Type 0
Gives view result read = GivesOr Fails view result read

-- refused with this kind where the test fails
abbrev pub demand : Bool → StickKind → Result (Unit {0}) StickKind
demand true kind = Ok tt
demand false kind = Err kind
