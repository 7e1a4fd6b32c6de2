-- What each command is answered.
use Rattle.std.proofs.Common.{◌≡◌, ℕ, ℤ, FitsSigned, of_z, to_z, w64, Bool, true, false, is_some, Ok, Err, refl}
use Rattle.std.proofs.lemmas.Int.{to_z-of_z}
use Rattle.cif_lex.specs.declared.command.Command.{Command, TheVariants.{Nothing, Define, Finish, Layer, Area, Call}}
use Rattle.cif_lex.specs.declared.{command.Command.TheVariants.Extension, placement.Placement.Placement}
use Rattle.cif_read.specs.declared.{fault.CifKind.TheVariants.BadCommand, dialect.Dialect.Dialect}
use Rattle.cif_read.specs.Acts.{Named, State, act, is_barred, defined, finished, named, area, call}

pub nothing_is : (dialect : Dialect) (state : State) (command : Command) → command ≡ Nothing
    → act dialect state command ≡ Ok state
unfolding act
nothing_is dialect state command e = rw e refl

pub extension_is : (dialect : Dialect) (state : State) (command : Command) → command ≡ Extension
    → act dialect state command ≡ Ok state
unfolding act
extension_is dialect state command e = rw e refl

pub define_is : (dialect : Dialect) (state : State) (command : Command) (n above below : ℤ)
    → command ≡ Define n above below → FitsSigned w64 n → FitsSigned w64 above → FitsSigned w64 below
    → act dialect state command ≡ defined state (to_z w64 (of_z w64 n)) (to_z w64 (of_z w64 above))
    (to_z w64 (of_z w64 below))
unfolding act
define_is dialect state command n above below e fn fa fb =
    rw (e, to_z-of_z w64 n fn, to_z-of_z w64 above fa, to_z-of_z w64 below fb) refl

pub finish_is : (dialect : Dialect) (state : State) (command : Command) → command ≡ Finish
    → act dialect state command ≡ finished state state.begun
unfolding act
finish_is dialect state command e = rw e refl

pub layer_is : (dialect : Dialect) (state : State) (command : Command) (layer : Named) → command ≡ Layer layer
    → act dialect state command ≡ Ok (named state layer)
unfolding act
layer_is dialect state command layer e = rw e refl

pub area_is : (dialect : Dialect) (state : State) (command : Command) (l w x y : ℤ) → command ≡ Area l w x y
    → FitsSigned w64 l → FitsSigned w64 w → FitsSigned w64 x → FitsSigned w64 y
    → act dialect state command ≡ area state (to_z w64 (of_z w64 l)) (to_z w64 (of_z w64 w)) (to_z w64 (of_z w64 x))
    (to_z w64 (of_z w64 y))
unfolding act
area_is dialect state command l w x y e fl fw fx fy =
    rw (e, to_z-of_z w64 l fl, to_z-of_z w64 w fw, to_z-of_z w64 x fx, to_z-of_z w64 y fy) refl

pub call_is : (dialect : Dialect) (state : State) (command : Command) (n : ℤ) (place : Placement) (bad turned : Bool)
    (divisor : ℕ) → command ≡ Call n place bad turned divisor → is_barred dialect turned (is_some state.begun) ≡ false
    → FitsSigned w64 n → act dialect state command ≡ call state (to_z w64 (of_z w64 n)) place bad divisor
unfolding act
call_is dialect state command n place bad turned divisor e known fn = rw (e, known, to_z-of_z w64 n fn) refl

pub barred_is : (dialect : Dialect) (state : State) (command : Command) (n : ℤ) (place : Placement)
    (bad turned : Bool) (divisor : ℕ) → command ≡ Call n place bad turned divisor
    → is_barred dialect turned (is_some state.begun) ≡ true
    → act dialect state command ≡ Err BadCommand
unfolding act
barred_is dialect state command n place bad turned divisor e barred = rw (e, barred) refl
