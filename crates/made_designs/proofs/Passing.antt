-- Tests that are passed.
use Rattle.std.proofs.Common.{◌≡◌, Bool, true, false, Result, refl}
use Rattle.stick_text.specs.{declared.fault.StickKind.StickKind, Reading.{◌>>=◌, demand}}

pub one_passes : {A : Type 0} (a : Bool) (kind : StickKind) (rest : Result A StickKind) → a ≡ true
    → (demand a kind >>= λ u. rest) ≡ rest
one_passes true kind rest e = refl
one_passes false kind rest e = absurd cc

pub both_pass : {A : Type 0} (a b : Bool) (kind other : StickKind) (rest : Result A StickKind) → a ≡ true → b ≡ true
    → (demand a kind >>= λ u. demand b other >>= λ v. rest) ≡ rest
both_pass true true kind other rest e f = refl
both_pass true false kind other rest e f = absurd cc
both_pass false b kind other rest e f = absurd cc
