-- A step after one that failed fails in the same way.
use Rattle.std.proofs.Common.{Result, Ok, ap}
use Rattle.stick_text.specs.{declared.fault.{StickFault.StickFault, ParseFault.ParseFault}, Reading.{◌>>=◌, Fails}}
use Rattle.stick_text.specs.declared.fault.ParseFault.TheVariants as faults

pub fails_on : {A B : Type 0} (fault : ParseFault) (read : Result A StickFault) (f : A → Result B StickFault)
    → Fails fault read → Fails fault (read >>= f)
fails_on faults.OutOfMemory read f h = tt
fails_on (faults.Stick k) read f h = ap (λ (r : Result _ StickFault). r >>= f) h
