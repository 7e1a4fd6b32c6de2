-- The line of a call, against one written by hand: u has 150 hundredths of a micron.
use Rattle.std.{proofs.Common.{◌≡◌, pos, [], ◌∷◌, refl}, specs.{Prelude.codes, Fmt.digits}}
use Rattle.cif_text.specs.Calls.{call_text, calls_text}

worked_call : call_text (pos 150) (record { symbol = 0; x = pos 38; y = pos 0 }) ≡ codes "C 1 T 5700 0;\n"
unfolding digits
worked_call = refl

worked_calls : calls_text (pos 150)
    (record { symbol = 0; x = pos 0; y = pos 0 } ∷ record { symbol = 1; x = pos 48; y = pos 18 } ∷ [])
    ≡ codes "C 1 T 0 0;\nC 2 T 7200 2700;\nE\n"
unfolding digits
worked_calls = refl
