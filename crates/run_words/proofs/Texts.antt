-- The texts that the getters of matches read, in their rows.
use Rattle.std.{proofs.Common.{◌≡◌, ◌∙◌, ap, Option, Some, None, unwrap_or, option_map}, specs.Borrow.Bor}
use Rattle.clap.specs.{Words.{Text, first_of, first_value, rows_of}, declared.parser.matches.Found.Found}
use Rattle.clap.proofs.WalkLemmas.{first_value-rows}

abbrev now : Option (Bor Text) → Option Text
now = option_map (λ s. s.now)

pub text_or_read : (f : Found) (id : Text) (o : Option (Bor Text)) (other : Bor Text) → now o ≡ first_value f id
    → (unwrap_or o other).now ≡ unwrap_or (first_of id (rows_of f)) other.now
text_or_read f id None other same = ap (λ (t : Option Text). unwrap_or t other.now) (same ∙ first_value-rows f id)
text_or_read f id (Some x) other same = ap (λ (t : Option Text). unwrap_or t other.now) (same ∙ first_value-rows f id)
