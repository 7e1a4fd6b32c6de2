-- Commands that are read ahead, in portions.
use Rattle.std.specs.Prelude.{◌≡◌, ℕ, ◌==◌, if◌then◌else◌, List, [], ◌∷◌}
use Rattle.cif_lex.specs.{declared.command.Next.TheVariants.Whole, Commands.IsNext}
use Rattle.cif_read.specs.declared.ahead.{Portion.Portion, Ready.Ready}

-- a command comes next in a text, of which so many bytes have been read
abbrev pub ComesNext : List ℕ → ℕ → Ready → Type 0
ComesNext text read ready = IsNext text read (Whole ready.begin ready.command ready.after)

-- commands from a place of a text up to another, each of which comes next behind the one before it
abbrev pub AreReady : List ℕ → ℕ → List Ready → ℕ → Type 0
AreReady text from [] to = from ≡ to
AreReady text from (ready ∷ rest) to = ComesNext text from ready × AreReady text ready.after rest to

abbrev pub IsPortion : List ℕ → Portion → Type 0
IsPortion text portion = AreReady text portion.from portion.commands.items portion.to

-- where the portions end of which each begins where the one before it ends, the first at this place
abbrev pub fitting_end : ℕ → List Portion → ℕ
fitting_end from [] = from
fitting_end from (portion ∷ rest) = if portion.from == from then fitting_end portion.to rest else from
