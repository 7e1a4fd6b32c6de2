-- Commands that are read ahead.
use Rattle.std.proofs.Common.{ℕ, suc, ◌+◌, ◌<◌, ◌≤◌, List, [], ◌∷◌, ◌++◌, length, get_or, drop, refl, sym}
use Rattle.std.proofs.{Common.{subst, arith, add-one, All, Bool, if◌then◌else◌, inl, inr}, Math.Seq.drop-cons}
use Rattle.std.proofs.lemmas.Bool.Decides.{eqb_tells}
use Rattle.cif_read.specs.declared.ahead.{Ready.Ready, Portion.Portion}
use Rattle.cif_read.specs.Ahead.{ComesNext, AreReady, IsPortion, fitting_end}

-- a command takes some of the text
pub goes_on : (text : List ℕ) (read : ℕ) (ready : Ready) → ComesNext text read ready
    → (read < ready.after) × (ready.after ≤ length text)
goes_on text read ready next = (omega (arith, next.4, next.3.begins), next.5)

-- one more command
pub ready_push : (text : List ℕ) (from to : ℕ) (commands : List Ready) (ready : Ready)
    → AreReady text from commands to → ComesNext text to ready
    → AreReady text from (commands ++ ready ∷ []) ready.after
ready_push text from to [] ready are next = (subst (λ n. ComesNext text n ready) (sym are) next, refl)
ready_push text from to (first ∷ rest) ready are next = (are.0, ready_push text first.after to rest ready are.1 next)

-- the next one of some
pub ready_here : (text : List ℕ) (read to : ℕ) (commands : List Ready) (i : ℕ) (d : Ready) → i < length commands
    → AreReady text read (drop i commands) to
    → ComesNext text read (get_or commands i d)
    × AreReady text (get_or commands i d).after (drop (i + 1) commands) to
ready_here text read to commands i d lt are =
    let here = get_or commands i d in
    subst (λ n. ComesNext text read here × AreReady text here.after (drop n commands) to) (sym (add-one i))
    (subst (λ cs. AreReady text read cs to) (drop-cons commands i d lt) are)

-- portions end within the text
pub portion_within : (text : List ℕ) (from to : ℕ) (commands : List Ready) → AreReady text from commands to
    → from ≤ length text → to ≤ length text
portion_within text from to [] are le = omega (arith, are, le)
portion_within text from to (ready ∷ rest) are le =
    portion_within text ready.after to rest are.1 (goes_on text from ready are.0).1

pub fitting_within : (text : List ℕ) (from : ℕ) (portions : List Portion) → All (IsPortion text) portions
    → from ≤ length text → fitting_end from portions ≤ length text
fitting_within text from [] all le = le
fitting_within text from (portion ∷ rest) all le =
    let Within : Bool → Type 0 = λ same. (if same then fitting_end portion.to rest else from) ≤ length text in
    elim (eqb_tells portion.from from) [
      | inl same ↦
          subst Within (sym same.0)
          (fitting_within text portion.to rest (λ k d lt. all (suc k) d (omega (arith, lt)))
          (portion_within text portion.from portion.to portion.commands.items (all 0 portion (omega arith))
          (subst (λ n. n ≤ length text) (sym same.1) le)))
      | inr other ↦ subst Within (sym other.0) le
    ]
