-- Where steps stop before a file is fetched.
use Rattle.std.{proofs.Common.{◌≡◌, Option, inl, inr, refl, sym, subst}, specs.FinMap.empty}
use Rattle.lam_io.specs.Io.{Bytes, Files, Telling}
use Rattle.command_files.specs.{declared.status.Status.Status, Fetches.{IsJudgement, IsDecided}, StepLists.Steps}
use Rattle.command_files.specs.StepLists.{writes, reads, makes, StepsRefuse, Refuses, StepsStop, Stops, StepsAsk}
use Rattle.command_files.specs.declared.status.Status.TheVariants as statuses

-- a shelf for steps that fetch nothing
pub no_files : Files
no_files = empty

-- then they are refused, whatever is on the shelf
steps_refuse : (steps : Steps) (files : Files) (status : Status) (message : Bytes) → StepsStop steps status message
    → StepsRefuse steps files status message
steps_refuse (writes texts) files status message why = absurd why
steps_refuse (reads reader name rest) files status message why = absurd why
steps_refuse (makes Is why rest) files status message (inl cause) = inl cause
steps_refuse (makes Is why rest) files status message (inr (x, is, more)) =
    inr (x, is, steps_refuse (rest x) files status message more)

pub stops_refuse : (steps : Steps) (files : Files) (status : Status) (message : Bytes) → Stops steps status message
    → Refuses steps files status message
stops_refuse steps files status message (inl none) = inl none
stops_refuse steps files status message (inr why) = inr (steps_refuse steps files status message why)

-- and none is asked for; memory may run out before any step
pub asks_no_more : (steps : Steps) (told : Option Telling) → StepsAsk steps statuses.OutOfMemory told told
asks_no_more (writes texts) told = inl (refl, refl)
asks_no_more (reads reader name rest) told = inl (refl, refl)
asks_no_more (makes Is why rest) told = inl (refl, refl)

steps_ask : (steps : Steps) (status : Status) (message : Bytes) (told : Option Telling)
    → StepsStop steps status message → StepsAsk steps status told told
steps_ask (writes texts) status message told why = absurd why
steps_ask (reads reader name rest) status message told why = absurd why
steps_ask (makes Is why rest) status message told (inl cause) = inr (inl (message, cause, refl))
steps_ask (makes Is why rest) status message told (inr (x, is, more)) =
    inr (inr (x, is, steps_ask (rest x) status message told more))

pub stops_ask : (steps : Steps) (status : Status) (message : Bytes) (told : Option Telling)
    → Stops steps status message → StepsAsk steps status told told
stops_ask steps status message told (inl none) =
    subst (λ (s : Status). StepsAsk steps s told told) (sym none) (asks_no_more steps told)
stops_ask steps status message told (inr why) = steps_ask steps status message told why

steps_judged : (steps : Steps) (status : Status) (message : Bytes) → StepsStop steps status message → IsJudgement status
steps_judged (writes texts) status message why = absurd why
steps_judged (reads reader name rest) status message why = absurd why
steps_judged (makes Is why rest) status message (inl cause) = cause.0
steps_judged (makes Is why rest) status message (inr (x, is, more)) = steps_judged (rest x) status message more

pub stops_judged : (steps : Steps) (status : Status) (message : Bytes) → Stops steps status message → IsJudgement status
stops_judged steps status message (inl none) = subst IsJudgement (sym none) tt
stops_judged steps status message (inr why) = steps_judged steps status message why

-- if it is not for want of memory, words and files decide it
pub judgement_decided : (status : Status) → IsJudgement status → (status ≡ statuses.OutOfMemory → ⊥) → IsDecided status
judgement_decided statuses.OutOfMemory is has = has refl
judgement_decided (statuses.ReadFault file) is has = is
judgement_decided (statuses.WriteFault stream) is has = is
judgement_decided other is has = tt
