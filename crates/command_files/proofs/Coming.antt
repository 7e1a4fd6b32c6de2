-- What the steps of a command come to, one after another.
use Rattle.std.proofs.Common.{◌≡◌, ℕ, ◌≤◌, Option, Some, Result, Ok, Err, inl, inr, refl, ap, ◌∙◌, subst, option_map}
use Rattle.std.proofs.Common.{arith}
use Rattle.lam_io.specs.Io.{Bytes, Files, Telling, Rose, with_asked}
use Rattle.command_files.specs.declared.{output.Output.Output, refusal.Refusal.Refusal, status.Status.Status}
use Rattle.command_files.specs.{Fetches.{AsksOnce, IsCounted, IsRefused, IsJudgement}, StepLists.{Reader, Says}}
use Rattle.command_files.specs.StepLists.{RefusesFile, EndsOver, Steps, writes, reads, makes, Stops, StepsAsk}
use Rattle.command_files.specs.{Refusal.message_text, Refusals.{Refused, status_of, plain}, Outputs.{AreGiven, ComeTo}}
use Rattle.command_files.{specs.Outputs.text_of, proofs.Stopping.{asks_no_more, stops_ask, stops_judged, stops_refuse}}
use Rattle.command_files.specs.declared.status.Status.TheVariants as statuses

-- ---- the end

pub no_memory : {steps : Steps} {told : Option Telling} {faults : ℕ}
    → ComeTo steps told told faults faults (Err (plain statuses.OutOfMemory))
no_memory {steps} {told} {faults} =
    record {
      given = λ t is. inl refl;
      refused = tt;
      asked = asks_no_more steps told;
      counted = λ f e. cc;
      counts = omega arith;
    }

pub all_done : {texts : Bytes → Bytes → Type 0} {told : Option Telling} {faults : ℕ} {output : Output}
    → texts (text_of output) output.report
    → ComeTo (writes texts) told told faults faults (Ok output)
all_done are =
    record { given = λ t is. are; refused = tt; asked = inr (tt, refl); counted = λ f e. cc; counts = omega arith }

-- ---- a file

asks_once : {A : Type 0} (reader : Reader A) (name : Bytes) (rest : A → Steps) (status : Status)
    (old new : Option Telling) → IsRefused status → EndsOver reader status
    → AsksOnce status old new name → StepsAsk (reads reader name rest) status old new
asks_once reader name rest status old new is over (inl asks) = inr (inl (is, over, asks))
asks_once reader name rest status old new is over (inr none) = inl none

-- it is not read
pub unread : {A : Type 0} {reader : Reader A} {name : Bytes} {rest : A
    → Steps} {old new : Option Telling} {faults risen : ℕ} {r : Refusal}
    → ((t : Telling) → old ≡ Some t → Refused (RefusesFile reader name t.files) r) → IsRefused r.status
    → EndsOver reader r.status → AsksOnce r.status old new name
    → IsCounted faults risen r.status → faults ≤ risen → ComeTo (reads reader name rest) old new faults risen (Err r)
unread {A} {reader} {name} {rest} {old} {new} {faults} {risen} {r} why is over asks counted counts = record {
  given = λ t told. inr (inl (why t told));
  refused = is;
  asked = asks_once reader name rest r.status old new is over asks;
  counted = counted;
  counts = counts;
}

pub done_has_memory : statuses.Done ≡ statuses.OutOfMemory → ⊥
done_has_memory e = cc

rises : (a b c : ℕ) → a ≤ b → Rose b c → Rose a c
rises a b c le rose = omega (arith, le, rose)

-- it is read, and the others come to this
pub read_on : {A : Type 0} {reader : Reader A} {name : Bytes} {rest : A
    → Steps} {old mid new : Option Telling} {faults risen most : ℕ} {x : A} {result : Result Output Refusal}
    → ((t : Telling) → old ≡ Some t → Says reader t.files name x) → AsksOnce statuses.Done old mid name → faults ≤ risen
    → ComeTo (rest x) mid new risen most result → ComeTo (reads reader name rest) old new faults most result
read_on says (inr none) le then = absurd (done_has_memory none.0)
read_on {A} {reader} {name} {rest} {old} {mid} {new} {faults} {risen} {most} {x} {result} says (inl asks) le then =
    record {
      given = λ t told.
          gives t told result (then.given (with_asked name t) (asks ∙ ap (option_map (with_asked name)) told));
      refused = then.refused;
      asked = inr (inr (x, subst (λ (z : Option Telling). StepsAsk (rest x) (status_of result) z new) asks then.asked));
      counted = λ f e. rises faults risen most le (then.counted f e);
      counts = let more = then.counts in omega (arith, le, more);
    }
  where
    gives : (t : Telling) → old ≡ Some t → (r : Result Output Refusal) → AreGiven (rest x) t.files r
        → AreGiven (reads reader name rest) t.files r
    gives t told (Ok output) given = (x, says t told, given)
    gives t told (Err r) (inl none) = inl none
    gives t told (Err r) (inr why) = inr (inr (x, says t told, why))

-- ---- what is made

of_files : (status : Status) → IsJudgement status → IsRefused status
of_files (statuses.ReadFault file) is = absurd is
of_files other is = is

-- it is not made
pub stopped : {steps : Steps} {told : Option Telling} {faults : ℕ} {r : Refusal} → Refused (Stops steps) r
    → ComeTo steps told told faults faults (Err r)
stopped {steps} {told} {faults} {r} why =
    let is = stops_judged steps r.status (message_text r.line) why in
    record {
      given = λ t is. stops_refuse steps t.files r.status (message_text r.line) why;
      refused = of_files r.status is;
      asked = stops_ask steps r.status (message_text r.line) told why;
      counted = λ f e. absurd (subst IsJudgement e is);
      counts = omega arith;
    }

-- it is made, and the others come to this
pub so_on : {A : Type 0} {Is : A → Type 0} {why : Status → Bytes → Type 0} {rest : A
    → Steps} {old new : Option Telling} {faults risen : ℕ} {result : Result Output Refusal}
    (x : A) → Is x → ComeTo (rest x) old new faults risen result
    → ComeTo (makes Is why rest) old new faults risen result
so_on {A} {Is} {why} {rest} {old} {new} {faults} {risen} {result} x is then = record {
  given = λ t told. gives t.files result (then.given t told);
  refused = then.refused;
  asked = inr (inr (x, is, then.asked));
  counted = then.counted;
  counts = then.counts;
}
  where
    gives : (files : Files) (r : Result Output Refusal) → AreGiven (rest x) files r
        → AreGiven (makes Is why rest) files r
    gives files (Ok output) given = (x, is, given)
    gives files (Err r) (inl none) = inl none
    gives files (Err r) (inr reason) = inr (inr (x, is, reason))
