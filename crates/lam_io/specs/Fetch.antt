-- What holds after each answer of a fetch.
use Rattle.std.specs.Prelude.{ℕ, Result, Ok, Err, ⊤}
use Rattle.lam_io.specs.{Io.raised, declared.shelf.Fetch.{Fetch, TheVariants.{Fault, OutOfMemory}}}

-- P holds if the answer is a fault
abbrev pub OnFault : {V : Type 0} → Result V Fetch → Type 0 → Type 0
OnFault (Ok v) P = ⊤
OnFault (Err Fault) P = P
OnFault (Err OutOfMemory) P = ⊤

-- P holds if the answer is want of memory
abbrev pub OnOutOfMemory : {V : Type 0} → Result V Fetch → Type 0 → Type 0
OnOutOfMemory (Ok v) P = ⊤
OnOutOfMemory (Err Fault) P = ⊤
OnOutOfMemory (Err OutOfMemory) P = P

-- P holds unless the answer is want of memory
abbrev pub UnlessOutOfMemory : {V : Type 0} → Result V Fetch → Type 0 → Type 0
UnlessOutOfMemory (Ok v) P = P
UnlessOutOfMemory (Err Fault) P = P
UnlessOutOfMemory (Err OutOfMemory) P = ⊤

-- the count of faults after an answer: one more after a fault
abbrev pub count_after : {V : Type 0} → Result V Fetch → ℕ → ℕ
count_after (Ok v) count = count
count_after (Err Fault) count = raised count
count_after (Err OutOfMemory) count = count
