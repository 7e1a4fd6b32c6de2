-- What a look from a bar comes by on its way out.
use Rattle.std.specs.Prelude.{◌≡◌, ◌⊎◌, ℕ, ◌<◌, ◌≤◌, ◌<ℤ◌, ℤ, Bool, true, false, IsTrue, length, Option, Some, None}
use Rattle.std.specs.{Prelude.if◌then◌else◌, Bool.then_some}
use Rattle.std.specs.List.{Contains}
use Rattle.sym_items.specs.Standing.{nowhere}
use Rattle.pair_set.specs.{declared.set.PairSet.PairSet, Sets.pairs_of}
use Rattle.bar_rows.specs.{declared.bars.{Bar.Bar, Contacts.Contacts}, Rows.{bar_at, Sees, Varies, numbers_of}}
use Rattle.bar_sight.specs.declared.{row.Row.Row, mains.Passed.Passed, left.Left.{Left, TheVariants.{All, Of, Pairs}}}
use Rattle.bar_sight.specs.declared.looking.Clear.{Clear}
use Rattle.bar_tree.specs.Trees.{IsAskedFor}

-- no contacts
abbrev pub free : Contacts
free = record { low = nowhere; high = nowhere }

-- a bar has no contact
abbrev pub IsFree : Bar → Type 0
IsFree b = (b.contacts.low ≡ nowhere) × (b.contacts.high ≡ nowhere)

-- the key of a main bar, none of another; the contacts of one that is not a main bar, none of a main one
abbrev pub key_of : Bar → Option ℕ
key_of b = then_some b.is_main b.key

abbrev pub contacts_of : Bar → Contacts
contacts_of b = if b.is_main then free else b.contacts

-- a bar from some place on, main or not, that the bar at a place sees, and that ends behind `above`
pub record IsSought (row : Row) (place : ℕ) (above : ℤ) (from : ℕ) (is_main : Bool) (q : ℕ) : Type 0 where
  pub after : from ≤ q
  pub kind : (bar_at row.bars.items q).is_main ≡ is_main
  pub sees : Sees row.self_rule row.bars.items place q
  pub ends : above <ℤ (bar_at row.bars.items q).end

-- of all that are sought before some place the pairs are there
abbrev pub HasFound : Row → ℕ → ℤ → ℕ → Bool → PairSet → Type 0
HasFound row place above from is_main found = (q : ℕ) → IsSought row place above 0 is_main q → q < from
    → Varies row.bars.items place q → Contains (pairs_of found) (numbers_of row.turned row.bars.items place q)

-- no main bar behind a place and before where a search ended is asked for by it, of those that have started
abbrev pub IsClear : Row → ℕ → Clear → Type 0
IsClear row place clear = (k : ℕ) → place < k → k < clear.to
    → IsAskedFor row.bars.items row.mains clear.query k → ⊥

-- ---- main bars

-- a bar is of the key of the first one found, and starts too early to be seen past what was found
pub record IsHidden (passed : Passed) (b : Bar) : Type 0 where
  pub early : b.start <ℤ passed.late
  pub key : passed.first ≡ Some b.key

-- no hidden bar is sought from some place on
pub record IsPassed (row : Row) (place : ℕ) (above : ℤ) (from : ℕ) (passed : Passed) : Type 0 where
  pub low : passed.first ≡ None → (q : ℕ) → IsSought row place above from true q
      → (bar_at row.bars.items q).start <ℤ passed.late → ⊥
  pub hidden : (q : ℕ) → IsSought row place above from true q → IsHidden passed (bar_at row.bars.items q) → ⊥

-- the next main bar that may be seen: those before it that are sought are hidden
pub record IsNext (row : Row) (place : ℕ) (above : ℤ) (from : ℕ) (passed : Passed) (p : ℕ) : Type 0 where
  pub after : from ≤ p
  pub among : p < length row.bars.items
  pub main : IsTrue (bar_at row.bars.items p).is_main
  pub ends : above <ℤ (bar_at row.bars.items p).end
  pub first : (q : ℕ) → IsSought row place above from true q → q < p → IsHidden passed (bar_at row.bars.items q)

-- a bar is of a key, or of an owner, where one is given; or of both that a pair names
abbrev pub IsOf : ℕ → Option ℕ → Bar → Type 0
IsOf key owner b = (b.key ≡ key) ⊎ (owner ≡ Some b.owner)

abbrev pub IsPair : Option (ℕ × ℕ) → Bar → Type 0
IsPair pair b = pair ≡ Some (b.key, b.owner)

-- a bar is one of those that are left
abbrev pub IsLeft : Left → Bar → Type 0
IsLeft All b = Unit {0}
IsLeft (Of key owner) b = IsOf key owner b
IsLeft (Pairs one other) b = IsPair one b ⊎ IsPair other b

-- all main bars that are sought from some place on are left
abbrev pub AreLeft : Row → ℕ → ℤ → ℕ → Left → Type 0
AreLeft row place above from left = (q : ℕ) → IsSought row place above from true q → IsLeft left (bar_at row.bars.items q)

-- ---- other bars

-- the next bar that is not a main one and may be seen: those before it that are sought start before `late`
pub record IsNextOther (row : Row) (place : ℕ) (above late : ℤ) (from end p : ℕ) : Type 0 where
  pub after : from ≤ p
  pub before : p < end
  pub other : (bar_at row.bars.items p).is_main ≡ false
  pub ends : above <ℤ (bar_at row.bars.items p).end
  pub first : (q : ℕ) → IsSought row place above from false q → q < p → (bar_at row.bars.items q).start <ℤ late

-- none that is sought from some place on starts before `late`
abbrev pub IsLate : Row → ℕ → ℤ → ℕ → ℤ → Type 0
IsLate row place above from late = (q : ℕ) → IsSought row place above from false q
    → (bar_at row.bars.items q).start <ℤ late → ⊥

-- all that are sought from some place on are of the owner of the one found
abbrev pub IsOwned : Row → ℕ → ℤ → ℕ → Option ℕ → Type 0
IsOwned row place above from owner = (q o : ℕ) → IsSought row place above from false q → owner ≡ Some o
    → (bar_at row.bars.items q).owner ≡ o
