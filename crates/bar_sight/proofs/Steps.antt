-- The steps of a look.
use Rattle.std.proofs.Common.{◌≡◌, ℕ, ◌<◌, ◌≤◌, ◌+◌, ◌≤ℤ◌, ◌<ℤ◌, ℤ, pos, neg_ℤ, ◌^◌, Bool, true, false, IsTrue}
use Rattle.std.proofs.Common.{arith, sym, ◌∙◌, subst, Option, Some, None, MatchOption}
use Rattle.std.proofs.lemmas.{Int.ints, Bool.true≢false}
use Rattle.std.proofs.lemmas.{Option.none-some, Bool.cases_lt, List.Elements.{All-get_or}}
use Rattle.std.{proofs.Common.{inl, inr}, specs.{List.Contains, Prelude.{◌↔◌}}}
use Rattle.pair_set.specs.{declared.set.PairSet.PairSet, Sets.{pairs_of}}
use Rattle.bar_rows.specs.{declared.bars.{Contacts.Contacts}, Contacts.ShareContact, Facing.Faces}
use Rattle.bar_rows.specs.Rows.{bar_at, no_bar, IsPlacedBar, Varies, numbers_of}
use Rattle.bar_tree.specs.{Nodes.Fits, Trees.{IsAskedFor, IsFirstAsked}}
use Rattle.bar_sight.specs.declared.{row.Row.Row, mains.Passed.Passed, left.Left.Left}
use Rattle.bar_sight.specs.Sight.{IsRow, AllBegun, AddsFrom, IsScreen}
use Rattle.bar_sight.specs.Looks.{key_of, contacts_of, IsSought, HasFound, IsPassed, IsNext, AreLeft}
use Rattle.bar_sight.specs.Looks.{IsNextOther, IsLate}
use Rattle.bar_sight.proofs.{Laws.main_bound, Asked.{first_key, first_apart, above_low}, Nexts.not_late}
use Rattle.bar_sight.proofs.{Behind.sought_from, Found.{found_more}}

-- ---- what is asked for

pub main_fits : (row : Row) (place from : ℕ) (above low : ℤ) (key : Option ℕ) (contacts : Contacts) (q : ℕ) → IsRow row
    → low ≤ℤ neg_ℤ (pos (2 ^ 62)) → key ≡ key_of (bar_at row.bars.items place)
    → contacts ≡ contacts_of (bar_at row.bars.items place) → IsSought row place above from true q
    → Fits (record { above = above; from = low; key = key; other = None; contacts = contacts })
    (bar_at row.bars.items q)
main_fits row place from above low key contacts q is under first free s =
    let e = bar_at row.bars.items place in
    let b = bar_at row.bars.items q in
    let bound = s.sees.faces.bound.kinds in
    record {
      ends = s.ends;
      starts = above_low low b under (All-get_or IsPlacedBar row.bars.items q no_bar s.sees.among is.placed);
      first = λ same. first_key row.self_rule e.is_main b.is_main e b s.kind bound (sym first ∙ same);
      second = λ same. none-some b.key same;
      apart = subst (λ (x : Contacts). ShareContact x b.contacts → ⊥) (sym free)
          (first_apart row.self_rule e.is_main b.is_main e b s.kind bound);
    }

other_asked_late : (row : Row) (place from : ℕ) (above late : ℤ) (q : ℕ)
    → IsTrue (bar_at row.bars.items place).is_main → AllBegun row (bar_at row.bars.items place).end
    → IsSought row place above from false q → late ≤ℤ (bar_at row.bars.items q).start
    → IsAskedFor row.bars.items row.others (record {
      above = above;
      from = late;
      key = None;
      other = None;
      contacts = (bar_at row.bars.items place).contacts;
    }) q
other_asked_late row place from above late q main begun s starts =
    let e = bar_at row.bars.items place in
    let b = bar_at row.bars.items q in (
      (begun q s.sees.among s.sees.faces.meet.1).other s.kind,
      record {
        ends = s.ends;
        starts = starts;
        first = λ same. none-some b.key same;
        second = λ same. none-some b.key same;
        apart = main_bound row.self_rule e.is_main b.is_main e b main s.kind s.sees.faces.bound.kinds;
      },
    )

pub other_next : (row : Row) (place from end : ℕ) (above late : ℤ) (next : Option ℕ) → IsRow row
    → IsTrue (bar_at row.bars.items place).is_main → AllBegun row (bar_at row.bars.items place).end
    → MatchOption next
    ((p : ℕ) → from ≤ p → p < end → IsAskedFor row.bars.items row.others (record {
      above = above;
      from = late;
      key = None;
      other = None;
      contacts = (bar_at row.bars.items place).contacts;
    }) p → ⊥)
    (IsFirstAsked row.bars.items row.others (record {
      above = above;
      from = late;
      key = None;
      other = None;
      contacts = (bar_at row.bars.items place).contacts;
    }) from end)
    → MatchOption next
    ((q : ℕ) → IsSought row place above from false q → q < end → (bar_at row.bars.items q).start <ℤ late)
    (IsNextOther row place above late from end)
other_next row place from end above late None is main begun none = λ q s before.
    not_late late (bar_at row.bars.items q).start
    (λ starts. none q s.after before (other_asked_late row place from above late q main begun s starts))
other_next row place from end above late (Some p) is main begun f =
    record {
      after = f.after;
      before = f.before;
      other = is.only_others p f.asked.0;
      ends = f.asked.1.ends;
      first = λ q s before. not_late late (bar_at row.bars.items q).start
          (λ starts. f.first q s.after before (other_asked_late row place from above late q main begun s starts));
    }

-- ---- what a look tells of the bar that it looks at

pub not_sought : (row : Row) (place : ℕ) (above : ℤ) (is_main faces : Bool) (p : ℕ) (P : Type 0)
    → (IsTrue faces ↔ Faces row.self_rule (bar_at row.bars.items place) (bar_at row.bars.items p)) → faces ≡ false
    → IsSought row place above 0 is_main p → Varies row.bars.items place p → P
not_sought row place above is_main faces p P tells not s varies =
    absurd (true≢false (sym (tells.1 s.sees.faces) ∙ not))

pub looked : (row : Row) (place : ℕ) (above : ℤ) (is_main : Bool) (p : ℕ) (screen : Option ℕ) (P : Type 0)
    → MatchOption screen (Varies row.bars.items place p → P) (IsScreen row place p)
    → IsSought row place above 0 is_main p → Varies row.bars.items place p → P
looked row place above is_main p None P h s varies = h varies
looked row place above is_main p (Some k) P h s varies =
    absurd (s.sees.clear k h.after h.before h.screens)

-- ---- main bars

pub passed_from : (row : Row) (place : ℕ) (above : ℤ) (from then : ℕ) (passed : Passed) → from ≤ then
    → IsPassed row place above from passed → IsPassed row place above then passed
passed_from row place above from then passed before h =
    record {
      low = λ e q s early. h.low e q (sought_from row place above from then true q before s) early;
      hidden = λ q s hidden. h.hidden q (sought_from row place above from then true q before s) hidden;
    }

pub left_from : (row : Row) (place : ℕ) (above : ℤ) (from then : ℕ) (left : Left) → from ≤ then
    → AreLeft row place above from left → AreLeft row place above then left
left_from row place above from then left before h = λ q s. h q (sought_from row place above from then true q before s)

pub mains_found : (row : Row) (place : ℕ) (above : ℤ) (from p : ℕ) (passed : Passed) (old new : PairSet)
    → AddsFrom row place old new → IsPassed row place above from passed → IsNext row place above from passed p
    → (IsSought row place above 0 true p → Varies row.bars.items place p
    → Contains (pairs_of new) (numbers_of row.turned row.bars.items place p))
    → HasFound row place above from true old → HasFound row place above (p + 1) true new
mains_found row place above from p passed old new adds hidden next here h =
    found_more row place above from p true old new adds
    (λ q s before. hidden.hidden q s (next.first q s before)) here h

-- ---- other bars

-- what is sought behind a place is sought behind a lower one
pub sought_nearer : (row : Row) (place : ℕ) (above near : ℤ) (from : ℕ) (is_main : Bool) (q : ℕ) → near ≤ℤ above
    → IsSought row place above from is_main q → IsSought row place near from is_main q
sought_nearer row place above near from is_main q low s =
    let ends = s.ends in
    record { after = s.after; kind = s.kind; sees = s.sees; ends = omega (arith, ints, low, ends) }

pub late_from : (row : Row) (place : ℕ) (above : ℤ) (from then : ℕ) (late : ℤ) → from ≤ then
    → IsLate row place above from late → IsLate row place above then late
late_from row place above from then late before h = λ q s early.
    h q (sought_from row place above from then false q before s) early

pub others_found : (row : Row) (place : ℕ) (above : ℤ) (from end p : ℕ) (late : ℤ) (old new : PairSet)
    → AddsFrom row place old new → IsLate row place above from late
    → IsNextOther row place above late from end p
    → (IsSought row place above 0 false p → Varies row.bars.items place p
    → Contains (pairs_of new) (numbers_of row.turned row.bars.items place p))
    → HasFound row place above from false old → HasFound row place above (p + 1) false new
others_found row place above from end p late old new adds hidden next here h =
    found_more row place above from p false old new adds (λ q s before. hidden q s (next.first q s before)) here h

-- none starts before the least place
pub late_low : (row : Row) (place : ℕ) (above : ℤ) (from : ℕ) (low : ℤ) → IsRow row
    → low ≤ℤ neg_ℤ (pos (2 ^ 62)) → IsLate row place above from low
late_low row place above from low is under = λ q s early.
    let starts = above_low low (bar_at row.bars.items q) under
    (All-get_or IsPlacedBar row.bars.items q no_bar s.sees.among is.placed) in
    omega (arith, ints, starts, early)

-- nothing has been sought before the nearest one
pub nearest_found : (row : Row) (place : ℕ) (above : ℤ) (end p : ℕ) (low : ℤ) (found : PairSet) → IsRow row
    → low ≤ℤ neg_ℤ (pos (2 ^ 62)) → IsNextOther row place above low (place + 1) end p
    → HasFound row place above p false found
nearest_found row place above end p low found is under next = λ q s before varies.
    let order = s.sees.in_order in
    let here : IsSought row place above (place + 1) false q =
    record { after = omega (arith, order); kind = s.kind; sees = s.sees; ends = s.ends } in
    absurd (late_low row place above (place + 1) low is under q here (next.first q here before))

-- none is sought past the last one
pub others_end : (row : Row) (place : ℕ) (above : ℤ) (from end : ℕ) (late : ℤ) → IsLate row place above from late
    → ((q : ℕ) → IsSought row place above from false q → q < end → (bar_at row.bars.items q).start <ℤ late)
    → ((q : ℕ) → IsSought row place above end false q → ⊥)
    → (q : ℕ) → IsSought row place above from false q → ⊥
others_end row place above from end late h none last q s =
    elim (cases_lt q end) as (λ _. ⊥) [
      | inl before ↦ h q s (none q s before)
      | inr behind ↦ last q (record { after = behind; kind = s.kind; sees = s.sees; ends = s.ends })
    ]
