-- The next main bar that may be seen.
use Rattle.std.proofs.Common.{◌≡◌, ◌≢◌, ℕ, ◌<◌, ◌≤◌, ◌≤ℤ◌, ◌<ℤ◌, ℤ, true, length, arith}
use Rattle.std.proofs.{Common.{refl, ap, subst, Option, Some, None, MatchOption}, lemmas.Int.ints}
use Rattle.std.proofs.lemmas.{Option.none-some}
use Rattle.std.specs.{Prelude.unwrap_or, Option.option_or}
use Rattle.bar_rows.specs.{Rows.{bar_at}}
use Rattle.bar_tree.specs.{declared.node.Query.Query, Nodes.Fits, Trees.{IsAskedFor, IsFirstAsked}}
use Rattle.bar_sight.specs.declared.{row.Row.Row, mains.Passed.Passed}
use Rattle.bar_sight.specs.{Sight.{IsRow, AllBegun}, Looks.{IsSought, IsHidden, IsNext}}
use Rattle.bar_sight.proofs.Laws.{equal}

equal_some : (o : Option ℕ) (k : ℕ) → (o ≢ Some k → ⊥) → o ≡ Some k
equal_some None k h = absurd (h (none-some k))
equal_some (Some x) k h = ap Some (equal x k (λ other. h (λ e. other (let same : x ≡ k = cc in same))))

pub not_late : (a b : ℤ) → (a ≤ℤ b → ⊥) → b <ℤ a
not_late a b h = grind (arith, ints)

-- a search that asks for bars that start at a place or later, or that are not of a key
abbrev pub late_of : Query → ℤ → Query
late_of all late =
    record { above = all.above; from = late; key = all.key; other = all.other; contacts = all.contacts }

abbrev pub other_of : Query → Option ℕ → Query
other_of all key =
    record { above = all.above; from = all.from; key = all.key; other = key; contacts = all.contacts }

-- a search asks for all main bars that are sought
pub record AsksAll (row : Row) (place from : ℕ) (all : Query) : Type 0 where
  pub is_row : IsRow row
  pub begun : AllBegun row (bar_at row.bars.items place).end
  pub fits : (q : ℕ) → IsSought row place all.above from true q → Fits all (bar_at row.bars.items q)

asked_late : (row : Row) (place from : ℕ) (all : Query) (late : ℤ) (q : ℕ) → AsksAll row place from all
    → IsSought row place all.above from true q → late ≤ℤ (bar_at row.bars.items q).start
    → IsAskedFor row.bars.items row.mains (late_of all late) q
asked_late row place from all late q a s starts =
    let f = a.fits q s in (
      (a.begun q s.sees.among s.sees.faces.meet.1).main s.kind,
      record { ends = f.ends; starts = starts; first = f.first; second = f.second; apart = f.apart },
    )

asked_other : (row : Row) (place from : ℕ) (all : Query) (key : Option ℕ) (q : ℕ) → AsksAll row place from all
    → IsSought row place all.above from true q → key ≢ Some (bar_at row.bars.items q).key
    → IsAskedFor row.bars.items row.mains (other_of all key) q
asked_other row place from all key q a s other =
    let f = a.fits q s in (
      (a.begun q s.sees.among s.sees.faces.meet.1).main s.kind,
      record { ends = f.ends; starts = f.starts; first = f.first; second = other; apart = f.apart },
    )

-- what neither of both asks for is hidden
hidden_by_both : (row : Row) (place from : ℕ) (all : Query) (passed : Passed) (q : ℕ) → AsksAll row place from all
    → IsSought row place all.above from true q
    → (IsAskedFor row.bars.items row.mains (late_of all passed.late) q → ⊥)
    → (IsAskedFor row.bars.items row.mains (other_of all passed.first) q → ⊥)
    → IsHidden passed (bar_at row.bars.items q)
hidden_by_both row place from all passed q a s late other =
    record {
      early = not_late passed.late (bar_at row.bars.items q).start (λ starts.
          late (asked_late row place from all passed.late q a s starts));
      key = equal_some passed.first (bar_at row.bars.items q).key (λ apart.
          other (asked_other row place from all passed.first q a s apart));
    }

-- all that are sought start at the least place or later
asked_all : (row : Row) (place from : ℕ) (all : Query) (q : ℕ) → AsksAll row place from all
    → IsSought row place all.above from true q → IsAskedFor row.bars.items row.mains all q
asked_all row place from all q a s = ((a.begun q s.sees.among s.sees.faces.meet.1).main s.kind, a.fits q s)

-- what the first place that was asked for gives
next_of : (row : Row) (place from to p : ℕ) (all q : Query) (passed : Passed) → IsRow row → q.above ≡ all.above
    → to ≤ length row.bars.items → IsFirstAsked row.bars.items row.mains q from to p
    → ((k : ℕ) → IsSought row place all.above from true k → k < p → IsHidden passed (bar_at row.bars.items k))
    → IsNext row place all.above from passed p
next_of row place from to p all q passed is same among f first =
    let before = f.before in
    record {
      after = f.after;
      among = omega (arith, before, among);
      main = is.only_mains p f.asked.0;
      ends = subst (λ z. z <ℤ (bar_at row.bars.items p).end) same f.asked.1.ends;
      first = first;
    }

pub next_of_all : (row : Row) (place from : ℕ) (all : Query) (passed : Passed) (next : Option ℕ)
    → AsksAll row place from all
    → MatchOption next
    ((p : ℕ) → from ≤ p → p < length row.bars.items → IsAskedFor row.bars.items row.mains all p → ⊥)
    (IsFirstAsked row.bars.items row.mains all from (length row.bars.items))
    → MatchOption next
    ((q : ℕ) → IsSought row place all.above from true q → IsHidden passed (bar_at row.bars.items q))
    (IsNext row place all.above from passed)
next_of_all row place from all passed None a none = λ q s.
    absurd (none q s.after s.sees.among (asked_all row place from all q a s))
next_of_all row place from all passed (Some p) a f =
    next_of row place from (length row.bars.items) p all all passed a.is_row refl (omega arith) f
    (λ k s before. absurd (f.first k s.after before (asked_all row place from all k a s)))

none_before_end : (row : Row) (from : ℕ) (q : Query) (next : Option ℕ)
    → MatchOption next
    ((p : ℕ) → from ≤ p → p < length row.bars.items → IsAskedFor row.bars.items row.mains q p → ⊥)
    (IsFirstAsked row.bars.items row.mains q from (length row.bars.items))
    → (p : ℕ) → from ≤ p → p < unwrap_or next (length row.bars.items) → IsAskedFor row.bars.items row.mains q p → ⊥
none_before_end row from q None none p after before asked = none p after before asked
none_before_end row from q (Some n) f p after before asked = f.first p after before asked

end_among : (row : Row) (from : ℕ) (q : Query) (next : Option ℕ)
    → MatchOption next
    ((p : ℕ) → from ≤ p → p < length row.bars.items → IsAskedFor row.bars.items row.mains q p → ⊥)
    (IsFirstAsked row.bars.items row.mains q from (length row.bars.items))
    → unwrap_or next (length row.bars.items) ≤ length row.bars.items
end_among row from q None none = omega arith
end_among row from q (Some n) f = let before = f.before in omega (arith, before)

pub next_of_both : (row : Row) (place from : ℕ) (all : Query) (passed : Passed) (next found : Option ℕ)
    → AsksAll row place from all
    → MatchOption next
    ((p : ℕ) → from ≤ p → p < length row.bars.items
    → IsAskedFor row.bars.items row.mains (late_of all passed.late) p → ⊥)
    (IsFirstAsked row.bars.items row.mains (late_of all passed.late) from (length row.bars.items))
    → MatchOption found
    ((p : ℕ) → from ≤ p → p < unwrap_or next (length row.bars.items)
    → IsAskedFor row.bars.items row.mains (other_of all passed.first) p → ⊥)
    (IsFirstAsked row.bars.items row.mains (other_of all passed.first) from
    (unwrap_or next (length row.bars.items)))
    → MatchOption (option_or found next)
    ((q : ℕ) → IsSought row place all.above from true q → IsHidden passed (bar_at row.bars.items q))
    (IsNext row place all.above from passed)
next_of_both row place from all passed None None a late other = λ q s.
    hidden_by_both row place from all passed q a s (late q s.after s.sees.among) (other q s.after s.sees.among)
next_of_both row place from all passed (Some n) None a late other =
    next_of row place from (length row.bars.items) n all (late_of all passed.late) passed a.is_row refl (omega arith)
    late
    (λ k s before. hidden_by_both row place from all passed k a s (late.first k s.after before)
    (other k s.after before))
next_of_both row place from all passed next (Some p) a late other =
    let end = unwrap_or next (length row.bars.items) in
    next_of row place from end p all (other_of all passed.first) passed a.is_row refl
    (end_among row from (late_of all passed.late) next late) other
    (λ k s before. hidden_by_both row place from all passed k a s
    (let last = other.before in
    none_before_end row from (late_of all passed.late) next late k s.after (omega (arith, before, last)))
    (other.first k s.after before))
