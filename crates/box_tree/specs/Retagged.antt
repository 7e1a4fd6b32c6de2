-- The same tree under other tags.
use Rattle.std.specs.Prelude.{◌≡◌, ℕ, ◌+◌, ◌-◌, ◌==◌, ◌<◌, ◌≤◌, nat_lt, cond, Option, Some, None, List, length}
use Rattle.std.specs.Prelude.{slice_index}
use Rattle.box_tree.specs.{declared.entries.{Group.Group, Entry.Entry}, Tree.entry_of}

-- an entry under the tag that stands in a list at its own
abbrev pub with_tag : List ℕ → Entry → Entry
with_tag tags entry = record entry { tag = slice_index tags entry.tag }

-- from the first place up to the other all entries have one tag
pub record IsAlikeFrom (entries : List Entry) (first place : ℕ) : Type 0 where
  pub before : first ≤ place
  pub same : (p : ℕ) → first ≤ p → p ≤ place → (entry_of entries p).tag ≡ (entry_of entries place).tag

-- for each of the first n places one from which on all entries up to it have its tag
pub record AreAlikeFrom (entries : List Entry) (n : ℕ) (firsts : List ℕ) : Type 0 where
  pub counted : length firsts ≡ n
  pub each : (place : ℕ) → place < n → IsAlikeFrom entries (slice_index firsts place) place

-- the tag of all entries of a group, where these places show that it is one
abbrev pub run_tag : List ℕ → List Entry → Group → Option ℕ
run_tag firsts entries group =
    let last = group.start + group.count - 1 in
    cond (group.count == 0) None
    (cond (nat_lt group.start (slice_index firsts last)) None (Some (entry_of entries last).tag))

abbrev pub retagged : List ℕ → List Entry → Group → Group
retagged firsts entries group = record group { tag = run_tag firsts entries group }
