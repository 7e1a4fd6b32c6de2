-- The keys of a technology file's table that no technology has, and the least of them.
use Rattle.std.specs.Prelude.{◌≡◌, ℕ, Bool, false, ◌&&◌, All, Contains, if◌then◌else◌, List, [], ◌∷◌, ◌++◌, fold, codes}
use Rattle.std.specs.{Prelude.{Option, Some, None, flat_map}, List.list_any, Str.bytes_eq, Ordering.{nat_cmp, is_lt}}
use Rattle.std.specs.Cmp.Lexicographic.{slice_cmp}
use Rattle.toml.specs.Data.{Data, table, Members, no_members, member, get_member}
use Rattle.rule_table.specs.Keys.{Key, keys, common_keys, dotted}

-- the key stands in this table under this name; at the top stand the tables, and the keys of none
abbrev pub stands_at : List ℕ → List ℕ → Key → Bool
stands_at [] name ([], own) = bytes_eq own name
stands_at [] name (header, own) = bytes_eq header name
stands_at at name (header, own) = bytes_eq header at && bytes_eq own name

-- the table has this key, in a technology with or without buried contacts
unfoldable pub knows : Bool → List ℕ → List ℕ → Bool
knows buried at name = list_any (stands_at at name) (if buried then keys else common_keys)

-- the dotted keys of some members that the table does not have
abbrev pub unknown_in : Bool → List ℕ → Members → List (List ℕ)
unknown_in buried at no_members = []
unknown_in buried at (member name d ms) = if knows buried at name then unknown_in buried at ms
    else dotted (at, name) ∷ unknown_in buried at ms

-- those of the table that stands there
unfoldable pub unknown_at : Bool → List ℕ → Option Data → List (List ℕ)
unknown_at buried at (Some (table ms)) = unknown_in buried at ms
unknown_at buried at _ = []

-- all unknown keys, dotted, of a file's table with or without buried contacts
unfoldable pub unknown_keys : Bool → Members → List (List ℕ)
unknown_keys buried top =
    unknown_in buried [] top
    ++ flat_map (λ at. unknown_at buried at (get_member at top))
    (codes "width" ∷ codes "spacing" ∷ codes "extension" ∷ codes "cut" ∷ [])

-- the lesser of two keys in the order of their bytes
unfoldable pub lesser : Option (List ℕ) → List ℕ → Option (List ℕ)
lesser None key = Some key
lesser (Some least) key = if is_lt (slice_cmp nat_cmp key least) then Some key else Some least

-- the least of some keys, if there is one
abbrev pub least : List (List ℕ) → Option (List ℕ)
least keys = fold lesser None keys

-- the key is one of the keys, and none of them comes before it in the order of bytes
pub record IsLeast (key : List ℕ) (keys : List (List ℕ)) : Type 0 where
  pub among : Contains keys key
  pub first : All (λ k. is_lt (slice_cmp nat_cmp k key) ≡ false) keys

-- the least of the keys, and none only where there are none
abbrev pub NamesLeast : Option (List ℕ) → List (List ℕ) → Type 0
NamesLeast None keys = keys ≡ []
NamesLeast (Some key) keys = IsLeast key keys
