-- Maps with text keys, seen as finite maps from octets.
use Rattle.std.specs.Prelude.{ℕ, Bool, ◌&&◌, List, [], ◌∷◌, String, string_bytes, bytes_eq}
use Rattle.std.specs.Ordering.{nat_cmp}
use Rattle.std.specs.declared.cmp.Ordering.{Ordering}
use Rattle.std.specs.Cmp.Lexicographic.{slice_cmp}
use Rattle.std.specs.FinMap as finite
use Rattle.std.specs.BTreeMap.{BTreeMap}
use Rattle.std.specs.Coded.{Coded, coded_list, coded_ℕ}

-- texts are ordered by their octets
abbrev pub text_cmp : List ℕ → List ℕ → Ordering
text_cmp a b = slice_cmp nat_cmp a b

abbrev pub coded_text : Coded (List ℕ)
coded_text = coded_list coded_ℕ

module _ {A V : Type 0} where
  -- entries as a finite map; of several entries with one key the first counts
  abbrev pub entries_map : List (String A × V) → finite.FinMap text_cmp V
  entries_map [] = finite.empty
  entries_map (entry ∷ entries) = finite.insert (entries_map entries) (string_bytes entry.0) entry.1

  -- a `BTreeMap` with text keys as a finite map from octets to values
  abbrev pub octet_map : BTreeMap (String A) V → finite.FinMap text_cmp V
  octet_map map = entries_map map.entries

-- two entries have the same key and equal values
abbrev pub same_entry : {V : Type 0} → (V → V → Bool) → List ℕ × V → List ℕ × V → Bool
same_entry same a b = bytes_eq a.0 b.0 && same a.1 b.1
