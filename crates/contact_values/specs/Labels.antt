-- Which types of vCard 4.0 a label of Google's is (RFC 6350, sections 5.6, 6.4.1 and 6.6.6), in
-- English or as Google's German has it.
use Rattle.std.specs.Prelude.{ℕ, List, [], ◌∷◌, codes, if◌then◌else◌}
use Rattle.std.specs.Str.{str_eq_ignore_ascii_case}

abbrev pub label_types : List ℕ → List (List ℕ)
label_types label =
    if str_eq_ignore_ascii_case label (codes "home") then codes "home" ∷ []
    else (if str_eq_ignore_ascii_case label (codes "work") then codes "work" ∷ []
    else (if str_eq_ignore_ascii_case label (codes "mobile") then codes "cell" ∷ []
    else (if str_eq_ignore_ascii_case label (codes "pager") then codes "pager" ∷ []
    else (if str_eq_ignore_ascii_case label (codes "home fax") then codes "home" ∷ codes "fax" ∷ []
    else (if str_eq_ignore_ascii_case label (codes "work fax") then codes "work" ∷ codes "fax" ∷ []
    else (if str_eq_ignore_ascii_case label (codes "fax") then codes "fax" ∷ []
    else (if str_eq_ignore_ascii_case label (codes "other fax") then codes "fax" ∷ []
    else (if str_eq_ignore_ascii_case label (codes "cell") then codes "cell" ∷ []
    else (if str_eq_ignore_ascii_case label (codes "mobil") then codes "cell" ∷ []
    else (if str_eq_ignore_ascii_case label (codes "privat") then codes "home" ∷ []
    else (if str_eq_ignore_ascii_case label (codes "arbeit") then codes "work" ∷ []
    else (if str_eq_ignore_ascii_case label (codes "spouse") then codes "spouse" ∷ []
    else (if str_eq_ignore_ascii_case label (codes "child") then codes "child" ∷ []
    else (if str_eq_ignore_ascii_case label (codes "parent") then codes "parent" ∷ []
    else (if str_eq_ignore_ascii_case label (codes "friend") then codes "friend" ∷ []
    else [])))))))))))))))
