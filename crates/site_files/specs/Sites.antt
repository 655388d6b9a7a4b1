-- The files of a site, and the file that the target of a request names.
use Rattle.std.specs.Prelude.{ℕ, Bool, ◌||◌, ◌==◌, List, ◌++◌, Option, None, codes, bytes_eq}
use Rattle.std.specs.Prelude.{length, take, nat_eq, if◌then◌else◌}
use Rattle.std.specs.List.{ends_with, find, position_or_len, starts_with, sum_by}

-- a file: its name, which is its path from the site's folder on and begins with a slash, and its
-- octets
abbrev pub SiteFile : Type 0
SiteFile = List ℕ × List ℕ

-- ---- how much a site holds

-- the most octets of all files together, 16 MiB
abbrev pub most_octets : ℕ
most_octets = 16777216

-- the number of octets of all files
abbrev pub octets_of : List SiteFile → ℕ
octets_of files = sum_by (λ file. length file.1) files

-- ---- the path of a target

abbrev pub question_mark : ℕ
question_mark = 63

-- the octets before the first question mark, or all of them; no octet is decoded
abbrev pub path_of : List ℕ → List ℕ
path_of target = take (position_or_len (λ octet. octet == question_mark) target) target

-- the path is that of the books, or is below it
abbrev pub is_for_books : List ℕ → Bool
is_for_books path = bytes_eq path (codes "/books") || starts_with nat_eq path (codes "/books/")

-- ---- a file by its name

-- the name of the file at the path; at the path of a folder, with a slash, it is its index.html
abbrev pub name_at : List ℕ → List ℕ
name_at path = if ends_with nat_eq path (codes "/") then path ++ codes "index.html" else path

abbrev pub has_name : List ℕ → SiteFile → Bool
has_name name file = bytes_eq file.0 name

-- the first file with exactly this name
abbrev pub file_named : List ℕ → List SiteFile → Option SiteFile
file_named name files = find (has_name name) files

-- The file that a request with this target is for, or None if it isn't for a file of the site. All
-- that is for the books isn't.
abbrev pub requested_file : List SiteFile → List ℕ → Option SiteFile
requested_file files target =
    if is_for_books (path_of target) then None else file_named (name_at (path_of target)) files
