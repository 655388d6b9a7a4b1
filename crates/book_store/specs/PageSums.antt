-- Sums of pages, by which an opening finds octets that changed since they were written.
use Rattle.std.specs.Prelude.{Bool, true}
use Rattle.sqlite.specs.Files.{IsBlankAs}
use Rattle.sqlite.specs.Held.{Held}
use Rattle.sqlite.specs.Recovery.{Image}
use Rattle.sqlite_disk.specs.declared.Disk.{Ghosts}
use Rattle.sqlite_store.specs.FileStore.{view}
use Rattle.sqlite_store.specs.declared.store.FileStore.{FileStore}

-- Files with these octets hold no database yet: the database file is empty, or an opening that was
-- stopped has written a part of a first page that has a sum.
abbrev pub IsNewFile : Image → Type 0
IsNewFile = IsBlankAs true

module _ {D : Type 0} {g : Ghosts D} where
  -- Whether each page of the connection's file ends in a sum of its octets. An opening refuses the
  -- file if one is wrong.
  abbrev pub has_page_sums : Held (FileStore D g) → Bool
  has_page_sums conn = (view conn.store).has_sums
