-- The files of a store that was closed.
use Rattle.sqlite.specs.Closing.{HoldsAlone}
use Rattle.sqlite.specs.Files.{image_of}
use Rattle.sqlite.specs.Recovery.{Image}
use Rattle.sqlite.specs.Tree.{Trees}
use Rattle.sqlite_disk.specs.declared.Disk.{Ghosts}
use Rattle.sqlite_disk.specs.declared.Files.{Files}
use Rattle.sqlite.specs.WalFiles.{outcomes}
use Rattle.book_model.specs.Books.{Books}
use Rattle.store_writes.specs.TableChanges.{TreesHold}

module _ {D : Type 0} (g : Ghosts D) (files : Files D) where
  -- The file holds these trees, which are the rows of all its tables, with its log and without it:
  -- as both read now, and whatever a crash leaves of them.
  pub record AreTreesAlone (trees : Trees) : Type 0 where
    pub seen : HoldsAlone (image_of g files) trees
    pub left : (image : Image) → outcomes g files.log files.db image → HoldsAlone image trees

  -- The file holds the sound tables of a store with these books, with its log and without it.
  pub record AreBooksAlone (books : Books) : Type 0 where
    pub trees : Trees
    pub alone : AreTreesAlone trees
    pub hold : TreesHold books trees
