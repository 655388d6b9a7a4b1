-- Writes of members, and the tables after them.
use Rattle.std.proofs.Common.{◌≡◌, inl, inr, ℤ, pos, ◌+◌, Bool, true, false, ◌||◌, List, [], ◌∷◌}
use Rattle.std.proofs.Common.{map, int_eq, refl, sym, ap, subst, ◌∙◌}
use Rattle.std.specs.List.{AllByRecursion, list_any}
use Rattle.std.specs.FinMap as finite
use Rattle.sqlite.specs.Effect.{Database}
use Rattle.sqlite_rules.specs.Lists.{Has}
use Rattle.book_model.specs.BookChanges.{book_with_row}
use Rattle.store_tables.specs.Books.{BookRow, HoldBooks, has_id}
use Rattle.store_tables.specs.Members.{MemberRow, AreMembers, HoldMembers}
use Rattle.store_tables.specs.Imports.{HoldImports}
use Rattle.store_tables.specs.Keeps.{HoldKeeps}
use Rattle.store_tables.specs.Meta.{meta_listed}
use Rattle.store_tables.proofs.KeyedRows.{int_itself}
use Rattle.store_rows.specs.TableRows.{TableRows, HoldsRows, WritesTable}
use Rattle.store_rows.specs.TableBooks.{row_book, line_row, members_in}
use Rattle.store_rows.specs.SoundTables.{AreSoundRows, HasBookId, IsReadableMember}
use Rattle.store_rows.specs.ChangeLaws.{WritesWithin, WritesCompose, NoWriteIsWithin, PutsAreHeld}
use Rattle.store_rows.specs.ChangeLaws.{PutsAreRows}
use Rattle.store_rows.proofs.MemberLemmas.{members_put, others_put, all_put, readable_put}
use Rattle.store_rows.proofs.RowLemmas.{int_turned}

pub go_on : WritesCompose
go_on id a b c p q = record {
  sound = q.sound;
  books = q.books ∙ p.books;
  others = λ x e. q.others x e ∙ p.others x e;
}

pub no_write : NoWriteIsWithin
no_write id rows sound = record { sound = sound; books = refl; others = λ x e. refl }

-- a book in the table is listed
pub listed : (bs : List BookRow) (b : BookRow) → Has bs b → HasBookId bs b.id
listed [] b h = absurd h
listed (x ∷ xs) b (inl same) = ap (λ (y : BookRow). int_eq y.id b.id || list_any (has_id b.id) xs)
    (sym same) ∙ ap (λ t. t || list_any (has_id b.id) xs) (int_itself b.id)
listed (x ∷ xs) b (inr h) = ap (λ t. int_eq x.id b.id || t) (listed xs b h)
    ∙ last (int_eq x.id b.id)
  where
    last : (t : Bool) → (t || true) ≡ true
    last true = refl
    last false = refl

-- other members, and all else unchanged
pub members_within : (id : ℤ) (rows : TableRows) (ms : List MemberRow)
    → AreSoundRows (record rows { members = ms })
    → ((other : ℤ) → int_eq other id ≡ false → members_in other ms ≡ members_in other rows.members)
    → WritesWithin id rows (record rows { members = ms })
members_within id rows ms sound others = record {
  sound = sound;
  books = refl;
  others = λ b e. ap (λ m. record (row_book rows b) { members = m }) (others b.id e);
}

pub holds_members : (old new : Database) (rows : TableRows) (ms : List MemberRow)
    → HoldsRows old rows → HoldMembers (new.trees 4) ms → WritesTable 4 old new
    → HoldsRows new (record rows { members = ms })
holds_members old new rows ms h members w = record {
  schema = w.schema;
  obeys = w.obeys;
  meta = ap (map meta_listed) (w.other_tables.0 (λ e. cc)) ∙ h.meta;
  books = subst (λ t. HoldBooks t rows.books) (sym (w.other_tables.1.0 (λ e. cc))) h.books;
  members = members;
  imports = subst (λ t. HoldImports t rows.imports) (sym (w.other_tables.1.1.1.0 (λ e. cc)))
      h.imports;
  keeps = subst (λ t. HoldKeeps t rows.keeps) (sym (w.other_tables.1.1.1.1.0 (λ e. cc))) h.keeps;
}

-- other members of listed books
pub sound_members : (rows : TableRows) (ms : List MemberRow) → AreSoundRows rows → AreMembers ms
    → AllByRecursion (λ m. HasBookId rows.books m.book) ms → AllByRecursion IsReadableMember ms
    → AreSoundRows (record rows { members = ms })
sound_members rows ms sound kept all readable = record {
  books = sound.books;
  members = kept;
  imports = sound.imports;
  keeps = sound.keeps;
  listed_members = all;
  listed_imports = sound.listed_imports;
  listed_keeps = sound.listed_keeps;
  readable = record {
    books = sound.readable.books;
    members = readable;
    imports = sound.readable.imports;
    keeps = sound.readable.keeps;
  };
}

pub put_held : PutsAreHeld
put_held old new rows b uid changed card h sound there legal natural canonical is w =
    let all = all_put is.id b.id uid changed card (HasBookId rows.books) rows.members
    (listed rows.books b there) sound.listed_members in
    record {
      id = is.id;
      holds = holds_members old new rows _ h is.hold w;
      within = members_within b.id rows _ (sound_members rows _ sound is.kept all
          (readable_put is.id b.id uid changed card rows.members legal natural canonical
          sound.readable.members))
          (λ other e. others_put is.id b.id uid changed card other rows.members
          (int_turned b.id other ∙ e));
    }

pub put_is_row : PutsAreRows
put_is_row rows name header id uid text change sound card =
    let members = members_put id (pos header.id) uid (pos (header.number + 1)) text rows.members
    ∙ ap (λ c. finite.insert (members_in (pos header.id) rows.members) uid
    (record { changed = header.number + 1; card = c })) card in
    λ i. record (book_with_row (row_book rows (line_row name header)) uid
    change) { members = members i }
