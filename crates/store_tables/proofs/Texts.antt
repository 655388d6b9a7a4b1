-- The meaning of the SQL texts.
use Rattle.std.proofs.Common.{◌≡◌, ℕ, List, [], ◌∷◌, codes, false, None, Ok, Err, Option, Result}
use Rattle.std.proofs.Common.{refl}
use Rattle.sqlite.specs.Command.TheVariants.{Select, Update, Delete}
use Rattle.sqlite_tied.specs.Compute.{everything}
use Rattle.sqlite.specs.Listing.{understood, reads_listing}
use Rattle.sqlite.proofs.Callers.{IsPlain, command_of}
use Rattle.sqlite_resolve.specs.Compile.{first}
use Rattle.sqlite_resolve.specs.declared.compiled.Compiled.{Compiled}
use Rattle.sqlite_resolve.specs.declared.error.CompileError.{CompileError}
use Rattle.sqlite_schema.specs.declared.command.Returning.{Returning}
use Rattle.store_tables.specs.Tables.{book_schema}
use Rattle.store_tables.proofs.SelectLemmas.{IsSelectText}
use Rattle.store_tables.proofs.Queries.{put_text, put_command, add_member_text, add_member_command}
use Rattle.store_tables.proofs.Queries.{change_text, change_query, find_text, find_query, due_text}
use Rattle.store_tables.proofs.Queries.{due_query, book_text, book_query, forget_text, forget_query}
use Rattle.store_tables.proofs.Queries.{count_text, count_query, update_text, update_query}
use Rattle.store_tables.proofs.Queries.{number_names, books_count_text, books_count_query}
use Rattle.store_tables.proofs.Queries.{import_text, import_query, keep_text, keep_query}
use Rattle.store_tables.proofs.Queries.{removed_text, removed_query, members_text, members_query}
use Rattle.store_tables.proofs.Queries.{add_import_text, add_import_command, add_book_text}
use Rattle.store_tables.proofs.Queries.{add_book_command, add_keep_text, add_schema_text}
use Rattle.store_tables.proofs.Queries.{add_schema_command, add_keep_command, picks, books_text}
use Rattle.store_tables.proofs.Queries.{books_query, all_members_text, all_members_terms, scan_text}
use Rattle.store_tables.proofs.Queries.{scan_query, all_imports_text, all_imports_terms}
use Rattle.store_tables.proofs.Queries.{all_keeps_text, all_keeps_terms, meta_text, meta_terms}

abbrev pub returning_of : Result Compiled CompileError → Option Returning
returning_of (Ok c) = c.returning
returning_of (Err e) = None

abbrev pub formats_of : Result Compiled CompileError → List (List ℕ)
formats_of (Ok c) = c.formats
formats_of (Err e) = []

pub put_is : (command_of (understood book_schema put_text) ≡ put_command)
    × IsPlain (understood book_schema put_text)
unfolding understood everything
put_is = (refl, (refl, refl))

pub add_member_is : (command_of (understood book_schema add_member_text) ≡ add_member_command)
    × IsPlain (understood book_schema add_member_text)
unfolding understood everything
add_member_is = (refl, (refl, refl))

pub change_is : (command_of (understood book_schema change_text) ≡ Update 2 (record {
  lets = [];
  body = change_query;
})) × IsPlain (understood book_schema change_text)
unfolding understood everything
change_is = (refl, (refl, refl))

pub find_is : (command_of (understood book_schema find_text) ≡ Select (record {
  lets = [];
  body = find_query;
}) (codes "changed" ∷ codes "card" ∷ []))
    × (reads_listing book_schema find_text ≡ false) × IsPlain (understood book_schema find_text)
unfolding understood everything
find_is = (refl, refl, (refl, refl))

pub due_is : (command_of (understood book_schema due_text) ≡ Select (record {
  lets = [];
  body = due_query;
}) (codes "uid" ∷ codes "changed" ∷ codes "card" ∷ []))
    × (reads_listing book_schema due_text ≡ false) × IsPlain (understood book_schema due_text)
unfolding understood everything
due_is = (refl, refl, (refl, refl))

pub forget_is : (command_of (understood book_schema forget_text) ≡ Delete 2 (record {
  lets = [];
  body = forget_query;
})) × IsPlain (understood book_schema forget_text)
unfolding understood everything
forget_is = (refl, (refl, refl))

pub count_is : (command_of (understood book_schema count_text) ≡ Select (record {
  lets = [];
  body = count_query;
}) (codes "COUNT(*)" ∷ [])) × (reads_listing book_schema count_text ≡ false)
    × IsPlain (understood book_schema count_text)
unfolding understood everything
count_is = (refl, refl, (refl, refl))

pub book_is : (command_of (understood book_schema book_text) ≡ Select (record {
  lets = [];
  body = book_query;
}) (codes "id" ∷ number_names))
    × (reads_listing book_schema book_text ≡ false) × IsPlain (understood book_schema book_text)
unfolding understood everything
book_is = (refl, refl, (refl, refl))

pub update_is : (command_of (understood book_schema update_text) ≡ Update 1 (record {
  lets = [];
  body = update_query;
})) × IsPlain (understood book_schema update_text)
unfolding understood everything
update_is = (refl, (refl, refl))

pub books_count_is : (command_of (understood book_schema books_count_text)
    ≡ Select (record { lets = []; body = books_count_query }) (codes "COUNT(*)" ∷ []))
    × (reads_listing book_schema books_count_text ≡ false)
    × IsPlain (understood book_schema books_count_text)
unfolding understood everything
books_count_is = (refl, refl, (refl, refl))

pub import_is : (command_of (understood book_schema import_text) ≡ Select (record {
  lets = [];
  body = import_query;
}) (codes "added" ∷ codes "edited" ∷ codes "same" ∷ codes "number" ∷ []))
    × (reads_listing book_schema import_text ≡ false) × IsPlain (understood book_schema import_text)
unfolding understood everything
import_is = (refl, refl, (refl, refl))

pub keep_is : (command_of (understood book_schema keep_text) ≡ Select (record {
  lets = [];
  body = keep_query;
}) (codes "keep" ∷ [])) × (reads_listing book_schema keep_text ≡ false)
    × IsPlain (understood book_schema keep_text)
unfolding understood everything
keep_is = (refl, refl, (refl, refl))

pub removed_is : (command_of (understood book_schema removed_text) ≡ Select (record {
  lets = [];
  body = removed_query;
}) (codes "changed" ∷ []))
    × (reads_listing book_schema removed_text ≡ false)
    × IsPlain (understood book_schema removed_text)
unfolding understood everything
removed_is = (refl, refl, (refl, refl))

pub members_is : (command_of (understood book_schema members_text) ≡ Select (record {
  lets = [];
  body = members_query;
}) (codes "uid" ∷ codes "changed" ∷ codes "card" ∷ []))
    × (reads_listing book_schema members_text ≡ false)
    × IsPlain (understood book_schema members_text)
unfolding understood everything
members_is = (refl, refl, (refl, refl))

pub add_import_is : (command_of (understood book_schema add_import_text) ≡ add_import_command)
    × IsPlain (understood book_schema add_import_text)
unfolding understood everything
add_import_is = (refl, (refl, refl))

pub add_book_is : (command_of (understood book_schema add_book_text) ≡ add_book_command)
    × IsPlain (understood book_schema add_book_text)
unfolding understood everything
add_book_is = (refl, (refl, refl))

pub add_keep_is : (command_of (understood book_schema add_keep_text) ≡ add_keep_command)
    × IsPlain (understood book_schema add_keep_text)
unfolding understood everything
add_keep_is = (refl, (refl, refl))

pub add_schema_is : (command_of (understood book_schema add_schema_text) ≡ add_schema_command)
    × IsPlain (understood book_schema add_schema_text)
unfolding understood everything
add_schema_is = (refl, (refl, refl))

pub books_is : (command_of (understood book_schema books_text) ≡ Select (record {
  lets = [];
  body = books_query;
}) (codes "id" ∷ codes "name" ∷ codes "number" ∷ codes "horizon" ∷ codes
    "created" ∷ codes "edited" ∷ codes "imported" ∷ codes "import_edited" ∷ codes "moved_in" ∷ codes
    "deleted" ∷ codes "moved_out" ∷ [])) × (reads_listing book_schema books_text ≡ false)
    × IsPlain (understood book_schema books_text)
unfolding understood everything
books_is = (refl, refl, (refl, refl))

pub all_members_is : (command_of (understood book_schema all_members_text)
    ≡ Select (record { lets = []; body = picks 4 [] all_members_terms })
    (codes "rowid" ∷ codes "book" ∷ codes "uid" ∷ codes "changed" ∷ codes "card" ∷ []))
    × (reads_listing book_schema all_members_text ≡ false)
    × IsPlain (understood book_schema all_members_text)
unfolding understood everything
all_members_is = (refl, refl, (refl, refl))

pub scan_is : (command_of (understood book_schema scan_text) ≡ Select (record {
  lets = [];
  body = scan_query;
}) (codes "rowid" ∷ codes "book" ∷ codes "uid" ∷ codes "changed" ∷ codes
    "card" ∷ [])) × (reads_listing book_schema scan_text ≡ false)
    × IsPlain (understood book_schema scan_text)
unfolding understood everything
scan_is = (refl, refl, (refl, refl))

pub all_imports_is : (command_of (understood book_schema all_imports_text)
    ≡ Select (record { lets = []; body = picks 7 [] all_imports_terms })
    (codes "rowid" ∷ codes "book" ∷ codes "ikey" ∷ codes "added" ∷ codes "edited" ∷ codes "same" ∷
    codes "number" ∷ [])) × (reads_listing book_schema all_imports_text ≡ false)
    × IsPlain (understood book_schema all_imports_text)
unfolding understood everything
all_imports_is = (refl, refl, (refl, refl))

pub all_keeps_is : (command_of (understood book_schema all_keeps_text) ≡ Select (record {
  lets = [];
  body = picks 9 [] all_keeps_terms;
}) (codes "book" ∷ codes "keep" ∷ []))
    × (reads_listing book_schema all_keeps_text ≡ false)
    × IsPlain (understood book_schema all_keeps_text)
unfolding understood everything
all_keeps_is = (refl, refl, (refl, refl))

pub meta_is : (command_of (understood book_schema meta_text) ≡ Select (record {
  lets = [];
  body = picks 0 [] meta_terms;
}) (codes "name" ∷ codes "val" ∷ []))
    × (reads_listing book_schema meta_text ≡ false) × IsPlain (understood book_schema meta_text)
unfolding understood everything
meta_is = (refl, refl, (refl, refl))

-- ---- the texts that are a SELECT

pub find_selects : IsSelectText find_text
unfolding first everything
find_selects = refl

pub due_selects : IsSelectText due_text
unfolding first everything
due_selects = refl

pub count_selects : IsSelectText count_text
unfolding first everything
count_selects = refl

pub book_selects : IsSelectText book_text
unfolding first everything
book_selects = refl

pub books_count_selects : IsSelectText books_count_text
unfolding first everything
books_count_selects = refl

pub import_selects : IsSelectText import_text
unfolding first everything
import_selects = refl

pub keep_selects : IsSelectText keep_text
unfolding first everything
keep_selects = refl

pub removed_selects : IsSelectText removed_text
unfolding first everything
removed_selects = refl

pub members_selects : IsSelectText members_text
unfolding first everything
members_selects = refl

pub books_selects : IsSelectText books_text
unfolding first everything
books_selects = refl

pub scan_selects : IsSelectText scan_text
unfolding first everything
scan_selects = refl

pub all_members_selects : IsSelectText all_members_text
unfolding first everything
all_members_selects = refl

pub all_imports_selects : IsSelectText all_imports_text
unfolding first everything
all_imports_selects = refl

pub all_keeps_selects : IsSelectText all_keeps_text
unfolding first everything
all_keeps_selects = refl

pub meta_selects : IsSelectText meta_text
unfolding first everything
meta_selects = refl
