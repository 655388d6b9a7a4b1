-- The look-up of a card by the name of its book, against the step of the model.
use Rattle.std.proofs.Common.{◌≡◌, ℕ, List, filter, find, Result, Ok, Err, Option, Some, None, refl}
use Rattle.std.proofs.Common.{sym, ap, subst, ◌∙◌}
use Rattle.std.specs.Option.{option_map, option_map_or}
use Rattle.std.specs.FinMap as finite
use Rattle.sqlite.specs.declared.error.Error.TheVariants.{QueryReturnedNoRows}
use Rattle.sqlite.specs.Order.{Row}
use Rattle.sqlite_rules.specs.Lists.{Has}
use Rattle.book_model.specs.declared.answers.Stored.{Stored}
use Rattle.book_model.specs.declared.denied.Denied.TheVariants.{Refused}
use Rattle.book_model.specs.declared.refusal.Refusal.{Refusal}
use Rattle.book_model.specs.declared.refusal.Refusal.TheVariants.{NoSuchBook, NoSuchCard}
use Rattle.book_model.specs.Books.{Book, live_at, live_or_no_such_card}
use Rattle.book_model.specs.BookQueries.{get_step}
use Rattle.book_model.specs.CallOutcomes.{◌>>=◌}
use Rattle.store_tables.specs.Books.{BookRow, has_name}
use Rattle.store_tables.specs.NamedMembers.{FindsNamedMember}
use Rattle.store_tables.proofs.HasLemmas.{has_passing}
use Rattle.store_rows.specs.ShownRows.{ShowsLive}
use Rattle.store_rows.specs.SoundTables.{AreSoundRows}
use Rattle.store_rows.specs.TableBooks.{books_of, row_book}
use Rattle.store_rows.specs.TableRows.{TableRows}
use Rattle.store_rows.proofs.KeyedEntries.{find_single, found_has, has_filtered}
use Rattle.store_rows.proofs.LookupLemmas.{member_found, member_missing}
use Rattle.store_rows.proofs.RowLemmas.{get-books_of, single_named}
use Rattle.store_lookups.specs.CallResults.{FollowsStep, IsExactly}
use Rattle.store_queries.proofs.ResultLemmas.{live_returned, none_live}
use Rattle.store_queries.specs.internal.QuerySteps.{missing_card_step}

-- a step on a book that was looked up
abbrev step_on : (Book → Result Stored Refusal) → Option Book → Result Stored Refusal
step_on f found = option_map_or Ok found (Err NoSuchBook) >>= f

module _ (rows : TableRows) (name uid : List ℕ) where
  -- the row with the name is that of the book with the name
  named_book : (b : BookRow) → AreSoundRows rows → Has (filter (has_name name) rows.books) b
      → finite.get (books_of rows) name ≡ Some (row_book rows b)
  named_book b sound named =
      let it = has_filtered (has_name name) rows.books b named in
      get-books_of rows name ∙ ap (option_map (row_book rows)) (find_single (has_name name)
      rows.books b (single_named name rows.books sound.books) it.0 it.1)

  card_read : (row : Row) (live : Option Stored) → AreSoundRows rows
      → FindsNamedMember name uid rows.books rows.members (Ok row) → ShowsLive row live
      → get_step (books_of rows) name uid ≡ live_or_no_such_card live
  card_read row live sound found shows =
      ap (step_on (λ book. live_or_no_such_card (live_at book uid)))
      (named_book found.0 sound found.1)
      ∙ ap live_or_no_such_card (member_found rows found.0 uid row live sound found.2 shows)

  -- the live card in the row of the member
  pub live_found : (row : Row) (live : Option Stored) (stored : Stored) → AreSoundRows rows
      → FindsNamedMember name uid rows.books rows.members (Ok row) → ShowsLive row live
      → live ≡ Some stored
      → FollowsStep IsExactly (Ok stored) (get_step (books_of rows) name uid)
  live_found row live stored sound found shows is =
      subst (FollowsStep IsExactly (Ok stored)) (sym (card_read row live sound found shows))
      (live_returned stored live is)

  -- the member is removed
  pub removed_found : (row : Row) (live : Option Stored) → AreSoundRows rows
      → FindsNamedMember name uid rows.books rows.members (Ok row) → ShowsLive row live
      → live ≡ None
      → FollowsStep {T = Stored} {A = Stored} IsExactly (Err (Refused NoSuchCard))
      (get_step (books_of rows) name uid)
  removed_found row live sound found shows is =
      subst (FollowsStep {T = Stored} {A = Stored} IsExactly (Err (Refused NoSuchCard)))
      (sym (card_read row live sound found shows)) (none_live live is)

  -- no book with the name has a member with the UID
  pub card_missing : FindsNamedMember name uid rows.books rows.members (Err QueryReturnedNoRows)
      → get_step (books_of rows) name uid ≡ missing_card_step (books_of rows) name
  card_missing none = go (find (has_name name) rows.books) refl
    where
      go : (found : Option BookRow) → find (has_name name) rows.books ≡ found
          → get_step (books_of rows) name uid ≡ missing_card_step (books_of rows) name
      go None e =
          let found : finite.get (books_of rows) name ≡ None = get-books_of rows name
          ∙ ap (option_map (row_book rows)) e in
          rw found refl
      go (Some b) e =
          let found : finite.get (books_of rows) name ≡ Some (row_book rows b) =
          get-books_of rows name ∙ ap (option_map (row_book rows)) e in
          let it = found_has (has_name name) rows.books b e in
          rw found (ap live_or_no_such_card
          (member_missing rows b uid (none b (has_passing (has_name name) rows.books b it.1
          it.0))))
