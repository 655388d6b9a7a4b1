-- The results of look-ups by a key, against the book with the header.
use Rattle.std.proofs.Common.{◌≡◌, ◌<◌, ◌^◌, ℕ, ℤ, pos, Bool, true, false, cond, List, [], ◌∷◌}
use Rattle.std.proofs.Common.{Result, Ok, Err, Option, Some, None, IfOk, filter, length, nat_lt}
use Rattle.std.proofs.Common.{to_z, of_z, w64, refl, sym, ap, subst, ◌∙◌}
use Rattle.std.specs.Option.{option_map, option_map_or, option_and_then}
use Rattle.std.proofs.Math.Facts.{to_z_pos}
use Rattle.std.specs.FinMap as finite
use Rattle.sqlite.specs.declared.error.Error.TheVariants.{QueryReturnedNoRows}
use Rattle.sqlite.specs.declared.types.Value.TheVariants.{Int, Text}
use Rattle.sqlite.specs.Order.{Row, column}
use Rattle.sqlite.specs.Values.{or_null}
use Rattle.vcard_lines.specs.declared.line.Line.{Line}
use Rattle.book_model.specs.declared.answers.ImportTally.{ImportTally}
use Rattle.book_model.specs.declared.answers.Stored.{Stored}
use Rattle.book_model.specs.declared.denied.Denied.{Denied}
use Rattle.book_model.specs.declared.row.Row.{Row as Member}
use Rattle.book_model.specs.Books.{Book, live_at, stored_in_row}
use Rattle.book_model.specs.BookQueries.{is_tombstone_after, tombstone_count}
use Rattle.book_model.specs.Counts.{is_tombstone_at}
use Rattle.store_tables.specs.QueryResults.{FindsRow, count_value, greatest_integer}
use Rattle.store_tables.specs.Members.{MemberRow, has_uid, number_card_shown, is_removed_above}
use Rattle.store_tables.specs.Imports.{has_key, import_shown}
use Rattle.store_tables.specs.Keeps.{is_keep_of, keep_shown}
use Rattle.store_rows.specs.ShownRows.{ShowsCard, ShowsLive, ShowsTally, ShowsNumber, ShowsCount}
use Rattle.store_rows.specs.SoundTables.{AreSoundRows}
use Rattle.store_rows.specs.TableBooks.{HeaderRow, line_row, model_row, row_book}
use Rattle.store_rows.specs.TableRows.{TableRows}
use Rattle.store_rows.specs.Values.{text_or_empty, text_card, lines_or_none}
use Rattle.store_rows.proofs.KeyedEntries.{find_none}
use Rattle.store_rows.proofs.RowLemmas.{get-members_in, single_member}
use Rattle.store_lookups.specs.declared.member_states.MemberState.{MemberState}
use Rattle.store_lookups.specs.declared.member_states.MemberState.TheVariants.{Live, Tombstone}
use Rattle.store_lookups.specs.declared.member_states.MemberState.TheVariants.{Missing}
use Rattle.store_lookups.specs.MemberStates.{ShowsState, is_tombstone_state, live_card}
use Rattle.store_lookups.specs.MemberStates.{member_state, state_of_row}
use Rattle.store_rows.proofs.LookupLemmas.{natural_of, the_one, member_found, member_missing}
use Rattle.store_rows.proofs.LookupLemmas.{import_found, import_missing, keep_found}
use Rattle.store_rows.proofs.RemovedLemmas.{counts_remembered}

-- a number that was converted to a column value reads back unchanged
pub back : (z : ℤ) (n : ℕ) → z ≡ pos n → n < 2 ^ 63 → to_z w64 (of_z w64 z) ≡ pos n
back z n e below = ap (λ k. to_z w64 (of_z w64 k)) e ∙ to_z_pos w64 below

-- the same, for a number of a book
pub back_of : (z : ℤ) (m n : ℕ) → z ≡ pos m → m < 2 ^ 63 → m ≡ n → to_z w64 (of_z w64 z) ≡ pos n
back_of z m n e below same = back z m e below ∙ ap pos same

-- an exact count, as the row of a counting query
pub shows_exact : (n : ℕ) (r : Result ℕ Denied) → IfOk r (λ k. k ≡ n)
    → IfOk r (λ k. k < greatest_integer) → IfOk r (ShowsCount (Int (pos n) ∷ []))
shows_exact n (Ok k) same below = record { is = ap (λ m. Int (pos m)) (sym same); below = below }
shows_exact n (Err denied) same below = tt

-- ---- what a book has under a UID

member_is : (m : MemberRow) (row : Member) → column (number_card_shown m) 0 ≡ Int (pos row.changed)
    → ShowsCard 1 (number_card_shown m) row.card → model_row m ≡ row
member_is m row number card =
    let same = natural_of m.changed row.changed number in
    let text = step m.card row.card card in
    λ i. record { changed = same i; card = text i }
  where
    step : (text : Option (List ℕ)) (card : Option (List Line))
        → ShowsCard 1 (Int m.changed ∷ or_null Text text ∷ []) card → option_map text_card text
        ≡ card
    step None None h = refl
    step None (Some lines) h = absurd (let e = h.1 in cc)
    step (Some t) None h = absurd (let e = h in cc)
    step (Some t) (Some lines) h = ap Some (ap (λ v. text_card (text_or_empty v)) h.1
        ∙ ap lines_or_none h.2)

pub live_state : (book : Book) (uid : List ℕ) → live_card (member_state book uid) ≡ live_at book uid
live_state book uid = go (finite.get book.members uid)
  where
    go : (found : Option Member) → live_card (option_map_or (state_of_row book.horizon) found
        Missing) ≡ option_and_then stored_in_row found
    go None = refl
    go (Some row) = by (stored_in_row row) (is_tombstone_after book.horizon row)
      where
        by : (stored : Option Stored) (removed : Bool)
            → live_card (option_map_or Live stored (cond removed Tombstone Missing)) ≡ stored
        by (Some stored) removed = refl
        by None true = refl
        by None false = refl

pub tombstone_state : (book : Book) (uid : List ℕ) → is_tombstone_state (member_state book uid)
    ≡ is_tombstone_at book uid
tombstone_state book uid = go (finite.get book.members uid)
  where
    by : (changed : ℕ) (card : Option (List Line))
        → is_tombstone_state (state_of_row book.horizon (record { changed = changed; card = card }))
        ≡ is_tombstone_after book.horizon (record { changed = changed; card = card })
    by changed (Some card) = refl
    by changed None = elim (nat_lt book.horizon changed) as
        (λ b. is_tombstone_state (cond b Tombstone Missing) ≡ b) [ true ↦ refl | false ↦ refl ]

    go : (found : Option Member) → is_tombstone_state (option_map_or (state_of_row book.horizon)
        found Missing) ≡ option_map_or (is_tombstone_after book.horizon) found false
    go None = refl
    go (Some row) = by row.changed row.card

module _ (rows : TableRows) (name : List ℕ) (header : HeaderRow) where
  pub state_found : (uid : List ℕ) (row : Row) (r : Result MemberState Denied) → AreSoundRows rows
      → FindsRow (has_uid (pos header.id) uid) number_card_shown rows.members (Ok row)
      → IfOk r (ShowsState header.horizon row)
      → IfOk r (λ state. member_state (row_book rows (line_row name header)) uid ≡ state)
  state_found uid row (Ok state) sound finds shows =
      let there = get-members_in (pos header.id) rows.members uid
      ∙ ap (option_map model_row) (the_one (has_uid (pos header.id) uid) number_card_shown
      rows.members row (single_member (pos header.id) uid rows.members sound.members) finds) in
      let same = member_is finds.0 shows.member
      (subst (λ r. column r 0 ≡ Int (pos shows.member.changed)) finds.2 shows.changed)
      (subst (λ r. ShowsCard 1 r shows.member.card) finds.2 shows.card) in
      ap (λ found. option_map_or (state_of_row header.horizon) found Missing) (there ∙ ap Some same)
      ∙ sym shows.is
  state_found uid row (Err denied) sound finds shows = tt

  pub state_missing : (uid : List ℕ) → FindsRow (has_uid (pos header.id) uid) number_card_shown
      rows.members (Err QueryReturnedNoRows) → member_state (row_book rows (line_row name header))
      uid ≡ Missing
  state_missing uid finds = ap (λ found. option_map_or (state_of_row header.horizon) found Missing)
      (get-members_in (pos header.id) rows.members uid
      ∙ ap (option_map model_row) (find_none (has_uid (pos header.id) uid) rows.members
      (finds refl)))

  pub live_found : (uid : List ℕ) (row : Row) (r : Result (Option Stored) Denied)
      → AreSoundRows rows → FindsRow (has_uid (pos header.id) uid) number_card_shown rows.members
      (Ok row) → IfOk r (ShowsLive row)
      → IfOk r (λ live. live_at (row_book rows (line_row name header)) uid ≡ live)
  live_found uid row (Ok live) sound finds shows =
      member_found rows (line_row name header) uid row live sound finds shows
  live_found uid row (Err denied) sound finds shows = tt

  pub live_missing : (uid : List ℕ) → FindsRow (has_uid (pos header.id) uid) number_card_shown
      rows.members (Err QueryReturnedNoRows) → live_at (row_book rows (line_row name header)) uid
      ≡ None
  live_missing uid finds = member_missing rows (line_row name header) uid finds

  pub kept_found : (key : List ℕ) (row : Row) (tally : ImportTally) → AreSoundRows rows
      → FindsRow (has_key (pos header.id) key) import_shown rows.imports (Ok row)
      → ShowsTally row tally
      → finite.get (row_book rows (line_row name header)).imports key ≡ Some tally
  kept_found key row tally sound finds shows =
      import_found rows (line_row name header) key row tally sound finds shows

  pub kept_missing : (key : List ℕ) → FindsRow (has_key (pos header.id) key) import_shown
      rows.imports (Err QueryReturnedNoRows)
      → finite.get (row_book rows (line_row name header)).imports key ≡ None
  kept_missing key finds = (import_missing rows (line_row name header) key finds).tally

  pub keep_found_in : (row : Row) (r : Result ℕ Denied) → AreSoundRows rows
      → FindsRow (is_keep_of (pos header.id)) keep_shown rows.keeps (Ok row)
      → IfOk r (ShowsNumber row) → IfOk r (λ keep. (row_book rows (line_row name header)).keep
      ≡ keep)
  keep_found_in row (Ok keep) sound finds shows =
      keep_found rows (line_row name header) row keep sound finds shows
  keep_found_in row (Err denied) sound finds shows = tt

  pub remembered_found : (row : Row) (r : Result ℕ Denied) → AreSoundRows rows
      → row ≡ count_value (length (filter (is_removed_above (pos header.id) (pos header.horizon))
      rows.members)) ∷ [] → IfOk r (ShowsCount row)
      → IfOk r (λ count. tombstone_count (row_book rows (line_row name header)) ≡ count)
  remembered_found row (Ok count) sound is shows =
      counts_remembered rows name header row count sound is shows
  remembered_found row (Err denied) sound is shows = tt
