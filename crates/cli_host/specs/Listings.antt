-- What `books` and `verify` print: a line for each book of the store.
use Rattle.std.specs.Prelude.{ℕ, ◌≡◌, List, [], ◌∷◌, ◌++◌, codes, decimal, flat_map, length, Option}
use Rattle.std.specs.Prelude.{Result, Ok, Err}
use Rattle.std.specs.Io.KnownBytes.{Appends, Keeps}
use Rattle.std.specs.List.{Contains}
use Rattle.base_types.specs.Octets.{line_feed}
use Rattle.book_http.specs.Streams.{WritesPrefix}
use Rattle.book_model.specs.BookQueries.{book_lines, keep_step, tally_step}
use Rattle.book_model.specs.Books.{Books}
use Rattle.book_model.specs.declared.answers.BookLine.{BookLine}
use Rattle.book_model.specs.declared.answers.Tally.{Tally}
use Rattle.book_model.specs.declared.denied.Denied.{Denied}
use Rattle.book_model.specs.declared.denied.Denied.TheVariants.{Refused as WasRefused}
use Rattle.book_model.specs.declared.denied.Denied.TheVariants.{Fault as WasFault}
use Rattle.book_model.specs.declared.refusal.Refusal.{Refusal}
use Rattle.book_service.specs.Faults.{IsOutOfMemoryOr}
use Rattle.cli_host.specs.declared.listing.Listing.{Listing}
use Rattle.cli_host.specs.declared.listing.Listing.TheVariants as listing
use Rattle.cli_orders.specs.declared.stop.Stop.{Stop}
use Rattle.cli_orders.specs.declared.stop.Stop.TheVariants.{Refused, Fault, Open, Serve, Device}
use Rattle.sync_core.specs.StoreModels.{KeepsBooks, StoreModel}

-- ---- the text

-- a book's line, with the number of live cards of its tally, and the most tombstones that it keeps
abbrev pub book_row : BookLine → Tally → ℕ → List ℕ
book_row line tally keep =
    codes "name " ++ (line.name ++ (codes " id " ++ (decimal line.id
    ++ (codes " cards " ++ (decimal tally.cards ++ (codes " number " ++ (decimal line.number
    ++ (codes " horizon " ++ (decimal line.horizon
    ++ (codes " keep " ++ (decimal keep ++ line_feed ∷ [])))))))))))

-- the line of a listed book among these books; a book that isn't there has none
abbrev pub row_of_results : BookLine → Result Tally Refusal → Result ℕ Refusal → List ℕ
row_of_results line (Ok tally) (Ok keep) = book_row line tally keep
row_of_results line tally keep = []

abbrev pub listed_row : Books → BookLine → List ℕ
listed_row books line =
    row_of_results line (tally_step books line.name) (keep_step books line.name)

-- the lines of all books, in byte order of name
abbrev pub book_rows : Books → List ℕ
book_rows books = flat_map (listed_row books) (book_lines books)

-- the last line of `verify`: the number of books
abbrev pub last_line : Listing → ℕ → List ℕ
last_line listing.Books count = []
last_line listing.Verified count = codes "verified " ++ (decimal count ++ line_feed ∷ [])

-- the output of `books` or `verify` over these books
abbrev pub listing_output : Listing → Books → List ℕ
listing_output what books = book_rows books ++ last_line what (length (book_lines books))

-- ---- what is written

-- one of the listed books is refused its tally
pub record IsTallyRefused (books : Books) (refusal : Refusal) : Type 0 where
  pub line : BookLine
  pub listed : Contains (book_lines books) line
  pub refused : tally_step books line.name ≡ Err refusal

-- the same for a denial; a fault says nothing of the books
abbrev pub IsListingDenial : Books → Denied → Type 0
IsListingDenial books (WasRefused refusal) = IsTallyRefused books refusal
IsListingDenial books (WasFault fault) = Unit {0}

module _ {S : Type 0} (model : StoreModel S) where
  -- the books are unchanged, and the text that lists them was written
  pub record PrintsListing (what : Listing) (old : S) (before after : Option (List ℕ)) (new : S)
      : Type 0 where
    pub kept : KeepsBooks model old new
    pub written : model.premise new → Appends before after (listing_output what (model.books old))

  -- A fault is out of memory, or one that the store may return; nothing is written then. `Device`:
  -- the writer failed, and a prefix of the text is written. A refusal would be that of a listed
  -- book's tally.
  abbrev pub IsListingStop : Listing → S → Option (List ℕ) → Option (List ℕ) → S → Stop → Type 0
  IsListingStop what old before after new (Refused refusal) =
      (model.premise new → IsTallyRefused (model.books old) refusal) × Keeps before after
  IsListingStop what old before after new (Fault fault) =
      IsOutOfMemoryOr model.may_fault fault × Keeps before after
  IsListingStop what old before after new Device =
      model.premise new → WritesPrefix (listing_output what (model.books old)) before after
  IsListingStop what old before after new (Open fault) = ⊥
  IsListingStop what old before after new (Serve fault) = ⊥

  -- why the books aren't listed, or only in part; they are unchanged
  pub record StopsListing (what : Listing) (old : S) (stop : Stop)
      (before after : Option (List ℕ)) (new : S) : Type 0 where
    pub kept : KeepsBooks model old new
    pub stop_is : IsListingStop what old before after new stop
