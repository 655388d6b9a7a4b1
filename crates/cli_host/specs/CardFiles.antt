-- What `export --vcf` prints: the cards of a book as one file of vCards.
use Rattle.std.specs.Prelude.{ℕ, ◌≡◌, ◌⊎◌, Bool, List, flat_map, if◌then◌else◌, Option}
use Rattle.std.specs.Prelude.{Result, Ok, Err}
use Rattle.std.specs.FinMap as finite
use Rattle.std.specs.Io.KnownBytes.{Appends, Keeps}
use Rattle.vcard_lines.specs.declared.line.Line.{Line}
use Rattle.vcard_text.specs.Cards.{canonical_text}
use Rattle.vcard_export.specs.OlderCards.{older_card_text}
use Rattle.book_http.specs.Streams.{WritesPrefix}
use Rattle.book_model.specs.BookQueries.{cards_step}
use Rattle.book_model.specs.Books.{LiveCards}
use Rattle.book_model.specs.CallOutcomes.{IfFault}
use Rattle.book_model.specs.declared.denied.Denied.{Denied}
use Rattle.book_service.specs.Faults.{IsOutOfMemoryOr}
use Rattle.book_service.specs.WholeBooks.{lines_by_uid}
use Rattle.cli_orders.specs.Stops.{stop_of}
use Rattle.cli_orders.specs.declared.stop.Stop.{Stop}
use Rattle.cli_orders.specs.declared.stop.Stop.TheVariants.{Device}
use Rattle.sync_core.specs.StoreModels.{AnswersQuery, KeepsTerms, StoreModel}

-- a card as vCard 3.0, or its canonical text
abbrev pub one_text : Bool → List Line → List ℕ
one_text is_older card = if is_older then older_card_text card else canonical_text card

-- the texts of the cards, one after another, in byte order of UID
abbrev pub cards_text : Bool → LiveCards → List ℕ
cards_text is_older live = flat_map (one_text is_older) (finite.values (lines_by_uid live))

module _ {S : Type 0} (model : StoreModel S) where
  -- The text is that of the book's live cards, or the query for them was denied. The books are
  -- unchanged. A fault is out of memory, or one that the store may return.
  pub record Exports (old : S) (book : List ℕ) (is_older : Bool) (result : Result (List ℕ) Denied)
      (new : S) : Type 0 where
    pub terms : KeepsTerms model old new
    pub fault : IfFault result (IsOutOfMemoryOr model.may_fault)
    pub step : AnswersQuery model (λ live text. text ≡ cards_text is_older live) old new result
        (λ _ books. cards_step books book)

  -- the text of the cards is printed
  pub record PrintsCards (old : S) (book : List ℕ) (is_older : Bool)
      (before after : Option (List ℕ)) (new : S) : Type 0 where
    pub text : List ℕ
    pub exports : Exports old book is_older (Ok text) new
    pub printed : Appends before after text

  -- there is no text, and nothing is written
  pub record IsExportDenied (old : S) (book : List ℕ) (is_older : Bool) (stop : Stop)
      (before after : Option (List ℕ)) (new : S) : Type 0 where
    pub denied : Denied
    pub stop_is : stop ≡ stop_of denied
    pub exports : Exports old book is_older (Err denied) new
    pub unwritten : Keeps before after

  -- the writer failed, and a prefix of the text is written
  pub record PrintsCardsPrefix (old : S) (book : List ℕ) (is_older : Bool) (stop : Stop)
      (before after : Option (List ℕ)) (new : S) : Type 0 where
    pub text : List ℕ
    pub exports : Exports old book is_older (Ok text) new
    pub stop_is : stop ≡ Device
    pub front : WritesPrefix text before after

  -- either
  abbrev pub StopsCards : S → List ℕ → Bool → Stop → Option (List ℕ) → Option (List ℕ) → S → Type 0
  StopsCards old book is_older stop before after new =
      IsExportDenied old book is_older stop before after new
      ⊎ PrintsCardsPrefix old book is_older stop before after new
