-- The output of the order `try`.
use Rattle.std.specs.Prelude.{ℕ, List, [], ◌∷◌, ◌++◌, ◌⊎◌, length, flat_map, codes, decimal, Option}
use Rattle.std.specs.Io.KnownBytes.{Appends, Keeps}
use Rattle.vcard_text.specs.Cards.{canonical_text}
use Rattle.base_types.specs.Octets.{line_feed}
use Rattle.book_model.specs.declared.answers.PutAnswer.{PutAnswer}
use Rattle.book_model.specs.declared.answers.PutAnswer.TheVariants.{Created, Edited, Unchanged}
use Rattle.book_model.specs.declared.page.Entry.{Entry}
use Rattle.book_model.specs.declared.page.Entry.TheVariants.{Changed, Removed}
use Rattle.book_model.specs.declared.page.Page.{Page}
use Rattle.sync_core.specs.TokenTexts.{token_octets}
use Rattle.cli_orders.specs.declared.try_result.FirstPath.{FirstPath}
use Rattle.cli_orders.specs.TryResults.{IsTryResult}
use Rattle.cli_orders.specs.declared.stop.Stop.{Stop}
use Rattle.cli_orders.specs.declared.stop.Stop.TheVariants.{Refused, Fault, Open, Serve, Device}
use Rattle.book_http.specs.Streams.{WritesPrefix}
use Rattle.cli_orders.specs.OrderOutputs.{yes_or_no}

abbrev pub put_line : PutAnswer → List ℕ
put_line (Created version) = codes "put created " ++ (decimal version ++ line_feed ∷ [])
put_line (Edited version) = codes "put edited " ++ (decimal version ++ line_feed ∷ [])
put_line (Unchanged version) = codes "put unchanged " ++ (decimal version ++ line_feed ∷ [])

-- a line, and for a live member the card's canonical text
abbrev pub entry_lines : Entry → List ℕ
entry_lines (Changed uid version card) =
    codes "card " ++ (uid ++ (codes " version " ++ (decimal version
    ++ (codes " octets " ++ (decimal (length (canonical_text card))
    ++ line_feed ∷ canonical_text card)))))
entry_lines (Removed uid) = codes "removed " ++ (uid ++ line_feed ∷ [])

abbrev pub entries_lines : List Entry → List ℕ
entries_lines entries = flat_map entry_lines entries

-- the entries, the token of the page, and whether it is truncated
abbrev pub page_lines : Page → List ℕ
page_lines page =
    entries_lines page.entries
    ++ (codes "token " ++ (token_octets (record { book = page.book; mark = page.mark })
    ++ (line_feed ∷ codes "truncated " ++ (yes_or_no page.truncated ++ line_feed ∷ []))))

abbrev pub try_lines : FirstPath → List ℕ
try_lines path = put_line path.put ++ page_lines path.page

-- ---- what is written

-- the output for the text was written
pub record PrintsTryResult (text : List ℕ) (before after : Option (List ℕ)) : Type 0 where
  pub path : FirstPath
  pub agrees : IsTryResult text path
  pub written : Appends before after (try_lines path)

-- a prefix of the output for the text was written
pub record PrintsTryPrefix (text : List ℕ) (before after : Option (List ℕ)) : Type 0 where
  pub path : FirstPath
  pub agrees : IsTryResult text path
  pub front : WritesPrefix (try_lines path) before after

-- After a refusal or a fault nothing is written. If a device fails, nothing or a prefix of the
-- output is written.
abbrev pub KeepsTryOutput : Stop → List ℕ → Option (List ℕ) → Option (List ℕ) → Type 0
KeepsTryOutput (Refused refusal) text before after = Keeps before after
KeepsTryOutput (Fault fault) text before after = Keeps before after
KeepsTryOutput (Open fault) text before after = Keeps before after
KeepsTryOutput (Serve fault) text before after = Keeps before after
KeepsTryOutput Device text before after = Keeps before after ⊎ PrintsTryPrefix text before after
