-- The meaning of the SQL texts.
use Rattle.std.proofs.Common.{◌≡◌, [], ◌∷◌, codes, false, refl}
use Rattle.sqlite.specs.Command.TheVariants.{Select}
use Rattle.sqlite.specs.Listing.{understood, reads_listing}
use Rattle.sqlite_tied.specs.Compute.{everything}
use Rattle.sqlite.proofs.Callers.{IsPlain, command_of}
use Rattle.sqlite_resolve.specs.Compile.{first}
use Rattle.store_tables.specs.Tables.{book_schema}
use Rattle.store_tables.proofs.SelectLemmas.{IsSelectText}
use Rattle.store_tables.proofs.JoinQueries.{named_text, named_query}

pub named_is : (command_of (understood book_schema named_text) ≡ Select (record {
  lets = [];
  body = named_query;
}) (codes "changed" ∷ codes "card" ∷ []))
    × (reads_listing book_schema named_text ≡ false) × IsPlain (understood book_schema named_text)
unfolding understood everything
named_is = (refl, refl, (refl, refl))

pub named_selects : IsSelectText named_text
unfolding first everything
named_selects = refl
