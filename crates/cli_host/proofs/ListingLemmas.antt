-- The line of a book, and what is left of the output where the books aren't listed.
use Rattle.std.proofs.Common.{◌≡◌, ◌++◌, ◌∷◌, [], ℕ, List, Option, append_assoc, codes}
use Rattle.cli_host.specs.Listings.{StopsListing}
use Rattle.cli_orders.specs.ReplyTexts.{KeepsOutput}
use Rattle.cli_host.specs.declared.listing.Listing.{Listing}
use Rattle.cli_orders.specs.declared.stop.Stop.{Stop}
use Rattle.cli_orders.specs.declared.stop.Stop.TheVariants.{Refused, Fault, Open, Serve, Device}
use Rattle.sync_core.specs.StoreModels.{StoreModel}

-- the parts of a book's line, with its end apart as `format` has it
pub end_apart : (name id cards number horizon keep : List ℕ)
    → (name ++ (codes " id " ++ (id ++ (codes " cards "
    ++ (cards ++ (codes " number " ++ (number
    ++ (codes " horizon " ++ (horizon ++ (codes " keep " ++ keep)))))))))) ++ 10 ∷ []
    ≡ name ++ (codes " id " ++ (id ++ (codes " cards "
    ++ (cards ++ (codes " number " ++ (number
    ++ (codes " horizon " ++ (horizon ++ (codes " keep " ++ (keep ++ 10 ∷ []))))))))))
end_apart name id cards number horizon keep = simp append_assoc

module _ {S : Type 0} (model : StoreModel S) where
  pub listing_stop_leaves : (what : Listing) (old new : S) (stop : Stop) (before after :
      Option (List ℕ)) → StopsListing model what old stop before after new
      → KeepsOutput stop before after
  listing_stop_leaves what old new (Refused refusal) before after s = s.stop_is.1
  listing_stop_leaves what old new (Fault fault) before after s = s.stop_is.1
  listing_stop_leaves what old new (Open fault) before after s = absurd s.stop_is
  listing_stop_leaves what old new (Serve fault) before after s = absurd s.stop_is
  listing_stop_leaves what old new Device before after s = tt
