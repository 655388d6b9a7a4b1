-- Equality of devices, as `==` decides it.
use Rattle.std.specs.Prelude.{Bool, bytes_eq}
use Rattle.std.specs.Cmp.{IsEquivalence, on_equiv, and_equiv}
use Rattle.std.specs.Cmp.Lexicographic.{pointwise, lists_equiv, options_equiv, nat_list_eq_equiv}
use Rattle.std.specs.FinMap as finite
use Rattle.std.specs.Option.{option_eq}
use Rattle.std.specs.Ordering.{on, eq_of_both}
use Rattle.base_types.specs.TextMaps.{same_entry}
use Rattle.book_model.specs.contracts.answers.StoredPartialEq.TheImpl as stored
use Rattle.book_model.specs.contracts.answers.StoredEq.TheImpl.Laws as stored_laws
use Rattle.book_model.specs.contracts.token.TokenPartialEq.TheImpl as token
use Rattle.book_model.specs.contracts.token.TokenEq.TheImpl.Laws as token_laws
use Rattle.book_model.specs.Books.{LiveCards}
use Rattle.book_model.specs.Devices.{DeviceState}

-- the same UIDs, and under each the same version and card
abbrev pub same_copy : LiveCards → LiveCards → Bool
same_copy a b = pointwise (same_entry (stored.ghosts).eq) (finite.entries a) (finite.entries b)

-- the same book, copy and token
abbrev pub same_device : DeviceState → DeviceState → Bool
same_device =
    eq_of_both (on (λ h. h.book) bytes_eq)
    (eq_of_both (on (λ h. h.copy) same_copy)
    (on (λ h. h.token) (option_eq (token.ghosts).eq)))

-- equality is an equivalence
pub same_device_laws : IsEquivalence same_device
same_device_laws =
    and_equiv (on_equiv (λ h. h.book) nat_list_eq_equiv)
    (and_equiv
    (on_equiv (λ h. h.copy) (on_equiv finite.entries (lists_equiv (and_equiv
    (on_equiv (λ e. e.0) nat_list_eq_equiv) (on_equiv (λ e. e.1) stored_laws.laws-law)))))
    (on_equiv (λ h. h.token) (options_equiv token_laws.laws-law)))
