-- Codes of devices, which distinguish the values of models.
use Rattle.std.specs.Prelude.{ℕ, List, Option, refl}
use Rattle.std.specs.FinMap as finite
use Rattle.std.specs.Coded.{Coded, code_by, coded×, coded_ℕ, coded_list, coded_option}
use Rattle.base_types.specs.TextMaps.{coded_text}
use Rattle.vcard_lines.specs.declared.line.Line.{Line}
use Rattle.book_model.specs.declared.answers.Stored.{Stored}
use Rattle.book_model.specs.declared.token.Token.{Token}
use Rattle.book_model.specs.internal.BookCodes.{coded_line}
use Rattle.book_model.specs.Devices.{DeviceState}
use Rattle.book_model.specs.Books.{LiveCards}

abbrev pub coded_stored : Coded Stored
coded_stored = code_by (ℕ × List Line) (coded× coded_ℕ (coded_list coded_line))
    (λ s. (s.version, s.card)) (λ p. record { version = p.0; card = p.1 }) (λ _. refl)

abbrev pub coded_token : Coded Token
coded_token =
    code_by (ℕ × (ℕ × ℕ)) (coded× coded_ℕ (coded× coded_ℕ coded_ℕ))
    (λ t. (t.book, (t.mark.at, t.mark.base)))
    (λ p. record { book = p.0; mark = record { at = p.1.0; base = p.1.1 } }) (λ _. refl)

abbrev pub coded_device : Coded DeviceState
coded_device =
    code_by (List ℕ × (LiveCards × Option Token))
    (coded× coded_text (coded× (finite.code coded_text coded_stored)
    (coded_option coded_token)))
    (λ h. (h.book, (h.copy, h.token))) (λ p. record { book = p.0; copy = p.1.0; token = p.1.1 })
    (λ _. refl)
