-- The result of parsing a card's text that is denied.
use Rattle.std.proofs.Common.{◌≡◌, ◌≢◌, ◌⊎◌, ℕ, Bool, true, false, List, Result, Ok, Err, bytes_eq}
use Rattle.std.proofs.Common.{refl, inl, inr, ⊎_elim}
use Rattle.std.proofs.lemmas.Bool.{both_ways}
use Rattle.std.proofs.lemmas.Slice.Eq.{bytes_eq-Decides}
use Rattle.vcard_lines.specs.declared.fault.CardFault.{CardFault}
use Rattle.vcard_lines.specs.declared.fault.CardFault.TheVariants.{TooLong, NotUtf8, BadChar}
use Rattle.vcard_lines.specs.declared.fault.CardFault.TheVariants.{BadLine, NoBegin, BadVersion}
use Rattle.vcard_lines.specs.declared.fault.CardFault.TheVariants.{NoEnd, NoName, NoUid, BadUid}
use Rattle.vcard_lines.specs.declared.fault.CardFault.TheVariants.{Twice, MemberOutsideGroup}
use Rattle.vcard_lines.specs.declared.fault.CardFault.TheVariants.{Memory as NoRoom}
use Rattle.vcard_lines.specs.declared.line.Line.{Line}
use Rattle.vcard_text.specs.Cards.{uid_of}
use Rattle.vcard_text.specs.FirstFaults.{IsFirstFaultOfText}
use Rattle.vcard_text.specs.Spelling.{Spells}
use Rattle.book_model.specs.declared.refusal.Refusal.{Refusal}
use Rattle.book_model.specs.declared.refusal.Refusal.TheVariants.{BadCard, UidMismatch}
use Rattle.book_model.specs.CallOutcomes.{denied_card_fault}
use Rattle.book_service.specs.Texts.{ReadsCard}
use Rattle.book_service.specs.internal.TextParsers.{ParserReturns}

-- every text has a parse result
some_read : ((text : List ℕ) → ((lines : List Line) × Spells text lines)
    ⊎ ((fault : CardFault) × IsFirstFaultOfText text fault)) → (uid text : List ℕ)
    → (read : Result (List Line) Refusal) × ReadsCard uid text read
some_read law uid text = ⊎_elim
    (λ card. by_uid card.0 card.1 (bytes_eq (uid_of card.0) uid) refl)
    (λ bad. (Err (BadCard bad.0), inl (record { fault = bad.0; first = bad.1; refusal_is = refl })))
    (law text)
  where
    by_uid : (card : List Line) → Spells text card → (same : Bool) → bytes_eq (uid_of card) uid
        ≡ same → (read : Result (List Line) Refusal) × ReadsCard uid text read
    by_uid card spelled true is = (Ok card, (spelled, (bytes_eq-Decides (uid_of card) uid).0 is))
    by_uid card spelled false is = (
      Err UidMismatch,
      inr (record {
        card = card;
        spelled = spelled;
        other = λ same. both_ways _ is ((bytes_eq-Decides (uid_of card) uid).1 same);
        refusal_is = refl;
      }),
    )

-- a parser that faults only for lack of memory meets its contract when it faults
module _ (law : (text : List ℕ) → ((lines : List Line) × Spells text lines)
    ⊎ ((fault : CardFault) × IsFirstFaultOfText text fault)) (uid text : List ℕ) where
  bad : (fault : CardFault) → (fault ≢ NoRoom → IsFirstFaultOfText text fault) → fault ≢ NoRoom
      → ReadsCard uid text (Err (BadCard fault))
  bad fault first other = inl (record { fault = fault; first = first other; refusal_is = refl })

  pub denied_for : (fault : CardFault) → (fault ≢ NoRoom → IsFirstFaultOfText text fault)
      → ParserReturns {A = List Line} (ReadsCard uid text) (Err (denied_card_fault fault))
  denied_for TooLong first = bad TooLong first (λ e. cc)
  denied_for NotUtf8 first = bad NotUtf8 first (λ e. cc)
  denied_for BadChar first = bad BadChar first (λ e. cc)
  denied_for BadLine first = bad BadLine first (λ e. cc)
  denied_for NoBegin first = bad NoBegin first (λ e. cc)
  denied_for BadVersion first = bad BadVersion first (λ e. cc)
  denied_for NoEnd first = bad NoEnd first (λ e. cc)
  denied_for NoName first = bad NoName first (λ e. cc)
  denied_for NoUid first = bad NoUid first (λ e. cc)
  denied_for BadUid first = bad BadUid first (λ e. cc)
  denied_for Twice first = bad Twice first (λ e. cc)
  denied_for MemberOutsideGroup first = bad MemberOutsideGroup first (λ e. cc)
  denied_for NoRoom first = (refl, some_read law uid text)
