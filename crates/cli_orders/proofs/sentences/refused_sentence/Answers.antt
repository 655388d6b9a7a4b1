use Rattle.std.proofs.Common.{◌≡◌, ◌∙◌, ℕ, List, IfOk, string_bytes, refl, subst}
use Rattle.book_model.specs.declared.refusal.Refusal.{Refusal}
use Rattle.book_model.specs.declared.refusal.Refusal.TheVariants.{BadCard, BadImport}
use Rattle.cli_orders.specs.Sentences.{about, refused_sentence}
use Rattle.cli_orders.specs.StopWords.{refusal_advice, refusal_words}
use Rattle.cli_orders.specs.declared.advice.Advice.{Advice}
use Rattle.cli_orders.specs.declared.found_cause.FoundCause.{FoundCause}
use Rattle.cli_orders.specs.declared.order_names.OrderNames.{OrderNames}
use Rattle.vcard_lines.specs.declared.fault.CardFault.{CardFault}
use Rattle.cli_orders.proofs.sentences.refused_sentence.Goals as goal

-- every other refusal has its words
other_refusal : (names : OrderNames) (refusal : Refusal) (cause : FoundCause)
    → ((fault : CardFault) → refusal ≡ BadCard fault → ⊥)
    → ((row number : ℕ) → refusal ≡ BadImport row number → ⊥)
    → about names.file (refusal_words refusal) (refusal_advice refusal) ≡ refused_sentence names
    refusal cause
other_refusal names (BadCard fault) cause no_card no_import = absurd (no_card fault refl)
other_refusal names (BadImport row number) cause no_card no_import =
    absurd (no_import row number refl)
other_refusal names refusal cause no_card no_import = refl

same_about : (f f' w w' : List ℕ) (a a' : Advice) → f ≡ f' → w ≡ w' → a ≡ a'
    → about f w a ≡ about f' w' a'
same_about f f' w w' a a' p q r = cc

pub returns-in_default : goal.returns-in_default
returns-in_default c = subst (λ said. IfOk c.about.result (λ text. string_bytes text ≡ said))
    (same_about _ _ _ _ _ _ c.as_str-in_default.ensures c.refusal_words-words.ensures
    c.refusal_advice.ensures
    ∙ other_refusal c.args.names.now c.args.refusal c.args.cause c.in_default.not-BadCard
    c.in_default.not-BadImport) c.about.ensures
