use Rattle.std.proofs.Common.{ℕ, List, map, string_bytes, sym, subst}
use Rattle.std.specs.List.{Contains}
use Rattle.card_core.specs.internal.TextSets.{GainsText}
use Rattle.card_core.proofs.TextSetLemmas.{has_text, gains_text, gains_again}
use Rattle.card_core.proofs.text_set.TextSet.insert.Goals as goal

pub returns-in_ok-insert : goal.returns-in_ok-insert
returns-in_ok-insert c =
    subst (λ (texts : List (List ℕ)). GainsText texts (map string_bytes c.insert.new.self.keys)
    c.args.text.now) c.self.view_is
    (subst (GainsText (map string_bytes c.self.inside.inner.keys)
    (map string_bytes c.insert.new.self.keys)) c.in_ok-from_str.ensures.ok
    (gains_text c.self.inside.inner c.insert.new.self (string_bytes c.in_ok-from_str.field-0)
    c.in_ok-insert.ensures.updates))

pub returns-else-not-contains : goal.returns-else-not-contains
returns-else-not-contains c =
    gains_again c.args.self.now c.args.text.now
    (subst (λ (texts : List (List ℕ)). Contains texts c.args.text.now) c.self.view_is
    (has_text c.self.inside.inner c.args.text.now (sym c.if-not-contains.ensures)))
