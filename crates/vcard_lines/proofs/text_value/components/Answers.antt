use Rattle.std.proofs.Common.{◌≡◌, [], ◌∷◌, ◌++◌, fold, map, length, chars, ap, sym, ◌∙◌}
use Rattle.std.proofs.Common.{string_bytes}
use Rattle.std.specs.Prelude.{false}
use Rattle.std.proofs.lemmas.Str.{Chars-Drains, encodes-chars}
use Rattle.std.proofs.lemmas.List.{length-map, map-append}
use Rattle.vcard_lines.specs.internal.UnescapeLoop.{unescape_state, split_state, split_char}
use Rattle.vcard_lines.specs.internal.UnescapeLoop.{finished_parts}
use Rattle.vcard_lines.proofs.TextValueLemmas.{cuts_all, components_counted}
use Rattle.vcard_lines.proofs.text_value.components.Goals as goal

pub returns-clause-components : goal.returns-clause-components
returns-clause-components c =
    let all : c.loop-c.yielded ≡ chars c.args.value.now =
    Chars-Drains (chars c.args.value.now) c.loop-c.yielded c.into_iter-c-iterator.result
    (encodes-chars c.args.value.now c.utf8.value ∙ sym c.chars-c-items.ensures.rest
    ∙ ap (λ s. s.rest.now) (sym c.into_iter-c-iterator.ensures.into_iter_gives))
    (c.next.new.self, (c.loop-c.c-iterator, c.loop-c.yielded_by, c.in-None.ensures.steps)) in
    ap (map string_bytes) c.in_ok-push.ensures.items
    ∙ map-append string_bytes c.loop-c.parts.items (c.end_text.new.text ∷ [])
    ∙ ap (λ last. map string_bytes c.loop-c.parts.items ++ last ∷ []) c.in_ok-end_text.ensures
    ∙ ap finished_parts (c.loop-c.invariant.so_far
    ∙ ap (fold split_char (split_state [] (unescape_state [] false))) all)
    ∙ cuts_all c.args.value.now

pub returns-clause-count : goal.returns-clause-count
returns-clause-count c = sym (length-map c.push.new.self.items string_bytes)
    ∙ ap length (returns-clause-components c) ∙ components_counted c.args.value.now
