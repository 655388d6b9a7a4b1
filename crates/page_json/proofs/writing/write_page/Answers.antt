use Rattle.std.proofs.Common.{subst, ◌∙◌, ap}
use Rattle.sync_core.specs.TokenTexts.{token_octets}
use Rattle.page_json.specs.internal.WrittenTokens.{HasMoreTokens, entries_tokens}
use Rattle.page_json.proofs.TokenLemmas.{more_then, one_more, page_tokens}
use Rattle.page_json.proofs.writing.write_page.Goals as goal

pub returns-clause-tokens : goal.returns-clause-tokens
returns-clause-tokens c =
    let object_begun = one_more c.args.out.now c.begin_object.new.self _
    c.in_ok-begin_object.ensures.ok c.in_ok-begin_object.ensures.room.0 in
    let members = one_more c.begin_object.new.self c.key.new.self _ c.in_ok-key.ensures.ok
    c.in_ok-key.ensures.room.0 in
    let array_begun = one_more c.key.new.self c.begin_array.new.self _
    c.in_ok-begin_array.ensures.ok c.in_ok-begin_array.ensures.room.0 in
    let entries = subst (λ es. HasMoreTokens c.begin_array.new.self c.write_entries.new.out
    (entries_tokens es)) c.as_slice.ensures c.in_ok-write_entries.ensures.tokens in
    let array_ended = one_more c.write_entries.new.out c.end_array.new.self _
    c.in_ok-end_array.ensures.ok c.in_ok-end_array.ensures.room.0 in
    let truncated = one_more c.write_text.new.out c.key-2.new.self _ c.in_ok-key-2.ensures.ok
    c.in_ok-key-2.ensures.room.0 in
    let value = one_more c.key-2.new.self c.boolean.new.self _ c.in_ok-boolean.ensures.ok
    c.in_ok-boolean.ensures.room.0 in
    let object_ended = one_more c.boolean.new.self c.end_object.new.self _
    c.in_ok-end_object.ensures.ok c.in_ok-end_object.ensures.room.0 in
    subst (HasMoreTokens c.args.out.now c.end_object.new.self)
    (page_tokens c.args.page.now c.as_str.result.now (c.as_str.ensures.value ∙ c.in_ok-token.ensures
    ∙ ap token_octets c.token.ensures))
    (more_then c.args.out.now c.begin_object.new.self c.end_object.new.self _ _ object_begun
    (more_then c.begin_object.new.self c.key.new.self c.end_object.new.self _ _ members
    (more_then c.key.new.self c.begin_array.new.self c.end_object.new.self _ _ array_begun
    (more_then c.begin_array.new.self c.write_entries.new.out c.end_object.new.self _ _ entries
    (more_then c.write_entries.new.out c.end_array.new.self c.end_object.new.self _ _ array_ended
    (more_then c.end_array.new.self c.write_text.new.out c.end_object.new.self _ _
    c.in_ok-write_text.ensures
    (more_then c.write_text.new.out c.key-2.new.self c.end_object.new.self _ _ truncated
    (more_then c.key-2.new.self c.boolean.new.self c.end_object.new.self _ _ value
    object_ended))))))))
