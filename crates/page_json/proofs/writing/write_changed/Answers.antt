use Rattle.page_json.proofs.TokenLemmas.{more_then, one_more}
use Rattle.page_json.proofs.writing.write_changed.Goals as goal

pub returns : goal.returns
returns c =
    let begun = one_more _ _ _ c.in_ok-begin_object.ensures.ok
    c.in_ok-begin_object.ensures.room.0 in
    let ended = one_more _ _ _ c.in_ok-end_object.ensures.ok c.in_ok-end_object.ensures.room.0 in
    more_then _ _ _ _ _ begun
    (more_then _ _ _ _ _ c.in_ok-write_text.ensures
    (more_then _ _ _ _ _ c.in_ok-write_number.ensures
    (more_then _ _ _ _ _ c.in_ok-write_text-2.ensures
    (more_then _ _ _ _ _ c.in_ok-write_number-2.ensures ended))))
