use Rattle.std.proofs.Common.{◌≡◌, List, ℕ, Option, length, codes, slice_get, [], add-one, sym, ap}
use Rattle.std.proofs.Common.{◌∙◌, arith}
use Rattle.std.specs.Option.{option_map_or}
use Rattle.vcard_lines.specs.declared.line.Line.{Line}
use Rattle.vcard_text.specs.Cards.{line_is_named}
use Rattle.vcard_text.proofs.PlaceLemmas.{found_there, found_nowhere, none_more}
use Rattle.vcard_text.proofs.card.uid_index.Goals as goal

-- the value of the line that was found, if one was
value_of : Option Line → List ℕ
value_of found = option_map_or (λ line. line.value) found []

pub returns-then-line_is_named : goal.returns-then-line_is_named
unfolding value_of
returns-then-line_is_named c =
    ap value_of (sym (found_there (line_is_named (codes "UID")) c.args.lines.now c.loop-place.place
    c.index-lines-place.result
    c.loop-place.invariant c.loop-place-test.true c.index-lines-place.is
    (sym c.line_is_named.ensures ∙ c.if-line_is_named.true)))

pub loop-place-preserved : goal.loop-place-preserved
loop-place-preserved c =
    rw add-one (none_more (line_is_named (codes "UID")) c.args.lines.now c.loop-place.place
    c.index-lines-place.result
    c.loop-place.invariant c.loop-place-test.true c.index-lines-place.is
    (sym c.line_is_named.ensures ∙ c.if-line_is_named.false))

pub returns : goal.returns
unfolding value_of
returns c =
    let lines = c.args.lines.now in
    let end : c.loop-place.place ≡ length lines = omega arith in
    ap (λ place. value_of (slice_get lines place)) (sym end)
    ∙ ap value_of (sym (found_nowhere (line_is_named (codes "UID")) lines c.loop-place.place
    c.loop-place.invariant c.loop-place-test.false))
