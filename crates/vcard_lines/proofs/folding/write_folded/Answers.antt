use Rattle.std.proofs.Common.{◌≡◌, List, ℕ, [], ◌∷◌, ◌++◌, take, fold, string_bytes, chars, IsUtf8}
use Rattle.std.proofs.Common.{OnOk, ap, sym, subst, ◌∙◌, arith, rules}
use Rattle.std.proofs.lemmas.List.{take-append-drop}
use Rattle.vcard_lines.specs.internal.FoldingLoop.{fold_char, fold_state}
use Rattle.vcard_lines.proofs.CountLemmas.{cut_after, fits_from, folded_after}
use Rattle.vcard_lines.proofs.folding.write_folded.Goals as goal

pub returns-in_default : goal.returns-in_default
returns-in_default c =
    subst (λ (t : List ℕ). OnOk c.write_line_tail.result (string_bytes c.write_line_tail.new.out
    ≡ t))
    (ap (λ s. s.octets ++ 13 ∷ 10 ∷ []) c.loop-room.invariant.so_far
    ∙ folded_after (string_bytes c.args.out.now) c.args.line.now)
    c.write_line_tail.ensures

pub loop-room-preserved : goal.loop-room-preserved
loop-room-preserved c =
    let piece = c.in-Some.piece.now in
    let tail = c.in-Some.tail.now in
    let u : IsUtf8 piece = search rules in
    let v : IsUtf8 tail = search rules in
    let written = c.in_ok-begin_continuation.ensures
    ∙ ap (λ os. os ++ 13 ∷ 10 ∷ 32 ∷ []) c.in_ok-push_str.ensures.bytes in
    let whole = ap (λ os. os ++ tail) c.in-Some.ensures.front
    ∙ ap (λ os. take c.loop-room.room c.loop-room.rest.now ++ os) c.in-Some.ensures.back
    ∙ take-append-drop c.loop-room.room c.loop-room.rest.now in
    record {
      utf8 = v;
      room = (omega arith, omega arith);
      so_far = ap (λ os. fold fold_char (fold_state os 74) (chars tail)) written
          ∙ sym (cut_after (string_bytes c.loop-room.out) piece tail c.loop-room.room u v
          c.in-Some.ensures.front_len (omega (
            arith,
            c.in-Some.ensures.back_len,
            c.loop-room-test.true,
          )))
          ∙ ap (λ t. fold fold_char (fold_state (string_bytes c.loop-room.out) c.loop-room.room)
          (chars t)) whole
          ∙ c.loop-room.invariant.so_far;
    }

pub returns : goal.returns
returns c =
    c.in_ok-push_str-3.ensures.bytes
    ∙ ap (λ os. os ++ 13 ∷ 10 ∷ []) c.in_ok-push_str-2.ensures.bytes
    ∙ sym (fits_from (string_bytes c.loop-room.out) c.loop-room.rest.now c.loop-room.room
    c.loop-room.invariant.utf8 (omega (arith, c.loop-room-test.false)))
    ∙ ap (λ s. s.octets ++ 13 ∷ 10 ∷ []) c.loop-room.invariant.so_far
    ∙ folded_after (string_bytes c.args.out.now) c.args.line.now
