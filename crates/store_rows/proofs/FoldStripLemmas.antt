-- A text is compared with a folded line piece by piece.
use Rattle.std.proofs.Common.{◌≡◌, ◌<◌, ◌≤◌, ◌-◌, ◌+◌, ℕ, List, [], ◌∷◌, ◌++◌, length, fold}
use Rattle.std.proofs.Common.{IsAscii, false, Option, Some, None, Bor, refl, sym, ap, subst, ◌∙◌}
use Rattle.std.proofs.Common.{append_assoc, append-nil, arith}
use Rattle.std.specs.Option.{is_some}
use Rattle.std.specs.Str.{IsUtf8, chars}
use Rattle.std.proofs.lemmas.List.{length-append, nil_from_length}
use Rattle.std.proofs.lemmas.List.Sums.{fold-append}
use Rattle.std.proofs.lemmas.Str.{IsUtf8-append, IsUtf8-from_ascii, chars-append, encodes-chars}
use Rattle.std.proofs.lemmas.Str.Ascii.{IsAscii-cons, IsAscii-nil}
use Rattle.base_types.specs.Octets.{carriage_return, colon, line_feed}
use Rattle.vcard_lines.specs.declared.line.Line.{Line}
use Rattle.vcard_lines.specs.Folding.{folded_text}
use Rattle.vcard_lines.specs.Grammar.{line_text}
use Rattle.vcard_lines.specs.internal.FoldingLoop.{append_folded, fold_char, fold_state}
use Rattle.vcard_lines.proofs.CountLemmas.{cut_after, fits, fits_from, fits_whole, folded_after}
use Rattle.vcard_lines.proofs.FoldingLoopLemmas.{fold-front}
use Rattle.store_rows.specs.internal.Stripping.{Strips, end_text, folded_rest, piece_text}
use Rattle.store_rows.specs.internal.Stripping.{plain_text}
use Rattle.store_rows.proofs.StripLemmas.{fails_first, then_strips}

fold_from : (before rest : List ℕ) (room : ℕ) → append_folded before room rest ≡ before
    ++ folded_rest room rest
fold_from before rest room =
    ap (λ b. (fold fold_char (fold_state b room) (chars rest)).octets ++ carriage_return ∷ line_feed
    ∷ []) (sym (append-nil before))
    ∙ ap (λ os. os ++ carriage_return ∷ line_feed ∷ []) (fold-front (chars rest) before [] room)
    ∙ append_assoc before (fold fold_char (fold_state [] room) (chars rest)).octets
    (carriage_return ∷ line_feed ∷ [])

-- a piece that fills the physical line
pub cut_rest : (piece tail : List ℕ) (room : ℕ) → IsAscii piece → IsAscii tail → length piece ≡ room
    → 0 < length tail → folded_rest room (piece ++ tail) ≡ piece_text piece ++ folded_rest 74 tail
cut_rest piece tail room a b filled some =
    ap (λ s. s.octets ++ carriage_return ∷ line_feed ∷ []) (cut_after [] piece tail room
    (IsUtf8-from_ascii piece a) (IsUtf8-from_ascii tail b) filled some)
    ∙ fold_from (piece_text piece) tail 74

pub last_rest : (rest : List ℕ) (room : ℕ) → IsAscii rest → length rest ≤ room
    → folded_rest room rest ≡ end_text rest
last_rest rest room a short = fits_from [] rest room (IsUtf8-from_ascii rest a) short

-- ---- a line of a name and a value

plain_front : (head value : List ℕ) → IsUtf8 head → length head ≤ 75
    → append_folded [] 75 (head ++ value) ≡ head ++ folded_rest (75 - length head) value
plain_front head value u short =
    let same = encodes-chars head u in
    let octets : (fold fold_char (fold_state [] 75) (chars head)).octets ≡ head =
    fits_whole (chars head) (fold_state [] 75) (omega (arith, ap length same, short)) ∙ same in
    let room : (fold fold_char (fold_state [] 75) (chars head)).room ≡ 75 - length head =
    omega (
      arith,
      (fits (chars head) (fold_state [] 75) (omega (
        arith,
        ap length same,
        short,
      ))).room_is,
      ap length same,
    ) in
    let state : fold fold_char (fold_state [] 75) (chars head)
    ≡ fold_state head (75 - length head) = λ i. record { octets = octets i; room = room i } in
    ap (λ cs. (fold fold_char (fold_state [] 75) cs).octets ++ carriage_return ∷ line_feed ∷ [])
    (chars-append head value u)
    ∙ ap (λ s. s.octets ++ carriage_return ∷ line_feed ∷ [])
    (fold-append fold_char (fold_state [] 75) (chars head) (chars value)
    ∙ ap (λ s. fold fold_char s (chars value)) state)
    ∙ fold_from head value (75 - length head)

no_value : {A : Type 0} (o : Option A) → is_some o ≡ false → o ≡ None
no_value None is = refl
no_value (Some x) is = cc

pub plain_line : (line : Line) → IsUtf8 line.name → is_some line.group ≡ false
    → length line.params ≡ 0 → length line.name < 74 → folded_text (line_text line)
    ≡ plain_text line.name line.value
plain_line line name no_group no_params short =
    let head = line.name ++ colon ∷ [] in
    let text_is : line_text line ≡ line.name ++ colon ∷ line.value =
    rw (no_value line.group no_group, nil_from_length line.params no_params) refl in
    let one_colon = IsUtf8-from_ascii (colon ∷ []) (IsAscii-cons colon [] (omega arith)
    IsAscii-nil) in
    let size : length head ≡ length line.name + 1 = length-append line.name (colon ∷ []) in
    ap folded_text (text_is ∙ sym (append_assoc line.name (colon ∷ []) line.value))
    ∙ sym (folded_after [] (head ++ line.value))
    ∙ plain_front head line.value (IsUtf8-append line.name (colon ∷ []) name one_colon)
    (omega (arith, size, short))
    ∙ ap (λ n. head ++ folded_rest n line.value) (omega (arith, size, short))
    ∙ append_assoc line.name (colon ∷ []) (folded_rest (74 - length line.name) line.value)

-- ---- the loop over the pieces

-- what is stripped from what is left is stripped from the whole text
abbrev pub StripsOn : List ℕ → List ℕ → List ℕ → List ℕ → Type 0
StripsOn text whole rest left = (r : Option (Bor (List ℕ))) → Strips rest left r
    → Strips text whole r

pub one_piece_more : (text whole rest piece tail given : List ℕ) (room : ℕ) (x : Bor (List ℕ))
    → StripsOn text whole rest (folded_rest room given) → given ≡ piece ++ tail → IsAscii piece
    → IsAscii tail → length piece ≡ room → 0 < length tail
    → rest ≡ piece_text piece ++ x.now → StripsOn text whole x.now (folded_rest 74 tail)
one_piece_more text whole rest piece tail given room x on split a b filled some is r strips =
    on r (subst (λ part. Strips rest part r) (sym (ap (folded_rest room) split
    ∙ cut_rest piece tail room a b filled some)) (then_strips rest (piece_text piece)
    (folded_rest 74 tail) x.now r is strips))

pub no_such_piece : (text whole rest piece tail given : List ℕ) (room : ℕ)
    → StripsOn text whole rest (folded_rest room given) → given ≡ piece ++ tail → IsAscii piece
    → IsAscii tail → length piece ≡ room → 0 < length tail
    → Strips rest (piece_text piece) None → Strips text whole None
no_such_piece text whole rest piece tail given room on split a b filled some none =
    on None (subst (λ part. Strips rest part None) (sym (ap (folded_rest room) split
    ∙ cut_rest piece tail room a b filled some)) (fails_first rest (piece_text piece)
    (folded_rest 74 tail) none))

pub last_piece : (text whole rest left : List ℕ) (room : ℕ) (r : Option (Bor (List ℕ)))
    → StripsOn text whole rest (folded_rest room left) → IsAscii left → length left ≤ room
    → Strips rest (end_text left) r → Strips text whole r
last_piece text whole rest left room r on a short strips =
    on r (subst (λ part. Strips rest part r) (sym (last_rest left room a short)) strips)
