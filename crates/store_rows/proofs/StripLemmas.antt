-- A text is compared with a card part by part.
use Rattle.std.proofs.Common.{◌≡◌, ◌≢◌, ◌↔◌, ◌<◌, ◌≤◌, ◌+◌, ℕ, suc, List, [], ◌∷◌, ◌++◌, length}
use Rattle.std.proofs.Common.{take, drop, get_or, map, flat_map, Bool, true, false, ◌&&◌, IsTrue}
use Rattle.std.proofs.Common.{nat_lt, IsAscii, Option, Some, None, Bor, refl, sym, ap, subst, ◌∙◌}
use Rattle.std.proofs.Common.{append_assoc, append-nil, add-one, arith}
use Rattle.std.specs.Prelude.{codes}
use Rattle.std.specs.Option.{is_some}
use Rattle.std.specs.Str.{IsUtf8, chars, encode_utf8_all}
use Rattle.std.proofs.Math.Seq.{take-suc, split_at}
use Rattle.std.proofs.lemmas.Bool.{and_parts, ltb-true}
use Rattle.std.proofs.lemmas.List.{append_cancel_left, length-append, map-append, nil_from_length}
use Rattle.std.proofs.lemmas.List.Concat.{flat_map-append}
use Rattle.std.proofs.lemmas.Str.{IsUtf8-append, IsUtf8-from_ascii, chars-encodes}
use Rattle.std.proofs.lemmas.Str.Ascii.{IsAscii-cons, IsAscii-nil}
use Rattle.base_types.specs.Octets.{carriage_return, colon, line_feed}
use Rattle.vcard_lines.specs.declared.line.Line.{Line}
use Rattle.vcard_lines.specs.Grammar.{line_text}
use Rattle.vcard_lines.specs.Folding.{IsFolding, crlf_line, folded_text, physical_lines}
use Rattle.vcard_text.specs.Cards.{canonical_text}
use Rattle.store_rows.specs.internal.Stripping.{Strips, short_text}

-- ---- parts one after the other

-- the text begins with a, and b is stripped from what is left
pub then_strips : (text a b left : List ℕ) (r : Option (Bor (List ℕ))) → text ≡ a ++ left
    → Strips left b r → Strips text (a ++ b) r
then_strips text a b left None is none =
    λ rest e. none rest (append_cancel_left a left (b ++ rest) (sym is ∙ e ∙ append_assoc a b rest))
then_strips text a b left (Some x) is some = is ∙ ap (λ t. a ++ t) some
    ∙ sym (append_assoc a b x.now)

-- the text does not begin with a
pub fails_first : (text a b : List ℕ) → ((rest : List ℕ) → text ≢ a ++ rest) → (rest : List ℕ)
    → text ≢ (a ++ b) ++ rest
fails_first text a b none rest e = none (b ++ rest) (e ∙ append_assoc a b rest)

-- ---- short lines

-- a line has one folding
abbrev pub FoldingIsUnique : Type 0
FoldingIsUnique = (line : List ℕ) (physical : List (List ℕ))
    → IsFolding line physical ↔ (physical ≡ physical_lines line)

chars_encoded : (text : List ℕ) → IsUtf8 text → encode_utf8_all (chars text) ≡ text
chars_encoded text u = ap encode_utf8_all (ap chars (sym u.1.1) ∙ chars-encodes u.0 u.1.0) ∙ u.1.1

folded_short : FoldingIsUnique → (text : List ℕ) → IsUtf8 text → length text ≤ 75
    → folded_text text ≡ text ++ carriage_return ∷ line_feed ∷ []
folded_short unique text utf8 short =
    let folding : IsFolding text (text ∷ []) = record {
      first = chars text;
      further = [];
      whole = sym (append-nil (chars text));
      physical_are = ap (λ t. t ∷ []) (sym (chars_encoded text utf8));
      fit = (short, tt);
      full = tt;
    } in
    ap (flat_map crlf_line) (sym ((unique text (text ∷ [])).0 folding))
    ∙ append-nil (crlf_line text)

no_value : {A : Type 0} (o : Option A) → is_some o ≡ false → o ≡ None
no_value None is = refl
no_value (Some x) is = cc

pub short_line : FoldingIsUnique → (line : Line) → IsUtf8 line.name → IsUtf8 line.value
    → is_some line.group ≡ false → length line.params ≡ 0
    → length line.name + length line.value < 75
    → folded_text (line_text line) ≡ short_text line.name line.value
short_line unique line name value no_group no_params short =
    let text = line.name ++ colon ∷ line.value in
    let text_is : line_text line ≡ text =
    rw (no_value line.group no_group, nil_from_length line.params no_params) refl in
    let one_colon = IsUtf8-from_ascii (colon ∷ []) (IsAscii-cons colon [] (omega arith)
    IsAscii-nil) in
    let utf8 = IsUtf8-append line.name (colon ∷ line.value) name
    (IsUtf8-append (colon ∷ []) line.value one_colon value) in
    ap folded_text text_is
    ∙ folded_short unique text utf8 (omega (
      arith,
      length-append line.name (colon ∷ line.value),
      short,
    ))
    ∙ append_assoc line.name (colon ∷ line.value) (carriage_return ∷ line_feed ∷ [])

-- ---- texts that are written here

abbrev all_ascii : List ℕ → Bool
all_ascii [] = true
all_ascii (b ∷ bs) = nat_lt b 128 && all_ascii bs

ascii_from : (text : List ℕ) → all_ascii text ≡ true → IsAscii text
ascii_from [] is = IsAscii-nil
ascii_from (b ∷ bs) is = let parts = and_parts _ _ is in
    IsAscii-cons b bs (ltb-true b 128 parts.0) (ascii_from bs parts.1)

are_ascii : (text : List ℕ) → all_ascii text ≡ true → IsUtf8 text
are_ascii text is = IsUtf8-from_ascii text (ascii_from text is)

-- ---- lines one after the other

abbrev done : List Line → List ℕ
done lines = flat_map folded_text (map line_text lines)

done-append : (lines more : List Line) → done (lines ++ more) ≡ done lines ++ done more
done-append lines more =
    ap (flat_map folded_text) (map-append line_text lines more)
    ∙ flat_map-append folded_text (map line_text lines) (map line_text more)

pub one_line_more : (lines : List Line) (i : ℕ) (line d : Line) (text rest : List ℕ) (r :
    Option (Bor (List ℕ))) (x : Bor (List ℕ)) → i < length lines → line ≡ get_or lines i d
    → text ≡ done (take i lines) ++ rest
    → Strips rest (folded_text (line_text line)) r → r ≡ Some x → text ≡ done (take (i + 1) lines)
    ++ x.now
one_line_more lines i line d text rest r x within line_is is strips some =
    let more : rest ≡ folded_text (line_text line) ++ x.now =
    subst (Strips rest (folded_text (line_text line))) some strips in
    let taken : take (i + 1) lines ≡ take i lines ++ line ∷ [] = ap (λ n. take n lines) (add-one i)
    ∙ take-suc lines i d within ∙ ap (λ l. take i lines ++ l ∷ []) (sym line_is) in
    let written = ap done taken ∙ done-append (take i lines) (line ∷ [])
    ∙ ap (λ t. done (take i lines) ++ t) (append-nil (folded_text (line_text line))) in
    is ∙ ap (λ t. done (take i lines) ++ t) more
    ∙ sym (append_assoc (done (take i lines)) (folded_text (line_text line)) x.now)
    ∙ ap (λ t. t ++ x.now) (sym written)

pub no_such_lines : (lines : List Line) (i : ℕ) (line d : Line) (text rest : List ℕ) (r :
    Option (Bor (List ℕ))) → i < length lines → line ≡ get_or lines i d → text ≡ done (take i lines)
    ++ rest
    → Strips rest (folded_text (line_text line)) r → r ≡ None → (after : List ℕ)
    → text ≢ done lines ++ after
no_such_lines lines i line d text rest r within line_is is strips fails after e =
    let octets = folded_text (line_text line) in
    let none : Strips rest octets None = subst (Strips rest octets) fails strips in
    let more = done (drop (suc i) lines) in
    let begun = done (take i lines) in
    let split = ap done (split_at lines i d within
    ∙ ap (λ l. take i lines ++ l ∷ drop (suc i) lines) (sym line_is))
    ∙ done-append (take i lines) (line ∷ drop (suc i) lines) in
    none (more ++ after)
    (append_cancel_left begun rest _ (sym is ∙ e ∙ ap (λ t. t ++ after) split
    ∙ append_assoc begun (octets ++ more) after
    ∙ ap (λ t. begun ++ t) (append_assoc octets more after)))

-- ---- a card

abbrev pub head : List ℕ
head = codes "BEGIN:VCARD\r\nVERSION:4.0\r\n"

abbrev pub end : List ℕ
end = codes "END:VCARD\r\n"

pub canonical_parts : FoldingIsUnique → (lines : List Line) → canonical_text lines ≡ head
    ++ (done lines ++ end)
canonical_parts unique lines =
    let begin_is = folded_short unique (codes "BEGIN:VCARD") (are_ascii (codes "BEGIN:VCARD") refl)
    (omega arith) in
    let version_is = folded_short unique (codes "VERSION:4.0") (are_ascii (codes "VERSION:4.0")
    refl) (omega arith) in
    let end_is = folded_short unique (codes "END:VCARD") (are_ascii (codes "END:VCARD") refl)
    (omega arith) in
    ap (λ t. folded_text (codes "BEGIN:VCARD") ++ (folded_text (codes "VERSION:4.0") ++ t))
    (flat_map-append folded_text (map line_text lines) (codes "END:VCARD" ∷ []))
    ∙ ap (λ t. folded_text (codes "BEGIN:VCARD") ++ (folded_text (codes "VERSION:4.0")
    ++ (done lines ++ t))) (append-nil (folded_text (codes "END:VCARD")) ∙ end_is)
    ∙ ap (λ t. t ++ (folded_text (codes "VERSION:4.0") ++ (done lines ++ end))) begin_is
    ∙ ap (λ t. codes "BEGIN:VCARD\r\n" ++ (t ++ (done lines ++ end))) version_is

-- the text does not begin with the lines before those of a card
pub no_head : FoldingIsUnique → (text : List ℕ) (lines : List Line) → Strips text head None
    → Strips text (canonical_text lines) None
no_head unique text lines none =
    subst (λ part. Strips text part None) (sym (canonical_parts unique lines))
    (fails_first text head (done lines ++ end) none)

-- the card's lines do not follow
pub no_lines : FoldingIsUnique → (text rest : List ℕ) (given lines : List Line) (r :
    Option (Bor (List ℕ))) → given ≡ lines → text ≡ head ++ rest → Strips rest (done given) r
    → r ≡ None
    → Strips text (canonical_text lines) None
no_lines unique text rest given lines r same is strips fails =
    let none : Strips rest (done lines) None =
    subst (λ ls. Strips rest (done ls) None) same (subst (Strips rest (done given)) fails
    strips) in
    subst (λ part. Strips text part None) (sym (canonical_parts unique lines))
    (then_strips text head (done lines ++ end) rest None is (fails_first rest (done lines) end
    none))

-- the card's lines follow, and the end is stripped from what is left
pub then_end : FoldingIsUnique → (text rest : List ℕ) (given lines : List Line) (r q :
    Option (Bor (List ℕ))) (x : Bor (List ℕ)) → given ≡ lines → text ≡ head ++ rest
    → Strips rest (done given) r → r ≡ Some x
    → Strips x.now end q → Strips text (canonical_text lines) q
then_end unique text rest given lines r q x same is strips some ends =
    let followed : Strips rest (done lines) (Some x) =
    subst (λ ls. Strips rest (done ls) (Some x)) same (subst (Strips rest (done given)) some
    strips) in
    subst (λ part. Strips text part q) (sym (canonical_parts unique lines))
    (then_strips text head (done lines ++ end) rest q is (then_strips rest (done lines) end x.now q
    followed ends))

-- ---- the whole text

pub not_whole : (given text whole : List ℕ) (r : Option (Bor (List ℕ))) → given ≡ text
    → Strips given whole r → r ≡ None → IsTrue false ↔ (text ≡ whole)
not_whole given text whole r same strips fails =
    let none : Strips given whole None = subst (Strips given whole) fails strips in
    (λ f. cc, λ e. absurd (none [] (same ∙ e ∙ sym (append-nil whole))))
