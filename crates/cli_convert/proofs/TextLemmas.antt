-- The text of a file, from its octets to what is converted.
use Rattle.std.proofs.Common.{◌≡◌, ◌++◌, ◌∷◌, ◌∙◌, [], ℕ, Bool, List, Option, Some, None, IsTrue}
use Rattle.std.proofs.Common.{IfSome, refl, sym, ap, subst, subst₂, take, drop, append_assoc}
use Rattle.std.proofs.lemmas.List.{take-append-drop}
use Rattle.std.specs.Fmt.{option_append}
use Rattle.import_text.specs.Texts.{text_octets}
use Rattle.card_conversion.specs.Courses.{Part, of_pieces}
use Rattle.card_conversion.specs.Cuts.{AreCutOff}
use Rattle.card_conversion.specs.Fates.{Entry, octets_of, pieces_of}
use Rattle.card_conversion.specs.LineEnds.{with_line_feeds}
use Rattle.cli_convert.specs.FileTexts.{ArePartsOf, IsPartOf, file_text, is_card_head, is_card_text}
use Rattle.cli_convert.specs.FileTexts.{known_text, shown_mark}
use Rattle.cli_convert.specs.Readers.{ReadsHead}
use Rattle.cli_convert.specs.Sources.{GivesText}
use Rattle.cli_convert.specs.declared.charset_reader.Encoding.{Encoding}
use Rattle.cli_convert.specs.declared.charset_reader.Encoding.TheVariants.{Found}
use Rattle.cli_convert.specs.declared.content.Content.{Content}
use Rattle.cli_convert.specs.declared.content.Content.TheVariants.{Cards, Contacts, Export}
use Rattle.cli_convert.specs.declared.content.Content.TheVariants.{Foreign, OtherRows}
use Rattle.contact_columns.specs.declared.header.Header.{Header}

-- a text that is read through a mark and the file's first octets
pub text_is : (left given rest : Option (List ℕ)) (front : List ℕ)
    → IfSome given (λ octets. left ≡ Some (text_octets octets))
    → given ≡ option_append (Some front) rest
    → IfSome rest (λ more. left ≡ Some (text_octets (front ++ more)))
text_is left given None front reads is = tt
text_is left given (Some more) front reads is =
    subst (λ octets. IfSome octets (λ all. left ≡ Some (text_octets all))) is reads

-- the text of a file of which the first octets were read
whole_text : (octets rest : List ℕ) (front : List ℕ) (left : Option (List ℕ))
    → front ≡ take 64 octets → rest ≡ drop 64 octets
    → left ≡ Some (text_octets ((shown_mark front ++ front) ++ rest))
    → left ≡ Some (file_text octets)
whole_text octets rest front left first then is =
    is ∙ ap (λ xs. Some (text_octets ((shown_mark xs ++ xs) ++ rest))) first
    ∙ ap (λ xs. Some (text_octets ((shown_mark (take 64 octets) ++ take 64 octets) ++ xs))) then
    ∙ ap (λ xs. Some (text_octets xs)) (append_assoc (shown_mark (take 64 octets))
    (take 64 octets) (drop 64 octets))
    ∙ ap (λ xs. Some (text_octets (shown_mark (take 64 octets) ++ xs)))
    (take-append-drop 64 octets)

pub file_known : {C Found : Type 0} (charset : Option C) (octets rest left : Option (List ℕ))
    (front : List ℕ) → (charset ≡ None → Found) → ReadsHead 64 octets rest front
    → (Found → IfSome rest (λ more. left
    ≡ Some (text_octets ((shown_mark front ++ front) ++ more))))
    → IfSome (known_text charset octets) (λ text. left ≡ Some text)
file_known (Some charset) octets rest left front found head reads = tt
file_known None None rest left front found head reads = tt
file_known None (Some octets) rest left front found head reads =
    whole_text octets (drop 64 octets) front left head.0 refl
    (subst (λ xs. IfSome xs (λ more. left
    ≡ Some (text_octets ((shown_mark front ++ front) ++ more)))) head.1
    (reads (found refl)))

-- the same, if the first octets were read through a slice of them
pub file_seen : {C Found : Type 0} (charset : Option C) (octets rest left : Option (List ℕ))
    (front seen : List ℕ) → seen ≡ front → (charset ≡ None → Found) → ReadsHead 64 octets rest front
    → (Found → IfSome rest (λ more. left ≡ Some (text_octets ((shown_mark seen ++ seen) ++ more))))
    → IfSome (known_text charset octets) (λ text. left ≡ Some text)
file_seen charset octets rest left front seen is found head reads =
    file_known charset octets rest left front found head
    (λ known. subst (λ xs. IfSome rest (λ more. left
    ≡ Some (text_octets ((shown_mark xs ++ xs) ++ more)))) is (reads known))

-- what is read of a text once its head is known
pub gives_text : (content dated : Content) (whole rest left : Option (List ℕ))
    (above head : List ℕ) → ReadsHead 1048576 whole rest head
    → (IsTrue (is_card_head head) → content ≡ Cards) → (content ≡ Cards → dated ≡ Cards)
    → (dated ≡ Cards → above ≡ [])
    → (dated ≡ Cards → IfSome rest (λ more. (returns : Bool)
    × (left ≡ Some (with_line_feeds returns ((above ++ head) ++ more)))))
    → GivesText dated left whole
gives_text content dated None rest left above head reads cards date none ends = tt
gives_text content dated (Some text) rest left above head reads cards date none ends = λ is.
    let taken : dated ≡ Cards =
    date (cards (subst (λ xs. IsTrue (is_card_head xs)) (sym reads.0) is)) in
    let given : IfSome (Some (drop 1048576 text)) (λ more. (returns : Bool)
    × (left ≡ Some (with_line_feeds returns ((above ++ head) ++ more)))) =
    subst (λ xs. IfSome xs (λ more. (returns : Bool)
    × (left ≡ Some (with_line_feeds returns ((above ++ head) ++ more))))) reads.1
    (ends taken) in
    let same : (above ++ head) ++ drop 1048576 text ≡ text =
    ap (λ xs. (xs ++ head) ++ drop 1048576 text) (none taken)
    ∙ ap (λ xs. xs ++ drop 1048576 text) reads.0 ∙ take-append-drop 1048576 text in
    (taken, (given.0, given.1 ∙ ap (λ xs. Some (with_line_feeds given.0 xs)) same))

-- the same, if it is read through slices of what stands above it and of its head
pub gives_seen : (content dated : Content) (whole rest left : Option (List ℕ))
    (above head above-seen head-seen : List ℕ) → above-seen ≡ above → head-seen ≡ head
    → ReadsHead 1048576 whole rest head
    → (IsTrue (is_card_head head) → content ≡ Cards) → (content ≡ Cards → dated ≡ Cards)
    → (dated ≡ Cards → above ≡ [])
    → (dated ≡ Cards → IfSome rest (λ more. (returns : Bool)
    × (left ≡ Some (with_line_feeds returns ((above-seen ++ head-seen) ++ more)))))
    → GivesText dated left whole
gives_seen content dated whole rest left above head above-seen head-seen up is reads cards date none
    ends =
    gives_text content dated whole rest left above head reads cards date none
    (λ taken. subst₂ (λ xs ys. IfSome rest (λ more. (returns : Bool)
    × (left ≡ Some (with_line_feeds returns ((xs ++ ys) ++ more))))) up is (ends taken))

-- a text that is known to a reader gives what is known of the file's
pub gives_known : (content : Content) (left whole known : Option (List ℕ))
    → GivesText content left whole → IfSome known (λ text. whole ≡ Some text)
    → GivesText content left known
gives_known content left whole None gives same = tt
gives_known content left whole (Some text) gives same = subst (GivesText content left) same gives

-- cards were converted whole
pub cards_converted : (content : Content) (left whole : Option (List ℕ)) (entries : List Entry)
    → IfSome left (λ octets. octets ≡ octets_of entries)
    → IfSome left (λ octets. AreCutOff octets (pieces_of entries) [])
    → GivesText content left whole → IfSome whole (λ text. IsPartOf text (of_pieces entries))
cards_converted content left None entries all cut gives = tt
cards_converted content left (Some text) entries all cut gives = λ is. (
  (gives is).1.0,
  (
    subst (λ xs. IfSome xs (λ octets. octets ≡ octets_of entries)) (gives is).1.1 all,
    subst (λ xs. IfSome xs (λ octets. AreCutOff octets (pieces_of entries) [])) (gives is).1.1 cut,
  ),
)

-- of any other text nothing is said
pub others_converted : (content : Content) (left whole : Option (List ℕ)) (part : Part)
    → (content ≡ Cards → ⊥) → GivesText content left whole
    → IfSome whole (λ text. IsPartOf text part)
others_converted content left None part other gives = tt
others_converted content left (Some text) part other gives = λ is. absurd (other (gives is).0)

abbrev not_cards : Content → Type 0
not_cards Cards = ⊥
not_cards Export = Unit {0}
not_cards (Contacts header) = Unit {0}
not_cards OtherRows = Unit {0}
not_cards (Foreign words) = Unit {0}

pub export_aside : (content : Content) (left whole : Option (List ℕ)) (part : Part)
    → content ≡ Export → GivesText content left whole → IfSome whole (λ text. IsPartOf text part)
export_aside content left whole part is gives =
    others_converted content left whole part (λ e. subst not_cards (sym is ∙ e) tt) gives

pub contacts_aside : (content : Content) (header : Header) (left whole : Option (List ℕ))
    (part : Part) → content ≡ Contacts header → GivesText content left whole
    → IfSome whole (λ text. IsPartOf text part)
contacts_aside content header left whole part is gives =
    others_converted content left whole part (λ e. subst not_cards (sym is ∙ e) tt) gives

-- one more file
pub parts_more : (texts : List (Option (List ℕ))) (parts : List Part) (text : Option (List ℕ))
    (part : Part) → ArePartsOf texts parts → IfSome text (λ known. IsPartOf known part)
    → ArePartsOf (texts ++ text ∷ []) (parts ++ part ∷ [])
parts_more [] [] text part are is = (is, tt)
parts_more [] (p ∷ parts) text part are is = absurd are
parts_more (t ∷ texts) [] text part are is = absurd are
parts_more (t ∷ texts) (p ∷ parts) text part are is =
    (are.0, parts_more texts parts text part are.1 is)

-- what is known of the first text may be less
pub parts_known : (texts : List (Option (List ℕ))) (parts : List Part)
    (whole known : Option (List ℕ)) → IfSome known (λ text. whole ≡ Some text)
    → ArePartsOf (whole ∷ texts) parts → ArePartsOf (known ∷ texts) parts
parts_known texts [] whole known same are = absurd are
parts_known texts (p ∷ parts) whole None same are = (tt, are.1)
parts_known texts (p ∷ parts) whole (Some text) same are =
    (subst (λ xs. IfSome xs (λ known. IsPartOf known p)) same are.0, are.1)

-- what one more file gives, from its opening on
pub next_gives : {C : Type 0} (charset : Option C) (encoding : Encoding)
    (octets rest text after left : Option (List ℕ))
    (front above head front-seen above-seen head-seen : List ℕ) (content dated : Content)
    → front-seen ≡ front → above-seen ≡ above → head-seen ≡ head
    → (charset ≡ None → encoding ≡ Found) → ReadsHead 64 octets rest front
    → (encoding ≡ Found → IfSome rest (λ more. text
    ≡ Some (text_octets ((shown_mark front-seen ++ front-seen) ++ more))))
    → ReadsHead 1048576 text after head → (IsTrue (is_card_head head) → content ≡ Cards)
    → (content ≡ Cards → dated ≡ Cards) → (dated ≡ Cards → above ≡ [])
    → (dated ≡ Cards → IfSome after (λ more. (returns : Bool)
    × (left ≡ Some (with_line_feeds returns ((above-seen ++ head-seen) ++ more)))))
    → GivesText dated left (known_text charset octets)
next_gives charset encoding octets rest text after left front above head front-seen above-seen
    head-seen content dated at up is found opens reads begins cards date none ends =
    gives_known dated left text (known_text charset octets)
    (gives_seen content dated text after left above head above-seen head-seen up is begins cards
    date none ends)
    (file_seen charset octets rest text front front-seen at found opens reads)
