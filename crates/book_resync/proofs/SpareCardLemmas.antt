-- A card that a text can spell, and whose UID isn't live in any book.
use Rattle.std.proofs.Common.{◌≡◌, ◌≢◌, ℕ, zero, suc, ◌+◌, ◌*◌, ◌<◌, ◌≤◌, ◌==◌, ◌||◌, Bool, true}
use Rattle.std.proofs.Common.{false, cond, List, [], ◌∷◌, ◌++◌, map, flat_map, length, codes}
use Rattle.std.proofs.Common.{Option, Some, None, IsUtf8, refl, sym, ap, ◌∙◌, subst, ⊎_elim}
use Rattle.std.proofs.Common.{arith, nat_lt, nat_le}
use Rattle.std.specs.List.{AllByRecursion, list_any, list_all}
use Rattle.std.specs.Str.{chars}
use Rattle.std.specs.FinMap as finite
use Rattle.std.specs.FinMap.Entries.{find}
use Rattle.std.proofs.lemmas.Bool.{cases_Bool, cond-true, cond-false}
use Rattle.std.proofs.lemmas.Bool.Decides.{nat_tests}
use Rattle.std.proofs.lemmas.List.{append-nil, length-append, length-map}
use Rattle.std.proofs.lemmas.Option.{same_Some}
use Rattle.std.proofs.lemmas.Str.{encodes-chars}
use Rattle.base_types.specs.TextMaps.{text_cmp}
use Rattle.base_types.proofs.TextLemmas.{same, same-equal}
use Rattle.vcard_lines.specs.declared.line.Line.{Line}
use Rattle.vcard_lines.specs.Folding.{folded_text, physical_lines}
use Rattle.vcard_lines.specs.Grammar.{AllInClass, is_name_octet, is_permitted}
use Rattle.vcard_lines.proofs.FoldingLemmas.{one_folding}
use Rattle.vcard_lines.proofs.FrontLemmas.{ascii_utf8, of_class}
use Rattle.vcard_text.specs.Cards.{IsCard, IsProperLine, KeepsRules}
use Rattle.vcard_text.specs.Cards.{card_logical_lines, is_uid}
use Rattle.book_model.specs.declared.answers.Stored.{Stored}
use Rattle.book_model.specs.Bounds.{Bounds, IsInRange}
use Rattle.book_model.specs.Books.{Book, live_at}
use Rattle.book_model.specs.BookQueries.{live_cards}
use Rattle.book_model.specs.WellFormed.{IsWellFormedBook}
use Rattle.book_resync.specs.ResyncLaws.{LegalSpareCardsExist}
use Rattle.book_resync.proofs.BookLemmas.{get-live_cards}
use Rattle.book_resync.proofs.EntryLemmas.{each_entry}

-- ---- a word that isn't among some texts

-- none of the texts is this one
abbrev IsNew : List ℕ → List (List ℕ) → Type 0
IsNew text texts = AllByRecursion (λ other. other ≢ text) texts

-- what follows an `a` in the texts that begin with it
after_a : List (List ℕ) → List (List ℕ)
after_a [] = []
after_a ([] ∷ texts) = after_a texts
after_a ((b ∷ bs) ∷ texts) = cond (b == 97) (bs ∷ after_a texts) (after_a texts)

-- and what follows the first octet of the others
after_other : List (List ℕ) → List (List ℕ)
after_other [] = []
after_other ([] ∷ texts) = after_other texts
after_other ((b ∷ bs) ∷ texts) = cond (b == 97) (after_other texts) (bs ∷ after_other texts)

parted : (texts : List (List ℕ)) → length (after_a texts) + length (after_other texts)
    ≤ length texts
unfolding after_a after_other
parted [] = omega arith
parted ([] ∷ texts) = let rest = parted texts in omega (arith, rest)
parted ((b ∷ bs) ∷ texts) = let rest = parted texts in
    elim (b == 97) as (λ c. length (cond c (bs ∷ after_a texts) (after_a texts))
    + length (cond c (after_other texts) (bs ∷ after_other texts))
    ≤ suc (length texts)) [
      | true ↦ omega (arith, rest)
      | false ↦ omega (arith, rest)
    ]

same_rest : (b c : ℕ) (bs cs : List ℕ) → b ∷ bs ≡ c ∷ cs → (b ≡ c) × (bs ≡ cs)
same_rest b c bs cs e = (cc, cc)

new_after_a : (texts : List (List ℕ)) (text : List ℕ) → IsNew text (after_a texts)
    → IsNew (97 ∷ text) texts
unfolding after_a
new_after_a [] text new = tt
new_after_a ([] ∷ texts) text new = ((λ e. cc), new_after_a texts text new)
new_after_a ((b ∷ bs) ∷ texts) text new =
    by (new_after_a texts text) (b == 97) refl new
  where
    by : (IsNew text (after_a texts) → IsNew (97 ∷ text) texts) → (c : Bool) → (b == 97) ≡ c
        → IsNew text (cond c (bs ∷ after_a texts) (after_a texts))
        → IsNew (97 ∷ text) ((b ∷ bs) ∷ texts)
    by others true is new = ((λ e. new.0 (same_rest b 97 bs text e).1), others new.1)
    by others false is new = (
      λ e. let at = (same_rest b 97 bs text e).0 in
          absurd (grind (arith, nat_tests, is, at)),
      others new,
    )

new_after_other : (texts : List (List ℕ)) (text : List ℕ) → IsNew text (after_other texts)
    → IsNew (98 ∷ text) texts
unfolding after_other
new_after_other [] text new = tt
new_after_other ([] ∷ texts) text new = ((λ e. cc), new_after_other texts text new)
new_after_other ((b ∷ bs) ∷ texts) text new =
    by (new_after_other texts text) (b == 97) refl new
  where
    by : (IsNew text (after_other texts) → IsNew (98 ∷ text) texts) → (c : Bool) → (b == 97) ≡ c
        → IsNew text (cond c (after_other texts) (bs ∷ after_other texts))
        → IsNew (98 ∷ text) ((b ∷ bs) ∷ texts)
    by others true is new = (
      λ e. let at = (same_rest b 98 bs text e).0 in
          absurd (grind (arith, nat_tests, is, at)),
      others new,
    )
    by others false is new = ((λ e. new.0 (same_rest b 98 bs text e).1), others new.1)

-- how many words there are of so many letters
words : ℕ → ℕ
words zero = 1
words (suc n) = 2 * words n

-- an `a` or a `b`
abbrev is_letter : ℕ → Bool
is_letter b = b == 97 || b == 98

record IsNewWord (letters : ℕ) (texts : List (List ℕ)) (word : List ℕ) : Type 0 where
  many : length word ≡ letters
  letter : AllInClass is_letter word
  new : IsNew word texts

new_word : (letters : ℕ) (texts : List (List ℕ)) → length texts < words letters
    → (word : List ℕ) × IsNewWord letters texts word
unfolding words
new_word zero [] few = ([], record { many = refl; letter = tt; new = tt })
new_word zero (text ∷ texts) few = absurd (omega (arith, few))
new_word (suc letters) texts few =
    by (new_word letters) (nat_lt (length (after_a texts)) (words letters)) refl
  where
    by : ((texts : List (List ℕ)) → length texts < words letters
        → (word : List ℕ) × IsNewWord letters texts word) → (c : Bool)
        → nat_lt (length (after_a texts)) (words letters) ≡ c
        → (word : List ℕ) × IsNewWord (suc letters) texts word
    by shorter true is =
        let fits : length (after_a texts) < words letters = grind (arith, nat_tests, is) in
        let rest = shorter (after_a texts) fits in (
          97 ∷ rest.0,
          record {
            many = ap (λ n. suc n) rest.1.many;
            letter = (refl, rest.1.letter);
            new = new_after_a texts rest.0 rest.1.new;
          },
        )
    by shorter false is =
        let all = parted texts in
        let fits : length (after_other texts) < words letters =
        grind (arith, nat_tests, is, all, few) in
        let rest = shorter (after_other texts) fits in (
          98 ∷ rest.0,
          record {
            many = ap (λ n. suc n) rest.1.many;
            letter = (refl, rest.1.letter);
            new = new_after_other texts rest.0 rest.1.new;
          },
        )

-- ---- the UIDs of all live cards

abbrev Named : Type 0
Named = List ℕ × Book

abbrev live_uids_of : Named → List (List ℕ)
live_uids_of named = map (λ e. e.0) (finite.entries (live_cards named.1))

abbrev live_uids : List Named → List (List ℕ)
live_uids es = flat_map live_uids_of es

few_live : (limits : Bounds) (book : Book) → IsInRange limits → IsWellFormedBook limits book
    → finite.len (live_cards book) ≤ 1000000000000
few_live limits book range form =
    let counted = form.cards_counted in
    let once = form.counted_once in
    let within = form.within_limit in
    let most = range.changes_most in
    omega (arith, counted, once, within, most)

few_uids : (limits : Bounds) (es : List Named) → IsInRange limits
    → AllByRecursion (λ e. IsWellFormedBook limits e.1) es
    → length (live_uids es) ≤ length es * 1000000000000
few_uids limits [] range form = omega arith
few_uids limits (e ∷ es) range form =
    let here = few_live limits e.1 range form.0 in
    let count = finite.len-entries (live_cards e.1) in
    let mapped = length-map (finite.entries (live_cards e.1)) (λ (s : List ℕ × Stored). s.0) in
    let rest = few_uids limits es range form.1 in
    let both = length-append (live_uids_of e) (live_uids es) in
    omega (arith, here, count, mapped, rest, both)

-- ---- a new UID isn't live

new_front : (text : List ℕ) (some others : List (List ℕ)) → IsNew text (some ++ others)
    → IsNew text some
new_front text [] others new = tt
new_front text (u ∷ some) others new = (new.0, new_front text some others new.1)

new_rest : (text : List ℕ) (some others : List (List ℕ)) → IsNew text (some ++ others)
    → IsNew text others
new_rest text [] others new = new
new_rest text (u ∷ some) others new = new_rest text some others new.1

find-new : (text : List ℕ) (es : List (List ℕ × Stored)) → IsNew text (map (λ e. e.0) es)
    → find text_cmp text es ≡ None
find-new text [] new = refl
find-new text (e ∷ es) new = ⊎_elim
    (λ here. absurd (new.0 (sym (same-equal text e.0 here))))
    (λ other. cond-false _ _ _ other ∙ find-new text es new.1)
    (cases_Bool (same text e.0))

not_live : (text name : List ℕ) (book : Book) (es : List Named) → IsNew text (live_uids es)
    → find text_cmp name es ≡ Some book → live_at book text ≡ None
not_live text name book [] new at = absurd (none_some at)
  where
    none_some : ◌≡◌ {A = Option Book} None (Some book) → ⊥
    none_some e = cc
not_live text name book (e ∷ es) new at = ⊎_elim
    (λ here.
    let own : e.1 ≡ book = same_Some e.1 book (sym (cond-true _ _ _ here) ∙ at) in
    subst (λ (b : Book). live_at b text ≡ None) own
    (sym (get-live_cards e.1 text) ∙ finite.get-entries (live_cards e.1) text
    ∙ find-new text (finite.entries (live_cards e.1))
    (new_front text (live_uids_of e) (live_uids es) new)))
    (λ other. not_live text name book es (new_rest text (live_uids_of e) (live_uids es) new)
    (sym (cond-false _ _ _ other) ∙ at))
    (cases_Bool (same name e.0))

-- ---- the card of a word

-- a card with this UID, and with a letter as its name
abbrev card_of_word : List ℕ → List Line
card_of_word word =
    record { group = None; name = codes "FN"; params = []; value = codes "a" }
    ∷ record { group = None; name = codes "UID"; params = []; value = word } ∷ []

all_in : (class : ℕ → Bool) → class 97 ≡ true → class 98 ≡ true → (word : List ℕ)
    → AllInClass is_letter word → AllInClass class word
all_in class a b [] letters = tt
all_in class a b (x ∷ word) letters = (by (x == 97) refl, all_in class a b word letters.1)
  where
    by : (c : Bool) → (x == 97) ≡ c → class x ≡ true
    by true is = let at : x ≡ 97 = grind (arith, nat_tests, is) in ap class at ∙ a
    by false is =
        let letter = letters.0 in
        let at : x ≡ 98 = grind (arith, nat_tests, is, letter) in ap class at ∙ b

-- a short line is a physical line
short_line : (line : List ℕ) → IsUtf8 line → length line ≤ 75
    → physical_lines line ≡ line ∷ []
short_line line utf8 fits =
    let whole = encodes-chars line utf8 in
    sym (one_folding line (line ∷ []) (record {
      first = chars line;
      further = [];
      whole = sym (append-nil (chars line));
      physical_are = ap (λ t. t ∷ []) (sym whole);
      fit = (fits, tt);
      full = tt;
    }))

IsShort : List ℕ → Type 0
IsShort line = IsUtf8 line × (length line ≤ 75)

folded_short : (lines : List (List ℕ)) → AllByRecursion IsShort lines
    → length (flat_map folded_text lines) ≤ length lines * 77
unfolding IsShort
folded_short [] short = omega arith
folded_short (line ∷ lines) short =
    let rest = folded_short lines short.1 in
    let one = ap length (ap (flat_map (λ (t : List ℕ). t ++ 13 ∷ 10 ∷ []))
    (short_line line short.0.0 short.0.1)) in
    let ended = length-append line (13 ∷ 10 ∷ []) in
    let nothing = length-append (line ++ 13 ∷ 10 ∷ []) [] in
    let both = length-append (folded_text line) (flat_map folded_text lines) in
    let fits = short.0.1 in
    omega (arith, rest, one, ended, nothing, both, fits)

module _ (word : List ℕ) (many : length word ≡ 47) (letters : AllInClass is_letter word) where
  permitted : AllInClass is_permitted word
  permitted = all_in is_permitted refl refl word letters

  no_tab : (octets : List ℕ) → AllInClass is_letter octets → list_any (λ b. b == 9) octets ≡ false
  no_tab [] all = refl
  no_tab (b ∷ bs) all =
      let letter = all.0 in
      let rest = no_tab bs all.1 in
      let other : (b == 9) ≡ false = grind (arith, nat_tests, letter) in
      rw (other, rest) refl

  ascii : (octets : List ℕ) → AllInClass is_letter octets
      → list_all (λ b. nat_lt b 128) octets ≡ true
  ascii [] all = refl
  ascii (b ∷ bs) all =
      let letter = all.0 in
      let rest = ascii bs all.1 in
      let below : nat_lt b 128 ≡ true = grind (arith, nat_tests, letter) in
      rw (below, rest) refl

  legal : is_uid word ≡ true
  legal =
      let least : nat_le 1 (length word) ≡ true = rw many refl in
      let most : nat_le (length word) 255 ≡ true = rw many refl in
      rw (least, most, no_tab word letters) refl

  rules : KeepsRules (card_of_word word)
  rules = record {
    each = (
      record { no_begin = refl; no_end = refl; no_version = refl; legal_uid = λ is. cc },
      (record { no_begin = refl; no_end = refl; no_version = refl; legal_uid = λ is. legal }, tt),
    );
    has_name = refl;
    one_uid = refl;
    one_kind = omega arith;
    members = λ is. cc;
  }

  utf8 : IsUtf8 (codes "UID:" ++ word)
  utf8 = ascii_utf8 (codes "UID:" ++ word) (ascii word letters)

  proper : AllByRecursion IsProperLine (card_of_word word)
  proper = (
    record {
      upper = refl;
      name = record { nonempty = omega arith; of_class = of_class is_name_octet (codes "FN") refl };
      group = tt;
      params = tt;
      permitted = of_class is_permitted (codes "FN:a") refl;
      utf8 = ascii_utf8 (codes "FN:a") refl;
    },
    (
      record {
        upper = refl;
        name = record {
          nonempty = omega arith;
          of_class = of_class is_name_octet (codes "UID") refl;
        };
        group = tt;
        params = tt;
        permitted = (refl, (refl, (refl, (refl, permitted))));
        utf8 = utf8;
      },
      tt,
    ),
  )

  short : AllByRecursion IsShort (card_logical_lines (card_of_word word))
  unfolding IsShort
  short = (
    (ascii_utf8 (codes "BEGIN:VCARD") refl, omega arith),
    (
      (ascii_utf8 (codes "VERSION:4.0") refl, omega arith),
      (
        (ascii_utf8 (codes "FN:a") refl, omega arith),
        ((utf8, omega (arith, many)), ((ascii_utf8 (codes "END:VCARD") refl, omega arith), tt)),
      ),
    ),
  )

  word_is_card : IsCard (card_of_word word)
  word_is_card = record {
    rules = rules;
    proper = proper;
    within =
        let few = folded_short (card_logical_lines (card_of_word word)) short in
        omega (arith, few);
  }

many_words : words 47 ≡ 140737488355328
unfolding words
many_words = refl

pub legal_spare_cards_exist : LegalSpareCardsExist
legal_spare_cards_exist limits books range form =
    let es = finite.entries books in
    let few = few_uids limits es range
    (each_entry (λ name book. IsWellFormedBook limits book) books form.each) in
    let count = finite.len-entries books in
    let within = form.within_limit in
    let most = range.books_most in
    let word = new_word 47 (live_uids es) (omega (
      arith,
      few,
      count,
      within,
      most,
      many_words,
    )) in (
      card_of_word word.0,
      λ name book at.
          not_live word.0 name book es word.1.new (sym (finite.get-entries books name) ∙ at),
      word_is_card word.0 word.1.many word.1.letter,
    )
