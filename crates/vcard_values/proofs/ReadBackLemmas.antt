-- vCard 4.0 reads of a text that was rewritten what the text spells.
use Rattle.std.proofs.Common.{◌≡◌, ℕ, Bool, true, false, cond, ◌&&◌, ◌||◌, ◌==◌, not, List, [], ◌∷◌}
use Rattle.std.proofs.Common.{◌++◌, map, flat_map, chars, IsUtf8, refl, sym, ap, ◌∙◌, arith, subst}
use Rattle.std.proofs.Common.{true≢false}
use Rattle.std.specs.Char.{is_control}
use Rattle.std.specs.Str.{encode_utf8_all}
use Rattle.std.proofs.Math.Utf8.{scalar, scalars}
use Rattle.std.proofs.lemmas.Bool.{and_parts, cond-false}
use Rattle.std.proofs.lemmas.Bool.Decides.{nat_tests}
use Rattle.std.proofs.lemmas.Str.{chars-encodes, scalars-chars}
use Rattle.vcard_lines.specs.TextValues.{TextChar, Plain, Escaped, text_chars}
use Rattle.vcard_lines.specs.TextValues.{AreLegalTextChars, text_char_of, text_chars_from}
use Rattle.vcard_lines.specs.TextValues.{written_chars}
use Rattle.vcard_lines.proofs.TextValueLemmas.{one_list, scalars_append}
use Rattle.vcard_values.specs.Escapes.{SpellsSame, TextUnit, Character, Comma, Semicolon, cleaned}
use Rattle.vcard_values.specs.Escapes.{escaped_units, fourth_form, is_path, plain_units}
use Rattle.vcard_values.specs.Escapes.{rewritten_value, spelled_units, unit_chars, units_of_char}
use Rattle.vcard_values.specs.declared.escapes.TextForm.{TextForm}
use Rattle.vcard_values.specs.declared.escapes.ValueForm.{ValueForm}
use Rattle.vcard_values.specs.declared.escapes.ValueForm.TheVariants.{Uri, Text}

-- ---- units that are read back

-- a character that stays when it is read again
record IsClean (c : ℕ) : Type 0 where
  pub clean : cleaned c ≡ c
  pub scalar : scalar c ≡ true

abbrev IsCleanUnit : TextUnit → Type 0
IsCleanUnit (Character c) = IsClean c
IsCleanUnit Comma = Unit {0}
IsCleanUnit Semicolon = Unit {0}

abbrev AreClean : List TextUnit → Type 0
AreClean [] = Unit {0}
AreClean (unit ∷ units) = IsCleanUnit unit × AreClean units

are_clean-append : (us vs : List TextUnit) → AreClean us → AreClean vs → AreClean (us ++ vs)
are_clean-append [] vs a b = b
are_clean-append (u ∷ us) vs a b = (a.0, are_clean-append us vs a.1 b)

-- ---- what is spelled is clean

is_clean : (c : ℕ) → scalar c ≡ true → IsClean (cleaned c)
is_clean c s =
    elim (is_control c && not (c == 9 || c == 10)) as
    (λ b. (is_control c && not (c == 9 || c == 10)) ≡ b → IsClean (cond b 32 c)) [
      | true ↦ λ e. record { clean = refl; scalar = refl }
      | false ↦ λ e. record { clean = cond-false _ _ _ e; scalar = s }
    ] refl

plain_clean : (form : TextForm) (c : ℕ) → scalar c ≡ true → AreClean (plain_units form c)
plain_clean form c s = by_tests (c == 13) (c == 59) (c == 44 && not form.commas_are_text)
  where
    by_tests : (r s d : Bool) → AreClean (cond r [] (cond s (Semicolon ∷ [])
        (cond d (Comma ∷ []) (Character (cleaned c) ∷ []))))
    by_tests true s d = tt
    by_tests false true d = (tt, tt)
    by_tests false false true = (tt, tt)
    by_tests false false false = (is_clean c s, tt)

one_of : {G : Type 0} (a b d f : Bool) → (a || b || d || f) ≡ true → (a ≡ true → G)
    → (b ≡ true → G) → (d ≡ true → G) → (f ≡ true → G) → G
one_of true b d f e p q r s = p refl
one_of false true d f e p q r s = q refl
one_of false false true f e p q r s = r refl
one_of false false false f e p q r s = s e

cleaned_at : (c d : ℕ) → c ≡ d → cleaned d ≡ d → cleaned c ≡ c
cleaned_at c d is same = subst (λ x. cleaned x ≡ x) (sym is) same

itself : (c : ℕ) → (c == 92 || c == 44 || c == 59 || c == 58) ≡ true → cleaned c ≡ c
itself c e = one_of (c == 92) (c == 44) (c == 59) (c == 58) e
    (λ h. cleaned_at c 92 (grind (arith, h)) refl) (λ h. cleaned_at c 44 (grind (arith, h)) refl)
    (λ h. cleaned_at c 59 (grind (arith, h)) refl) (λ h. cleaned_at c 58 (grind (arith, h)) refl)

escaped_clean : (form : TextForm) (c : ℕ) → scalar c ≡ true → AreClean (escaped_units form c)
escaped_clean form c s =
    elim (c == 110 || c == 78) as (λ b. AreClean (cond b (Character 10 ∷ [])
    (cond (c == 92 || c == 44 || c == 59 || c == 58) (Character c ∷ [])
    (Character 92 ∷ plain_units form c)))) [
      | true ↦ (record { clean = refl; scalar = refl }, tt)
      | false ↦ elim (c == 92 || c == 44 || c == 59 || c == 58) as
          (λ b. (c == 92 || c == 44 || c == 59 || c == 58) ≡ b
          → AreClean (cond b (Character c ∷ []) (Character 92 ∷ plain_units form c))) [
            | true ↦ λ e. (record { clean = itself c e; scalar = s }, tt)
            | false ↦ λ e. (record { clean = refl; scalar = refl }, plain_clean form c s)
          ] refl
    ]

read_clean : (form : TextForm) (is_escaped : Bool) (cs : List ℕ) → scalars cs ≡ true
    → AreClean (flat_map (units_of_char form) (text_chars_from is_escaped cs))
unfolding text_chars_from
read_clean form true [] s = (record { clean = refl; scalar = refl }, tt)
read_clean form true (c ∷ cs) s =
    let p = and_parts (scalar c) (scalars cs) s in
    are_clean-append (escaped_units form c) _ (escaped_clean form c p.0)
    (read_clean form false cs p.1)
read_clean form false [] s = tt
read_clean form false (c ∷ cs) s =
    let p = and_parts (scalar c) (scalars cs) s in
    elim (c == 92) as (λ b. AreClean (flat_map (units_of_char form)
    (cond b (text_chars_from true cs) (Plain c ∷ text_chars_from false cs)))) [
      | true ↦ read_clean form true cs p.1
      | false ↦ are_clean-append (plain_units form c) _ (plain_clean form c p.0)
          (read_clean form false cs p.1)
    ]

path_clean : (form : TextForm) (cs : List ℕ) → scalars cs ≡ true
    → AreClean (flat_map (plain_units form) cs)
path_clean form [] s = tt
path_clean form (c ∷ cs) s =
    let p = and_parts (scalar c) (scalars cs) s in
    are_clean-append (plain_units form c) _ (plain_clean form c p.0) (path_clean form cs p.1)

spelled_clean : (form : TextForm) (value : List ℕ) → IsUtf8 value
    → AreClean (spelled_units form value)
spelled_clean form value utf8 =
    elim (form.is_old && is_path value) as
    (λ b. AreClean (cond b (flat_map (plain_units form) (chars value))
    (flat_map (units_of_char form) (text_chars (chars value))))) [
      | true ↦ path_clean form (chars value) (scalars-chars value utf8)
      | false ↦ read_clean form false (chars value) (scalars-chars value utf8)
    ]

-- ---- what is written is read so

abbrev char_of : TextUnit → TextChar
char_of (Character c) = text_char_of c
char_of Comma = Plain 44
char_of Semicolon = Plain 59

written_so : (us : List TextUnit)
    → flat_map unit_chars us ≡ flat_map written_chars (map char_of us)
written_so [] = refl
written_so (Character c ∷ us) = ap (λ end. written_chars (text_char_of c) ++ end) (written_so us)
written_so (Comma ∷ us) = ap (λ end. 44 ∷ end) (written_so us)
written_so (Semicolon ∷ us) = ap (λ end. 59 ∷ end) (written_so us)

legal_char : (c : ℕ) (cs : List TextChar) → AreLegalTextChars cs
    → AreLegalTextChars (text_char_of c ∷ cs)
legal_char c cs a =
    elim (c == 10) as (λ b. AreLegalTextChars
    (cond b (Escaped 110) (cond (c == 92 || c == 44 || c == 59) (Escaped c) (Plain c)) ∷ cs)) [
      | true ↦ a
      | false ↦ elim (c == 92 || c == 44 || c == 59) as (λ b. (c == 92 || c == 44 || c == 59) ≡ b
          → AreLegalTextChars (cond b (Escaped c) (Plain c) ∷ cs)) [
            | true ↦ λ e. a
            | false ↦ λ e. (grind (arith, nat_tests, e), a)
          ] refl
    ]

legal : (us : List TextUnit) → AreLegalTextChars (map char_of us)
legal [] = tt
legal (Character c ∷ us) = legal_char c (map char_of us) (legal us)
legal (Comma ∷ us) = (refl, legal us)
legal (Semicolon ∷ us) = (refl, legal us)

scalar_written : (c : ℕ) → scalar c ≡ true → scalars (written_chars (text_char_of c)) ≡ true
scalar_written c s = by_tests (c == 10) (c == 92 || c == 44 || c == 59)
  where
    by_tests : (a b : Bool)
        → scalars (written_chars (cond a (Escaped 110) (cond b (Escaped c) (Plain c)))) ≡ true
    by_tests true b = refl
    by_tests false true = rw s refl
    by_tests false false = rw s refl

scalars_of : (us : List TextUnit) → AreClean us → scalars (flat_map unit_chars us) ≡ true
scalars_of [] a = refl
scalars_of (Character c ∷ us) a = scalars_append (written_chars (text_char_of c)) _
    (scalar_written c a.0.scalar) (scalars_of us a.1)
scalars_of (Comma ∷ us) a = scalars_of us a.1
scalars_of (Semicolon ∷ us) a = scalars_of us a.1

none_of : (a b d : Bool) → (a || b || d) ≡ false → (b ≡ false) × (d ≡ false)
none_of true b d e = absurd (true≢false e)
none_of false true d e = absurd (true≢false e)
none_of false false d e = (refl, e)

no_return : (c : ℕ) → cleaned c ≡ c → (c == 13) ≡ false
no_return c clean = elim (c == 13) as (λ b. (c == 13) ≡ b → b ≡ false) [
  | true ↦ λ e.
      let is : c ≡ 13 = grind (arith, e) in
      let back : 32 ≡ 13 = subst (λ d. cleaned d ≡ d) is clean in
      absurd (true≢false (ap (λ n. n == 32) back))
  | false ↦ λ e. refl
] refl

clean_plain : (c : ℕ) → cleaned c ≡ c → (c == 92 || c == 44 || c == 59) ≡ false
    → plain_units fourth_form c ≡ Character c ∷ []
clean_plain c clean e =
    let none = none_of (c == 92) (c == 44) (c == 59) e in
    cond-false _ _ _ (no_return c clean) ∙ cond-false _ _ _ none.1
    ∙ cond-false _ _ _ (ap (λ b. b && true) none.0) ∙ ap (λ d. Character d ∷ []) clean

read_char : (c : ℕ) → cleaned c ≡ c
    → units_of_char fourth_form (text_char_of c) ≡ Character c ∷ []
read_char c clean =
    elim (c == 10) as (λ b. (c == 10) ≡ b → units_of_char fourth_form
    (cond b (Escaped 110) (cond (c == 92 || c == 44 || c == 59) (Escaped c) (Plain c)))
    ≡ Character c ∷ []) [
      | true ↦ λ e. let is : c ≡ 10 = grind (arith, e) in ap (λ d. Character d ∷ []) (sym is)
      | false ↦ λ e. elim (c == 92 || c == 44 || c == 59) as (λ b. (c == 92 || c == 44 || c == 59)
          ≡ b → units_of_char fourth_form (cond b (Escaped c) (Plain c)) ≡ Character c ∷ []) [
            | true ↦ λ h. escaped h
            | false ↦ λ h. clean_plain c clean h
          ] refl
    ] refl
  where
    escaped : (c == 92 || c == 44 || c == 59) ≡ true
        → escaped_units fourth_form c ≡ Character c ∷ []
    escaped h =
        let no_n : (c == 110 || c == 78) ≡ false = grind (arith, nat_tests, h) in
        cond-false _ _ _ no_n
        ∙ ap (λ b. cond (b || c == 58) (Character c ∷ []) (Character 92 ∷ plain_units fourth_form c))
        h

read_units : (us : List TextUnit) → AreClean us
    → flat_map (units_of_char fourth_form) (map char_of us) ≡ us
read_units [] a = refl
read_units (Character c ∷ us) a =
    ap (λ front. front ++ flat_map (units_of_char fourth_form) (map char_of us))
    (read_char c a.0.clean)
    ∙ ap (λ end. Character c ∷ end) (read_units us a.1)
read_units (Comma ∷ us) a = ap (λ end. Comma ∷ end) (read_units us a.1)
read_units (Semicolon ∷ us) a = ap (λ end. Semicolon ∷ end) (read_units us a.1)

read_back : (us : List TextUnit) → AreClean us
    → flat_map (units_of_char fourth_form) (text_chars (flat_map unit_chars us)) ≡ us
read_back us a =
    ap (flat_map (units_of_char fourth_form))
    (sym ((one_list (flat_map unit_chars us) (map char_of us)).0 (record {
      concatenation = written_so us;
      legal = legal us;
    })))
    ∙ read_units us a

spells_same : (form : TextForm) (value : List ℕ) → IsUtf8 value
    → spelled_units fourth_form (encode_utf8_all (flat_map unit_chars (spelled_units form value)))
    ≡ spelled_units form value
spells_same form value utf8 =
    let clean = spelled_clean form value utf8 in
    ap (λ cs. flat_map (units_of_char fourth_form) (text_chars cs))
    (chars-encodes _ (scalars_of (spelled_units form value) clean))
    ∙ read_back (spelled_units form value) clean

pub spells_of : (form : ValueForm) (value new : List ℕ) → IsUtf8 value
    → new ≡ rewritten_value form value → SpellsSame form value new
spells_of Uri value new utf8 is = tt
spells_of (Text form) value new utf8 is =
    subst (λ v. spelled_units fourth_form v ≡ spelled_units form value) (sym is)
    (spells_same form value utf8)
