-- Proper lines: one that passes the tests, one with another name, and one without group and
-- parameters.
use Rattle.std.proofs.Common.{◌≡◌, ℕ, Bool, true, List, [], ◌∷◌, ◌++◌, drop, codes}
use Rattle.std.proofs.Common.{IsUtf8, sym, ap, ◌∙◌, refl}
use Rattle.std.proofs.Common.{arith, lit<}
use Rattle.std.specs.Prelude.{IsTrue, ◌↔◌, ◌&&◌, not}
use Rattle.std.specs.Char.{to_ascii_uppercase}
use Rattle.std.specs.List.{list_all}
use Rattle.std.specs.Str.{str_to_ascii_uppercase}
use Rattle.std.proofs.lemmas.Bool.{and_parts}
use Rattle.std.proofs.lemmas.Bool.Decides.{nat_tests}
use Rattle.std.proofs.lemmas.Str.{IsUtf8-from_ascii, IsUtf8-append}
use Rattle.std.proofs.lemmas.Str.Ascii.{IsAscii-nil, IsAscii-cons}
use Rattle.vcard_lines.specs.declared.line.Line.{Line}
use Rattle.vcard_lines.specs.Grammar.{is_name_octet, is_permitted, AllInClass, IsName, group_text}
use Rattle.vcard_lines.specs.Grammar.{params_text, line_text}
use Rattle.vcard_lines.specs.LegalParts.{has_legal_parts}
use Rattle.base_types.specs.Octets.{is_lower}
use Rattle.vcard_lines.proofs.FrontLemmas.{name_is_ascii, of_class, all_of_class}
use Rattle.vcard_lines.proofs.LegalPartLemmas.{legal_from_test, legal_to_test}
use Rattle.vcard_text.specs.Cards.{IsProperLine}
use Rattle.vcard_text.proofs.ProperLemmas.{names_permitted, other_permitted, other_text}
use Rattle.vcard_changes.specs.Lines.{plain_line, extension_line}
use Rattle.vcard_changes.specs.internal.ProperTests.{has_upper_name, has_proper_parts}

-- ---- octets that are all in a class

of-append : (class : ℕ → Bool) (a b : List ℕ) → AllInClass class a → AllInClass class b
    → AllInClass class (a ++ b)
of-append class [] b x y = y
of-append class (c ∷ a) b x y = (x.0, of-append class a b x.1 y)

-- a name in upper case, by test and by the grammar
upper_from_test : (w : List ℕ) → list_all (λ octet. not (is_lower octet)) w ≡ true
    → w ≡ str_to_ascii_uppercase w
upper_from_test [] e = refl
upper_from_test (b ∷ w) e =
    let p = and_parts (not (is_lower b)) (list_all (λ octet. not (is_lower octet)) w) e in
    same_cons b (to_ascii_uppercase b) w (str_to_ascii_uppercase w) (stays b p.0)
    (upper_from_test w p.1)
  where
    stays : (b : ℕ) → not (is_lower b) ≡ true → b ≡ to_ascii_uppercase b
    stays b e = grind (arith, nat_tests, e)

    same_cons : (a b : ℕ) (v w : List ℕ) → a ≡ b → v ≡ w → a ∷ v ≡ b ∷ w
    same_cons a b v w p q = cc

upper_to_test : (w : List ℕ) → w ≡ str_to_ascii_uppercase w
    → list_all (λ octet. not (is_lower octet)) w ≡ true
upper_to_test [] e = refl
upper_to_test (b ∷ w) e =
    rw (is_none b (ap (head_or 0) e), upper_to_test w (ap (drop 1) e)) refl
  where
    is_none : (b : ℕ) → b ≡ to_ascii_uppercase b → not (is_lower b) ≡ true
    is_none b e = grind (arith, nat_tests, e)

    head_or : ℕ → List ℕ → ℕ
    head_or d [] = d
    head_or d (b ∷ w) = b

-- a line that passes the tests
passed_is_proper : (line : Line) → has_proper_parts line ≡ true
    → list_all is_permitted (line_text line) ≡ true → IsUtf8 (line_text line) → IsProperLine line
passed_is_proper line parts permitted utf8 =
    let p = and_parts (has_upper_name line) (has_legal_parts line) parts in
    let legal = legal_from_test line p.1 in
    record {
      upper = upper_from_test line.name p.0;
      name = legal.name;
      group = legal.group;
      params = legal.params;
      permitted = of_class is_permitted (line_text line) permitted;
      utf8 = utf8;
    }

proper_passes : (line : Line) → IsProperLine line
    → (list_all is_permitted (line_text line) && has_proper_parts line) ≡ true
proper_passes line p =
    rw (
      all_of_class is_permitted (line_text line) p.permitted,
      upper_to_test line.name p.upper,
      legal_to_test line (record { name = p.name; group = p.group; params = p.params }),
    ) refl

pub tests_are_exact : (line : Line) (permitted parts : Bool)
    → permitted ≡ list_all is_permitted (line_text line) → parts ≡ has_proper_parts line
    → IsUtf8 (line_text line) → IsTrue (permitted && parts) ↔ IsProperLine line
tests_are_exact line permitted parts e f utf8 = (
  λ t. let p = and_parts permitted parts t in passed_is_proper line (sym f ∙ p.1) (sym e
      ∙ p.0) utf8,
  λ proper. rw (e, f) (proper_passes line proper),
)

extension_is_name : (name : List ℕ) → IsName name → IsName (codes "X-" ++ name)
extension_is_name name n = record {
  nonempty = omega arith;
  of_class = of-append is_name_octet (codes "X-") name (refl, (refl, tt)) n.of_class;
}

pub extension_is_proper : (line : Line) → IsProperLine line → IsProperLine (extension_line line)
extension_is_proper line p =
    let group = group_text line.group in
    let rest = params_text line.params ++ 58 ∷ line.value in
    let name : IsName (codes "X-" ++ line.name) = extension_is_name line.name p.name in
    record {
      upper = ap (λ n. codes "X-" ++ n) p.upper;
      name = name;
      group = p.group;
      params = p.params;
      permitted = other_permitted group line.name (codes "X-" ++ line.name) rest name p.permitted;
      utf8 = other_text line.group line.name (codes "X-" ++ line.name) rest p.group p.name name
          p.utf8;
    }

pub plain_is_proper : (name value : List ℕ) → IsName name → name ≡ str_to_ascii_uppercase name
    → AllInClass is_permitted value → IsUtf8 value → IsProperLine (plain_line name value)
plain_is_proper name value n up permitted utf8 = record {
  upper = up;
  name = n;
  group = tt;
  params = tt;
  permitted = of-append is_permitted name (58 ∷ value) (names_permitted name n.of_class) (
    refl,
    permitted,
  );
  utf8 = IsUtf8-append name (58 ∷ value) (IsUtf8-from_ascii name (name_is_ascii name n.of_class))
      (IsUtf8-append (58 ∷ []) value (IsUtf8-from_ascii (58 ∷ []) (IsAscii-cons 58 [] (lit< tt)
      IsAscii-nil)) utf8);
}
