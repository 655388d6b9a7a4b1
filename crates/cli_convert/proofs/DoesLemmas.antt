-- What a conversion did, where less is known of the first text.
use Rattle.std.proofs.Common.{◌≡◌, ◌∷◌, ◌++◌, ℕ, List, Option, Some, None, IfSome}
use Rattle.import_text.specs.Texts.{text_octets}
use Rattle.convert_report.specs.declared.ledger.Summary.{Summary}
use Rattle.cli_convert.specs.CardFolders.{FillsFolder}
use Rattle.cli_convert.specs.Endings.{Does, Prints}
use Rattle.cli_convert.specs.FileTexts.{known_text, shown_mark}
use Rattle.cli_convert.specs.Readers.{ReadsHead}
use Rattle.cli_convert.specs.declared.charset_reader.Encoding.{Encoding}
use Rattle.cli_convert.specs.declared.charset_reader.Encoding.TheVariants.{Found}
use Rattle.cli_convert.specs.declared.options.ConvertOptions.{ConvertOptions}
use Rattle.cli_convert.proofs.TextLemmas.{file_seen, parts_known}

if_more : {A : Type 0} {P Q : A → Type 0} (chosen : Option A) → ((a : A) → P a → Q a)
    → IfSome chosen P → IfSome chosen Q
if_more None more is = tt
if_more (Some a) more is = more a is

pub does_known : {T : Type 0} (place written : T → Option (List ℕ)) (wanted : ConvertOptions)
    (texts : List (Option (List ℕ))) (whole known before after : Option (List ℕ))
    (summary : Summary) → IfSome known (λ text. whole ≡ Some text)
    → Does place written wanted (whole ∷ texts) before after summary
    → Does place written wanted (known ∷ texts) before after summary
does_known place written wanted texts whole known before after summary same does = record {
  prints = λ wants. let it = does.prints wants in record {
    parts = it.parts;
    are = parts_known texts it.parts whole known same it.are;
    fates = it.fates;
    counts = it.counts;
    rows = it.rows;
  };
  fills = if_more wanted.folder (λ folder fills wants. let it = fills wants in record {
    parts = it.parts;
    are = parts_known texts it.parts whole known same it.are;
    fates = it.fates;
    counts = it.counts;
    made = it.made;
  }) does.fills;
}

-- what is known of a file that was opened
pub opened_known : {C : Type 0} (charset : Option C) (encoding : Encoding)
    (octets rest text : Option (List ℕ)) (front seen : List ℕ) → seen ≡ front
    → (charset ≡ None → encoding ≡ Found) → ReadsHead 64 octets rest front
    → (encoding ≡ Found → IfSome rest (λ more. text
    ≡ Some (text_octets ((shown_mark seen ++ seen) ++ more))))
    → IfSome (known_text charset octets) (λ known. text ≡ Some known)
opened_known charset encoding octets rest text front seen is found opens reads =
    file_seen charset octets rest text front seen is found opens reads
