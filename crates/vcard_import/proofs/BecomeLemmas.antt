-- What one more logical line becomes.
use Rattle.std.proofs.Common.{◌≡◌, true, List, [], ◌∷◌, ◌++◌, refl, ap, subst, inl, inr}
use Rattle.std.proofs.lemmas.List.{append-nil}
use Rattle.import_text.specs.declared.raw_line.RawLine.{RawLine}
use Rattle.vcard_lines.specs.declared.line.Line.{Line}
use Rattle.vcard_changes.specs.declared.change.Change.{Change}
use Rattle.vcard_property.specs.SameLines.{AreLine}
use Rattle.vcard_values.specs.declared.version.Version.{Version}
use Rattle.vcard_import.specs.Conversions.{BecomeCard, IsMadeOf}
use Rattle.vcard_import.specs.Delimiters.{is_delimiter}
use Rattle.vcard_import.specs.Labels.{fits}
use Rattle.vcard_import.specs.LeftOut.{may_go}

more : (version : Version) (raws : List RawLine) (raw : RawLine) (line : List Line)
    (change : List Change)
    → BecomeCard version (raw ∷ []) line change → (card : List Line) (changes : List Change)
    → BecomeCard version raws card changes → BecomeCard version (raws ++ raw ∷ []) (card ++ line)
    (changes ++ change)
more version [] raw line change last card changes b = rw (b.0, b.1) last
more version (first ∷ raws) raw line change last card changes (inl b) =
    inl (b.0, more version raws raw line change last card changes b.1)
more version (first ∷ raws) raw line change last card changes (inr (inl k)) = inr (inl (record {
  line = k.line;
  others = k.others ++ line;
  card_is = ap (λ c. c ++ line) k.card_is;
  same = k.same;
  made = k.made;
  rest = more version raws raw line change last k.others changes k.rest;
}))
more version (first ∷ raws) raw line change last card changes (inr (inr (inr g))) =
    inr (inr (inr (record {
      change = g.change;
      more = g.more ++ change;
      changes_are = ap (λ c. c ++ change) g.changes_are;
      place = g.place;
      may_go = g.may_go;
      rest = more version raws raw line change last card g.more g.rest;
    })))
more version (first ∷ raws) raw line change last card changes (inr (inr (inl k))) =
    inr (inr (inl (record {
      line = k.line;
      others = k.others ++ line;
      card_is = ap (λ c. c ++ line) k.card_is;
      differs = k.differs;
      change = k.change;
      more = k.more ++ change;
      changes_are = ap (λ c. c ++ change) k.changes_are;
      place = k.place;
      kind = k.kind;
      made = k.made;
      rest = more version raws raw line change last k.others k.more k.rest;
    })))

pub left_out : (version : Version) (raws : List RawLine) (raw : RawLine) (card : List Line)
    (changes : List Change)
    → is_delimiter raw.octets ≡ true → BecomeCard version raws card changes
    → BecomeCard version (raws ++ raw ∷ []) card changes
left_out version raws raw card changes d b =
    subst (λ c. BecomeCard version (raws ++ raw ∷ []) c changes) (append-nil card)
    (subst (λ c. BecomeCard version (raws ++ raw ∷ []) (card ++ []) c) (append-nil changes)
    (more version raws raw [] [] (inl (d, (refl, refl))) card changes b))

pub kept : (version : Version) (raws : List RawLine) (raw : RawLine) (card : List Line)
    (changes : List Change) (line : Line) → AreLine raw.octets line
    → IsMadeOf version raw.octets line → BecomeCard version raws card changes
    → BecomeCard version (raws ++ raw ∷ []) (card ++ line ∷ []) changes
kept version raws raw card changes line same made b =
    subst (λ c. BecomeCard version (raws ++ raw ∷ []) (card ++ line ∷ []) c) (append-nil changes)
    (more version raws raw (line ∷ []) [] (inr (inl (record {
      line = line;
      others = [];
      card_is = refl;
      same = same;
      made = made;
      rest = (refl, refl);
    }))) card changes b)

pub changed : (version : Version) (raws : List RawLine) (raw : RawLine) (card : List Line)
    (changes : List Change) (line : Line) (change : Change) → (AreLine raw.octets line → ⊥) → change.place ≡ raw.place
    → fits change.kind line ≡ true → IsMadeOf version raw.octets line
    → BecomeCard version raws card changes
    → BecomeCard version (raws ++ raw ∷ []) (card ++ line ∷ []) (changes ++ change ∷ [])
changed version raws raw card changes line change differs place kind made b =
    more version raws raw (line ∷ []) (change ∷ [])
    (inr (inr (inl (record {
      line = line;
      others = [];
      card_is = refl;
      differs = differs;
      change = change;
      more = [];
      changes_are = refl;
      place = place;
      kind = kind;
      made = made;
      rest = (refl, refl);
    })))) card changes b

pub gone : (version : Version) (raws : List RawLine) (raw : RawLine) (card : List Line)
    (changes : List Change) (change : Change) → change.place ≡ raw.place → may_go change.kind raw ≡ true
    → BecomeCard version raws card changes
    → BecomeCard version (raws ++ raw ∷ []) card (changes ++ change ∷ [])
gone version raws raw card changes change place may b =
    subst (λ c. BecomeCard version (raws ++ raw ∷ []) c (changes ++ change ∷ [])) (append-nil card)
    (more version raws raw [] (change ∷ []) (inr
    (inr (inr (record {
      change = change;
      more = [];
      changes_are = refl;
      place = place;
      may_go = may;
      rest = (refl, refl);
    })))) card changes b)
