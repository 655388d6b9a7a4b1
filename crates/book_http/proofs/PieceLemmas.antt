-- Pieces that are read, and octets that are written.
use Rattle.std.proofs.Common.{◌≡◌, ◌+◌, ◌*◌, ◌≤◌, ℕ, List, [], ◌∷◌, ◌++◌, ◌∙◌, length, take, drop}
use Rattle.std.proofs.Common.{refl, sym, ap, subst, Option, arith, length-append}
use Rattle.std.proofs.Common.{length-drop, length-take, ◌-◌}
use Rattle.std.proofs.KnownBytes.{Appends-trans, Appends-kept, Consumes-trans}
use Rattle.std.proofs.KnownBytes.{Consumes-kept}
use Rattle.std.proofs.lemmas.List.{append-nil, take_all, take_rest}
use Rattle.std.proofs.Math.Seq.{take-add}
use Rattle.std.specs.Io.KnownBytes.{Appends, Consumes, Keeps}
use Rattle.std.specs.List.{concat}
use Rattle.std.proofs.lemmas.List.Elements.{All-nil, All-push}
use Rattle.std.proofs.lemmas.List.Folds.{concat-append}
use Rattle.book_http.specs.Pieces.{IsInPieces, IsPiece, piece_octets_max}
use Rattle.book_http.specs.Streams.{ReadsAtMost, WritesPrefix}

pub up_to_kept : (a b c : Option (List ℕ)) (most more : ℕ) → most ≤ more → ReadsAtMost most a b
    → Keeps b c → ReadsAtMost more a c
up_to_kept a b c most more less reads kept = record {
  octets = reads.octets;
  read = Consumes-kept a b c reads.octets reads.read kept;
  within = omega (arith, less, reads.within);
}

pub up_to_more : (a b c : Option (List ℕ)) (most more : ℕ) (octets : List ℕ) → ReadsAtMost most a b
    → Consumes b c octets → most + length octets ≤ more → ReadsAtMost more a c
up_to_more a b c most more octets reads read less =
    record {
      octets = reads.octets ++ octets;
      read = Consumes-trans a b c reads.octets octets reads.read read;
      within = grind (arith, less, reads.within, length-append);
    }

-- after some octets were written, no more were
pub front_was_written : (a b c : Option (List ℕ)) (count : ℕ) (octets : List ℕ)
    → Appends a b (take count octets) → Keeps b c → WritesPrefix octets a c
front_was_written a b c count octets sent kept =
    record { count = count; written = Appends-kept a b c (take count octets) sent kept }

-- all octets were written, and then no more
pub all_were_written : (a b c : Option (List ℕ)) (octets : List ℕ) → Appends a b octets → Keeps b c
    → WritesPrefix octets a c
all_were_written a b c octets sent kept =
    front_was_written a b c (length octets) octets
    (subst (Appends a b) (sym (take_all (length octets) octets (omega arith))) sent) kept

-- the first octets, after some of them, were written
pub wrote_more : (a b c : Option (List ℕ)) (count more : ℕ) (octets : List ℕ)
    → count ≤ length octets → Appends a b (take count octets)
    → more ≤ length (take (length octets - count) (drop count octets))
    → Appends b c (take more (take (length octets - count) (drop count octets)))
    → Appends a c (take (count + more) octets) × (count + more ≤ length octets)
wrote_more a b c count more octets within sent less out =
    let rest = take_rest octets count in (
      subst (Appends a c) (sym (take-add count more octets))
          (Appends-trans a b c (take count octets) (take more (drop count octets)) sent
          (subst (λ t. Appends b c (take more t)) rest out)),
      let small : more ≤ length (drop count octets) = subst (λ t. more ≤ length t) rest less in
          grind (arith, small, within, length-drop),
    )

pub wrote_front : (a b c : Option (List ℕ)) (count more : ℕ) (octets : List ℕ)
    → count ≤ length octets → Appends a b (take count octets)
    → more ≤ length (take (length octets - count) (drop count octets))
    → Appends b c (take more (take (length octets - count) (drop count octets)))
    → WritesPrefix octets a c
wrote_front a b c count more octets within sent less out =
    record {
      count = count + more;
      written = (wrote_more a b c count more octets within sent less
          out).0;
    }

-- one more read
pub up_to_read : (a b c : Option (List ℕ)) (reads count : ℕ) (room : List ℕ)
    → ReadsAtMost (reads * piece_octets_max) a b → Consumes b c (take count room)
    → length room ≡ piece_octets_max → ReadsAtMost ((reads + 1) * piece_octets_max) a c
up_to_read a b c reads count room before read size =
    let short : length (take count room) ≤ length room = omega (arith, length-take count room) in
    up_to_more a b c (reads * piece_octets_max) ((reads + 1) * piece_octets_max) (take count room)
    before read (omega (arith, short, size))

-- ---- pieces

pub pieces_none : IsInPieces [] 0
pieces_none = record { pieces = []; each = All-nil IsPiece; octets_are = refl; count_is = refl }

pub pieces_on : (octets piece : List ℕ) (count : ℕ) → IsInPieces octets count → IsPiece piece
    → IsInPieces (octets ++ piece) (count + 1)
pieces_on octets piece count before is = record {
  pieces = before.pieces ++ piece ∷ [];
  each = All-push IsPiece before.pieces piece before.each is;
  octets_are = ap (λ o. o ++ piece) before.octets_are
      ∙ ap (λ o. concat before.pieces ++ o) (sym (append-nil piece))
      ∙ sym (concat-append before.pieces (piece ∷ []));
  count_is = grind (arith, length-append, before.count_is);
}

-- what a read into the buffer brought
pub piece_of : (count : ℕ) (room : List ℕ) → (count ≡ 0 → ⊥) → count ≤ length room
    → length room ≤ piece_octets_max → IsPiece (take count room)
piece_of count room some within small =
    record {
      some = omega (arith, length-take count room, some, within);
      at_most = omega (arith, length-take count room, within, small);
    }
