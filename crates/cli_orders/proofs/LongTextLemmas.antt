-- A text that is longer than what is read of it.
use Rattle.std.proofs.Common.{◌≡◌, ℕ, ◌≤◌, ◌<◌, false, nat_le, List, length, take, Some, None}
use Rattle.std.proofs.Common.{Option, IfSome, Result, Ok, Err, sym, subst, ⊎_elim, inr, OnOk, IfErr}
use Rattle.std.proofs.Common.{arith}
use Rattle.std.specs.Io.KnownBytes.{Appends}
use Rattle.std.proofs.lemmas.Bool.{cases_Bool, leb-true, leb-false}
use Rattle.std.proofs.lemmas.List.{take_all, length-take-le}
use Rattle.vcard_text.specs.Bounds.{text_octets_max}
use Rattle.vcard_lines.specs.declared.fault.CardFault.{CardFault}
use Rattle.vcard_lines.specs.declared.fault.CardFault.TheVariants.{TooLong}
use Rattle.vcard_text.specs.FirstFaults.{IsFirstFaultOfText, of_length, of_encoding, of_line}
use Rattle.vcard_text.specs.FirstFaults.{of_whole, of_canonical}
use Rattle.cli_orders.specs.declared.try_result.FirstPath.{FirstPath}
use Rattle.cli_orders.specs.declared.stop.Stop.{Stop}
use Rattle.cli_orders.specs.declared.stop.Stop.TheVariants.{Refused, Fault, Open, Serve, Device}
use Rattle.book_http.specs.Streams.{WritesPrefix}
use Rattle.cli_orders.specs.TryResults.{IsTryResult}
use Rattle.cli_orders.specs.Inputs.{read_octets_max}
use Rattle.cli_orders.specs.TryOutputs.{PrintsTryResult, KeepsTryOutput, try_lines}
use Rattle.cli_orders.specs.TryStops.{IsTryStop}

abbrev front : List ℕ → List ℕ
front input = take read_octets_max input

whole_front : (input : List ℕ) → length input ≤ read_octets_max → front input ≡ input
whole_front input l = take_all read_octets_max input l

-- a front that is no longer than a text may be is the whole
short_front : (input : List ℕ) → length (front input) ≤ text_octets_max → front input ≡ input
short_front input l = ⊎_elim
    (λ within. whole_front input (leb-true _ _ within))
    (λ over. absurd (too_long over))
    (cases_Bool (nat_le (length input) read_octets_max))
  where
    too_long : nat_le (length input) read_octets_max ≡ false → ⊥
    too_long over =
        let longer = leb-false (length input) read_octets_max over in
        let full : length (front input) ≡ read_octets_max =
        length-take-le read_octets_max input (omega arith) in
        omega arith

-- a text that is too long has that for its first fault, and no other
long_fault : (text : List ℕ) (fault : CardFault) → text_octets_max < length text
    → IsFirstFaultOfText text fault → fault ≡ TooLong
long_fault text fault l (of_length agrees long) = agrees
long_fault text fault l (of_encoding agrees within utf8) = absurd (omega arith)
long_fault text fault l (of_line logical are first) = absurd (too_long are.within)
  where
    too_long : length text ≤ text_octets_max → ⊥
    too_long within = omega arith
long_fault text fault l (of_whole logical are first) = absurd (too_long are.within)
  where
    too_long : length text ≤ text_octets_max → ⊥
    too_long within = omega arith
long_fault text fault l (of_canonical agrees logical are lines card long) = agrees

fault_of_front : (input : List ℕ) (fault : CardFault) → IsFirstFaultOfText (front input) fault
    → IsFirstFaultOfText input fault
fault_of_front input fault first = ⊎_elim
    (λ within. subst (λ text. IsFirstFaultOfText text fault)
    (whole_front input (leb-true _ _ within)) first)
    (λ over.
    let longer = leb-false (length input) read_octets_max over in
    let full : length (front input) ≡ read_octets_max =
    length-take-le read_octets_max input (omega arith) in
    of_length (long_fault (front input) fault (omega arith) first) (omega arith))
    (cases_Bool (nat_le (length input) read_octets_max))

-- ---- the result for the prefix is that for the whole text

pub path_of_front : (input : List ℕ) (path : FirstPath) → IsTryResult (front input) path
    → IsTryResult input path
path_of_front input path p = subst (λ text. IsTryResult text path)
    (short_front input p.spelled.within) p

pub stop_for_front : (input : List ℕ) (stop : Stop) → IsTryStop (front input) stop
    → IsTryStop input stop
stop_for_front input (Refused refusal) s = record {
  fault = s.fault;
  refusal_is = s.refusal_is;
  first = fault_of_front input s.fault s.first;
}
stop_for_front input (Fault fault) s = s
stop_for_front input (Open fault) s = s
stop_for_front input (Serve fault) s = s
stop_for_front input Device s = tt

pub stopped_for_all : (a : Option (List ℕ)) (stop : Stop) → ((text : List ℕ) → IsTryStop text stop)
    → IfSome a (λ input. IsTryStop input stop)
stopped_for_all None stop s = tt
stopped_for_all (Some input) stop s = s input

abbrev IsFrontOf : List ℕ → Option (List ℕ) → Type 0
IsFrontOf octets a = IfSome a (λ input. octets ≡ take read_octets_max input)

pub stopped_for_input : (a : Option (List ℕ)) (octets : List ℕ) (stop : Stop) → IsFrontOf octets a
    → IsTryStop octets stop → IfSome a (λ input. IsTryStop input stop)
stopped_for_input None octets stop agrees s = tt
stopped_for_input (Some input) octets stop agrees s =
    stop_for_front input stop (subst (λ text. IsTryStop text stop) agrees s)

pub printed_of_input : {E : Type 0} (r : Result (Unit {0}) E) (a before after : Option (List ℕ))
    (octets : List ℕ) (path : FirstPath) → IsFrontOf octets a → IsTryResult octets path
    → OnOk r (Appends before after (try_lines path))
    → OnOk r (IfSome a (λ input. PrintsTryResult input before after))
printed_of_input (Err e) a before after octets path agrees p w = tt
printed_of_input (Ok x) None before after octets path agrees p w = tt
printed_of_input (Ok x) (Some input) before after octets path agrees p w =
    record {
      path = path;
      agrees = path_of_front input path (subst (λ text. IsTryResult text path)
          agrees p);
      written = w;
    }

pub output_kept_of_input : (r : Result (Unit {0}) Stop) (a before after : Option (List ℕ)) (octets :
    List ℕ) (path : FirstPath) → IsFrontOf octets a → IsTryResult octets path
    → IfErr r (λ stop. stop ≡ Device) → WritesPrefix (try_lines path) before after
    → IfErr r (λ stop. IfSome a (λ input. KeepsTryOutput stop input before after))
output_kept_of_input (Ok x) a before after octets path agrees p d w = tt
output_kept_of_input (Err stop) None before after octets path agrees p d w = tt
output_kept_of_input (Err stop) (Some input) before after octets path agrees p d w =
    subst (λ (s : Stop). KeepsTryOutput s input before after) (sym d)
    (inr (record {
      path = path;
      agrees = path_of_front input path
          (subst (λ text. IsTryResult text path) agrees p);
      front = w;
    }))
