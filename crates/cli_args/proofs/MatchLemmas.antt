-- The matches of `clap`.
use Rattle.std.proofs.Common.{arith, false, ◌≡◌, ◌∙◌, ap, sym, inl, inr, true, false, List, [], ◌∷◌}
use Rattle.std.proofs.Common.{Option, Some, None, Err, refl, option_map}
use Rattle.std.specs.Prelude.{find, if◌then◌else◌, option_and_then}
use Rattle.std.specs.Str.{bytes_eq}
use Rattle.clap.specs.Kinds.{HasKind, IsAmong, Kinds}
use Rattle.clap.specs.Faults.{fault_of, is_simple_and_free}
use Rattle.clap.specs.Simple.{is_simple, matches_of, subcommand_of}
use Rattle.clap.specs.Facts.{Entry}
use Rattle.clap.specs.Matches.{matched_of}
use Rattle.clap.specs.Walk.{Row, Text, is_empty, row_of, rows_of}
use Rattle.clap.specs.Values.{kind_of}
use Rattle.clap.specs.declared.error.Error.{Error}
use Rattle.clap.specs.declared.error.kind.ErrorKind.{ErrorKind}
use Rattle.clap.specs.declared.parser.matches.Found.{Found}
use Rattle.clap.specs.declared.parser.matches.MatchedArg.{MatchedArg}
use Rattle.clap.proofs.OnLiterals.{clap_on_literals}
use Rattle.clap.proofs.WalkLemmas.{find_row}
use Rattle.cli_args.specs.Subcommands.{contacts_command}
use Rattle.cli_args.specs.ParsedOrders.{ParsesTo, IsFaultOfKind, order_from, matched_order}
use Rattle.cli_args.specs.ParsedOrders.{source_of}
use Rattle.cli_args.specs.declared.fault.LineFault.{LineFault}
use Rattle.cli_args.specs.declared.fault.LineFault.TheVariants.{Bad, Memory}
use Rattle.cli_args.specs.declared.order.Order.{Order}

pub simple_line : is_simple contacts_command ≡ true
unfolding clap_on_literals
simple_line = refl

pub simple_and_free_line : is_simple_and_free contacts_command ≡ true
unfolding clap_on_literals
simple_and_free_line = refl

-- arguments with a fault give no order
nothing : (kinds : Kinds) (kind : ErrorKind) (o : Option Order) → IsAmong kind kinds
    → (if is_empty kinds then o else None) ≡ None
nothing [] kind o among = absurd among
nothing (k ∷ ks) kind o among =
    let some : is_empty (k ∷ ks) ≡ false = grind arith in
    rw some refl

pub fault-asked : (words : List Text) (error : Error) (fault : LineFault)
    → HasKind (fault_of contacts_command words) error
    → IsFaultOfKind (kind_of error) fault → ParsesTo (order_from words) (Err fault)
fault-asked words error Memory has is_of_kind = tt
fault-asked words error (Bad text) has is_of_kind = elim has [
  | inl out ↦ absurd (is_of_kind out)
  | inr among ↦ nothing (fault_of contacts_command words) (kind_of error)
      (matched_order (matches_of contacts_command words) (subcommand_of contacts_command words))
      among
]

-- where a value came from, by its entry and by its row
pub source-rows : (f : Found) (id : Text)
    → option_and_then (λ (a : MatchedArg). a.source) (matched_of f id) ≡ source_of id (rows_of f)
source-rows f id = go (find (λ (e : Entry). bytes_eq e.0.now id) f.entries.items)
    ∙ ap (option_and_then (λ (r : Row). r.source)) (sym (find_row f.entries.items id))
  where
    go : (o : Option Entry) → option_and_then (λ (a : MatchedArg). a.source)
        (option_map (λ (e : Entry). e.1) o) ≡ option_and_then (λ (r : Row). r.source)
        (option_map row_of o)
    go None = refl
    go (Some e) = refl

-- a matched subcommand, by its name and its rows
pub named : {B : Type 0} (name : B → Text) (rows : B → List Row) (o : Option B) (n : Text) (r :
    List Row)
    → Some n ≡ option_map name o → Some r ≡ option_map (λ (p : Text × List Row). p.1)
    (option_map {U = Text × List Row} (λ (b : B). (name b, rows b)) o)
    → option_map {U = Text × List Row} (λ (b : B). (name b, rows b)) o ≡ Some (n, r)
named name rows None n r is has = cc
named name rows (Some b) n r is has = cc
