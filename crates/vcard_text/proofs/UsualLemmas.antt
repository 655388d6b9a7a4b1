-- BEGIN, VERSION and END as most cards have them.
use Rattle.std.proofs.Common.{◌≡◌, ℕ, List, Ok, refl, ap, ◌∙◌}
use Rattle.std.specs.Prelude.{codes}
use Rattle.vcard_lines.specs.declared.line.Line.{Line}
use Rattle.vcard_lines.specs.Parsing.{parse_line, parse_parts, parse_head, parse_head_by}
use Rattle.vcard_lines.specs.Parsing.{parse_name, parse_params}
use Rattle.vcard_lines.specs.ParseSteps.{parse_many, parse_one_more}
use Rattle.vcard_text.specs.declared.scan.Place.{Place}
use Rattle.vcard_text.specs.declared.scan.Place.TheVariants.{First, Second, Body, After}
use Rattle.vcard_text.specs.Scanning.{scan_at, scan_logical_line, line_fault, next_scan}

usual_begin : (lines : List Line) → scan_logical_line (scan_at First lines) (codes "BEGIN:VCARD")
    ≡ Ok (scan_at Second lines)
unfolding scan_logical_line parse_line parse_parts parse_head parse_head_by parse_name parse_params
    parse_many parse_one_more line_fault next_scan
usual_begin lines = refl

pub after_begin : (place : Place) (text : List ℕ) → place ≡ First → text ≡ codes "BEGIN:VCARD"
    → (lines : List Line) → scan_logical_line (scan_at place lines) text ≡ Ok (scan_at Second lines)
after_begin place text p e lines = ap (λ q. scan_logical_line (scan_at q lines) text) p
    ∙ ap (scan_logical_line (scan_at First lines)) e ∙ usual_begin lines

usual_version : (lines : List Line) → scan_logical_line (scan_at Second lines) (codes "VERSION:4.0")
    ≡ Ok (scan_at Body lines)
unfolding scan_logical_line parse_line parse_parts parse_head parse_head_by parse_name parse_params
    parse_many parse_one_more line_fault next_scan
usual_version lines = refl

pub after_version : (place : Place) (text : List ℕ) → place ≡ Second → text ≡ codes "VERSION:4.0"
    → (lines : List Line) → scan_logical_line (scan_at place lines) text ≡ Ok (scan_at Body lines)
after_version place text p e lines = ap (λ q. scan_logical_line (scan_at q lines) text) p
    ∙ ap (scan_logical_line (scan_at Second lines)) e ∙ usual_version lines

usual_end : (lines : List Line) → scan_logical_line (scan_at Body lines) (codes "END:VCARD")
    ≡ Ok (scan_at After lines)
unfolding scan_logical_line parse_line parse_parts parse_head parse_head_by parse_name parse_params
    parse_many parse_one_more line_fault next_scan
usual_end lines = refl

pub after_end : (place : Place) (text : List ℕ) → place ≡ Body → text ≡ codes "END:VCARD"
    → (lines : List Line) → scan_logical_line (scan_at place lines) text ≡ Ok (scan_at After lines)
after_end place text p e lines = ap (λ q. scan_logical_line (scan_at q lines) text) p
    ∙ ap (scan_logical_line (scan_at Body lines)) e ∙ usual_end lines
