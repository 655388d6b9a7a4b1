-- The members of a group, recorded one after the other.
use Rattle.std.proofs.Common.{◌≡◌, ℕ, ◌+◌, ◌<◌, ◌≤◌, Bool, true, false, cond, List, [], ◌∷◌, ◌++◌}
use Rattle.std.proofs.Common.{length, map, filter, take, drop, get_or, codes, sym, ap, subst, ◌∙◌}
use Rattle.std.proofs.Common.{⊎_elim, inr, take-append-drop}
use Rattle.std.specs.List.{Contains}
use Rattle.std.proofs.lemmas.Bool.{cond-true, cond-false}
use Rattle.std.proofs.lemmas.List.{map-append, append-nil, take_all}
use Rattle.std.proofs.lemmas.List.Elements.{filter-append, filter_more, Contains-append_left}
use Rattle.std.proofs.lemmas.List.Elements.{Contains-push, Contains-push_cases}
use Rattle.vcard_lines.specs.declared.line.Line.{Line}
use Rattle.vcard_text.specs.Cards.{line_is_named, members_of}
use Rattle.card_core.specs.declared.walk.Walk.{Walk}
use Rattle.card_core.specs.Groups.{Cards}
use Rattle.card_core.specs.internal.Walks.{RecordsMember, IsRecorded, AreRecorded, IsWalk}
use Rattle.card_core.specs.internal.Walks.{IsOpenWalk}
use Rattle.card_core.proofs.RisingLemmas.{none_in_empty}
use Rattle.card_core.proofs.WalkLemmas.{step_grows, step_notes, step_keeps_walk, noted_still}

abbrev is_member_line : Line → Bool
is_member_line line = line_is_named (codes "MEMBER") line

abbrev value_of : Line → List ℕ
value_of line = line.value

-- ---- the member values of the first lines

members-append : (lines more : List Line) → members_of (lines ++ more) ≡ members_of lines
    ++ members_of more
members-append lines more = ap (map value_of) (filter-append is_member_line lines more)
    ∙ map-append value_of (filter is_member_line lines) (filter is_member_line more)

module _ (lines : List Line) (index : ℕ) (line : Line) (within : index < length lines) (at :
    line ≡ get_or lines index line) where
  one_more : members_of (take (index + 1) lines) ≡ members_of (take index lines)
      ++ map value_of (cond (is_member_line line) (line ∷ []) [])
  one_more =
      ap (map value_of) (filter_more is_member_line lines index line within)
      ∙ map-append value_of (filter is_member_line (take index lines)) _
      ∙ ap (λ l. members_of (take index lines) ++ map value_of (cond (is_member_line l) (l ∷ [])
      [])) (sym at)

  member_more : is_member_line line ≡ true → members_of (take (index + 1) lines)
      ≡ members_of (take index lines) ++ line.value ∷ []
  member_more is = one_more ∙ ap (λ ls. members_of (take index lines) ++ map value_of ls)
      (cond-true _ _ _ is)

  no_member_more : is_member_line line ≡ false → members_of (take (index + 1) lines)
      ≡ members_of (take index lines) ++ []
  no_member_more is = one_more ∙ ap (λ ls. members_of (take index lines) ++ map value_of ls)
      (cond-false _ _ _ is)

  is_member : is_member_line line ≡ true → Contains (members_of lines) line.value
  is_member is =
      subst (λ values. Contains values line.value)
      (sym (members-append (take (index + 1) lines) (drop (index + 1) lines))
      ∙ ap members_of (take-append-drop (index + 1) lines))
      (Contains-append_left (members_of (take (index + 1) lines))
      (members_of (drop (index + 1) lines)) line.value
      (subst (λ values. Contains values line.value) (sym (member_more is))
      (Contains-push (members_of (take index lines)) line.value)))

-- ---- which members are recorded

-- The walk continues the old one, and the members in the first lines are recorded.
pub record IsNotedSoFar (cards : Cards) (lines : List Line) (old new : Walk) (index : ℕ) :
    Type 0 where
  pub goes_on : (group : List ℕ) → IsOpenWalk cards group lines old
      → IsOpenWalk cards group lines new
  pub noted : AreRecorded cards new (members_of (take index lines))

module _ (cards : Cards) (lines : List Line) where
  pub noted_none : (walk : Walk) → IsNotedSoFar cards lines walk walk 0
  noted_none walk = record {
    goes_on = λ group before. before;
    noted = record { each = λ value c. absurd (none_in_empty value c) };
  }

  pub noted_one : (old walk new : Walk) (index : ℕ) (line : Line) → index < length lines
      → line ≡ get_or lines index line → is_member_line line ≡ true
      → IsNotedSoFar cards lines old walk index → RecordsMember cards line.value walk new
      → IsNotedSoFar cards lines old new (index + 1)
  noted_one old walk new index line within at is so_far step = record {
    goes_on = λ group before. let walk_but = so_far.goes_on group before in
        step_keeps_walk cards group lines walk_but.holder line.value (is_member lines index line
        within at is) walk new step walk_but;
    noted = record {
      each = λ value c. ⊎_elim
          (λ had. noted_still cards walk new (step_grows cards line.value walk new step).keeps value
          (so_far.noted.each value had))
          (λ e. subst (IsRecorded cards new) e (step_notes cards line.value walk new step))
          (Contains-push_cases (members_of (take index lines)) line.value value
          (subst (λ values. Contains values value) (member_more lines index line within at is)
          c));
    };
  }

  pub noted_no_more : (old walk : Walk) (index : ℕ) (line : Line) → index < length lines
      → line ≡ get_or lines index line → is_member_line line ≡ false
      → IsNotedSoFar cards lines old walk index → IsNotedSoFar cards lines old walk (index + 1)
  noted_no_more old walk index line within at is so_far = record {
    goes_on = so_far.goes_on;
    noted = subst (AreRecorded cards walk) (sym (no_member_more lines index line within at is
        ∙ append-nil (members_of (take index lines)))) so_far.noted;
  }

  -- when all members of the group are recorded, no group is left out
  pub noted_all : (old new : Walk) (index : ℕ) → length lines ≤ index
      → IsNotedSoFar cards lines old new index → (group : List ℕ) → IsOpenWalk cards group lines old
      → IsWalk cards group new
  noted_all old new index end so_far group before =
      let after = so_far.goes_on group before in
      let noted : AreRecorded cards new (members_of lines) =
      subst (λ ls. AreRecorded cards new (members_of ls)) (take_all index lines end)
      so_far.noted in
      record {
        reached = after.reached;
        started = after.started;
        each_found = λ uid others c is. ⊎_elim
            (λ e. inr (subst (λ ls. AreRecorded cards new (members_of ls)) (sym e) noted))
            (λ rest. rest)
            (after.each_found uid others c is);
      }
