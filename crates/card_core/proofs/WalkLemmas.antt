-- What holds of a walk after a step, and at its end. Given here: a case for each step (its value
-- names no card, a person, or a group that was found before or is found first), and an induction
-- over the chain of groups that reaches a card (`group_met`).
use Rattle.std.proofs.Common.{◌≡◌, ◌≢◌, ◌⊎◌, ℕ, List, [], ◌∷◌, ◌++◌, Some, refl, sym, ap, subst}
use Rattle.std.proofs.Common.{◌∙◌, ⊎_elim, inl, inr, arith}
use Rattle.std.specs.FinMap as finite
use Rattle.std.specs.List.{Contains}
use Rattle.std.proofs.lemmas.List.Elements.{Contains-append_left, Contains-push}
use Rattle.std.proofs.lemmas.List.Elements.{Contains-push_cases}
use Rattle.std.proofs.lemmas.Option.{same_Some}
use Rattle.vcard_text.specs.declared.kind.Kind.TheVariants.{Group}
use Rattle.vcard_lines.specs.declared.line.Line.{Line}
use Rattle.vcard_text.specs.Cards.{kind_of, members_of}
use Rattle.card_core.specs.declared.walk.Walk.{Walk}
use Rattle.card_core.specs.Groups.{Cards, HasMember, HasMemberCard, Reaches, directly}
use Rattle.card_core.specs.Groups.{through_group, IsPerson, IsMissing}
use Rattle.card_core.specs.internal.Naming.{Names}
use Rattle.card_core.specs.internal.TextSets.{GainsText}
use Rattle.card_core.specs.internal.Walks.{waiting_cards, SameExpansion, SameGroups, AddsGroup}
use Rattle.card_core.specs.internal.Walks.{found_before, found_first, RecordsMember}
use Rattle.card_core.specs.internal.Walks.{value_names_none, value_names_person, value_names_group}
use Rattle.card_core.specs.internal.Walks.{IsHolder, FoundIsReachable, IsRecorded, AreRecorded}
use Rattle.card_core.specs.internal.Walks.{IsWalk, IsOpenWalk, IsCompleteWalk, cards_not_found}
use Rattle.card_core.proofs.RisingLemmas.{none_in_empty}

-- ---- what a step keeps

-- What was found stays found.
pub record Keeps (old new : Walk) : Type 0 where
  pub people : (uid : List ℕ) → Contains old.people uid → Contains new.people uid
  pub groups : (uid : List ℕ) → Contains old.groups uid → Contains new.groups uid
  pub missing : (value : List ℕ) → Contains old.missing value → Contains new.missing value

-- Groups that wait still wait.
pub record Grows (old new : Walk) : Type 0 where
  pub keeps : Keeps old new
  pub waiting : (lines : List Line) → Contains (waiting_cards old) lines
      → Contains (waiting_cards new) lines

gained : (old new : List (List ℕ)) (text : List ℕ) → GainsText old new text → (other : List ℕ)
    → Contains old other → Contains new other
gained old new text gains other had = (gains.texts other).1 (inl had)

gained_itself : (old new : List (List ℕ)) (text : List ℕ) → GainsText old new text
    → Contains new text
gained_itself old new text gains = (gains.texts text).1 (inr refl)

stays : {X : Type 0} (old new : List X) → new ≡ old → (other : X) → Contains old other
    → Contains new other
stays {X} old new same other had = subst (λ (xs : List X). Contains xs other) (sym same) had

same_kept : (old new : Walk) → SameExpansion old new → new.groups ≡ old.groups → Keeps old new
same_kept old new people groups = record {
  people = stays old.people new.people people.people;
  groups = stays old.groups new.groups groups;
  missing = stays old.missing new.missing people.missing;
}

meeting_grows : (uid : List ℕ) (lines : List Line) (old new : Walk) → AddsGroup uid lines old new
    → Grows old new
meeting_grows uid lines old new (found_before had people groups) = record {
  keeps = same_kept old new people groups.groups;
  waiting = stays (waiting_cards old) (waiting_cards new) groups.waiting;
}
meeting_grows uid lines old new (found_first cards_not_found gains waits people) = record {
  keeps = record {
    people = stays old.people new.people people.people;
    groups = gained old.groups new.groups uid gains;
    missing = stays old.missing new.missing people.missing;
  };
  waiting = λ other had. subst (λ cards. Contains cards other) (sym waits)
      (Contains-append_left (waiting_cards old) (lines ∷ []) other had);
}

pub step_grows : (cards : Cards) (value : List ℕ) (old new : Walk)
    → RecordsMember cards value old new → Grows old new
step_grows cards value old new (value_names_none none gains people groups) = record {
  keeps = record {
    people = stays old.people new.people people;
    groups = stays old.groups new.groups groups.groups;
    missing = gained old.missing new.missing value gains;
  };
  waiting = stays (waiting_cards old) (waiting_cards new) groups.waiting;
}
step_grows cards value old new (value_names_person uid lines names other gains missing groups) =
    record {
      keeps = record {
        people = gained old.people new.people uid gains;
        groups = stays old.groups new.groups groups.groups;
        missing = stays old.missing new.missing missing;
      };
      waiting = stays (waiting_cards old) (waiting_cards new) groups.waiting;
    }
step_grows cards value old new (value_names_group uid lines names is meets) =
    meeting_grows uid lines old new meets

pub noted_still : (cards : Cards) (old new : Walk) → Keeps old new → (value : List ℕ)
    → IsRecorded cards old value → IsRecorded cards new value
noted_still cards old new keeps value noted = record {
  group = λ uid lines names is. keeps.groups uid (noted.group uid lines names is);
  other = λ uid lines names other. keeps.people uid (noted.other uid lines names other);
  none = λ none. keeps.missing value (noted.none none);
}

all_noted_still : (cards : Cards) (old new : Walk) → Keeps old new → (values : List (List ℕ))
    → AreRecorded cards old values → AreRecorded cards new values
all_noted_still cards old new keeps values noted =
    record { each = λ value c. noted_still cards old new keeps value (noted.each value c) }

-- ---- what a step records

meeting_notes : (uid : List ℕ) (lines : List Line) (old new : Walk) → AddsGroup uid lines old new
    → Contains new.groups uid
meeting_notes uid lines old new (found_before had people groups) =
    stays old.groups new.groups groups.groups uid had
meeting_notes uid lines old new (found_first cards_not_found gains waits people) =
    gained_itself old.groups new.groups uid gains

-- a value names one card
one_name : (cards : Cards) (value : List ℕ) (uid other : List ℕ) (lines others : List Line)
    → Names cards value uid lines → Names cards value other others → (uid ≡ other)
    × (lines ≡ others)
one_name cards value uid other lines others a b =
    let uids : uid ≡ other = same_Some uid other (sym a.uid_is ∙ b.uid_is) in
    (uids, same_Some lines others (sym a.card ∙ ap (finite.get cards) uids ∙ b.card))

pub step_notes : (cards : Cards) (value : List ℕ) (old new : Walk)
    → RecordsMember cards value old new → IsRecorded cards new value
step_notes cards value old new (value_names_none none gains people groups) = record {
  group = λ uid lines names is. let e = names.uid_is in absurd (cc);
  other = λ uid lines names is. let e = names.uid_is in absurd (cc);
  none = λ _. gained_itself old.missing new.missing value gains;
}
step_notes cards value old new (value_names_person uid lines names other gains missing groups) =
    record {
      group = λ uid' lines' names' is. absurd
          (other (ap kind_of (one_name cards value uid uid' lines lines' names names').1 ∙ is));
      other = λ uid' lines' names' is. subst (Contains new.people) (one_name cards value uid uid'
          lines
          lines' names names').0 (gained_itself old.people new.people uid gains);
      none = λ none. let e = names.uid_is in absurd (cc);
    }
step_notes cards value old new (value_names_group uid lines names is meets) = record {
  group = λ uid' lines' names' _. subst (Contains new.groups) (one_name cards value uid uid' lines
      lines' names names').0 (meeting_notes uid lines old new meets);
  other = λ uid' lines' names' other. absurd
      (other (sym (ap kind_of (one_name cards value uid uid' lines lines' names names').1) ∙ is));
  none = λ none. let e = names.uid_is in absurd (cc);
}

-- ---- a group that is found for the first time waits

group_found : (cards : Cards) (value uid : List ℕ) (lines : List Line) (old new : Walk)
    → Names cards value uid lines → AddsGroup uid lines old new
    → (other : List ℕ) (others : List Line) → Contains new.groups other
    → finite.get cards other ≡ Some others → Contains old.groups other
    ⊎ Contains (waiting_cards new) others
group_found cards value uid lines old new names (found_before had people groups) other others c is =
    inl (subst (λ texts. Contains texts other) groups.groups c)
group_found cards value uid lines old new names (found_first cards_not_found gains waits people)
    other others c is = ⊎_elim inl
    (λ e. let same : others ≡ lines = same_Some others lines (sym is ∙ ap (finite.get cards) e
    ∙ names.card) in
    inr (subst (λ cards. Contains cards others) (sym waits)
    (subst (λ ls. Contains (waiting_cards old ++ lines ∷ []) ls) (sym same)
    (Contains-push (waiting_cards old) lines))))
    ((gains.texts other).0 c)

pub group_waits : (cards : Cards) (value : List ℕ) (old new : Walk)
    → RecordsMember cards value old new
    → (other : List ℕ) (others : List Line) → Contains new.groups other
    → finite.get cards other ≡ Some others → Contains old.groups other
    ⊎ Contains (waiting_cards new) others
group_waits cards value old new (value_names_none none gains people groups) other others c is =
    inl (subst (λ texts. Contains texts other) groups.groups c)
group_waits cards value old new (value_names_person uid lines names differs gains missing groups)
    other others c is = inl (subst (λ texts. Contains texts other) groups.groups c)
group_waits cards value old new (value_names_group uid lines names group meets) other others c is =
    group_found cards value uid lines old new names meets other others c is

-- ---- what a step finds, the group reaches

module _ (cards : Cards) (group : List ℕ) (open_group : List Line) (holder :
    IsHolder cards group open_group) (value : List ℕ) (member : Contains (members_of open_group)
    value) where
  has_member : HasMember cards holder.uid value
  has_member = record {
    members = members_of open_group;
    is_group = record {
      lines = open_group;
      card = holder.card;
      group = holder.is_group;
      members_are = refl;
    };
    member = member;
  }

  reaches : (uid : List ℕ) (lines : List Line) → Names cards value uid lines
      → Reaches cards group uid
  reaches uid lines names =
      let leads : HasMemberCard cards holder.uid uid = record {
        value = value;
        member = has_member;
        names = names.uid_is;
      } in
      ⊎_elim (λ e. directly uid (subst (λ h. HasMemberCard cards h uid) e leads))
      (λ way. through_group holder.uid uid way leads) holder.is_holder

  meeting_reached : (uid : List ℕ) (lines : List Line) (old new : Walk)
      → Names cards value uid lines → kind_of lines ≡ Group → AddsGroup uid lines old new
      → FoundIsReachable cards group old → FoundIsReachable cards group new
  meeting_reached uid lines old new names is (found_before had people groups) reached = record {
    people = λ other c. reached.people other (subst (λ texts. Contains texts other) people.people
        c);
    groups = λ other c. reached.groups other (subst (λ texts. Contains texts other) groups.groups
        c);
    missing = λ other c. reached.missing other (subst (λ texts. Contains texts other) people.missing
        c);
    waiting = λ others c. reached.waiting others (subst (λ cards. Contains cards others)
        groups.waiting c);
  }
  meeting_reached uid lines old new names is (found_first cards_not_found gains waits people)
      reached = record {
        people = λ other c. reached.people other (subst (λ texts. Contains texts other)
            people.people
            c);
        groups = λ other c. ⊎_elim (reached.groups other)
            (λ e. inr (subst (Reaches cards group) (sym e) (reaches uid lines names)))
            ((gains.texts other).0 c);
        missing = λ other c. reached.missing other (subst (λ texts. Contains texts other)
            people.missing
            c);
        waiting = λ others c. ⊎_elim (reached.waiting others)
            (λ e. subst (IsHolder cards group) e (record {
              uid = uid;
              is_holder = inr (reaches uid lines names);
              card = names.card;
              is_group = is;
            }))
            (Contains-push_cases (waiting_cards old) lines others
            (subst (λ cards. Contains cards others) waits c));
      }

  pub step_reached : (old new : Walk) → RecordsMember cards value old new
      → FoundIsReachable cards group old → FoundIsReachable cards group new
  step_reached old new (value_names_none none gains people groups) reached = record {
    people = λ other c. reached.people other (subst (λ texts. Contains texts other) people c);
    groups = λ other c. reached.groups other (subst (λ texts. Contains texts other) groups.groups
        c);
    missing = λ other c. ⊎_elim (reached.missing other)
        (λ e. subst (IsMissing cards group) (sym e) (record {
          holder = holder.uid;
          is_holder = holder.is_holder;
          member = has_member;
          names_none = none;
        }))
        ((gains.texts other).0 c);
    waiting = λ others c. reached.waiting others (subst (λ cards. Contains cards others)
        groups.waiting c);
  }
  step_reached old new (value_names_person uid lines names differs gains missing groups) reached =
      record {
        people = λ other c. ⊎_elim (reached.people other)
            (λ e. subst (IsPerson cards group) (sym e) (record {
              reached = reaches uid lines names;
              other = record { lines = lines; card = names.card; other = differs };
            }))
            ((gains.texts other).0 c);
        groups = λ other c. reached.groups other (subst (λ texts. Contains texts other)
            groups.groups
            c);
        missing = λ other c. reached.missing other (subst (λ texts. Contains texts other) missing
            c);
        waiting = λ others c. reached.waiting others (subst (λ cards. Contains cards others)
            groups.waiting c);
      }
  step_reached old new (value_names_group uid lines names is meets) reached =
      meeting_reached uid lines old new names is meets reached

  -- a step of the group whose members are being recorded
  pub step_keeps_walk : (old new : Walk) → RecordsMember cards value old new
      → IsOpenWalk cards group open_group old → IsOpenWalk cards group open_group new
  step_keeps_walk old new step walk = record {
    reached = step_reached old new step walk.reached;
    started = (step_grows cards value old new step).keeps.groups group walk.started;
    holder = walk.holder;
    each_found = λ uid lines c is. ⊎_elim
        (λ had. still lines (walk.each_found uid lines had is))
        (λ waits. inr (inl waits))
        (group_waits cards value old new step uid lines c is);
  }
    where
      still : (lines : List Line) → (lines ≡ open_group) ⊎ (Contains (waiting_cards old) lines
          ⊎ AreRecorded cards old (members_of lines)) → (lines ≡ open_group)
          ⊎ (Contains (waiting_cards new) lines ⊎ AreRecorded cards new (members_of lines))
      still lines (inl e) = inl e
      still lines (inr (inl waits)) =
          inr (inl ((step_grows cards value old new step).waiting lines waits))
      still lines (inr (inr noted)) =
          inr (inr (all_noted_still cards old new (step_grows cards value old new step).keeps
          (members_of lines) noted))

-- ---- the first group, and the next one that waits

pub meeting_begins : (cards : Cards) (group : List ℕ) (lines : List Line) (none started : Walk)
    → finite.get cards group ≡ Some lines → kind_of lines ≡ Group
    → none.people ≡ [] → none.groups ≡ [] → none.missing ≡ [] → waiting_cards none ≡ []
    → AddsGroup group lines none started → IsWalk cards group started
meeting_begins cards group lines none started card is people groups missing waiting
    (found_before had same_people same_groups) =
    absurd (none_in_empty group (subst (λ texts. Contains texts group) groups had))
meeting_begins cards group lines none started card is people groups missing waiting
    (found_first cards_not_found gains waits same) =
    let one_waits : waiting_cards started ≡ lines ∷ [] =
    waits ∙ ap (λ ls. ls ++ lines ∷ []) waiting in
    let waits_now : Contains (waiting_cards started) lines =
    subst (λ ls. Contains ls lines) (sym one_waits) (Contains-push [] lines) in
    let is_group : (uid : List ℕ) → Contains started.groups uid → uid ≡ group =
    λ uid c. ⊎_elim (λ had. absurd (none_in_empty uid (subst (λ texts. Contains texts uid)
    groups had))) (λ e. e) ((gains.texts uid).0 c) in
    record {
      reached = record {
        people = λ uid c. absurd (none_in_empty uid (subst (λ texts. Contains texts uid)
            (same.people ∙ people) c));
        groups = λ uid c. inl (is_group uid c);
        missing = λ value c. absurd (none_in_empty value (subst (λ texts. Contains texts value)
            (same.missing ∙ missing) c));
        waiting = λ others c. subst (IsHolder cards group)
            (only_one lines others (subst (λ ls. Contains ls others) one_waits c))
            (record { uid = group; is_holder = inl refl; card = card; is_group = is });
      };
      started = gained_itself none.groups started.groups group gains;
      each_found = λ uid others c found. inl (subst (Contains (waiting_cards started))
          (same_Some lines others (sym card ∙ ap (finite.get cards) (sym (is_group uid c)) ∙ found))
          waits_now);
    }
  where
    only_one : (one other : List Line) → Contains (one ∷ []) other → one ≡ other
    only_one one other c = ⊎_elim (λ none. absurd (omega (arith, none.1))) (λ e. e)
        (Contains-push_cases [] one other c)

-- the last waiting group is removed, and its members are to be recorded
pub takes_out : (cards : Cards) (group : List ℕ) (lines : List Line) (old new : Walk)
    → waiting_cards old ≡ waiting_cards new ++ lines ∷ [] → SameExpansion old new
    → new.groups ≡ old.groups → IsWalk cards group old → IsOpenWalk cards group lines new
takes_out cards group lines old new waits people groups walk = record {
  reached = record {
    people = λ uid c. walk.reached.people uid (subst (λ texts. Contains texts uid) people.people c);
    groups = λ uid c. walk.reached.groups uid (subst (λ texts. Contains texts uid) groups c);
    missing = λ value c. walk.reached.missing value (subst (λ texts. Contains texts value)
        people.missing c);
    waiting = λ others c. walk.reached.waiting others (subst (λ cards. Contains cards others)
        (sym waits) (Contains-append_left (waiting_cards new) (lines ∷ []) others c));
  };
  started = stays old.groups new.groups groups group walk.started;
  holder = walk.reached.waiting lines (subst (λ cards. Contains cards lines) (sym waits)
      (Contains-push (waiting_cards new) lines));
  each_found = λ uid others c is. ⊎_elim
      (λ waited. ⊎_elim (λ later. inr (inl later)) (λ e. inl (sym e))
      (Contains-push_cases (waiting_cards new) lines others
      (subst (λ cards. Contains cards others) waits waited)))
      (λ noted. inr (inr (all_noted_still cards old new (same_kept old new people groups)
      (members_of others) noted)))
      (walk.each_found uid others (subst (λ texts. Contains texts uid) groups c) is);
}

-- no group waits that could be removed
pub takes_none : (cards : Cards) (group : List ℕ) (old new : Walk) → SameExpansion old new
    → SameGroups old new → IsWalk cards group old → IsWalk cards group new
takes_none cards group old new people groups walk = record {
  reached = record {
    people = λ uid c. walk.reached.people uid (subst (λ texts. Contains texts uid) people.people c);
    groups = λ uid c. walk.reached.groups uid (subst (λ texts. Contains texts uid) groups.groups c);
    missing = λ value c. walk.reached.missing value (subst (λ texts. Contains texts value)
        people.missing c);
    waiting = λ others c. walk.reached.waiting others (subst (λ cards. Contains cards others)
        groups.waiting c);
  };
  started = stays old.groups new.groups groups.groups group walk.started;
  each_found = λ uid others c is. ⊎_elim
      (λ waits. inl (stays (waiting_cards old) (waiting_cards new) groups.waiting others waits))
      (λ noted. inr (all_noted_still cards old new (same_kept old new people groups.groups)
      (members_of others) noted))
      (walk.each_found uid others (subst (λ texts. Contains texts uid) groups.groups c) is);
}

-- ---- at the end

module _ (cards : Cards) (group : List ℕ) (walk : Walk) (is_walk : IsWalk cards group walk) (end :
    waiting_cards walk ≡ []) where
  -- the members of each group that was found are recorded
  members_noted : (uid value : List ℕ) → Contains walk.groups uid → HasMember cards uid value
      → IsRecorded cards walk value
  members_noted uid value each_found member = ⊎_elim
      (λ waits. let none = subst (λ ls. Contains ls member.is_group.lines) end waits in
      absurd (omega (arith, none.1)))
      (λ noted. noted.each value (subst (λ values. Contains values value)
      member.is_group.members_are member.member))
      (is_walk.each_found uid member.is_group.lines each_found member.is_group.card)

  group_met : (uid : List ℕ) (lines : List Line) → Reaches cards group uid
      → finite.get cards uid ≡ Some lines → kind_of lines ≡ Group → Contains walk.groups uid
  group_met _ lines (directly uid leads) card is =
      (members_noted group leads.value is_walk.started leads.member).group uid lines
      (record { uid_is = leads.names; card = card }) is
  group_met _ lines (through_group way uid reaches leads) card is =
      let each_found = group_met way leads.member.is_group.lines reaches leads.member.is_group.card
      leads.member.is_group.group in
      (members_noted way leads.value each_found leads.member).group uid lines
      (record { uid_is = leads.names; card = card }) is

  other_met : (uid : List ℕ) (lines : List Line) → Reaches cards group uid
      → finite.get cards uid ≡ Some lines → kind_of lines ≢ Group → Contains walk.people uid
  other_met _ lines (directly uid leads) card other =
      (members_noted group leads.value is_walk.started leads.member).other uid lines
      (record { uid_is = leads.names; card = card }) other
  other_met _ lines (through_group way uid reaches leads) card other =
      let each_found = group_met way leads.member.is_group.lines reaches leads.member.is_group.card
      leads.member.is_group.group in
      (members_noted way leads.value each_found leads.member).other uid lines
      (record { uid_is = leads.names; card = card }) other

  holder_met : (uid value : List ℕ) → (uid ≡ group) ⊎ Reaches cards group uid
      → HasMember cards uid value → Contains walk.groups uid
  holder_met uid value (inl e) member = subst (Contains walk.groups) (sym e) is_walk.started
  holder_met uid value (inr reaches) member =
      group_met uid member.is_group.lines reaches member.is_group.card member.is_group.group

  pub whole_walk : IsCompleteWalk cards group walk
  whole_walk = record {
    people = λ uid. (
      is_walk.reached.people uid,
      λ person. other_met uid person.other.lines
          person.reached person.other.card person.other.other,
    );
    missing = λ value. (
      is_walk.reached.missing value,
      λ missing. (members_noted missing.holder value (holder_met missing.holder value
          missing.is_holder missing.member) missing.member).none missing.names_none,
    );
  }
