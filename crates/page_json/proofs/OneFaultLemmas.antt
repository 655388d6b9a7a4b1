-- The text of a page has no first fault, and a text has at most one.
use Rattle.std.proofs.Common.{Result, Ok, Err, IfOk, IfErr, MatchResult, ◌≡◌, ◌≢◌, inl, inr, ℕ}
use Rattle.std.proofs.Common.{List, [], ◌∷◌, ◌++◌, refl, sym, subst, ◌∙◌}
use Rattle.vcard_lines.specs.declared.line.Line.{Line}
use Rattle.vcard_text.specs.Cards.{uid_of}
use Rattle.vcard_text.specs.Spelling.{Spells}
use Rattle.book_model.specs.declared.page.Entry.{Entry}
use Rattle.book_model.specs.declared.page.Entry.TheVariants.{Changed, Removed}
use Rattle.book_model.specs.declared.page.Page.{Page}
use Rattle.book_model.specs.Pages.{token_of}
use Rattle.page_json.specs.declared.fault.ReportFault.{ReportFault}
use Rattle.page_json.specs.declared.fault.ReportFault.TheVariants.{NotJson, BadShape, BadCard}
use Rattle.page_json.specs.declared.fault.ReportFault.TheVariants.{BadToken, Memory}
use Rattle.page_json.specs.PageTexts.{MemberTexts, changed, removed, PageTexts, DescribeEntries}
use Rattle.page_json.specs.PageTexts.{DescribesEntry, DescribesPage}
use Rattle.page_json.specs.PageValues.{HasPageShape}
use Rattle.page_json.specs.PageJson.{IsTextOfPage}
use Rattle.page_json.specs.FirstFaults.{IsFirstReportFault, of_json, of_shape, of_texts}
use Rattle.page_json.specs.FirstFaults.{IsFirstMemberFault, HasMemberFault, HasPageTextFault}
use Rattle.page_json.proofs.OnePageLemmas.{json_one, shape_one}

-- the entry of a member in the middle
described_middle : (before : List MemberTexts) (m : MemberTexts) (others : List MemberTexts)
    (entries : List Entry) → DescribeEntries (before ++ m ∷ others) entries → (entry : Entry)
    × DescribesEntry m entry
described_middle [] m others [] described = absurd described
described_middle [] m others (e ∷ es) described = (e, described.0)
described_middle (b ∷ before) m others [] described = absurd described
described_middle (b ∷ before) m others (e ∷ es) described =
    described_middle before m others es described.1

module _ (one_card : (text : List ℕ) (a b : List Line) → Spells text a → Spells text b
    → a ≡ b) where
  -- ---- a member that describes an entry has no fault

  described_has_none : (m : MemberTexts) (fault : ReportFault) (entry : Entry)
      → HasMemberFault m fault → DescribesEntry m entry → ⊥
  described_has_none (changed uid version text) fault (Changed own number card) (inl has)
      described = has.1 card described.2
  described_has_none (changed uid version text) fault (Changed own number card) (inr has)
      described =
      has.1.other (subst (λ lines. uid_of lines ≡ uid) (one_card text card has.1.card described.2
      has.1.spelled) described.3)
  described_has_none (changed uid version text) fault (Removed own) has described = absurd described
  described_has_none (removed uid) fault entry has described = absurd has

  no_faulty : (ms : List MemberTexts) (fault : ReportFault) (entries : List Entry)
      → IsFirstMemberFault ms fault → DescribeEntries ms entries → ⊥
  no_faulty ms fault entries first described =
      let at = described_middle first.before first.faulty first.others entries
      (subst (λ x. DescribeEntries x entries) first.members_are described) in
      described_has_none first.faulty fault at.0 first.has_fault at.1

  pub no_first_fault : (text : List ℕ) (page : Page) (fault : ReportFault) → IsTextOfPage text page
      → IsFirstReportFault text fault → ⊥
  no_first_fault text page fault is (of_json e none) = none is.value is.json
  no_first_fault text page fault is (of_shape e value json none) =
      none is.page_of.texts (subst (λ v. HasPageShape v is.page_of.texts)
      (json_one text is.value value is.json json) is.page_of.shape)
  no_first_fault text page fault is (of_texts value json texts shape has) =
      let same = shape_one value is.page_of.texts texts
      (subst (λ v. HasPageShape v is.page_of.texts) (json_one text is.value value is.json json)
      is.page_of.shape) shape in
      let describes : DescribesPage texts page =
      subst (λ x. DescribesPage x page) same is.page_of.describes in
      either texts describes has
    where
      either : (texts : PageTexts) → DescribesPage texts page → HasPageTextFault texts fault → ⊥
      either texts describes (inl first) =
          no_faulty texts.members fault page.entries first describes.entries
      either texts describes (inr bad) = bad.1.none (token_of page) describes.token

  -- ---- a text has at most one first fault

  member_fault_one : (m : MemberTexts) (a b : ReportFault) → HasMemberFault m a → HasMemberFault m b
      → a ≡ b
  member_fault_one (changed uid version text) a b (inl one) (inl other) = one.0 ∙ sym other.0
  member_fault_one (changed uid version text) a b (inl one) (inr other) =
      absurd (one.1 other.1.card other.1.spelled)
  member_fault_one (changed uid version text) a b (inr one) (inl other) =
      absurd (other.1 one.1.card one.1.spelled)
  member_fault_one (changed uid version text) a b (inr one) (inr other) = one.0 ∙ sym other.0
  member_fault_one (removed uid) a b one other = absurd one

  head_one : (m n : MemberTexts) (ms ns : List MemberTexts) → m ∷ ms ≡ n ∷ ns → m ≡ n
  head_one m n ms ns e = cc e

  tail_one : (m n : MemberTexts) (ms ns : List MemberTexts) → m ∷ ms ≡ n ∷ ns → ms ≡ ns
  tail_one m n ms ns e = cc e

  first_member_one : (b : List MemberTexts) (m : MemberTexts) (o : List MemberTexts) (es :
      List Entry) (c : List MemberTexts) (n : MemberTexts) (p : List MemberTexts) (fs : List Entry)
      (x y : ReportFault) → b ++ m ∷ o ≡ c ++ n ∷ p → DescribeEntries b es → DescribeEntries c fs
      → HasMemberFault m x → HasMemberFault n y → x ≡ y
  first_member_one [] m o es [] n p fs x y e described other has had =
      member_fault_one n x y (subst (λ z. HasMemberFault z x) (head_one m n o p e) has) had
  first_member_one [] m o es (k ∷ c) n p [] x y e described other has had = absurd other
  first_member_one [] m o es (k ∷ c) n p (f ∷ fs) x y e described other has had =
      absurd (described_has_none k x f (subst (λ z. HasMemberFault z x) (head_one m k o (c ++ n ∷ p)
      e) has) other.0)
  first_member_one (k ∷ b) m o [] [] n p fs x y e described other has had = absurd described
  first_member_one (k ∷ b) m o (f ∷ es) [] n p fs x y e described other has had =
      absurd (described_has_none k y f (subst (λ z. HasMemberFault z y)
      (sym (head_one k n (b ++ m ∷ o) p e)) had) described.0)
  first_member_one (k ∷ b) m o [] (l ∷ c) n p fs x y e described other has had = absurd described
  first_member_one (k ∷ b) m o (f ∷ es) (l ∷ c) n p [] x y e described other has had = absurd other
  first_member_one (k ∷ b) m o (f ∷ es) (l ∷ c) n p (g ∷ fs) x y e described other has had =
      first_member_one b m o es c n p fs x y (tail_one k l (b ++ m ∷ o) (c ++ n ∷ p) e) described.1
      other.1 has had

  texts_fault_one : (page : PageTexts) (a b : ReportFault) → HasPageTextFault page a
      → HasPageTextFault page b → a ≡ b
  texts_fault_one page a b (inl one) (inl other) =
      first_member_one one.before one.faulty one.others one.entries other.before other.faulty
      other.others other.entries a b (sym one.members_are ∙ other.members_are) one.described
      other.described one.has_fault other.has_fault
  texts_fault_one page a b (inl one) (inr other) =
      absurd (no_faulty page.members a other.1.entries one other.1.described)
  texts_fault_one page a b (inr one) (inl other) =
      absurd (no_faulty page.members b one.1.entries other one.1.described)
  texts_fault_one page a b (inr one) (inr other) = one.0 ∙ sym other.0

  pub first_fault_one : (text : List ℕ) (a b : ReportFault) → IsFirstReportFault text a
      → IsFirstReportFault text b → a ≡ b
  first_fault_one text a b (of_json e none) (of_json f other) = e ∙ sym f
  first_fault_one text a b (of_json e none) (of_shape f value json other) = absurd (none value json)
  first_fault_one text a b (of_json e none) (of_texts value json page shape has) =
      absurd (none value json)
  first_fault_one text a b (of_shape e value json none) (of_json f other) =
      absurd (other value json)
  first_fault_one text a b (of_shape e value json none) (of_shape f v j other) = e ∙ sym f
  first_fault_one text a b (of_shape e value json none) (of_texts v j page shape has) =
      absurd (none page (subst (λ x. HasPageShape x page) (json_one text v value j json) shape))
  first_fault_one text a b (of_texts value json page shape has) (of_json f other) =
      absurd (other value json)
  first_fault_one text a b (of_texts value json page shape has) (of_shape f v j other) =
      absurd (other page (subst (λ x. HasPageShape x page) (json_one text value v json j) shape))
  first_fault_one text a b (of_texts value json page shape has) (of_texts v j texts form had) =
      let same = shape_one v page texts (subst (λ x. HasPageShape x page)
      (json_one text value v json j) shape) form in
      texts_fault_one texts a b (subst (λ x. HasPageTextFault x a) same has) had

-- ---- the result of a reader

is_memory : (fault : ReportFault) → (fault ≢ Memory → ⊥) → fault ≡ Memory
is_memory NotJson n = absurd (n (λ e. cc e))
is_memory BadShape n = absurd (n (λ e. cc e))
is_memory BadCard n = absurd (n (λ e. cc e))
is_memory BadToken n = absurd (n (λ e. cc e))
is_memory Memory n = refl

pub answers_page : (text : List ℕ) → ((a b : Page) → IsTextOfPage text a → IsTextOfPage text b
    → a ≡ b) → ((page : Page) (fault : ReportFault) → IsTextOfPage text page
    → IsFirstReportFault text fault → ⊥)
    → (r : Result Page ReportFault) → IfOk r (λ page. IsTextOfPage text page)
    → IfErr r (λ fault. fault ≢ Memory → IsFirstReportFault text fault)
    → (page : Page) → IsTextOfPage text page
    → MatchResult r (λ read. read ≡ page) (λ fault. fault ≡ Memory)
answers_page text one no_fault (Ok read) is faulty page of_page = one read page is of_page
answers_page text one no_fault (Err fault) is faulty page of_page =
    is_memory fault (λ n. no_fault page fault of_page (faulty n))
